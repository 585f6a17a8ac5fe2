-- Where a bridge of a calm service sends a copy on, the circuit at which its frame entered stays behind it: what is behind the port
-- by which the copy came is behind the port by which it will arrive (RFC 4762 sections 4.4 and 10).
use Rattle.std.proofs.Common.{◌≡◌, ◌&&◌, ◌||◌, ◌∙◌, not, ℕ, Bool, true, false, Some, nat_eq, slice_get, refl, ap, sym, subst, inl, inr}
use Rattle.std.proofs.lemmas.Bool.{cases_Bool, eq-eqb, eqb-true, or_left, or_right, and_from}
use Rattle.net_values.proofs.BoolLemmas.{first_holds, second_holds, clash_at}
use Rattle.net_base.specs.declared.plan.Plan.{Plan}
use Rattle.net_base.specs.declared.plan.wire_plan.WirePlan.{WirePlan}
use Rattle.net_base.specs.declared.plan.places.CircuitId.{CircuitId}
use Rattle.net_base.specs.declared.plan.places.ServiceId.{ServiceId}
use Rattle.net_base.specs.plan.Accepted.{IsChecked}
use Rattle.net_base.specs.plan.Paths.{is_first, is_last}
use Rattle.net_base.specs.plan.Places.{is_mesh_class}
use Rattle.net_base.specs.plan.Roles.{is_spoke_edge, is_spoke_from, is_wire_of, wire_ends_at}
use Rattle.hvpls_spokes.specs.Port.{wire_port}
use Rattle.network_model.specs.Calm.{carries, is_calm, is_live_spoke}
use Rattle.network_model.specs.Reach.{far_of, home_of, is_home, reach}
use Rattle.network_model.specs.State.{NetworkState}
use Rattle.flood_laws.proofs.LinkLemmas.{IsLink, link_at}
use Rattle.flood_laws.proofs.MeshLemmas.{far_core, mesh_near}
use Rattle.address_laws.proofs.SpokeHomeLemmas.{IsOfService, home_is, live_once, reach_far, reach_mesh, reach_near}
use Rattle.flood_laws.proofs.WireEdgeLemmas.{AreSides, HasMeshPeer, IsFar, IsNear, mesh_peer, near_spoke, sides_ended, sides_far, starts_spoke, far_of_far, far_of_near}

-- ---- a copy that is sent on by a wire that carries frames

module _ (plan : Plan) (calm : NetworkState) (service : ServiceId) (circuit : CircuitId) (site : IsOfService plan service circuit) (checked : IsChecked plan)
    (calmed : is_calm plan calm service ≡ true)
    (k : ℕ) (w : WirePlan) (is : slice_get plan.wires k ≡ Some w) (ours : is_wire_of service w ≡ true) (me peer : ℕ) (ends_here : wire_ends_at service me w ≡ true)
    (leads : far_of me w.path ≡ Some peer) (carried : carries plan calm k w ≡ true) where
  -- the edge of the circuit
  abbrev circuit_edge : ℕ
  circuit_edge = site.row.edge.0

  link : IsLink plan w
  link = link_at plan k w checked is

  sides : AreSides link.near.0 link.far.0 me peer
  sides = sides_far plan service w link me peer ends_here leads

  live : is_mesh_class w.class ≡ false → is_live_spoke plan calm service link.near.0 k w ≡ true
  live spoke = and_from (is_spoke_from service link.near.0 w) (carries plan calm k w) (starts_spoke plan service w link ours spoke) carried

  -- it goes on by a mesh wire from beside its circuit, from a spoke edge where its circuit is there, and to one where it is not
  reaches_on : (is_mesh_class w.class ≡ true → nat_eq circuit_edge me || (is_spoke_edge plan service circuit_edge && is_home me (home_of plan calm service circuit_edge)) ≡ true)
      → (is_mesh_class w.class ≡ false → me ≡ link.near.0 → nat_eq circuit_edge me ≡ true)
      → (is_mesh_class w.class ≡ false → me ≡ link.far.0 → nat_eq circuit_edge link.near.0 ≡ false)
      → reach plan calm service peer (wire_port k w) circuit ≡ true
  reaches_on by_mesh from_spoke to_spoke = elim (cases_Bool (is_mesh_class w.class)) [
    | inl mesh ↦
        (let far : far_of peer w.path ≡ Some me = turned sides in
        reach_mesh plan calm service circuit site peer k me w is mesh far ∙ by_mesh mesh)
    | inr spoke ↦ by spoke sides
  ]
    where
      turned : AreSides link.near.0 link.far.0 me peer → far_of peer w.path ≡ Some me
      turned (IsNear near far) = subst (λ e. far_of e w.path ≡ Some me) (sym far) (far_of_far plan w link ∙ ap (λ (e : ℕ). Some e) (sym near))
      turned (IsFar far near) = subst (λ e. far_of e w.path ≡ Some me) (sym near) (far_of_near plan w link ∙ ap (λ (e : ℕ). Some e) (sym far))

      by : is_mesh_class w.class ≡ false → AreSides link.near.0 link.far.0 me peer → reach plan calm service peer (wire_port k w) circuit ≡ true
      by spoke (IsNear near far) = subst (λ e. reach plan calm service e (wire_port k w) circuit ≡ true) (sym far)
          (reach_far plan calm service circuit site k w link is spoke
          ∙ and_from _ _ (live spoke) (subst (λ e. nat_eq circuit_edge e ≡ true) near (from_spoke spoke near)))
      by spoke (IsFar far near) = subst (λ e. reach plan calm service e (wire_port k w) circuit ≡ true) (sym near)
          (reach_near plan calm service circuit site k w link is spoke
          ∙ and_from _ _ (live spoke) (ap not (to_spoke spoke far)))

  -- from the circuit's own edge
  pub from_circuit : nat_eq circuit_edge me ≡ true → reach plan calm service peer (wire_port k w) circuit ≡ true
  from_circuit at = reaches_on
      (λ mesh. or_left (nat_eq circuit_edge me) (is_spoke_edge plan service circuit_edge && is_home me (home_of plan calm service circuit_edge)) at)
      (λ spoke near. at)
      (λ spoke far. apart (eqb-true circuit_edge me at ∙ far))
    where
      apart : circuit_edge ≡ link.far.0 → nat_eq circuit_edge link.near.0 ≡ false
      apart far = elim (cases_Bool (nat_eq circuit_edge link.near.0)) [
        | inl near ↦ clash_at (nat_eq link.near.0 link.far.0) (eq-eqb link.near.0 link.far.0 (sym (eqb-true circuit_edge link.near.0 near) ∙ far)) link.apart
        | inr away ↦ away
      ]

  -- a copy that came by a mesh wire goes on by a spoke
  pub from_mesh : (j : ℕ) (v : WirePlan) → slice_get plan.wires j ≡ Some v → is_mesh_class v.class ≡ true → wire_ends_at service me v ≡ true
      → reach plan calm service me (wire_port j v) circuit ≡ true
      → is_mesh_class w.class ≡ false → reach plan calm service peer (wire_port k w) circuit ≡ true
  from_mesh j v came_is came_mesh ends reached spoke = reaches_on
      (λ mesh. clash_at (is_mesh_class w.class) mesh spoke)
      (λ spoke_here near. clash_at (is_spoke_edge plan service me) (ap (is_spoke_edge plan service) near ∙ near_spoke plan service k w link is ours spoke) mesh_end.core_here)
      (λ spoke_here far. apart far)
    where
      mesh_end : HasMeshPeer plan service v me
      mesh_end = mesh_peer plan service j v me checked came_is came_mesh ends

      beside : nat_eq circuit_edge mesh_end.other || (is_spoke_edge plan service circuit_edge && is_home mesh_end.other (home_of plan calm service circuit_edge)) ≡ true
      beside = sym (reach_mesh plan calm service circuit site me j mesh_end.other v came_is came_mesh mesh_end.far) ∙ reached

      -- its circuit would be at a spoke edge, of which this edge is the home and the other edge of the mesh wire as well
      apart : me ≡ link.far.0 → nat_eq circuit_edge link.near.0 ≡ false
      apart far = elim (cases_Bool (nat_eq circuit_edge link.near.0)) [
        | inl at ↦ absurd (none (eqb-true circuit_edge link.near.0 at))
        | inr elsewhere ↦ elsewhere
      ]
        where
          away : nat_eq link.near.0 mesh_end.other ≡ false
          away = elim (cases_Bool (nat_eq link.near.0 mesh_end.other)) [
            | inl same ↦
                clash_at (is_spoke_edge plan service mesh_end.other)
                (ap (is_spoke_edge plan service) (sym (eqb-true link.near.0 mesh_end.other same)) ∙ near_spoke plan service k w link is ours spoke) mesh_end.core
            | inr differ ↦ differ
          ]

          not_home : is_home mesh_end.other (home_of plan calm service link.near.0) ≡ false
          not_home =
              ap (is_home mesh_end.other) (home_is plan calm service link.near.0 k w link checked calmed is (live spoke))
              ∙ (ap (λ n. nat_eq n mesh_end.other) (sym far) ∙ mesh_end.apart)

          neither : (a b c : Bool) → a ≡ false → c ≡ false → a || (b && c) ≡ false
          neither a true c one other = rw (one, other) refl
          neither a false c one other = rw one refl

          none : circuit_edge ≡ link.near.0 → ⊥
          none at = clash_at
              (nat_eq link.near.0 mesh_end.other || (is_spoke_edge plan service link.near.0 && is_home mesh_end.other (home_of plan calm service link.near.0)))
              (subst (λ n. nat_eq n mesh_end.other || (is_spoke_edge plan service n && is_home mesh_end.other (home_of plan calm service n)) ≡ true) at beside)
              (neither _ (is_spoke_edge plan service link.near.0) _ away not_home)

  -- one that came by a spoke goes on by another wire
  pub from_spoke : (j : ℕ) (v : WirePlan) → slice_get plan.wires j ≡ Some v → is_mesh_class v.class ≡ false → wire_ends_at service me v ≡ true
      → reach plan calm service me (wire_port j v) circuit ≡ true
      → nat_eq k j ≡ false → reach plan calm service peer (wire_port k w) circuit ≡ true
  from_spoke j v came_is came_spoke ends reached other = elim (sides_ended plan service v came me ends) [
    | inl near ↦ at_near near
    | inr far ↦ at_far far
  ]
    where
      came : IsLink plan v
      came = link_at plan j v checked came_is

      came_ours : is_wire_of service v ≡ true
      came_ours = first_holds (is_wire_of service v) (is_first me v.path || is_last me v.path) ends

      -- two spokes of one edge
      twice : {P : Type 0} (e : ℕ) → e ≡ link.near.0 → e ≡ came.near.0 → is_live_spoke plan calm service link.near.0 k w ≡ true
          → is_live_spoke plan calm service came.near.0 j v ≡ true → P
      twice e one same sends came_sends =
          let place : k ≡ j = live_once plan calm service e k j w v checked calmed is (subst (λ n. is_live_spoke plan calm service n k w ≡ true) (sym one) sends)
          came_is (subst (λ n. is_live_spoke plan calm service n j v ≡ true) (sym same) came_sends) in
          clash_at (nat_eq k j) (eq-eqb k j place) other

      -- the edge where a wire ends is no spoke edge
      core_by_mesh : is_mesh_class w.class ≡ true → is_spoke_edge plan service me ≡ false
      core_by_mesh mesh = by sides where
        by : AreSides link.near.0 link.far.0 me peer → is_spoke_edge plan service me ≡ false
        by (IsNear near far) =
            ap (is_spoke_edge plan service) near ∙ mesh_near plan service k w link checked is (and_from (is_wire_of service w) (is_mesh_class w.class) ours mesh)
        by (IsFar far near) = ap (is_spoke_edge plan service) far ∙ far_core plan service k w link checked is ours

      at_near : me ≡ came.near.0 → reach plan calm service peer (wire_port k w) circuit ≡ true
      at_near here = reaches_on
          (λ mesh. clash_at (is_spoke_edge plan service me) starts (core_by_mesh mesh))
          (λ spoke near. twice me near here (live spoke) came_live)
          (λ spoke far. clash_at (is_spoke_edge plan service me) starts (ap (is_spoke_edge plan service) far ∙ far_core plan service k w link checked is ours))
        where
          starts : is_spoke_edge plan service me ≡ true
          starts = ap (is_spoke_edge plan service) here ∙ near_spoke plan service j v came came_is came_ours came_spoke

          came_live : is_live_spoke plan calm service came.near.0 j v ≡ true
          came_live = first_holds (is_live_spoke plan calm service came.near.0 j v) (not (nat_eq circuit_edge came.near.0))
              (sym (reach_near plan calm service circuit site j v came came_is came_spoke)
              ∙ subst (λ e. reach plan calm service e (wire_port j v) circuit ≡ true) here reached)

      at_far : me ≡ came.far.0 → reach plan calm service peer (wire_port k w) circuit ≡ true
      at_far last = reaches_on
          (λ mesh. or_right (nat_eq circuit_edge me) (is_spoke_edge plan service circuit_edge && is_home me (home_of plan calm service circuit_edge)) beside)
          (λ spoke near. clash_at (is_spoke_edge plan service me) (ap (is_spoke_edge plan service) near ∙ near_spoke plan service k w link is ours spoke) core)
          (λ spoke far. apart spoke)
        where
          core : is_spoke_edge plan service me ≡ false
          core = ap (is_spoke_edge plan service) last ∙ far_core plan service j v came checked came_is came_ours

          came_there : is_live_spoke plan calm service came.near.0 j v && nat_eq circuit_edge came.near.0 ≡ true
          came_there =
              sym (reach_far plan calm service circuit site j v came came_is came_spoke)
              ∙ subst (λ e. reach plan calm service e (wire_port j v) circuit ≡ true) last reached

          came_live : is_live_spoke plan calm service came.near.0 j v ≡ true
          came_live = first_holds (is_live_spoke plan calm service came.near.0 j v) (nat_eq circuit_edge came.near.0) came_there

          at : circuit_edge ≡ came.near.0
          at = eqb-true circuit_edge came.near.0 (second_holds (is_live_spoke plan calm service came.near.0 j v) (nat_eq circuit_edge came.near.0) came_there)

          beside : is_spoke_edge plan service circuit_edge && is_home me (home_of plan calm service circuit_edge) ≡ true
          beside = and_from _ _
              (ap (is_spoke_edge plan service) at ∙ near_spoke plan service j v came came_is came_ours came_spoke)
              (ap (λ n. is_home me (home_of plan calm service n)) at
              ∙ (ap (is_home me) (home_is plan calm service came.near.0 j v came checked calmed came_is came_live) ∙ eq-eqb came.far.0 me (sym last)))

          apart : is_mesh_class w.class ≡ false → nat_eq circuit_edge link.near.0 ≡ false
          apart spoke = elim (cases_Bool (nat_eq circuit_edge link.near.0)) [
            | inl same ↦ twice circuit_edge (eqb-true circuit_edge link.near.0 same) at (live spoke) came_live
            | inr away ↦ away
          ]
