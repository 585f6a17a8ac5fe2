-- The two edges of a wire: which one an edge is, which one starts a spoke, and the other edge of a mesh wire.
use Rattle.std.proofs.Common.{◌≡◌, ◌⊎◌, ◌&&◌, ◌||◌, ℕ, true, false, Some, nat_eq, slice_get, refl, sym, subst, inl, inr}
use Rattle.std.proofs.lemmas.Bool.{cases_Bool, eq-eqb, eqb-true, and_from}
use Rattle.std.proofs.lemmas.Map.Keys.{any_passes_from_place}
use Rattle.net_values.proofs.BoolLemmas.{first_holds, second_holds, clash_at}
use Rattle.net_base.specs.declared.plan.Plan.{Plan}
use Rattle.net_base.specs.declared.plan.wire_plan.WirePlan.{WirePlan}
use Rattle.net_base.specs.declared.plan.places.ServiceId.{ServiceId}
use Rattle.net_base.specs.plan.Accepted.{IsChecked}
use Rattle.net_base.specs.plan.Paths.{is_first, is_last}
use Rattle.net_base.specs.plan.Places.{is_mesh_class}
use Rattle.net_base.specs.plan.Roles.{is_spoke_edge, is_spoke_from, is_wire_of, wire_ends_at}
use Rattle.network_model.specs.Reach.{far_of}
use Rattle.flood_laws.proofs.LawLemmas.{sides}
use Rattle.flood_laws.proofs.LinkLemmas.{IsLink, link_at}
use Rattle.flood_laws.proofs.MeshLemmas.{far_core, mesh_near}

-- ---- which of them an edge is

-- an edge and the one beside it
pub data AreSides (near far me peer : ℕ) : Type 0 where
  IsNear : me ≡ near → peer ≡ far → AreSides near far me peer
  IsFar : me ≡ far → peer ≡ near → AreSides near far me peer

-- a terminal edge and the other one
pub sides_far : (plan : Plan) (service : ServiceId) (w : WirePlan) (link : IsLink plan w) (me peer : ℕ) → wire_ends_at service me w ≡ true → far_of me w.path ≡ Some peer
    → AreSides link.near.0 link.far.0 me peer
sides_far plan service w link me peer ends far = elim (sides plan service w me peer link ends far) [
  | inl near ↦ IsNear near.0 near.1
  | inr last ↦ IsFar last.0 last.1
]

-- an edge where a wire ends is one of them
pub sides_ended : (plan : Plan) (service : ServiceId) (w : WirePlan) (link : IsLink plan w) (me : ℕ) → wire_ends_at service me w ≡ true
    → (me ≡ link.near.0) ⊎ (me ≡ link.far.0)
sides_ended plan service w link me ends = by link.near.0 link.far.0 (second_holds _ _ (rw (link.path, link.last me) at ends)) where
  by : (a b : ℕ) → nat_eq me a || nat_eq me b ≡ true → (me ≡ a) ⊎ (me ≡ b)
  by a b is = elim (cases_Bool (nat_eq me a)) [
    | inl near ↦ inl (eqb-true me a near)
    | inr away ↦ inr (eqb-true me b (rw away at is))
  ]

-- ---- spokes and mesh wires

-- a spoke starts at its first edge
pub starts_spoke : (plan : Plan) (service : ServiceId) (w : WirePlan) (link : IsLink plan w) → is_wire_of service w ≡ true → is_mesh_class w.class ≡ false
    → is_spoke_from service link.near.0 w ≡ true
starts_spoke plan service w link ours spoke = rw (ours, spoke, link.path, eq-eqb link.near.0 link.near.0 refl) refl

-- its edges differ
pub far_apart : (plan : Plan) (w : WirePlan) (link : IsLink plan w) → nat_eq link.far.0 link.near.0 ≡ false
far_apart plan w link = elim (cases_Bool (nat_eq link.far.0 link.near.0)) [
  | inl same ↦ clash_at (nat_eq link.near.0 link.far.0) (eq-eqb link.near.0 link.far.0 (sym (eqb-true link.far.0 link.near.0 same))) link.apart
  | inr away ↦ away
]

-- each is the far one of the other
pub far_of_near : (plan : Plan) (w : WirePlan) (link : IsLink plan w) → far_of link.near.0 w.path ≡ Some link.far.0
far_of_near plan w link = rw (link.path, link.ends, eq-eqb link.near.0 link.near.0 refl) refl

pub far_of_far : (plan : Plan) (w : WirePlan) (link : IsLink plan w) → far_of link.far.0 w.path ≡ Some link.near.0
far_of_far plan w link = rw (link.path, far_apart plan w link) refl

-- the first edge of a spoke is a spoke edge
pub near_spoke : (plan : Plan) (service : ServiceId) (k : ℕ) (w : WirePlan) (link : IsLink plan w) → slice_get plan.wires k ≡ Some w → is_wire_of service w ≡ true
    → is_mesh_class w.class ≡ false
    → is_spoke_edge plan service link.near.0 ≡ true
near_spoke plan service k w link is ours spoke = any_passes_from_place (is_spoke_from service link.near.0) plan.wires k w is (starts_spoke plan service w link ours spoke)

-- the other edge of a mesh wire, which starts no spoke
pub record HasMeshPeer (plan : Plan) (service : ServiceId) (v : WirePlan) (me : ℕ) : Type 0 where
  pub other : ℕ
  pub far : far_of me v.path ≡ Some other
  pub core : is_spoke_edge plan service other ≡ false
  pub core_here : is_spoke_edge plan service me ≡ false
  pub apart : nat_eq me other ≡ false

pub mesh_peer : (plan : Plan) (service : ServiceId) (j : ℕ) (v : WirePlan) (me : ℕ) → IsChecked plan → slice_get plan.wires j ≡ Some v
    → is_mesh_class v.class ≡ true → wire_ends_at service me v ≡ true → HasMeshPeer plan service v me
mesh_peer plan service j v me checked is mesh ends = elim (sides_ended plan service v link me ends) [
  | inl near ↦ subst (HasMeshPeer plan service v) (sym near) (record {
    other = link.far.0;
    far = far_of_near plan v link;
    core = far_core plan service j v link checked is ours;
    core_here = mesh_near plan service j v link checked is mesh_ours;
    apart = link.apart;
  })
  | inr last ↦ subst (HasMeshPeer plan service v) (sym last) (record {
    other = link.near.0;
    far = far_of_far plan v link;
    core = mesh_near plan service j v link checked is mesh_ours;
    core_here = far_core plan service j v link checked is ours;
    apart = far_apart plan v link;
  })
]
  where
    link : IsLink plan v
    link = link_at plan j v checked is

    ours : is_wire_of service v ≡ true
    ours = first_holds (is_wire_of service v) (is_first me v.path || is_last me v.path) ends

    mesh_ours : is_wire_of service v && is_mesh_class v.class ≡ true
    mesh_ours = and_from (is_wire_of service v) (is_mesh_class v.class) ours mesh
