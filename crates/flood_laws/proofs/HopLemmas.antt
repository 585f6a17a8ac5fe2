-- How many segments a copy has passed, over wires of two to five edges: a bridge sends a copy on by a wire of a later stage, and each wire
-- has four segments at most, so twelve in all.
use Rattle.std.proofs.Common.{◌≡◌, ◌≤◌, ◌+◌, ◌*◌, ◌&&◌, ◌||◌, ◌∙◌, ℕ, Bool, true, false, cond, List, [], ◌∷◌, Some, length, nat_eq, slice_get, refl, ap, sym, inl, inr, arith}
use Rattle.std.proofs.lemmas.Bool.{cases_Bool, eq-eqb, and_from}
use Rattle.net_values.proofs.BoolLemmas.{first_holds, clash, clash_at, second_of_two}
use Rattle.net_base.specs.declared.plan.Plan.{Plan}
use Rattle.net_base.specs.declared.plan.wire_plan.WirePlan.{WirePlan}
use Rattle.net_base.specs.declared.plan.places.EdgeId.{EdgeId}
use Rattle.net_base.specs.declared.plan.places.ServiceId.{ServiceId}
use Rattle.net_base.specs.declared.plan.places.WireId.{WireId}
use Rattle.net_base.specs.plan.Accepted.{IsChecked}
use Rattle.net_base.specs.plan.Paths.{expected, follows, has_repeat, is_first, is_last, joins}
use Rattle.net_base.specs.plan.Places.{is_mesh_class, wire_row}
use Rattle.net_base.specs.plan.Roles.{is_spoke_edge, is_wire_of, wire_ends_at}
use Rattle.edge_model.specs.Ends.{end_forwards}
use Rattle.network_model.specs.Reach.{far_of, last_place}
use Rattle.network_model.specs.State.{NetworkState}
use Rattle.flight_laws.proofs.TellLemmas.{tells_own_offer}
use Rattle.flight_laws.proofs.RuledMendLemmas.{wire_fits}
use Rattle.network_model.specs.Goal.{goal, last_or, points_passed}
use Rattle.network_model.proofs.GoalLemmas.{begins_first, ends_last}
use Rattle.network_model.proofs.PointLemmas.{points_three}
use Rattle.network_model.proofs.WayLemmas.{joins_is}
use Rattle.flood_laws.proofs.ChosenLemmas.{one_chosen}
use Rattle.flood_laws.proofs.LinkLemmas.{IsLink, link_at}
use Rattle.flood_laws.proofs.MeshLemmas.{far_core, mesh_near}
use Rattle.flood_laws.proofs.WireEdgeLemmas.{AreSides, IsFar, IsNear, far_apart, sides_ended, sides_far}
use Rattle.flood_laws.specs.Hops.{most_hops, stage}

-- ---- the stage of a wire, by its terminal edges

stage_mesh : (to : ℕ) (row : WirePlan) → is_mesh_class row.class ≡ true → stage to row ≡ 1
stage_mesh to row mesh = rw mesh refl

stage_near : (plan : Plan) (row : WirePlan) (link : IsLink plan row) (to : ℕ) → is_mesh_class row.class ≡ false → to ≡ link.near.0 → stage to row ≡ 2
stage_near plan row link to spoke at = rw (spoke, link.path, eq-eqb to link.near.0 at) refl

stage_far : (plan : Plan) (row : WirePlan) (link : IsLink plan row) (to : ℕ) → is_mesh_class row.class ≡ false → to ≡ link.far.0 → stage to row ≡ 0
stage_far plan row link to spoke at = rw (spoke, link.path, ap (λ (n : ℕ). nat_eq n link.near.0) at ∙ far_apart plan row link) refl

pub stage_most : (to : ℕ) (row : WirePlan) → stage to row ≤ 2
stage_most to row = by (is_mesh_class row.class) (is_first to row.path) where
  by : (m f : Bool) → cond {A = ℕ} m 1 (cond f 2 0) ≤ 2
  by true f = omega arith
  by false true = omega arith
  by false false = omega arith

-- ---- a copy goes on by a wire of a later stage

module _ (plan : Plan) (calm : NetworkState) (service : ServiceId) (wire next : WireId) (row other : WirePlan) (to far : ℕ) (checked : IsChecked plan) (placed : (calm.edges to).me ≡ record { 0 = to })
    (is : wire_row plan wire ≡ Some row) (ends : wire_ends_at service to row ≡ true) (takes : end_forwards plan (calm.edges to) wire ≡ true)
    (next_is : wire_row plan next ≡ Some other) (next_ends : wire_ends_at service to other ≡ true) (leads : far_of to other.path ≡ Some far) (sends : end_forwards plan (calm.edges to) next ≡ true)
    (apart : nat_eq next.0 wire.0 ≡ false) (meshes : is_mesh_class row.class && is_mesh_class other.class ≡ false) where
  first : IsLink plan row
  first = link_at plan wire.0 row checked is

  second : IsLink plan other
  second = link_at plan next.0 other checked next_is

  ours : is_wire_of service row ≡ true
  ours = first_holds (is_wire_of service row) (is_first to row.path || is_last to row.path) ends

  also : is_wire_of service other ≡ true
  also = first_holds (is_wire_of service other) (is_first to other.path || is_last to other.path) next_ends

  -- where a mesh wire ends no spoke starts, nor where a spoke ends
  core_of_mesh : is_mesh_class row.class ≡ true → is_spoke_edge plan service to ≡ false
  core_of_mesh mesh = elim (sides_ended plan service row first to ends) [
    | inl near ↦ ap (is_spoke_edge plan service) near ∙ mesh_near plan service wire.0 row first checked is (and_from (is_wire_of service row) (is_mesh_class row.class) ours mesh)
    | inr last ↦ ap (is_spoke_edge plan service) last ∙ far_core plan service wire.0 row first checked is ours
  ]

  core_of_next : is_mesh_class other.class ≡ true → is_spoke_edge plan service to ≡ false
  core_of_next mesh = elim (sides_ended plan service other second to next_ends) [
    | inl near ↦ ap (is_spoke_edge plan service) near ∙ mesh_near plan service next.0 other second checked next_is (and_from (is_wire_of service other) (is_mesh_class other.class) also mesh)
    | inr last ↦ ap (is_spoke_edge plan service) last ∙ far_core plan service next.0 other second checked next_is also
  ]

  spoke_at : (k : ℕ) (w : WirePlan) (link : IsLink plan w) → slice_get plan.wires k ≡ Some w → is_wire_of service w ≡ true → is_mesh_class w.class ≡ false → to ≡ link.near.0
      → is_spoke_edge plan service to ≡ true
  spoke_at k w link w_is of spoke at = ap (is_spoke_edge plan service) at ∙ Rattle.flood_laws.proofs.WireEdgeLemmas.near_spoke plan service k w link w_is of spoke

  -- at the first edge of a spoke it does not end
  not_last : (w : WirePlan) (link : IsLink plan w) → to ≡ link.near.0 → is_last to w.path ≡ false
  not_last w link near = ap (is_last to) link.path ∙ (link.last to ∙ (ap (λ (n : ℕ). nat_eq n link.far.0) near ∙ link.apart))

  -- of one spoke edge two spokes would forward
  twice : {P : Type 0} → is_mesh_class row.class ≡ false → is_mesh_class other.class ≡ false → to ≡ first.near.0 → to ≡ second.near.0 → P
  twice spoke too here there =
      let same : next.0 ≡ wire.0 = one_chosen plan (calm.edges to) to service wire next row other placed is ours spoke (not_last row first here) takes next_is also too
      (not_last other second there) sends in
      clash_at (nat_eq next.0 wire.0) (eq-eqb next.0 wire.0 same) apart

  pub later_stage : stage to row + 1 ≤ stage far other
  later_stage = elim (cases_Bool (is_mesh_class row.class)) [
    | inl mesh ↦ elim (cases_Bool (is_mesh_class other.class)) [
      | inl too ↦ clash_at (is_mesh_class row.class && is_mesh_class other.class) (and_from (is_mesh_class row.class) (is_mesh_class other.class) mesh too) meshes
      | inr spoke ↦ after_mesh mesh spoke (sides_far plan service other second to far next_ends leads)
    ]
    | inr spoke ↦ elim (sides_ended plan service row first to ends) [
      | inl near ↦ elim (cases_Bool (is_mesh_class other.class)) [
        | inl mesh ↦ clash_at (is_spoke_edge plan service to) (spoke_at wire.0 row first is ours spoke near) (core_of_next mesh)
        | inr too ↦ after_near spoke too near (sides_far plan service other second to far next_ends leads)
      ]
      | inr last ↦ elim (cases_Bool (is_mesh_class other.class)) [
        | inl mesh ↦ omega (arith, stage_far plan row first to spoke last, stage_mesh far other mesh)
        | inr too ↦ after_far spoke too last (sides_far plan service other second to far next_ends leads)
      ]
    ]
  ]
    where
      after_mesh : is_mesh_class row.class ≡ true → is_mesh_class other.class ≡ false → AreSides second.near.0 second.far.0 to far → stage to row + 1 ≤ stage far other
      after_mesh mesh spoke (IsNear near there) = clash_at (is_spoke_edge plan service to) (spoke_at next.0 other second next_is also spoke near) (core_of_mesh mesh)
      after_mesh mesh spoke (IsFar last near) = omega (arith, stage_mesh to row mesh, stage_near plan other second far spoke near)

      after_near : is_mesh_class row.class ≡ false → is_mesh_class other.class ≡ false → to ≡ first.near.0 → AreSides second.near.0 second.far.0 to far → stage to row + 1 ≤ stage far other
      after_near spoke too near (IsNear here there) = twice spoke too near here
      after_near spoke too near (IsFar last there) =
          clash_at (is_spoke_edge plan service to) (spoke_at wire.0 row first is ours spoke near)
          (ap (is_spoke_edge plan service) last ∙ far_core plan service next.0 other second checked next_is also)

      after_far : is_mesh_class row.class ≡ false → is_mesh_class other.class ≡ false → to ≡ first.far.0 → AreSides second.near.0 second.far.0 to far → stage to row + 1 ≤ stage far other
      after_far spoke too last (IsNear here there) =
          clash_at (is_spoke_edge plan service to) (spoke_at next.0 other second next_is also too here) (ap (is_spoke_edge plan service) last ∙ far_core plan service wire.0 row first checked is ours)
      after_far spoke too last (IsFar here near) = omega (arith, stage_far plan row first to spoke last, stage_near plan other second far too near)

-- ---- where what a terminal edge sends travels

last_of : (d : EdgeId) (start : EdgeId) (rest : List EdgeId) → last_place (start ∷ rest) ≡ Some (last_or d (start ∷ rest)).0
last_of d start [] = refl
last_of d start (after ∷ rest) = last_of d after rest

-- to the other terminal edge
pub sent_far : (path : List EdgeId) (me peer : EdgeId) → has_repeat path ≡ false → joins me.0 peer.0 path ≡ true → is_first me.0 path || is_last me.0 path ≡ true → far_of me.0 path
    ≡ Some (goal path me peer).0
sent_far [] me peer once joined terminal = clash joined
sent_far (first ∷ rest) me peer once joined terminal = by (nat_eq me.0 first.0) refl where
  only : (p : Bool) {q : Bool} → q ≡ false → p || q ≡ true → p ≡ true
  only true h k = refl
  only false h k = clash (sym h ∙ k)

  by : (t : Bool) → nat_eq me.0 first.0 ≡ t → far_of me.0 (first ∷ rest) ≡ Some (goal (first ∷ rest) me peer).0
  by true here =
      let way : follows (first ∷ rest) me.0 peer.0 ≡ true =
      only (follows (first ∷ rest) me.0 peer.0) (begins_first (first ∷ rest) me.0 peer.0 once here) (sym (joins_is (first ∷ rest) me.0 peer.0) ∙ joined) in
      rw (here, way) (last_of peer first rest)
  by false away =
      let way : follows (first ∷ rest) me.0 peer.0 ≡ false = ends_last (first ∷ rest) me.0 peer.0 once (second_of_two (nat_eq me.0 first.0) away terminal) in
      rw (away, way) refl

-- ---- the bound

-- what a bridge sends on has come no further than it may
pub hop_on : (plan : Plan) (wire next : WireId) (row other : WirePlan) (from to peer : EdgeId) (hops : ℕ) → IsChecked plan → wire_row plan wire ≡ Some row → wire_row plan next ≡ Some other
    → joins from.0 to.0 row.path ≡ true → goal row.path from to ≡ to → joins to.0 peer.0 other.path ≡ true → is_first to.0 other.path || is_last to.0 other.path ≡ true
    → stage to.0 row + 1 ≤ stage (goal other.path to peer).0 other → hops ≤ most_hops plan from to row → hops + 1 ≤ most_hops plan to peer other
hop_on plan wire next row other from to peer hops checked is next_is joined reached next_joined terminal later come =
    let few = points_three plan row from.0 to.0 (wire_fits plan wire row checked is).once (wire_fits plan wire row checked is).most (sym (joins_is row.path from.0 to.0) ∙ joined) in
    let none : length (expected plan other to.0 peer.0).points ≡ 0 = ap length (tells_own_offer plan other to peer (wire_fits plan next other checked next_is).once next_joined terminal).points in
    on hops (stage (goal row.path from to).0 row) (stage to.0 row) (stage (goal other.path to peer).0 other) (points_passed plan row from.0 to.0) (points_passed plan other to.0 peer.0)
    (ap (λ (e : EdgeId). stage e.0 row) reached) few none later come
  where
    on : (h a s t p q : ℕ) → a ≡ s → p ≤ 3 → q ≡ 0 → s + 1 ≤ t → h ≤ 4 * a + (p + 1) → h + 1 ≤ 4 * t + (q + 1)
    on h a s t p q same few none later come = omega (arith, same, few, none, later, come)

-- and what arrives has passed twelve segments at most
pub twelve_hops : (plan : Plan) (wire : WireId) (row : WirePlan) (from to : EdgeId) (hops : ℕ) → IsChecked plan → wire_row plan wire ≡ Some row → joins from.0 to.0 row.path ≡ true
    → hops ≤ most_hops plan from to row → hops ≤ 12
twelve_hops plan wire row from to hops checked is joined come =
    most hops (stage (goal row.path from to).0 row) (points_passed plan row from.0 to.0) (stage_most (goal row.path from to).0 row)
    (points_three plan row from.0 to.0 (wire_fits plan wire row checked is).once (wire_fits plan wire row checked is).most (sym (joins_is row.path from.0 to.0) ∙ joined)) come
  where
    most : (h s p : ℕ) → s ≤ 2 → p ≤ 3 → h ≤ 4 * s + (p + 1) → h ≤ 12
    most h s p late few come = omega (arith, late, few, come)

-- what a terminal edge sends of a frame that enters has passed one
pub first_hop : (plan : Plan) (from to : EdgeId) (row : WirePlan) → 1 ≤ most_hops plan from to row
first_hop plan from to row = omega arith
