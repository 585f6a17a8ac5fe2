-- The circuits of a calm service without a wire are at one edge.
use Rattle.std.proofs.Common.{◌≡◌, ◌<◌, ◌+◌, ◌&&◌, ◌||◌, ◌==◌, ◌∙◌, ℕ, zero, suc, Bool, true, false, List, [], ◌∷◌, Some, length, slice_get, refl, ap, nat_eq, not, arith, inl, inr}
use Rattle.std.proofs.lemmas.Bool.{eqb-true, eq-eqb, cases_order}
use Rattle.std.proofs.lemmas.Map.Keys.{any_passes_from_place}
use Rattle.std.specs.List.{list_any}
use Rattle.net_values.proofs.BoolLemmas.{first_holds, second_holds, second_fails, first_fails, first_of_two}
use Rattle.net_base.specs.declared.plan.Plan.{Plan}
use Rattle.net_base.specs.declared.plan.circuit_plan.CircuitPlan.{CircuitPlan}
use Rattle.net_base.specs.declared.plan.wire_plan.WirePlan.{WirePlan}
use Rattle.net_base.specs.declared.plan.places.ServiceId.{ServiceId}
use Rattle.network_model.specs.State.{NetworkState}
use Rattle.net_base.specs.plan.Roles.{all_below, any_wire, count_wires, is_circuit_at, is_wire_of, is_spoke_edge, is_core_edge}
use Rattle.network_model.specs.Calm.{meshes, is_live_spoke, is_quiet, is_full, has_live_spokes, is_calm}

-- a test that holds of each number below n holds of one
pub below_holds : (n i : ℕ) (test : ℕ → Bool) → all_below n test ≡ true → i < n → test i ≡ true
below_holds zero i test all below = absurd (omega arith)
below_holds (suc n) i test all below = elim (cases_order i n) [
  | inl same ↦ ap test same ∙ first_holds (test n) (all_below n test) all
  | inr rest ↦ elim rest [
    | inl under ↦ below_holds n i test (second_holds (test n) (all_below n test) all) under
    | inr over ↦ absurd (omega arith)
  ]
]

no_mesh : (plan : Plan) (network : NetworkState) (service : ServiceId) (a b place : ℕ) (rows : List WirePlan) → list_any (is_wire_of service) rows ≡ false
    → any_wire (meshes plan network service a b) place rows ≡ false
no_mesh plan network service a b place [] none = refl
no_mesh plan network service a b place (row ∷ rows) none =
    let here : is_wire_of service row ≡ false = first_fails (is_wire_of service row) (list_any (is_wire_of service) rows) none in
    rw here (no_mesh plan network service a b (place + 1) rows (second_fails (is_wire_of service row) (list_any (is_wire_of service) rows) none))

no_live : (plan : Plan) (network : NetworkState) (service : ServiceId) (edge place : ℕ) (rows : List WirePlan) → list_any (is_wire_of service) rows ≡ false
    → count_wires (is_live_spoke plan network service edge) place rows ≡ 0
no_live plan network service edge place [] none = refl
no_live plan network service edge place (row ∷ rows) none =
    let here : is_wire_of service row ≡ false = first_fails (is_wire_of service row) (list_any (is_wire_of service) rows) none in
    rw here (omega (arith, no_live plan network service edge (place + 1) rows (second_fails (is_wire_of service row) (list_any (is_wire_of service) rows) none)))

no_spoke_edge : (plan : Plan) (network : NetworkState) (service : ServiceId) (edge : ℕ) → list_any (is_wire_of service) plan.wires ≡ false → has_live_spokes plan network service ≡ true
    → edge < length plan.edges → is_spoke_edge plan service edge ≡ false
no_spoke_edge plan network service edge none live within =
    fails (is_spoke_edge plan service edge) (count_wires (is_live_spoke plan network service edge) 0 plan.wires) (no_live plan network service edge 0 plan.wires none)
    (below_holds (length plan.edges) edge (λ e. not (is_spoke_edge plan service e) || count_wires (is_live_spoke plan network service e) 0 plan.wires == 1) live within) where
      fails : (spoke : Bool) (count : ℕ) → count ≡ 0 → not spoke || nat_eq count 1 ≡ true → spoke ≡ false
      fails false count none holds = refl
      fails true count none holds =
          let one : nat_eq 0 1 ≡ true = rw none at holds in
          absurd (cc (one))

core_of : (plan : Plan) (network : NetworkState) (service : ServiceId) (circuit : ℕ) (row : CircuitPlan)
    → list_any (is_wire_of service) plan.wires ≡ false → has_live_spokes plan network service ≡ true → slice_get plan.circuits circuit ≡ Some row → nat_eq row.service.0 service.0
    ≡ true → row.edge.0 < length plan.edges
    → is_core_edge plan service row.edge.0 ≡ true
core_of plan network service circuit row none live is of_service within =
    let here : is_circuit_at service row.edge.0 row ≡ true = rw (of_service, eq-eqb row.edge.0 row.edge.0 refl) refl in
    let some : list_any (is_circuit_at service row.edge.0) plan.circuits ≡ true = any_passes_from_place (is_circuit_at service row.edge.0) plan.circuits circuit row is here in
    rw (some, no_spoke_edge plan network service row.edge.0 none live within) refl

-- two circuits of a calm service without a wire are at one edge
pub at_one_edge : (plan : Plan) (network : NetworkState) (service : ServiceId) (c d : ℕ) (row other : CircuitPlan)
    → list_any (is_wire_of service) plan.wires ≡ false
    → is_calm plan network service ≡ true
    → slice_get plan.circuits c ≡ Some row → nat_eq row.service.0 service.0 ≡ true → row.edge.0 < length plan.edges
    → slice_get plan.circuits d ≡ Some other → nat_eq other.service.0 service.0 ≡ true → other.edge.0 < length plan.edges
    → row.edge.0 ≡ other.edge.0
at_one_edge plan network service c d row other none calm is of_service within is_too of_service_too within_too =
    let live = second_holds (is_quiet plan network service && is_full plan network service) (has_live_spokes plan network service) calm in
    let full = second_holds (is_quiet plan network service) (is_full plan network service)
    (first_holds (is_quiet plan network service && is_full plan network service) (has_live_spokes plan network service) calm) in
    let met : (a : ℕ) → (b : ℕ) → Bool = λ a b. not (is_core_edge plan service a && is_core_edge plan service b) || (a == b || any_wire (meshes plan network service a b) 0 plan.wires) in
    let first = below_holds (length plan.edges) row.edge.0 (λ a. all_below (length plan.edges) (met a)) full within in
    let both = below_holds (length plan.edges) other.edge.0 (met row.edge.0) first within_too in
    meets (is_core_edge plan service row.edge.0) (is_core_edge plan service other.edge.0) row.edge.0 other.edge.0 (any_wire (meshes plan network service row.edge.0 other.edge.0) 0 plan.wires)
    (core_of plan network service c row none live is of_service within) (core_of plan network service d other none live is_too of_service_too within_too)
    (no_mesh plan network service row.edge.0 other.edge.0 0 plan.wires none) both where
      meets : (x y : Bool) (a b : ℕ) (mesh : Bool) → x ≡ true → y ≡ true → mesh ≡ false → not (x && y) || (nat_eq a b || mesh) ≡ true → a ≡ b
      meets x y a b mesh core too none holds = eqb-true a b (first_of_two (nat_eq a b) mesh none (rw (core, too) at holds))
