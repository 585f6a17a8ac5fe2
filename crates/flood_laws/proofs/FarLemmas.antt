-- In a quiet service the far end of a wire advertises the label that the near end is bound to.
use Rattle.std.proofs.Common.{◌≡◌, ◌<◌, ◌==◌, ◌&&◌, ◌||◌, ◌∙◌, not, ℕ, Bool, true, false, List, [], ◌∷◌, Some, length, nat_lt, refl, sym, ap, arith}
use Rattle.std.specs.List.{list_all}
use Rattle.std.proofs.lemmas.Bool.{and_from, and_parts}
use Rattle.std.proofs.lemmas.Bool.Decides.{nat_tests}
use Rattle.std.proofs.lemmas.Map.Keys.{any_passes_from_place}
use Rattle.net_values.proofs.BoolLemmas.{clash}
use Rattle.net_base.specs.declared.plan.Plan.{Plan}
use Rattle.net_base.specs.declared.plan.places.EdgeId.{EdgeId}
use Rattle.net_base.specs.declared.plan.places.ServiceId.{ServiceId}
use Rattle.net_base.specs.declared.plan.places.WireId.{WireId}
use Rattle.net_base.specs.declared.plan.wire_plan.WirePlan.{WirePlan}
use Rattle.net_base.specs.plan.Accepted.{IsChecked}
use Rattle.net_base.specs.plan.Paths.{joins}
use Rattle.net_base.specs.plan.Places.{wire_row}
use Rattle.net_base.specs.plan.Roles.{all_below, are_joined_by, is_wire_of}
use Rattle.net_base.specs.plan.RowFaults.{is_edge_of}
use Rattle.pw_signalling.specs.declared.binding.Binding.{Binding}
use Rattle.pw_signalling.specs.End.{LocalPart, Idle, Advertised, Withdrawing}
use Rattle.network_model.specs.Calm.{is_drained, is_quiet, is_settled}
use Rattle.network_model.specs.State.{NetworkState, stands}
use Rattle.network_model.proofs.CalmLemmas.{below_holds}
use Rattle.flight_laws.specs.Binding.{advertised_by}
use Rattle.flight_laws.specs.Laws.{AreSettled}
use Rattle.flight_laws.proofs.NameLemmas.{split}
use Rattle.flight_laws.proofs.RuledMendLemmas.{wire_fits}

-- two edges that a path joins are in the plan
within : (plan : Plan) (path : List EdgeId) (a b : ℕ) → list_all (is_edge_of plan) path ≡ true → joins a b path ≡ true → (a < length plan.edges) × (b < length plan.edges)
within plan [] a b all joined = clash joined
within plan (last ∷ []) a b all joined = clash joined
within plan (first ∷ next ∷ rest) a b all joined =
    let one = and_parts (is_edge_of plan first) (list_all (is_edge_of plan) (next ∷ rest)) all in
    let two = and_parts (is_edge_of plan next) (list_all (is_edge_of plan) rest) one.1 in
    split {P = (a < length plan.edges) × (b < length plan.edges)} (joins a b (next ∷ rest))
    (λ later. within plan (next ∷ rest) a b one.1 later)
    (λ none. here first.0 next.0 (length plan.edges) one.0 two.0 (rw none at joined))
  where
    here : (f n most : ℕ) → nat_lt f most ≡ true → nat_lt n most ≡ true → ((a == f && b == n) || (b == f && a == n)) || false ≡ true → (a < most) × (b < most)
    here f n most first next joined = (grind (arith, nat_tests), grind (arith, nat_tests))

-- ---- two edges that a wire of the service joins

module _ (plan : Plan) (calm : NetworkState) (service : ServiceId) (a b : ℕ) (wire : WireId) (row : WirePlan) (checked : IsChecked plan)
    (is : wire_row plan wire ≡ Some row) (of_service : is_wire_of service row ≡ true) (joined : joins a b row.path ≡ true) where
  -- the service joins them
  pub joined_by : are_joined_by plan service a b ≡ true
  joined_by = any_passes_from_place (λ (r : WirePlan). is_wire_of service r && joins a b r.path) plan.wires wire.0 row is (and_from (is_wire_of service row) (joins a b row.path) of_service joined)

  -- and they are settled where it is quiet
  pub are_settled : is_quiet plan calm service ≡ true → is_settled calm a b ≡ true
  are_settled quiet =
      let inside = within plan row.path a b (wire_fits plan wire row checked is).edges joined in
      let all : all_below (length plan.edges) (λ k. not (are_joined_by plan service a k) || is_settled calm a k) ≡ true =
      below_holds (length plan.edges) a (λ m. all_below (length plan.edges) (λ k. not (are_joined_by plan service m k) || is_settled calm m k)) quiet inside.0 in
      let here : not (are_joined_by plan service a b) || is_settled calm a b ≡ true =
      below_holds (length plan.edges) b (λ k. not (are_joined_by plan service a k) || is_settled calm a k) all inside.1 in
      ap (λ (j : Bool). not j || is_settled calm a b) (sym joined_by) ∙ here

advertises_bound : (local : LocalPart) (binding : Binding) → Some binding ≡ advertised_by local → local ≡ Advertised binding.label binding.told
advertises_bound (Idle declined) binding is = absurd (cc (is))
advertises_bound (Advertised label told) binding is =
    let same : binding ≡ record { label = label; told = told } = cc (is) in
    ap (λ (b : Binding). Advertised b.label b.told) (sym same)
advertises_bound (Withdrawing label) binding is = absurd (cc (is))

-- of two edges that a wire of a quiet service joins, one advertises what the other is bound to
pub far_advertises : (plan : Plan) (calm : NetworkState) (service : ServiceId) (a b : ℕ) (wire : WireId) (row : WirePlan) (binding : Binding)
    → IsChecked plan → is_quiet plan calm service ≡ true → ((x y : ℕ) → are_joined_by plan service x y ≡ true → AreSettled plan calm x y)
    → wire_row plan wire ≡ Some row → is_wire_of service row ≡ true → joins a b row.path ≡ true → ((calm.edges a).ends wire.0 b).remote ≡ Some binding
    → ((calm.edges b).ends wire.0 a).local ≡ Advertised binding.label binding.told
far_advertises plan calm service a b wire row binding checked quiet settled is of_service joined bound =
    by (stands calm a b) (stands calm b a) (is_drained calm a b && is_drained calm b a) refl refl (are_settled plan calm service a b wire row checked is of_service joined quiet)
  where
    two : AreSettled plan calm a b
    two = settled a b (joined_by plan calm service a b wire row checked is of_service joined)

    by : (x y drained : Bool) → stands calm a b ≡ x → stands calm b a ≡ y → (not x && not y) || ((x && y) && drained) ≡ true → ((calm.edges b).ends wire.0 a).local
        ≡ Advertised binding.label binding.told
    by true true drained one other test =
        advertises_bound ((calm.edges b).ends wire.0 a).local binding (sym bound ∙ ((two.up (record { one = one; other = other })).1.1 wire row is joined).near)
    by true false drained one other test = clash test
    by false true drained one other test = clash test
    by false false drained one other test =
        let none = sym bound ∙ (two.apart one other wire row is joined).near in
        absurd (cc (none))
