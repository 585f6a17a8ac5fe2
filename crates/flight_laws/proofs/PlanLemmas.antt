-- What a checked plan says of the two ends of a connection.
use Rattle.std.proofs.Common.{◌≡◌, ◌<◌, ◌&&◌, ◌||◌, ℕ, Bool, true, false, length, nat_eq, nat_lt, List, [], ◌∷◌, Some, slice_get, refl, inl, inr}
use Rattle.std.proofs.lemmas.Bool.{cases_Bool, eqb-true}
use Rattle.std.proofs.lemmas.List.Elements.{All-head, All-tail}
use Rattle.std.proofs.lemmas.Option.{get_or_from_slice_get, slice_get_within}
use Rattle.std.specs.List.{All, list_all, list_any}
use Rattle.std.specs.Str.{bytes_eq}
use Rattle.net_values.proofs.BoolLemmas.{first_holds, clash, second_holds}
use Rattle.net_values.proofs.NumberLemmas.{one_before}
use Rattle.net_values.proofs.RowLemmas.{row_holds, octets_apart_back}
use Rattle.net_base.specs.declared.plan.Plan.{Plan}
use Rattle.net_base.specs.declared.plan.edge_plan.EdgePlan.{EdgePlan}
use Rattle.net_base.specs.declared.plan.places.EdgeId.{EdgeId}
use Rattle.net_base.specs.declared.plan.wire_plan.WirePlan.{WirePlan}
use Rattle.net_base.specs.plan.Accepted.{IsChecked, IsEdgePlan, IsWireOf}
use Rattle.net_base.specs.plan.Paths.{are_joined, joins}
use Rattle.net_base.specs.plan.RowFaults.{is_edge_of}
use Rattle.net_base.proofs.PathLemmas.{joins_apart, joins_turned}
use Rattle.session_core.specs.Laws.{IsAddress}
use Rattle.edge_model.specs.Connection.{peers_of}
use Rattle.flight_laws.specs.Ends.{HasTypes}
use Rattle.flight_laws.specs.Pair.{AreEnds, AreFit}

-- the addresses of two rows differ
before_apart : (plan : Plan) (a b : ℕ) (one other : EdgePlan) → IsChecked plan → slice_get plan.edges a ≡ Some one → slice_get plan.edges b ≡ Some other → a < b
    → bytes_eq one.address.0 other.address.0 ≡ false
before_apart plan a b one other checked first second before =
    rw (← get_or_from_slice_get plan.edges a one one first, ← get_or_from_slice_get plan.edges b other one second)
    (checked.addresses a b one before (slice_get_within plan.edges b other second))

pub addresses_apart : (plan : Plan) (a b : ℕ) (one other : EdgePlan) → IsChecked plan → slice_get plan.edges a ≡ Some one → slice_get plan.edges b ≡ Some other → nat_eq a b ≡ false
    → bytes_eq one.address.0 other.address.0 ≡ false
addresses_apart plan a b one other checked first second apart = elim (one_before a b apart) [
  | inl before ↦ before_apart plan a b one other checked first second before
  | inr behind ↦ octets_apart_back other.address.0 one.address.0 (before_apart plan b a other one checked second first behind)
]

ends_fit : (one other : EdgePlan) → IsEdgePlan one → IsAddress one.address → IsAddress other.address → bytes_eq one.address.0 other.address.0 ≡ false → AreFit (peers_of one other)
ends_fit one other edge me peer apart = record {
  proper = record { apart = apart; keepalive = edge.keepalive.0; least = edge.max_pdu.0; most = edge.max_pdu.1 };
  me = me;
  peer = peer;
  keepalive = edge.keepalive.1;
}

-- the ends between two rows of a checked plan
pub ends_are : (plan : Plan) (a b : ℕ) (one other : EdgePlan) → IsChecked plan → HasTypes plan → slice_get plan.edges a ≡ Some one → slice_get plan.edges b ≡ Some other → nat_eq a b ≡ false
    → AreEnds (peers_of one other) (peers_of other one)
ends_are plan a b one other checked types first second apart =
    let edge : IsEdgePlan one = row_holds IsEdgePlan plan.edges a one first checked.edges in
    let far : IsEdgePlan other = row_holds IsEdgePlan plan.edges b other second checked.edges in
    let me : IsAddress one.address = row_holds (λ (row : EdgePlan). IsAddress row.address) plan.edges a one first types.addresses in
    let peer : IsAddress other.address = row_holds (λ (row : EdgePlan). IsAddress row.address) plan.edges b other second types.addresses in
    let differ : bytes_eq one.address.0 other.address.0 ≡ false = addresses_apart plan a b one other checked first second apart in
    record {
      one = ends_fit one other edge me peer differ;
      two = ends_fit other one far peer me (octets_apart_back one.address.0 other.address.0 differ);
      facing = record { there = refl; back = refl };
      back = record { there = refl; back = refl };
    }

-- ---- joined edges

any_holds : {A : Type 0} {Q : Type 0} (P : A → Type 0) (test : A → Bool) (rows : List A) → ((row : A) → P row → test row ≡ true → Q) → All P rows → list_any test rows ≡ true → Q
any_holds P test [] follows all some = clash some
any_holds P test (row ∷ rows) follows all some = elim (cases_Bool (test row)) [
  | inl here ↦ follows row (All-head P row rows all) here
  | inr not_here ↦ any_holds P test rows follows (All-tail P row rows all) (rw not_here at some)
]

-- no edge is joined to itself
pub joined_apart : (plan : Plan) (a b : ℕ) → IsChecked plan → are_joined plan a b ≡ true → nat_eq a b ≡ false
joined_apart plan a b checked joined =
    any_holds (IsWireOf plan) (λ (row : WirePlan). joins a b row.path) plan.wires (λ row wire there. joins_apart row.path a b wire.once there) checked.wires joined

any_same : {A : Type 0} (one other : A → Bool) (rows : List A) → ((row : A) → one row ≡ other row) → list_any one rows ≡ list_any other rows
any_same one other [] same = refl
any_same one other (row ∷ rows) same = rw (same row, any_same one other rows same) refl

pub joined_turned : (plan : Plan) (a b : ℕ) → are_joined plan a b ≡ are_joined plan b a
joined_turned plan a b = any_same (λ (row : WirePlan). joins a b row.path) (λ (row : WirePlan). joins b a row.path) plan.wires (λ row. joins_turned row.path a b)

-- ---- paths

-- an edge that a path joins to another one is in the plan
pub both_in : (plan : Plan) (path : List EdgeId) (a b : ℕ) → list_all (is_edge_of plan) path ≡ true → joins a b path ≡ true → (nat_lt a (length plan.edges) ≡ true)
    × (nat_lt b (length plan.edges) ≡ true)
both_in plan [] a b all joined = clash joined
both_in plan (last ∷ []) a b all joined = clash joined
both_in plan (first ∷ next ∷ rest) a b all joined = elim (cases_Bool ((nat_eq a first.0 && nat_eq b next.0) || (nat_eq b first.0 && nat_eq a next.0))) [
  | inl here ↦ among first.0 next.0 (first_holds (is_edge_of plan first) (list_all (is_edge_of plan) (next ∷ rest)) all)
      (first_holds (is_edge_of plan next) (list_all (is_edge_of plan) rest) (second_holds (is_edge_of plan first) (list_all (is_edge_of plan) (next ∷ rest)) all)) here
  | inr later ↦ both_in plan (next ∷ rest) a b (second_holds (is_edge_of plan first) (list_all (is_edge_of plan) (next ∷ rest)) all) (rw later at joined)
]
  where
    n : ℕ
    n = length plan.edges

    two : (f g : ℕ) → nat_lt f n ≡ true → nat_lt g n ≡ true → (p q : Bool) → nat_eq a f && nat_eq b g ≡ p → nat_eq b f && nat_eq a g ≡ q → p || q ≡ true → (nat_lt a n ≡ true) × (nat_lt b n ≡ true)
    two f g less less' true q one other some =
        (rw (eqb-true a f (first_holds (nat_eq a f) (nat_eq b g) one)) less, rw (eqb-true b g (second_holds (nat_eq a f) (nat_eq b g) one)) less')
    two f g less less' false true one other some =
        (rw (eqb-true a g (second_holds (nat_eq b f) (nat_eq a g) other)) less', rw (eqb-true b f (first_holds (nat_eq b f) (nat_eq a g) other)) less)
    two f g less less' false false one other some = clash some

    among : (f g : ℕ) → nat_lt f n ≡ true → nat_lt g n ≡ true → (nat_eq a f && nat_eq b g) || (nat_eq b f && nat_eq a g) ≡ true → (nat_lt a n ≡ true) × (nat_lt b n ≡ true)
    among f g less less' here = two f g less less' (nat_eq a f && nat_eq b g) (nat_eq b f && nat_eq a g) refl refl here
