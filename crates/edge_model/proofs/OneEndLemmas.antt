-- A terminal edge of a wire has one end of it, since no edge stands twice on a path.
use Rattle.std.proofs.Common.{◌≡◌, ◌==◌, ◌∙◌, ◌&&◌, ◌||◌, ℕ, Bool, true, false, List, [], ◌∷◌, Some, nat_eq, slice_get, refl, sym, ap, subst, arith, inl, inr}
use Rattle.std.specs.List.{list_any}
use Rattle.std.proofs.lemmas.Bool.{cases_Bool, eqb-true, or_parts, or_right}
use Rattle.std.proofs.lemmas.Bool.Decides.{nat_tests}
use Rattle.net_values.proofs.RowLemmas.{row_holds}
use Rattle.net_base.specs.declared.plan.Plan.{Plan}
use Rattle.net_base.specs.declared.plan.places.EdgeId.{EdgeId}
use Rattle.net_base.specs.declared.plan.wire_plan.WirePlan.{WirePlan}
use Rattle.net_base.specs.plan.Accepted.{IsChecked, IsWireOf}
use Rattle.net_base.specs.plan.Paths.{has_repeat, is_first, is_last, joins}
use Rattle.edge_model.proofs.MendedLemmas.{HasOneEnd}

-- the edge stands on the path
abbrev is_on : ℕ → List EdgeId → Bool
is_on me path = list_any (λ (edge : EdgeId). edge.0 == me) path

away : (me a first next : ℕ) (later : Bool) → (first == me) ≡ false → (next == me) ≡ false → later ≡ false → ((me == first && a == next) || (a == first && me == next)) || later ≡ false
away me a first next later one other none = grind (arith, nat_tests)

-- an edge that is not on a path has no neighbour there
joins_none : (path : List EdgeId) (me a : ℕ) → is_on me path ≡ false → joins me a path ≡ false
joins_none [] me a none = refl
joins_none (last ∷ []) me a none = refl
joins_none (first ∷ next ∷ rest) me a none =
    let parts = or_parts (first.0 == me) (is_on me (next ∷ rest)) none in
    let more = or_parts (next.0 == me) (is_on me rest) parts.1 in
    away me a first.0 next.0 (joins me a (next ∷ rest)) parts.0 more.0 (joins_none (next ∷ rest) me a parts.1)

-- the last edge of a path is on it
last_on : (path : List EdgeId) (me : ℕ) → is_last me path ≡ true → is_on me path ≡ true
last_on [] me last = absurd (cc (last))
last_on (only ∷ []) me last = grind (arith, nat_tests)
last_on (first ∷ next ∷ rest) me last = or_right (first.0 == me) (is_on me (next ∷ rest)) (last_on (next ∷ rest) me last)

-- an edge that stands later on a path without a repeat is not its first
not_first : (first : EdgeId) (rest : List EdgeId) (me : ℕ) → is_on first.0 rest ≡ false → is_on me rest ≡ true → (me == first.0) ≡ false
not_first first rest me once there = elim (cases_Bool (nat_eq me first.0)) [
  | inl same ↦
      (let wrong : true ≡ false = sym there ∙ (ap (λ (n : ℕ). is_on n rest) (eqb-true me first.0 same) ∙ once) in
      absurd (cc (wrong)))
  | inr other ↦ other
]

is_next : (me a first next : ℕ) (later : Bool) → (next == first) ≡ false → (me == first) ≡ true → later ≡ false → ((me == first && a == next) || (a == first && me == next)) || later ≡ true → a ≡ next
is_next me a first next later apart here none joined = grind (arith, nat_tests)

-- the neighbour of the first edge is the next one
first_neighbour : (first next : EdgeId) (rest : List EdgeId) (me a : ℕ) → has_repeat (first ∷ next ∷ rest) ≡ false → (me == first.0) ≡ true → joins me a (first ∷ next ∷ rest) ≡ true → a ≡ next.0
first_neighbour first next rest me a once here joined =
    let parts = or_parts (is_on first.0 (next ∷ rest)) (has_repeat (next ∷ rest)) once in
    let more = or_parts (next.0 == first.0) (is_on first.0 rest) parts.0 in
    let gone : is_on me (next ∷ rest) ≡ false = ap (λ (n : ℕ). is_on n (next ∷ rest)) (eqb-true me first.0 here) ∙ parts.0 in
    is_next me a first.0 next.0 (joins me a (next ∷ rest)) more.0 here (joins_none (next ∷ rest) me a gone) joined

before_last : (me a first last : ℕ) → (me == first) ≡ false → ((me == first && a == last) || (a == first && me == last)) || false ≡ true → a ≡ first
before_last me a first last apart joined = grind (arith, nat_tests)

not_here : (me a first next : ℕ) (later : Bool) → (me == first) ≡ false → (me == next) ≡ false → ((me == first && a == next) || (a == first && me == next)) || later ≡ true → later ≡ true
not_here me a first next later one other joined = grind (arith, nat_tests)

-- and the last one has one neighbour as well
last_neighbour : (path : List EdgeId) (me a b : ℕ) → has_repeat path ≡ false → is_last me path ≡ true → joins me a path ≡ true → joins me b path ≡ true → a ≡ b
last_neighbour [] me a b once last one other = absurd (cc (one))
last_neighbour (only ∷ []) me a b once last one other = absurd (cc (one))
last_neighbour (first ∷ next ∷ []) me a b once last one other =
    let parts = or_parts (is_on first.0 (next ∷ [])) (has_repeat (next ∷ [])) once in
    let apart : (me == first.0) ≡ false = not_first first (next ∷ []) me parts.0 (last_on (next ∷ []) me last) in
    before_last me a first.0 next.0 apart one ∙ sym (before_last me b first.0 next.0 apart other)
last_neighbour (first ∷ next ∷ third ∷ rest) me a b once last one other =
    let parts = or_parts (is_on first.0 (next ∷ third ∷ rest)) (has_repeat (next ∷ third ∷ rest)) once in
    let more = or_parts (is_on next.0 (third ∷ rest)) (has_repeat (third ∷ rest)) parts.1 in
    let from_first : (me == first.0) ≡ false = not_first first (next ∷ third ∷ rest) me parts.0 (last_on (next ∷ third ∷ rest) me last) in
    let from_next : (me == next.0) ≡ false = not_first next (third ∷ rest) me more.0 (last_on (third ∷ rest) me last) in
    last_neighbour (next ∷ third ∷ rest) me a b parts.1 last
    (not_here me a first.0 next.0 (joins me a (next ∷ third ∷ rest)) from_first from_next one)
    (not_here me b first.0 next.0 (joins me b (next ∷ third ∷ rest)) from_first from_next other)

-- a terminal edge of a path has one neighbour
pub one_neighbour : (path : List EdgeId) (me a b : ℕ) → has_repeat path ≡ false → is_first me path || is_last me path ≡ true → joins me a path ≡ true → joins me b path ≡ true → a ≡ b
one_neighbour [] me a b once terminal one other = absurd (cc (one))
one_neighbour (only ∷ []) me a b once terminal one other = absurd (cc (one))
one_neighbour (first ∷ next ∷ rest) me a b once terminal one other = by (me == first.0) refl terminal where
  by : (t : Bool) → (me == first.0) ≡ t → t || is_last me (first ∷ next ∷ rest) ≡ true → a ≡ b
  by true here side = first_neighbour first next rest me a once here one ∙ sym (first_neighbour first next rest me b once here other)
  by false away side = last_neighbour (first ∷ next ∷ rest) me a b once side one other

pub has_one_end : (plan : Plan) (me : EdgeId) → IsChecked plan → HasOneEnd plan me
has_one_end plan me checked p q one other first second w =
    one_neighbour one.row.path me.0 p.peer.0 q.peer.0 (row_holds (IsWireOf plan) plan.wires p.wire.0 one.row one.is checked.wires).once
    (sym one.terminal ∙ first) one.joined (subst (λ (row : WirePlan). joins me.0 q.peer.0 row.path ≡ true) same other.joined)
  where
    rows : Some other.row ≡ Some one.row
    rows = sym other.is ∙ (ap (slice_get plan.wires) (sym w) ∙ one.is)

    same : other.row ≡ one.row
    same = cc (rows)
