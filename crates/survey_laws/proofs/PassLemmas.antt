-- An edge has an end of a wire exactly where the wire's path leads over it, and ends it where it stands first or last there.
use Rattle.std.proofs.Common.{◌≡◌, ◌≤◌, ◌<◌, ◌+◌, ◌||◌, ◌&&◌, ◌∙◌, ℕ, zero, suc, Bool, true, false, nat_eq, length, List, [], ◌∷◌, Option, Some, None, slice_get, refl, sym, ap, subst, inl, inr, arith}
use Rattle.std.specs.List.{All, list_any}
use Rattle.std.proofs.lemmas.Bool.{cases_Bool}
use Rattle.std.proofs.lemmas.Bool.Decides.{nat_tests}
use Rattle.std.proofs.lemmas.List.Elements.{All-head, All-tail}
use Rattle.std.proofs.lemmas.List.Folds.{list_any-append}
use Rattle.net_values.proofs.BoolLemmas.{and_false, and_true, clash, or_false}
use Rattle.net_base.specs.declared.plan.Plan.{Plan}
use Rattle.net_base.specs.declared.plan.places.EdgeId.{EdgeId}
use Rattle.net_base.specs.declared.plan.places.WireId.{WireId}
use Rattle.net_base.specs.declared.plan.wire_plan.WirePlan.{WirePlan}
use Rattle.net_base.specs.plan.Accepted.{IsChecked, IsWireOf}
use Rattle.net_base.specs.plan.Paths.{is_first, is_last}
use Rattle.net_base.specs.plan.Places.{wire_row}
use Rattle.edge_model.specs.declared.end_place.EndPlace.{EndPlace}
use Rattle.edge_model.specs.EndPlaces.{ends_here, is_end_of_wire, is_of_wire, is_terminal, passes, places_along, places_at, places_from}
use Rattle.survey_laws.specs.Faults.{is_end_of, is_on_path}

-- ---- one wire

-- a path of two edges or more
abbrev pub is_long : List EdgeId → Bool
is_long [] = false
is_long (last ∷ []) = false
is_long (first ∷ next ∷ rest) = true

abbrev pub is_among : ℕ → List EdgeId → Bool
is_among me path = list_any (λ (step : EdgeId). nat_eq me step.0) path

pub two_parts : (x f n : Bool) → (x && (f || n)) || (x && false) ≡ x && (f || (n || false))
two_parts true f n = or_false (f || n) ∙ ap (λ (b : Bool). f || b) (sym (or_false n))
two_parts false f n = refl

pub more_parts : (x f n m : Bool) → (x && (f || n)) || (x && (n || m)) ≡ x && (f || (n || m))
more_parts true true n m = refl
more_parts true false true m = refl
more_parts true false false m = refl
more_parts false f n m = refl

-- the places at a segment are there where the edge is one of the two
at_segment : (wire at : WireId) (row : WirePlan) (me : EdgeId) (segment : ℕ) (first next : EdgeId)
    → list_any (is_of_wire wire) (places_at at row me segment first next) ≡ nat_eq at.0 wire.0 && (nat_eq me.0 first.0 || nat_eq me.0 next.0)
at_segment wire at row me segment first next = elim (cases_Bool (nat_eq me.0 first.0)) [
  | inl here ↦ rw here (or_false (nat_eq at.0 wire.0) ∙ sym (and_true (nat_eq at.0 wire.0)))
  | inr away ↦ elim (cases_Bool (nat_eq me.0 next.0)) [
    | inl there ↦ rw (away, there) (or_false (nat_eq at.0 wire.0) ∙ sym (and_true (nat_eq at.0 wire.0)))
    | inr gone ↦ rw (away, gone) (sym (and_false (nat_eq at.0 wire.0)))
  ]
]

along : (wire at : WireId) (row : WirePlan) (me : EdgeId) (segment : ℕ) (path : List EdgeId)
    → list_any (is_of_wire wire) (places_along at row me segment path) ≡ nat_eq at.0 wire.0 && (is_long path && is_among me.0 path)
along wire at row me segment [] = sym (and_false (nat_eq at.0 wire.0))
along wire at row me segment (last ∷ []) = sym (and_false (nat_eq at.0 wire.0))
along wire at row me segment (first ∷ next ∷ rest) =
    list_any-append (is_of_wire wire) (places_at at row me segment first next) (places_along at row me (segment + 1) (next ∷ rest))
    ∙ rw (at_segment wire at row me segment first next, along wire at row me (segment + 1) (next ∷ rest)) (by rest)
  where
    by : (rest : List EdgeId)
        → (nat_eq at.0 wire.0 && (nat_eq me.0 first.0 || nat_eq me.0 next.0)) || (nat_eq at.0 wire.0 && (is_long (next ∷ rest) && is_among me.0 (next ∷ rest)))
        ≡ nat_eq at.0 wire.0 && (nat_eq me.0 first.0 || (nat_eq me.0 next.0 || is_among me.0 rest))
    by [] = two_parts (nat_eq at.0 wire.0) (nat_eq me.0 first.0) (nat_eq me.0 next.0)
    by (third ∷ more) = more_parts (nat_eq at.0 wire.0) (nat_eq me.0 first.0) (nat_eq me.0 next.0) (is_among me.0 (third ∷ more))

-- whether the edge ends the wire is the same of each of its places
each_ends : (a b t : Bool) → (a && t) || (b && t) ≡ (a || b) && t
each_ends true b true = refl
each_ends true b false = and_false b
each_ends false b t = refl

end_at_segment : (wire at : WireId) (row : WirePlan) (me : EdgeId) (segment : ℕ) (first next : EdgeId)
    → list_any (is_end_of_wire wire) (places_at at row me segment first next) ≡ list_any (is_of_wire wire) (places_at at row me segment first next) && is_terminal row me
end_at_segment wire at row me segment first next = elim (cases_Bool (nat_eq me.0 first.0)) [
  | inl here ↦ rw here (or_false (nat_eq at.0 wire.0 && is_terminal row me) ∙ ap (λ (b : Bool). b && is_terminal row me) (sym (or_false (nat_eq at.0 wire.0))))
  | inr away ↦ elim (cases_Bool (nat_eq me.0 next.0)) [
    | inl there ↦ rw (away, there) (or_false (nat_eq at.0 wire.0 && is_terminal row me) ∙ ap (λ (b : Bool). b && is_terminal row me) (sym (or_false (nat_eq at.0 wire.0))))
    | inr gone ↦ rw (away, gone) refl
  ]
]

end_along : (wire at : WireId) (row : WirePlan) (me : EdgeId) (segment : ℕ) (path : List EdgeId)
    → list_any (is_end_of_wire wire) (places_along at row me segment path) ≡ list_any (is_of_wire wire) (places_along at row me segment path) && is_terminal row me
end_along wire at row me segment [] = refl
end_along wire at row me segment (last ∷ []) = refl
end_along wire at row me segment (first ∷ next ∷ rest) =
    list_any-append (is_end_of_wire wire) (places_at at row me segment first next) (places_along at row me (segment + 1) (next ∷ rest))
    ∙ (rw (end_at_segment wire at row me segment first next, end_along wire at row me (segment + 1) (next ∷ rest))
    (each_ends (list_any (is_of_wire wire) (places_at at row me segment first next)) (list_any (is_of_wire wire) (places_along at row me (segment + 1) (next ∷ rest))) (is_terminal row me))
    ∙ ap (λ (b : Bool). b && is_terminal row me) (sym (list_any-append (is_of_wire wire) (places_at at row me segment first next) (places_along at row me (segment + 1) (next ∷ rest)))))

-- an edge that stands first or last stands on the path
first_among : (me : ℕ) (path : List EdgeId) → is_first me path ≡ true → is_among me path ≡ true
first_among me [] is = clash is
first_among me (first ∷ rest) is = rw is refl

last_among : (me : ℕ) (path : List EdgeId) → is_last me path ≡ true → is_among me path ≡ true
last_among me [] is = clash is
last_among me (last ∷ []) is = rw is refl
last_among me (first ∷ next ∷ rest) is = later (nat_eq me first.0) (last_among me (next ∷ rest) is)
  where
    later : (here : Bool) {there : Bool} → there ≡ true → here || there ≡ true
    later true is = refl
    later false is = is

terminal_among : (me : EdgeId) (row : WirePlan) → is_terminal row me ≡ true → is_among me.0 row.path ≡ true
terminal_among me row is = by (is_first me.0 row.path) refl is
  where
    by : (b : Bool) → is_first me.0 row.path ≡ b → b || is_last me.0 row.path ≡ true → is_among me.0 row.path ≡ true
    by true first there = first_among me.0 row.path first
    by false first there = last_among me.0 row.path there

implied_by : (x a t : Bool) → (t ≡ true → a ≡ true) → (x && a) && t ≡ x && t
implied_by x a true follows = ap (λ (b : Bool). (x && b) && true) (follows refl) ∙ ap (λ (b : Bool). b && true) (and_true x)
implied_by x a false follows = and_false (x && a) ∙ sym (and_false x)

-- ---- the wires of a plan

-- what a test says of the places along a wire, where it is this one
module _ (me : EdgeId) (wire : WireId) (test : EndPlace → Bool) (of : WirePlan → Bool) where
  abbrev IsSaidOf : ℕ → WirePlan → Type 0
  IsSaidOf k row = list_any test (places_along (record { 0 = k }) row me 0 row.path) ≡ nat_eq k wire.0 && of row

  abbrev said_of : Option WirePlan → Bool
  said_of None = false
  said_of (Some row) = of row

  -- no place of later wires
  none_later : (k : ℕ) (rows : List WirePlan) → ((n : ℕ) (row : WirePlan) → slice_get rows n ≡ Some row → IsSaidOf (k + n) row) → wire.0 < k → list_any test (places_from me k rows) ≡ false
  none_later k [] said less = refl
  none_later k (row ∷ rows) said less =
      let other : nat_eq k wire.0 ≡ false = grind (arith, nat_tests, less) in
      let here : list_any test (places_along (record { 0 = k }) row me 0 row.path) ≡ false = subst (λ (n : ℕ). IsSaidOf n row) (plus_none k) (said 0 row refl) ∙ ap (λ (b : Bool). b && of row) other in
      let more : wire.0 < k + 1 = omega (arith, less) in
      list_any-append test (places_along (record { 0 = k }) row me 0 row.path) (places_from me (k + 1) rows)
      ∙ rw (here, none_later (k + 1) rows (λ n other_row is. subst (λ (m : ℕ). IsSaidOf m other_row) (plus_next k n) (said (suc n) other_row is)) more) refl
    where
      plus_none : (k : ℕ) → k + 0 ≡ k
      plus_none k = omega (arith)

      plus_next : (k n : ℕ) → k + suc n ≡ (k + 1) + n
      plus_next k n = omega (arith)

  -- the place of the wire among these rows decides
  said_from : (k n : ℕ) (rows : List WirePlan) → ((n : ℕ) (row : WirePlan) → slice_get rows n ≡ Some row → IsSaidOf (k + n) row) → k + n ≡ wire.0
      → list_any test (places_from me k rows) ≡ said_of (slice_get rows n)
  said_from k n [] said at = refl
  said_from k zero (row ∷ rows) said at =
      let same : nat_eq k wire.0 ≡ true = grind (arith, nat_tests, at) in
      let here : list_any test (places_along (record { 0 = k }) row me 0 row.path) ≡ of row = subst (λ (n : ℕ). IsSaidOf n row) (plus_none k) (said 0 row refl) ∙ ap (λ (b : Bool). b && of row) same in
      let less : wire.0 < k + 1 = omega (arith, at) in
      list_any-append test (places_along (record { 0 = k }) row me 0 row.path) (places_from me (k + 1) rows)
      ∙ (rw (here, none_later (k + 1) rows (λ n other_row is. subst (λ (m : ℕ). IsSaidOf m other_row) (plus_next k n) (said (suc n) other_row is)) less) (or_false (of row)))
    where
      plus_none : (k : ℕ) → k + 0 ≡ k
      plus_none k = omega (arith)

      plus_next : (k n : ℕ) → k + suc n ≡ (k + 1) + n
      plus_next k n = omega (arith)
  said_from k (suc n) (row ∷ rows) said at =
      let other : nat_eq k wire.0 ≡ false = grind (arith, nat_tests, at) in
      let here : list_any test (places_along (record { 0 = k }) row me 0 row.path) ≡ false = subst (λ (n : ℕ). IsSaidOf n row) (plus_none k) (said 0 row refl) ∙ ap (λ (b : Bool). b && of row) other in
      let next : (k + 1) + n ≡ wire.0 = omega (arith, at) in
      list_any-append test (places_along (record { 0 = k }) row me 0 row.path) (places_from me (k + 1) rows)
      ∙ (rw here (said_from (k + 1) n rows (λ m other_row is. subst (λ (m : ℕ). IsSaidOf m other_row) (plus_next k m) (said (suc m) other_row is)) next))
    where
      plus_none : (k : ℕ) → k + 0 ≡ k
      plus_none k = omega (arith)

      plus_next : (k n : ℕ) → k + suc n ≡ (k + 1) + n
      plus_next k n = omega (arith)

long_path : (path : List EdgeId) → 2 ≤ length path → is_long path ≡ true
long_path [] least = absurd (omega (arith, least))
long_path (last ∷ []) least = absurd (omega (arith, least))
long_path (first ∷ next ∷ rest) least = refl

-- a row of a checked plan
pub rows_long : (plan : Plan) → IsChecked plan → (n : ℕ) (row : WirePlan) → slice_get plan.wires n ≡ Some row → is_long row.path ≡ true
rows_long plan checked n row is = long_path row.path (at plan.wires n is checked.wires).least
  where
    at : (rows : List WirePlan) (n : ℕ) → slice_get rows n ≡ Some row → All (IsWireOf plan) rows → IsWireOf plan row
    at [] n is all = absurd (cc is)
    at (first ∷ rows) zero is all = subst (IsWireOf plan) (some_is first is) (All-head (IsWireOf plan) first rows all)
      where
        some_is : (first : WirePlan) → Some first ≡ Some row → first ≡ row
        some_is first is = cc is
    at (first ∷ rows) (suc n) is all = at rows n is (All-tail (IsWireOf plan) first rows all)

none_plus : (n : ℕ) → n ≡ 0 + n
none_plus n = omega (arith)

pub passes_on_path : (plan : Plan) (me : EdgeId) (wire : WireId) → IsChecked plan → passes plan me wire ≡ is_on_path me.0 (wire_row plan wire)
passes_on_path plan me wire checked =
    said_from me wire (is_of_wire wire) (λ row. is_among me.0 row.path) 0 wire.0 plan.wires
    (λ n row is. subst (λ (m : ℕ). IsSaidOf me wire (is_of_wire wire) (λ row. is_among me.0 row.path) m row) (none_plus n)
    (along wire (record { 0 = n }) row me 0 row.path ∙ ap (λ (b : Bool). nat_eq n wire.0 && (b && is_among me.0 row.path)) (rows_long plan checked n row is))) (sym (none_plus wire.0))
    ∙ same (wire_row plan wire)
  where
    same : (row : Option WirePlan) → said_of me wire (is_of_wire wire) (λ row. is_among me.0 row.path) row ≡ is_on_path me.0 row
    same None = refl
    same (Some row) = refl

pub ends_on_path : (plan : Plan) (me : EdgeId) (wire : WireId) → IsChecked plan → ends_here plan me wire ≡ is_end_of me.0 (wire_row plan wire)
ends_on_path plan me wire checked =
    said_from me wire (is_end_of_wire wire) (λ row. is_terminal row me) 0 wire.0 plan.wires
    (λ n row is. subst (λ (m : ℕ). IsSaidOf me wire (is_end_of_wire wire) (λ row. is_terminal row me) m row) (none_plus n)
    (end_along wire (record { 0 = n }) row me 0 row.path
    ∙ (ap (λ (b : Bool). b && is_terminal row me) (along wire (record { 0 = n }) row me 0 row.path
    ∙ ap (λ (b : Bool). nat_eq n wire.0 && (b && is_among me.0 row.path)) (rows_long plan checked n row is))
    ∙ implied_by (nat_eq n wire.0) (is_among me.0 row.path) (is_terminal row me) (terminal_among me row)))) (sym (none_plus wire.0))
    ∙ same (wire_row plan wire)
  where
    same : (row : Option WirePlan) → said_of me wire (is_end_of_wire wire) (λ row. is_terminal row me) row ≡ is_end_of me.0 row
    same None = refl
    same (Some row) = refl
