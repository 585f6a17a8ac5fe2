-- Where a plan has ends of an edge: no two of one wire beside one neighbour.
use Rattle.std.proofs.Common.{◌≡◌, ◌<◌, ◌≤◌, ◌+◌, ◌*◌, ◌++◌, ◌∙◌, ◌==◌, ◌&&◌, ℕ, zero, suc, Bool, true, false, cond, List, [], ◌∷◌, length, get_or, refl, sym, subst, arith, inl, inr}
use Rattle.std.specs.List.{All, AllByRecursion, list_any}
use Rattle.std.proofs.lemmas.Bool.{cases_Bool, eqb-true}
use Rattle.std.proofs.lemmas.Bool.Decides.{nat_tests}
use Rattle.std.proofs.lemmas.List.Elements.{All-head, All-tail}
use Rattle.net_values.proofs.BoolLemmas.{second_fails, first_fails}
use Rattle.net_values.proofs.NumberLemmas.{equal_turned}
use Rattle.net_base.specs.declared.plan.Plan.{Plan}
use Rattle.net_base.specs.declared.plan.edge_plan.EdgePlan.{EdgePlan}
use Rattle.net_base.specs.declared.plan.places.EdgeId.{EdgeId}
use Rattle.net_base.specs.declared.plan.places.WireId.{WireId}
use Rattle.net_base.specs.declared.plan.wire_plan.WirePlan.{WirePlan}
use Rattle.net_base.specs.plan.Accepted.{IsChecked, IsEdgePlan, IsWireOf}
use Rattle.net_base.specs.plan.Paths.{has_repeat}
use Rattle.label_space.specs.Labels.{numbers_end}
use Rattle.edge_model.specs.declared.end_place.EndPlace.{EndPlace}
use Rattle.edge_model.specs.EndPlaces.{end_place_at, end_places, is_at, places_along, places_at, places_from}
use Rattle.pw_ends.specs.Kept.{AreApart}

-- the edge stands on the path
abbrev stands : ℕ → List EdgeId → Bool
stands edge path = list_any (λ e. e.0 == edge) path

-- an edge that does not stand on a path has no end there
none_along : (wire : WireId) (row : WirePlan) (me : EdgeId) (segment : ℕ) (path : List EdgeId) → stands me.0 path ≡ false → places_along wire row me segment path ≡ []
none_along wire row me segment [] away = refl
none_along wire row me segment (last ∷ []) away = refl
none_along wire row me segment (first ∷ next ∷ rest) away =
    let one : (me.0 == first.0) ≡ false = equal_turned me.0 first.0 ∙ first_fails (first.0 == me.0) (stands me.0 (next ∷ rest)) away in
    let more : stands me.0 (next ∷ rest) ≡ false = second_fails (first.0 == me.0) (stands me.0 (next ∷ rest)) away in
    let two : (me.0 == next.0) ≡ false = equal_turned me.0 next.0 ∙ first_fails (next.0 == me.0) (stands me.0 rest) more in
    rw (one, two) (none_along wire row me (segment + 1) (next ∷ rest) more)

-- the ends beyond a segment whose second edge is this one
beyond : (wire : WireId) (row : WirePlan) (me first next : EdgeId) (segment : ℕ) (rest : List EdgeId) → (me.0 == next.0) ≡ true → has_repeat (first ∷ next ∷ rest) ≡ false
    → AreApart (end_place_at wire row me segment 1 first ∷ places_along wire row me (segment + 1) (next ∷ rest))
beyond wire row me first next segment [] here once = (tt, tt)
beyond wire row me first next segment (r ∷ rs) here once =
    let more : has_repeat (next ∷ r ∷ rs) ≡ false = second_fails (stands first.0 (next ∷ r ∷ rs)) (has_repeat (next ∷ r ∷ rs)) once in
    let away : stands next.0 (r ∷ rs) ≡ false = first_fails (stands next.0 (r ∷ rs)) (has_repeat (r ∷ rs)) more in
    let me_away : stands me.0 (r ∷ rs) ≡ false = subst (λ (n : ℕ). stands n (r ∷ rs) ≡ false) (sym (eqb-true me.0 next.0 here)) away in
    let others : stands first.0 (next ∷ r ∷ rs) ≡ false = first_fails (stands first.0 (next ∷ r ∷ rs)) (has_repeat (next ∷ r ∷ rs)) once in
    let differ : (r.0 == first.0) ≡ false = first_fails (r.0 == first.0) (stands first.0 rs) (second_fails (next.0 == first.0) (stands first.0 (r ∷ rs)) others) in
    rw (here, none_along wire row me (segment + 1 + 1) (r ∷ rs) me_away) ((apart wire first r differ, tt), (tt, tt))
  where
    apart : (wire : WireId) (first r : EdgeId) → (r.0 == first.0) ≡ false → (wire.0 == wire.0 && r.0 == first.0) ≡ false
    apart wire first r differ = elim (wire.0 == wire.0) as (λ v. (v && r.0 == first.0) ≡ false) [
      | true ↦ differ
      | false ↦ refl
    ]

along_apart : (wire : WireId) (row : WirePlan) (me : EdgeId) (segment : ℕ) (path : List EdgeId) → has_repeat path ≡ false → AreApart (places_along wire row me segment path)
along_apart wire row me segment [] once = tt
along_apart wire row me segment (last ∷ []) once = tt
along_apart wire row me segment (first ∷ next ∷ rest) once = elim (cases_Bool (me.0 == first.0)) [
  | inl here ↦
      (let away : stands first.0 (next ∷ rest) ≡ false = first_fails (stands first.0 (next ∷ rest)) (has_repeat (next ∷ rest)) once in
      let me_away : stands me.0 (next ∷ rest) ≡ false = subst (λ (n : ℕ). stands n (next ∷ rest) ≡ false) (sym (eqb-true me.0 first.0 here)) away in
      rw (here, none_along wire row me (segment + 1) (next ∷ rest) me_away) (tt, tt))
  | inr other ↦ elim (cases_Bool (me.0 == next.0)) [
    | inl there ↦ rw (other, there) (beyond wire row me first next segment rest there once)
    | inr no_one ↦ rw (other, no_one) (along_apart wire row me (segment + 1) (next ∷ rest) (second_fails (stands first.0 (next ∷ rest)) (has_repeat (next ∷ rest)) once))
  ]
]

-- ---- the ends of several wires

all_append : (P : EndPlace → Type 0) (xs ys : List EndPlace) → AllByRecursion P xs → AllByRecursion P ys → AllByRecursion P (xs ++ ys)
all_append P [] ys first second = second
all_append P (x ∷ xs) ys first second = (first.0, all_append P xs ys first.1 second)

all_weaker : (P Q : EndPlace → Type 0) (xs : List EndPlace) → ((x : EndPlace) → P x → Q x) → AllByRecursion P xs → AllByRecursion Q xs
all_weaker P Q [] weaker all = tt
all_weaker P Q (x ∷ xs) weaker all = (weaker x all.0, all_weaker P Q xs weaker all.1)

at_of_wire : (wire : WireId) (row : WirePlan) (me : EdgeId) (segment : ℕ) (first next : EdgeId) → AllByRecursion (λ (p : EndPlace). p.wire.0 ≡ wire.0) (places_at wire row me segment first next)
at_of_wire wire row me segment first next = elim (me.0 == first.0) as
    (λ a. AllByRecursion (λ (p : EndPlace). p.wire.0 ≡ wire.0) (cond a (end_place_at wire row me segment 0 next ∷ []) (cond (me.0 == next.0) (end_place_at wire row me segment 1 first ∷ []) []))) [
      | true ↦ (refl, tt)
      | false ↦ elim (me.0 == next.0) as (λ b. AllByRecursion (λ (p : EndPlace). p.wire.0 ≡ wire.0) (cond b (end_place_at wire row me segment 1 first ∷ []) [])) [
        | true ↦ (refl, tt)
        | false ↦ tt
      ]
    ]

along_of_wire : (wire : WireId) (row : WirePlan) (me : EdgeId) (segment : ℕ) (path : List EdgeId) → AllByRecursion (λ (p : EndPlace). p.wire.0 ≡ wire.0) (places_along wire row me segment path)
along_of_wire wire row me segment [] = tt
along_of_wire wire row me segment (last ∷ []) = tt
along_of_wire wire row me segment (first ∷ next ∷ rest) =
    all_append (λ p. p.wire.0 ≡ wire.0) (places_at wire row me segment first next) (places_along wire row me (segment + 1) (next ∷ rest)) (at_of_wire wire row me segment first next)
    (along_of_wire wire row me (segment + 1) (next ∷ rest))

-- the ends of the wires from a place on are of no earlier wire
pub from_later : (me : EdgeId) (wire : ℕ) (rows : List WirePlan) → AllByRecursion (λ (p : EndPlace). wire ≤ p.wire.0) (places_from me wire rows)
from_later me wire [] = tt
from_later me wire (row ∷ rows) =
    all_append (λ p. wire ≤ p.wire.0) (places_along (record { 0 = wire }) row me 0 row.path) (places_from me (wire + 1) rows)
    (all_weaker (λ p. p.wire.0 ≡ wire) (λ p. wire ≤ p.wire.0) (places_along (record { 0 = wire }) row me 0 row.path) (λ p same. omega (arith, same))
    (along_of_wire (record { 0 = wire }) row me 0 row.path))
    (all_weaker (λ p. wire + 1 ≤ p.wire.0) (λ p. wire ≤ p.wire.0) (places_from me (wire + 1) rows) (λ p later. omega (arith, later)) (from_later me (wire + 1) rows))

-- ends of one wire are apart from those of later ones
later_apart : (wire : ℕ) (place : EndPlace) (ys : List EndPlace) → place.wire.0 ≡ wire → AllByRecursion (λ (p : EndPlace). wire + 1 ≤ p.wire.0) ys
    → AllByRecursion (λ (other : EndPlace). is_at other.wire.0 other.peer.0 place ≡ false) ys
later_apart wire place [] same later = tt
later_apart wire place (y ∷ ys) same later =
    let differ : (y.wire.0 == place.wire.0) ≡ false = unlike y.wire.0 place.wire.0 wire same later.0 in
    (rw differ refl, later_apart wire place ys same later.1)
  where
    unlike : (a b wire : ℕ) → b ≡ wire → wire + 1 ≤ a → (a == b) ≡ false
    unlike a b wire same later = grind (arith, nat_tests)

append_apart : (wire : ℕ) (xs ys : List EndPlace) → AreApart xs → AreApart ys → AllByRecursion (λ (p : EndPlace). p.wire.0 ≡ wire) xs
    → AllByRecursion (λ (p : EndPlace). wire + 1 ≤ p.wire.0) ys → AreApart (xs ++ ys)
append_apart wire [] ys first second of_it later = second
append_apart wire (x ∷ xs) ys first second of_it later =
    (all_append (λ other. is_at other.wire.0 other.peer.0 x ≡ false) xs ys first.0 (later_apart wire x ys of_it.0 later), append_apart wire xs ys first.1 second of_it.1 later)

from_apart : (plan : Plan) (me : EdgeId) (wire : ℕ) (rows : List WirePlan) → All (IsWireOf plan) rows → AreApart (places_from me wire rows)
from_apart plan me wire [] good = tt
from_apart plan me wire (row ∷ rows) good =
    append_apart wire (places_along (record { 0 = wire }) row me 0 row.path) (places_from me (wire + 1) rows)
    (along_apart (record { 0 = wire }) row me 0 row.path (All-head (IsWireOf plan) row rows good).once)
    (from_apart plan me (wire + 1) rows (All-tail (IsWireOf plan) row rows good))
    (along_of_wire (record { 0 = wire }) row me 0 row.path)
    (from_later me (wire + 1) rows)

pub places_apart : (plan : Plan) (me : EdgeId) → IsChecked plan → AreApart (end_places plan me)
places_apart plan me checked = from_apart plan me 0 plan.wires checked.wires

-- the first label of an edge of the plan
first_in : (rows : List EdgePlan) (place : ℕ) (row : EdgePlan) → All IsEdgePlan rows → place < length rows → (16 ≤ (get_or rows place row).first_label)
    × ((get_or rows place row).first_label ≤ numbers_end)
first_in [] place row good within = absurd (omega (arith, within))
first_in (r ∷ rs) zero row good within =
    let is : IsEdgePlan r = All-head IsEdgePlan r rs good in
    (is.first_label.0, omega (arith, is.first_label.1))
first_in (r ∷ rs) (suc place) row good within = first_in rs place row (All-tail IsEdgePlan r rs good) (omega (arith, within))

pub first_in_range : (plan : Plan) (me : ℕ) (row : EdgePlan) → IsChecked plan → me < length plan.edges → (16 ≤ (get_or plan.edges me row).first_label)
    × ((get_or plan.edges me row).first_label ≤ numbers_end)
first_in_range plan me row checked within = first_in plan.edges me row checked.edges within

-- ---- how many there are

at_most : (wire : WireId) (row : WirePlan) (me : EdgeId) (segment : ℕ) (first next : EdgeId) → length (places_at wire row me segment first next) ≤ 1
at_most wire row me segment first next = elim (me.0 == first.0) as
    (λ a. length (cond a (end_place_at wire row me segment 0 next ∷ []) (cond (me.0 == next.0) (end_place_at wire row me segment 1 first ∷ []) [])) ≤ 1) [
      | true ↦ omega arith
      | false ↦ elim (me.0 == next.0) as (λ b. length (cond b (end_place_at wire row me segment 1 first ∷ []) []) ≤ 1) [
        | true ↦ omega arith
        | false ↦ omega arith
      ]
    ]

both_count : (xs ys : List EndPlace) → length (xs ++ ys) ≡ length xs + length ys
both_count [] ys = omega arith
both_count (x ∷ xs) ys = omega (arith, both_count xs ys)

along_most : (wire : WireId) (row : WirePlan) (me : EdgeId) (segment : ℕ) (path : List EdgeId) → length (places_along wire row me segment path) ≤ length path
along_most wire row me segment [] = omega arith
along_most wire row me segment (last ∷ []) = omega arith
along_most wire row me segment (first ∷ next ∷ rest) =
    omega (
      arith,
      both_count (places_at wire row me segment first next) (places_along wire row me (segment + 1) (next ∷ rest)),
      at_most wire row me segment first next,
      along_most wire row me (segment + 1) (next ∷ rest),
    )

from_most : (plan : Plan) (me : EdgeId) (wire : ℕ) (rows : List WirePlan) → All (IsWireOf plan) rows → length (places_from me wire rows) ≤ 5 * length rows
from_most plan me wire [] good = omega arith
from_most plan me wire (row ∷ rows) good =
    let is : IsWireOf plan row = All-head (IsWireOf plan) row rows good in
    let one : length (places_along (record { 0 = wire }) row me 0 row.path) ≤ length row.path = along_most (record { 0 = wire }) row me 0 row.path in
    let others : length (places_from me (wire + 1) rows) ≤ 5 * length rows = from_most plan me (wire + 1) rows (All-tail (IsWireOf plan) row rows good) in
    omega (arith, both_count (places_along (record { 0 = wire }) row me 0 row.path) (places_from me (wire + 1) rows), one, is.most, others)

pub places_few : (plan : Plan) (me : EdgeId) → IsChecked plan → length (end_places plan me) ≤ 5120
places_few plan me checked = omega (arith, from_most plan me 0 plan.wires checked.wires, checked.limits.wires)
