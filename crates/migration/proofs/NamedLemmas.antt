-- What rows name is found.
use Rattle.std.proofs.Common.{◌≡◌, ◌<◌, ◌≤◌, ◌==◌, ◌+◌, ◌++◌, ◌||◌, ◌∙◌, ◌^◌, ℕ, zero, suc, Bool, true, false, List, [], ◌∷◌, length, map, get_or, slice_get, Option, Some, None, option_map, Ok, append-nil, refl, sym, ap, arith, inl, inr, if◌then◌else◌}
use Rattle.std.proofs.lemmas.Bool.{cases_Bool, eqb-true, lt-ltb, false≢true}
use Rattle.std.proofs.lemmas.List.{append_assoc, length-map}
use Rattle.std.proofs.lemmas.Slice.Eq.{bytes_eq-Decides}
use Rattle.std.specs.List.{All, AllByRecursion, list_any, position_or_len}
use Rattle.std.specs.Str.{bytes_eq}
use Rattle.net_values.specs.Name.{IsName}
use Rattle.net_values.proofs.NumberLemmas.{same_number}
use Rattle.net_values.proofs.RowLemmas.{same_octets, octets_apart_back}
use Rattle.net_base.specs.plan.Accepted.{NonePair}
use Rattle.net_base.specs.plan.Faults.{clash_after, first_clash}
use Rattle.command_text.specs.declared.row_place.RowPlace.{RowPlace}
use Rattle.plan_names.specs.Names.{place_in}
use Rattle.scenario_text.specs.References.{group_in, group_names, groups_differ, number_at, without_repeat}
use Rattle.migration.specs.Groups.{group_name}
use Rattle.line_shapes.specs.Words.{name_or_empty}
use Rattle.migration.proofs.GroupNameLemmas.{group_apart}
use Rattle.migration.proofs.OfferLemmas.{use_of}
use Rattle.migration.proofs.RowLemmas.{group_of}
use Rattle.line_shapes.proofs.NameLemmas.{row_name}

first_at : (names : List (List ℕ)) (i : ℕ) → i < length names → ((j : ℕ) → j < i → bytes_eq (get_or names i []) (get_or names j []) ≡ false)
    → position_or_len (bytes_eq (get_or names i [])) names ≡ i
first_at [] i lt apart = absurd (omega arith)
first_at (name ∷ names) zero lt apart = rw (same_octets name) refl
first_at (name ∷ names) (suc i) lt apart =
    rw (apart 0 (omega arith), first_at names i (omega arith) (λ j under. apart (suc j) (omega arith))) (omega arith)

place_found : (names : List (List ℕ)) (i : ℕ) → NonePair bytes_eq names → i < length names → place_in names (get_or names i []) ≡ Some i
place_found names i once lt =
    let first : position_or_len (bytes_eq (get_or names i [])) names ≡ i = first_at names i lt (λ j under. octets_apart_back (get_or names j []) (get_or names i []) (once j i [] under lt)) in
    rw (first, lt-ltb i (length names) lt) refl

-- the name of a row is found at its place
pub row_found : {Y : Type 0} (f : Y → List ℕ) (rows : List Y) (i : ℕ) → NonePair bytes_eq (map f rows) → i < length rows
    → place_in (map f rows) (name_or_empty (option_map f (slice_get rows i))) ≡ Some i
row_found f rows i once lt = rw (row_name f rows i lt) (place_found (map f rows) i once (rw length-map lt))

pub row_named : {Y : Type 0} (f : Y → List ℕ) (rows : List Y) (i : ℕ) → All IsName (map f rows) → i < length rows → IsName (name_or_empty (option_map f (slice_get rows i)))
row_named f rows i each lt = rw (row_name f rows i lt) (each i [] (rw length-map lt))

-- each is the number of a group
abbrev pub AreNumbers : List ℕ → Type 0
AreNumbers us = AllByRecursion (λ u. (1 ≤ u) × (u < 2 ^ 32)) us

same_test : (a b : ℕ) → a < 2 ^ 32 → b < 2 ^ 32 → bytes_eq (group_name a) (group_name b) ≡ (a == b)
same_test a b p q = elim (cases_Bool (a == b)) [
  | inl same ↦
      let e : a ≡ b = eqb-true a b same in
      ap (λ n. bytes_eq (group_name a) (group_name n)) (sym e) ∙ same_octets (group_name a) ∙ sym same
  | inr other ↦ elim (cases_Bool (bytes_eq (group_name a) (group_name b))) [
    | inl same ↦
        let e : a ≡ b = group_apart a b p q ((bytes_eq-Decides (group_name a) (group_name b)).0 same) in
        cc (sym other ∙ ap (λ n. a == n) (sym e) ∙ same_number a)
    | inr apart ↦ apart ∙ sym other
  ]
]

module _ (g : ℕ) (small : g < 2 ^ 32) where
  abbrev place_of : List ℕ → ℕ
  place_of used = position_or_len (bytes_eq (group_name g)) (group_names (map group_of used))

  group_place : (used : List ℕ) → AreNumbers used → list_any (λ old. old == g) used ≡ true
      → (place_of used < length (group_names (map group_of used))) × (number_at (map group_of used) (place_of used) ≡ g)
  group_place [] are has = absurd (false≢true has)
  group_place (u ∷ us) are has = elim (cases_Bool (u == g)) [
    | inl same ↦
        let e : u ≡ g = eqb-true u g same in
        let test : bytes_eq (group_name g) (group_name u) ≡ true = ap (λ n. bytes_eq (group_name g) (group_name n)) e ∙ same_octets (group_name g) in
        (rw test (omega arith), rw test e)
    | inr other ↦
        let test : bytes_eq (group_name g) (group_name u) ≡ false = octets_apart_back (group_name u) (group_name g) (same_test u g are.0.1 small ∙ other) in
        let later = group_place us are.1 (rw other at has) in
        let more : place_of (u ∷ us) ≡ suc (place_of us) = rw test (omega arith) in
        (omega (arith, more, later.0), ap (λ n. number_at (map group_of (u ∷ us)) n) more ∙ later.1)
  ]

  -- the group of an end is found
  pub group_found : (used : List ℕ) (row : RowPlace) → AreNumbers used → (g == 0 || list_any (λ old. old == g) used) ≡ true → group_in (map group_of used) row (use_of g) ≡ Ok g
  group_found used row are has = elim (cases_Bool (g == 0)) [
    | inl zero_is ↦
        let e : g ≡ 0 = eqb-true g 0 zero_is in
        rw zero_is (ap Ok (sym e))
    | inr some ↦
        let found = group_place used are (rw some at has) in
        rw (some, lt-ltb (place_of used) (length (group_names (map group_of used))) found.0) (ap Ok found.1)
  ]

-- no name of a group stands twice where no number does
names_are : (used : List ℕ) → group_names (map group_of used) ≡ map group_name used
names_are [] = refl
names_are (u ∷ us) = ap (λ (l : List (List ℕ)). group_name u ∷ l) (names_are us)

any_is : (before : List ℕ) (x : ℕ) → AreNumbers before → x < 2 ^ 32 → list_any (λ old. bytes_eq old (group_name x)) (map group_name before) ≡ list_any (λ old. old == x) before
any_is [] x are small = refl
any_is (u ∷ us) x are small = rw (same_test u x are.0.1 small, any_is us x are.1 small) refl

pub and_number : (before : List ℕ) (x : ℕ) → AreNumbers before → (1 ≤ x) × (x < 2 ^ 32) → AreNumbers (before ++ x ∷ [])
and_number [] x are is = (is, tt)
and_number (u ∷ us) x are is = (are.0, and_number us x are.1 is)

map_and : (before : List ℕ) (x : ℕ) → map group_name (before ++ x ∷ []) ≡ map group_name before ++ group_name x ∷ []
map_and [] x = refl
map_and (u ∷ us) x = ap (λ (l : List (List ℕ)). group_name u ∷ l) (map_and us x)

clash_is : (before : List ℕ) (row : ℕ) (rest : List ℕ) → AreNumbers before → AreNumbers rest
    → clash_after bytes_eq (map group_name before) row (map group_name rest) ≡ clash_after (λ a b. a == b) before row rest
clash_is before row [] are rest = refl
clash_is before row (x ∷ xs) are rest =
    rw (any_is before x are rest.0.1, ← map_and before x, clash_is (before ++ x ∷ []) (row + 1) xs (and_number before x are rest.0) rest.1) refl

pub groups_once : (used : List ℕ) → AreNumbers used → first_clash (λ a b. a == b) used ≡ None → groups_differ (map group_of used) ≡ Ok true
groups_once used are once = ap (λ names. without_repeat (first_clash bytes_eq names)) (names_are used) ∙ ap without_repeat (clash_is [] 0 used tt are ∙ once)

-- one number more behind those that differ
if_none : (test : Bool) (row : ℕ) (rest : Option ℕ) → (if test then Some row else rest) ≡ None → (test ≡ false) × (rest ≡ None)
if_none true row rest e = cc e
if_none false row rest e = (refl, e)

clash_snoc : (before : List ℕ) (row : ℕ) (xs : List ℕ) (x : ℕ) → clash_after (λ a b. a == b) before row xs ≡ None → list_any (λ old. old == x) (before ++ xs) ≡ false
    → clash_after (λ a b. a == b) before row (xs ++ x ∷ []) ≡ None
clash_snoc before row [] x none free = rw (rw (append-nil before) at free) refl
clash_snoc before row (y ∷ ys) x none free =
    let both = if_none (list_any (λ old. old == y) before) row (clash_after (λ a b. a == b) (before ++ y ∷ []) (row + 1) ys) none in
    rw both.0 (clash_snoc (before ++ y ∷ []) (row + 1) ys x both.1 (rw (append_assoc before (y ∷ []) ys) free))

pub once_more : (xs : List ℕ) (x : ℕ) → first_clash (λ a b. a == b) xs ≡ None → list_any (λ old. old == x) xs ≡ false → first_clash (λ a b. a == b) (xs ++ x ∷ []) ≡ None
once_more xs x none free = clash_snoc [] 0 xs x none free
