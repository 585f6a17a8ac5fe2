-- Names by their places.
use Rattle.std.proofs.Common.{◌≡◌, ◌<◌, ◌≤◌, ◌∙◌, ◌+◌, ◌==◌, ◌||◌, not, cond, ℕ, zero, suc, Bool, true, false, List, [], ◌∷◌, length, take, drop, get_or, Option, Some, None, IfSome, position, nat_lt, refl, sym, ap, arith, zero-add}
use Rattle.std.proofs.lemmas.Bool.{false_from_ne_true, lt-ltb, not-true, ltb-true, not-false}
use Rattle.std.proofs.lemmas.List.{drop_more, get_or-take, get_or_default, length-take-le}
use Rattle.std.proofs.lemmas.List.Folds.{list_any_none, list_any_at}
use Rattle.std.proofs.lemmas.List.Quantifiers.{position-Some}
use Rattle.std.proofs.lemmas.List.Sums.{position_or_len_is}
use Rattle.std.proofs.lemmas.Bool.Decides.{nat_tests}
use Rattle.std.specs.List.{position_or_len, list_any}
use Rattle.std.specs.Map.{lookup}
use Rattle.std.specs.Str.{bytes_eq}
use Rattle.std.specs.Cmp.Lexicographic.{nat_list_eq_equiv}
use Rattle.net_values.proofs.OptionLemmas.{within_of, placed}
use Rattle.net_values.proofs.RowLemmas.{same_octets, octets_apart_back}
use Rattle.net_base.specs.plan.Faults.{clash_after}
use Rattle.net_base.proofs.ClashLemmas.{clash_found, clash_passed}
use Rattle.plan_names.specs.Names.{place_in, FindsNames}
use Rattle.plan_names.specs.Planned.{AreNames}
use denote.Ref.{Bor}

-- the first place that passes, of places from i on
abbrev pub place_from : ℕ → (List ℕ → Bool) → List (List ℕ) → Option ℕ
place_from i p [] = None
place_from i p (x ∷ xs) = cond (p x) (Some i) (place_from (i + 1) p xs)

-- the same by its number
pub place_from_position : (i : ℕ) (p : List ℕ → Bool) (xs : List (List ℕ)) → place_from i p xs ≡ cond (nat_lt (position_or_len p xs) (length xs)) (Some (i + position_or_len p xs)) None
place_from_position i p [] = refl
place_from_position i p (x ∷ xs) = ap (λ o. cond (p x) (Some i) o) (place_from_position (i + 1) p xs) ∙ placed (p x) i (position_or_len p xs) (length xs)

pub place_from_start : (p : List ℕ → Bool) (xs : List (List ℕ)) → place_from 0 p xs ≡ position p xs
place_from_start p xs = place_from_position 0 p xs ∙ ap (λ n. cond (nat_lt (position_or_len p xs) (length xs)) (Some n) None) (zero-add (position_or_len p xs))

-- a place is one of the list
pub place_within : (names : List (List ℕ)) (name : List ℕ) → IfSome (place_in names name) (λ place. place < length names)
place_within names name = within_of _ _ _ (ltb-true (position_or_len (bytes_eq name) names) (length names))

-- the entries give each name its first place from i on
pub record FindsFrom (i : ℕ) (names : List (List ℕ)) (entries : List (Bor (List ℕ) × ℕ)) : Type 0 where
  pub place : (name : Bor (List ℕ)) → lookup (λ k. bytes_eq name.now k.now) entries ≡ place_from i (bytes_eq name.now) (drop i names)

-- one more name in front
pub finds_more : (i j : ℕ) (names : List (List ℕ)) (x : List ℕ) (old new : List (Bor (List ℕ) × ℕ)) → i < length names → i + 1 ≡ j → x ≡ get_or names i x → FindsFrom j names old
    → ((q : Bor (List ℕ)) → lookup (λ k. bytes_eq q.now k.now) new ≡ cond (bytes_eq x q.now) (Some i) (lookup (λ k. bytes_eq q.now k.now) old)) → FindsFrom i names new
finds_more i j names x old new within next at finds updates = record {
  place = λ q.
      let parted : drop i names ≡ x ∷ drop (i + 1) names = drop_more names i x within ∙ ap (λ y. y ∷ drop (i + 1) names) (sym at) in
      let rest : lookup (λ k. bytes_eq q.now k.now) old ≡ place_from (i + 1) (bytes_eq q.now) (drop (i + 1) names) =
      finds.place q ∙ ap (λ n. place_from n (bytes_eq q.now) (drop n names)) (sym next) in
      updates q ∙ ap (λ b. cond b (Some i) (lookup (λ k. bytes_eq q.now k.now) old)) (nat_list_eq_equiv.symm x q.now) ∙ ap (λ o. cond (bytes_eq q.now x) (Some i) o) rest
      ∙ ap (λ xs. place_from i (bytes_eq q.now) xs) (sym parted);
}

-- all names
pub finds_all : (i : ℕ) (names : List (List ℕ)) (entries : List (Bor (List ℕ) × ℕ)) → i ≤ 0 → FindsFrom i names entries → FindsNames names entries
finds_all zero names entries none finds = record { place = λ q. finds.place q ∙ place_from_start (bytes_eq q.now) names }
finds_all (suc i) names entries none finds = absurd (omega arith)

any_turned : (name : List ℕ) (xs : List (List ℕ)) → list_any (λ old. bytes_eq old name) xs ≡ list_any (bytes_eq name) xs
any_turned name [] = refl
any_turned name (x ∷ xs) = ap (λ b. b || list_any (λ old. bytes_eq old name) xs) (nat_list_eq_equiv.symm x name) ∙ ap (λ b. bytes_eq name x || b) (any_turned name xs)

-- none of the front passes, so none of its places does
none_at : (p : List ℕ → Bool) (xs : List (List ℕ)) (at k : ℕ) → k < at → at ≤ length xs → list_any p (take at xs) ≡ false → p (get_or xs k []) ≡ false
none_at p xs at k less within none = false_from_ne_true (p (get_or xs k [])) (λ h.
    let below : k < length (take at xs) = rw (length-take-le at xs within) less in
    let some : list_any p (take at xs) ≡ true = list_any_at p (take at xs) k [] below (rw (get_or-take at xs k [] less) h) in
    cc)

-- the first place of a name has none before it
none_before : (name : List ℕ) (xs : List (List ℕ)) (at : ℕ) → place_in xs name ≡ Some at → list_any (bytes_eq name) (take at xs) ≡ false
none_before name xs at e =
    let within : at < length xs = (position-Some (bytes_eq name) xs at [] e).0 in
    let size : length (take at xs) ≡ at = length-take-le at xs (omega (arith, within)) in
    list_any_none (bytes_eq name) (take at xs) (λ k d below.
    let less : k < at = omega (arith, size, below) in
    rw (get_or-take at xs k d less) ((position-Some (bytes_eq name) xs at d e).2 k less))

-- a place with none before it is the first
first_with_none : (name : List ℕ) (xs : List (List ℕ)) (at : ℕ) → at < length xs → bytes_eq name (get_or xs at []) ≡ true → list_any (bytes_eq name) (take at xs) ≡ false → place_in xs name ≡ Some at
first_with_none name xs at within is none =
    let reach : at ≤ length xs = omega (arith, within) in
    let first : position_or_len (bytes_eq name) xs ≡ at = position_or_len_is (bytes_eq name) xs at [] reach (λ k less. none_at (bytes_eq name) xs at k less reach none) (λ _. is) in
    rw first (grind (arith, nat_tests))

-- whether this is that place
abbrev pub is_place : Option ℕ → ℕ → Bool
is_place None at = false
is_place (Some n) at = n == at

decided : (before : Bool) (found : Option ℕ) (at : ℕ) → (found ≡ Some at → before ≡ false) → (before ≡ false → found ≡ Some at) → is_place found at ≡ not before
decided true None at there back = refl
decided false None at there back = absurd (cc (back refl))
decided true (Some n) at there back = grind (arith, nat_tests)
decided false (Some n) at there back = grind (arith, nat_tests)

-- the name at a place stands nowhere before it where this is its place
pub first_there : (names : List (List ℕ)) (at : ℕ) (name : List ℕ) (found : Option ℕ) → at < length names → name ≡ get_or names at [] → found ≡ place_in names name
    → is_place found at ≡ not (list_any (λ old. bytes_eq old (get_or names at [])) (take at names))
first_there names at name found within is e =
    let same : list_any (λ old. bytes_eq old (get_or names at [])) (take at names) ≡ list_any (bytes_eq name) (take at names) = rw (← is) (any_turned name (take at names)) in
    rw same (decided (list_any (bytes_eq name) (take at names)) found at (λ p. none_before name names at (sym e ∙ p))
    (λ p. e ∙ first_with_none name names at within (rw (← is) (nat_list_eq_equiv.refl name)) p))

-- the name at a place stands nowhere before it, so the search goes on behind it
pub passed_at : (names : List (List ℕ)) (at : ℕ) → at < length names → not (list_any (λ old. bytes_eq old (get_or names at [])) (take at names)) ≡ true
    → clash_after bytes_eq (take (at + 1) names) (at + 1) (drop (at + 1) names) ≡ clash_after bytes_eq (take at names) at (drop at names)
passed_at names at within e =
    clash_passed bytes_eq [] names at (get_or names at []) (get_or_default names at [] (get_or names at []) within) within (not-true _ e)

-- the name at a place stands before it, so the search ends there
pub found_at : (names : List (List ℕ)) (at : ℕ) → at < length names → not (list_any (λ old. bytes_eq old (get_or names at [])) (take at names)) ≡ false
    → clash_after bytes_eq (take at names) at (drop at names) ≡ Some at
found_at names at within e =
    clash_found bytes_eq [] names at (get_or names at []) (get_or_default names at [] (get_or names at []) within) within (not-false _ e)

-- ---- each of names that differ is found at its place

first_at : (names : List (List ℕ)) (i : ℕ) → i < length names → ((j : ℕ) → j < i → bytes_eq (get_or names i []) (get_or names j []) ≡ false)
    → position_or_len (bytes_eq (get_or names i [])) names ≡ i
first_at [] i lt apart = absurd (omega arith)
first_at (name ∷ names) zero lt apart = rw (same_octets name) refl
first_at (name ∷ names) (suc i) lt apart =
    rw (apart 0 (omega arith), first_at names i (omega arith) (λ j under. apart (suc j) (omega arith))) (omega arith)

pub place_found : (names : List (List ℕ)) (i : ℕ) → AreNames names → i < length names → place_in names (get_or names i []) ≡ Some i
place_found names i are lt =
    let first : position_or_len (bytes_eq (get_or names i [])) names ≡ i = first_at names i lt (λ j under. octets_apart_back (get_or names j []) (get_or names i []) (are.once j i [] under lt)) in
    rw (first, lt-ltb i (length names) lt) refl
