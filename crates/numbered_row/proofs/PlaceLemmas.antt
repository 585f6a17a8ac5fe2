-- Places in a row, each of a number.
use Rattle.std.proofs.Common.{◌≡◌, ◌==◌, ◌<◌, ◌≤◌, ◌+◌, ◌-◌, ◌&&◌, ◌++◌, ◌∷◌, ◌∙◌, [], ℕ, zero, suc, Bool, true, false, List, Option, Some, None, cond, drop, length, slice_index_or, slice_set, nat_le, nat_lt, refl, ap, sym, arith, inl, inr}
use Rattle.std.proofs.lemmas.Bool.{eqb-true}
use Rattle.std.proofs.lemmas.Bool.Decides.{nat_tests}
use Rattle.numbered_row.specs.Places.{IsNext, Places, placed_from, starts_vacant, trimmed, value_placed}

-- no number before the first one has a place
pub placed_before : {V : Type 0} (first : ℕ) (xs : List (Option V)) (n : ℕ) → n < first → value_placed first xs n ≡ None
placed_before first [] n less = refl
placed_before first (x ∷ xs) n less = ap (λ b. cond b x (value_placed (first + 1) xs n)) away ∙ placed_before (first + 1) xs n (omega (arith, less)) where
  away : (n == first) ≡ false
  away = grind (arith, nat_tests, less)

-- and none behind the last one
pub placed_past : {V : Type 0} (first : ℕ) (xs : List (Option V)) (n : ℕ) → (nat_le first n && nat_lt (n - first) (length xs)) ≡ false → value_placed first xs n ≡ None
placed_past first xs n out = by (nat_le first n) refl (nat_lt (n - first) (length xs)) refl out where
  behind : {V : Type 0} (first : ℕ) (xs : List (Option V)) → first + length xs ≤ n → value_placed first xs n ≡ None
  behind first [] past = refl
  behind first (x ∷ xs) past = ap (λ b. cond b x (value_placed (first + 1) xs n)) (away first (length xs) past) ∙ behind (first + 1) xs (omega (arith, past)) where
    away : (first l : ℕ) → first + suc l ≤ n → (n == first) ≡ false
    away first l past = grind (arith, nat_tests, past)

  by : (a : Bool) → nat_le first n ≡ a → (b : Bool) → nat_lt (n - first) (length xs) ≡ b → (a && b) ≡ false → value_placed first xs n ≡ None
  by true h true g is = absurd (cc (is))
  by true h false g is = behind first xs (let past : first + length xs ≤ n = grind (arith, nat_tests, h, g) in past)
  by false h b g is = placed_before first xs n (let less : n < first = grind (arith, nat_tests, h) in less)

-- what stands at a place is read whatever stands for no place
place_read : {V : Type 0} (first : ℕ) (xs : List (Option V)) (n : ℕ) (d : Option V) → first ≤ n → n < first + length xs → value_placed first xs n ≡ slice_index_or xs (n - first) d
place_read first [] n d from to = absurd (omega (arith, from, to))
place_read first (x ∷ xs) n d from to = by (n == first) refl (λ further. place_read (first + 1) xs n d further (omega (arith, to))) where
  by : (b : Bool) → (n == first) ≡ b → (first + 1 ≤ n → value_placed (first + 1) xs n ≡ slice_index_or xs (n - (first + 1)) d) → cond b x (value_placed (first + 1) xs n) ≡ slice_index_or (x ∷ xs) (n - first) d
  by true here rest = ap (λ (k : ℕ). slice_index_or (x ∷ xs) k d) (let none : 0 ≡ n - first = omega (arith, eqb-true n first here) in none)
  by false away rest = rest further ∙ ap (λ (k : ℕ). slice_index_or (x ∷ xs) k d) next where
    further : first + 1 ≤ n
    further = grind (arith, nat_tests, from, away)

    next : suc (n - (first + 1)) ≡ n - first
    next = omega (arith, further)

has_from : (first n l : ℕ) → (nat_le first n && nat_lt (n - first) l) ≡ true → (first ≤ n) × (n < first + l)
has_from first n l has = by (nat_le first n) refl (nat_lt (n - first) l) refl has where
  by : (a : Bool) → nat_le first n ≡ a → (b : Bool) → nat_lt (n - first) l ≡ b → (a && b) ≡ true → (first ≤ n) × (n < first + l)
  by true h true g is = (let from : first ≤ n = grind (arith, nat_tests, h) in from, let to : n < first + l = grind (arith, nat_tests, h, g) in to)
  by true h false g is = absurd (cc (is))
  by false h b g is = absurd (cc (is))

pub place_within : (first n l : ℕ) → (nat_le first n && nat_lt (n - first) l) ≡ true → n - first < l
place_within first n l has = omega (arith, (has_from first n l has).0, (has_from first n l has).1)

pub place_from : (first n l : ℕ) → (nat_le first n && nat_lt (n - first) l) ≡ true → first ≤ n
place_from first n l has = (has_from first n l has).0

pub place_reads : {V : Type 0} (first : ℕ) (xs : List (Option V)) (n : ℕ) (d : Option V) → (nat_le first n && nat_lt (n - first) (length xs)) ≡ true
    → slice_index_or xs (n - first) d ≡ value_placed first xs n
place_reads first xs n d has = sym (place_read first xs n d (has_from first n (length xs) has).0 (has_from first n (length xs) has).1)

-- another value at a place
place_put : {V : Type 0} (first : ℕ) (xs : List (Option V)) (p : ℕ) (value : Option V) (n : ℕ) → p < length xs
    → value_placed first (slice_set xs p value) n ≡ cond (n == first + p) value (value_placed first xs n)
place_put first [] p value n within = absurd (omega (arith, within))
place_put first (x ∷ xs) zero value n within = by (n == first) refl where
  by : (b : Bool) → (n == first) ≡ b → cond b value (value_placed (first + 1) xs n) ≡ cond (n == first + 0) value (cond b x (value_placed (first + 1) xs n))
  by true here = sym (ap (λ b. cond b value x) (let same : (n == first + 0) ≡ true = grind (arith, nat_tests, here) in same))
  by false away = sym (ap (λ b. cond b value (value_placed (first + 1) xs n)) (let other : (n == first + 0) ≡ false = grind (arith, nat_tests, away) in other))
place_put first (x ∷ xs) (suc p) value n within = by (n == first) refl (place_put (first + 1) xs p value n (omega (arith, within))) where
  by : (b : Bool) → (n == first) ≡ b → value_placed (first + 1) (slice_set xs p value) n ≡ cond (n == first + 1 + p) value (value_placed (first + 1) xs n)
      → cond b x (value_placed (first + 1) (slice_set xs p value) n) ≡ cond (n == first + suc p) value (cond b x (value_placed (first + 1) xs n))
  by true here rest = sym (ap (λ b. cond b value x) (let other : (n == first + suc p) ≡ false = grind (arith, nat_tests, here) in other))
  by false away rest = rest ∙ ap (λ b. cond b value (value_placed (first + 1) xs n)) (let same : (n == first + 1 + p) ≡ (n == first + suc p) = grind (arith, nat_tests) in same)

pub place_set : {V : Type 0} (first : ℕ) (xs : List (Option V)) (number : ℕ) (value : Option V) → (nat_le first number && nat_lt (number - first) (length xs)) ≡ true
    → (n : ℕ) → value_placed first (slice_set xs (number - first) value) n ≡ cond (n == number) value (value_placed first xs n)
place_set first xs number value has n = place_put first xs (number - first) value n (place_within first number (length xs) has)
    ∙ ap (λ (k : ℕ). cond (n == k) value (value_placed first xs n)) (let same : first + (number - first) ≡ number = omega (arith, place_from first number (length xs) has) in same)

-- a place without a value behind the last one
pub place_pushed : {V : Type 0} (first : ℕ) (xs : List (Option V)) (n : ℕ) → value_placed first (xs ++ None ∷ []) n ≡ value_placed first xs n
place_pushed {V} first [] n = by (n == first) where
  by : (b : Bool) → cond b (let none : Option V = None in none) None ≡ None
  by true = refl
  by false = refl
place_pushed first (x ∷ xs) n = ap (λ o. cond (n == first) x o) (place_pushed (first + 1) xs n)

-- the first place goes, which has no value
pub place_dropped : {V : Type 0} (first : ℕ) (xs ys : List (Option V)) → starts_vacant xs ≡ true → ys ≡ drop 1 xs → (n : ℕ) → value_placed (first + 1) ys n ≡ value_placed first xs n
place_dropped first [] ys empty rest n = absurd (cc (empty))
place_dropped {V} first (x ∷ xs) ys empty rest n = ap (λ l. value_placed (first + 1) l n) rest ∙ by x empty where
  none_at : (b : Bool) → (n == first) ≡ b → value_placed (first + 1) xs n ≡ cond b (let none : Option V = None in none) (value_placed (first + 1) xs n)
  none_at true here = placed_before (first + 1) xs n (omega (arith, eqb-true n first here))
  none_at false away = refl

  by : (y : Option V) → starts_vacant (y ∷ xs) ≡ true → value_placed (first + 1) xs n ≡ value_placed first (y ∷ xs) n
  by None is = none_at (n == first) refl
  by (Some v) is = absurd (cc (is))

-- none is taken where none is
pub none_taken : {V : Type 0} (first : ℕ) (xs : List (Option V)) (number : ℕ) → (nat_le first number && nat_lt (number - first) (length xs)) ≡ false
    → (n : ℕ) → value_placed first xs n ≡ cond (n == number) None (value_placed first xs n)
none_taken {V} first xs number out n = by (n == number) refl where
  by : (b : Bool) → (n == number) ≡ b → value_placed first xs n ≡ cond b (let none : Option V = None in none) (value_placed first xs n)
  by true here = ap (value_placed first xs) (eqb-true n number here) ∙ placed_past first xs number out
  by false away = refl

pub ruleset places_taken = (none_taken, placed_past)

pub ruleset places_read = (place_reads, place_within, place_from)

pub ruleset places_set = (place_set, place_within, place_from)

-- ---- rows of places

pub same_place : {V : Type 0} (xs : List (Option V)) (p : ℕ) (d : Option V) → p < length xs → slice_index_or xs p d ≡ slice_index_or xs p None
same_place [] p d within = absurd (omega (arith, within))
same_place (x ∷ xs) zero d within = refl
same_place (x ∷ xs) (suc p) d within = same_place xs p d (omega (arith, within))

pub set_size : {V : Type 0} (xs : List (Option V)) (p : ℕ) (x : Option V) → length (slice_set xs p x) ≡ length xs
set_size [] p x = refl
set_size (y ∷ xs) zero x = refl
set_size (y ∷ xs) (suc p) x = omega (arith, set_size xs p x)

pub one_more : {V : Type 0} (xs : List (Option V)) (x : Option V) → length (xs ++ x ∷ []) ≡ length xs + 1
one_more [] x = refl
one_more (y ∷ xs) x = omega (arith, one_more xs x)

-- without a place it does not matter which number the first one has
pub placed_none : {V : Type 0} (a b : ℕ) (xs : List (Option V)) → length xs ≡ 0 → placed_from a xs ≡ placed_from b xs
placed_none a b [] none = refl
placed_none a b (x ∷ xs) none = absurd (omega (arith, none))

pub next_is : {V : Type 0} (row : Places V) (number : ℕ) → IsNext row number → (length row.places ≡ 0 → ⊥) → row.first + length row.places ≡ number
next_is row number (inl none) some = absurd (some none)
next_is row number (inr next) some = next

-- ---- the places before the first value

pub trimmed_filled : {V : Type 0} (xs : List (Option V)) → starts_vacant (trimmed xs) ≡ false
trimmed_filled [] = refl
trimmed_filled (None ∷ xs) = trimmed_filled xs
trimmed_filled (Some v ∷ xs) = refl

pub trimmed_same : {V : Type 0} (xs : List (Option V)) → starts_vacant xs ≡ false → trimmed xs ≡ xs
trimmed_same [] filled = refl
trimmed_same (None ∷ xs) filled = absurd (cc (filled))
trimmed_same (Some v ∷ xs) filled = refl

pub trimmed_short : {V : Type 0} (xs : List (Option V)) → length (trimmed xs) ≤ length xs
trimmed_short [] = omega arith
trimmed_short (None ∷ xs) = omega (arith, trimmed_short xs)
trimmed_short (Some v ∷ xs) = omega arith

pub trimmed_dropped : {V : Type 0} (xs ys : List (Option V)) → starts_vacant xs ≡ true → ys ≡ drop 1 xs → trimmed ys ≡ trimmed xs
trimmed_dropped [] ys vacant rest = absurd (cc (vacant))
trimmed_dropped (None ∷ xs) ys vacant rest = ap trimmed rest
trimmed_dropped (Some v ∷ xs) ys vacant rest = absurd (cc (vacant))
