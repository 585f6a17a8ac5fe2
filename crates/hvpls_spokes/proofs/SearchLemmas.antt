-- Lists in order: where a search by halves ends, the first element stands that passes a test, if any does.
use Rattle.std.proofs.Common.{◌≡◌, ◌<◌, ◌≤◌, ◌+◌, ◌++◌, ◌∙◌, ◌||◌, ◌⊎◌, ℕ, zero, suc, Bool, true, false, not, cond, nat_lt, List, [], ◌∷◌, Some, None, is_some, length, slice_get, get_or, position, refl, ap, sym, arith, inl, inr}
use Rattle.std.specs.List.{All, AllPairs, find, list_any, position_or_len}
use Rattle.std.specs.List.Sorted.{IsPartitionedBy, IsPartitionPoint}
use Rattle.std.proofs.lemmas.Bool.{cases_Bool, cases_lt, cases_order, false_from_ne_true, lt-ltb, true≢false}
use Rattle.std.proofs.lemmas.Bool.Decides.{nat_tests}
use Rattle.std.proofs.lemmas.List.Elements.{All-append, All-head, All-tail}
use Rattle.std.proofs.lemmas.List.Kept.{AllPairs-cons}
use Rattle.std.proofs.lemmas.Option.{slice_get-get_or, slice_get_past}
use Rattle.net_values.proofs.NumberLemmas.{not_below_itself, zero_below}
use Rattle.hvpls_spokes.specs.Search.{kept_if, place_if}

-- ---- the first place at which a test passes

module _ {X : Type 0} (test : X → Bool) where
  number_is : (xs : List X) (k : ℕ) (d : X) → k < length xs → test (get_or xs k d) ≡ true → ((i : ℕ) → i < k → test (get_or xs i d) ≡ false) → position_or_len test xs ≡ k
  number_is [] k d within here before = absurd (omega (arith, within))
  number_is (x ∷ xs) zero d within here before = rw here refl
  number_is (x ∷ xs) (suc k) d within here before =
      let away : test x ≡ false = before 0 (omega arith) in
      let rest : position_or_len test xs ≡ k = number_is xs k d (omega (arith, within)) here (λ i below. before (suc i) (omega (arith, below))) in
      rw away (omega (arith, rest))

  number_none : (xs : List X) (d : X) → ((i : ℕ) → i < length xs → test (get_or xs i d) ≡ false) → position_or_len test xs ≡ length xs
  number_none [] d none = refl
  number_none (x ∷ xs) d none =
      let away : test x ≡ false = none 0 (omega arith) in
      let rest : position_or_len test xs ≡ length xs = number_none xs d (λ i below. none (suc i) (omega (arith, below))) in
      rw away (omega (arith, rest))

  position_is : (xs : List X) (k : ℕ) (d : X) → k < length xs → test (get_or xs k d) ≡ true → ((i : ℕ) → i < k → test (get_or xs i d) ≡ false) → position test xs ≡ Some k
  position_is xs k d within here before = rw (number_is xs k d within here before, lt-ltb k (length xs) within) refl

  position_none : (xs : List X) (d : X) → ((i : ℕ) → i < length xs → test (get_or xs i d) ≡ false) → position test xs ≡ None
  position_none xs d none = rw (number_none xs d none, not_below_itself (length xs)) refl

  pub find_is : (xs : List X) (k : ℕ) (d : X) → k < length xs → test (get_or xs k d) ≡ true → ((i : ℕ) → i < k → test (get_or xs i d) ≡ false) → find test xs ≡ Some (get_or xs k d)
  find_is [] k d within here before = absurd (omega (arith, within))
  find_is (x ∷ xs) zero d within here before = rw here refl
  find_is (x ∷ xs) (suc k) d within here before =
      let away : test x ≡ false = before 0 (omega arith) in
      rw away (find_is xs k d (omega (arith, within)) here (λ i below. before (suc i) (omega (arith, below))))

  pub find_none : (xs : List X) (d : X) → ((i : ℕ) → i < length xs → test (get_or xs i d) ≡ false) → find test xs ≡ None
  find_none [] d none = refl
  find_none (x ∷ xs) d none =
      let away : test x ≡ false = none 0 (omega arith) in
      rw away (find_none xs d (λ i below. none (suc i) (omega (arith, below))))

  -- at this place the first element stands that passes the test, if any does
  pub record IsFirst (xs : List X) (k : ℕ) : Type 0 where
    pub place : position test xs ≡ place_if test k (slice_get xs k)
    pub found : find test xs ≡ kept_if test (slice_get xs k)

  -- all elements before a place fail the test, and where the one there fails it, so do all behind it
  first_at : (xs : List X) (k : ℕ) → k ≤ length xs → ((i : ℕ) (d : X) → i < k → test (get_or xs i d) ≡ false)
      → ((i : ℕ) (d : X) → k ≤ i → i < length xs → test (get_or xs k d) ≡ false → test (get_or xs i d) ≡ false)
      → IsFirst xs k
  first_at [] k bound before behind = record { place = refl; found = refl }
  first_at (x ∷ xs) k bound before behind = elim (cases_lt k (length (x ∷ xs))) [
    | inl within ↦
        (let at : slice_get (x ∷ xs) k ≡ Some (get_or (x ∷ xs) k x) = slice_get-get_or (x ∷ xs) k x within in
        elim (cases_Bool (test (get_or (x ∷ xs) k x))) [
          | inl here ↦ record {
            place = position_is (x ∷ xs) k x within here (λ i below. before i x below) ∙ sym (ap (place_if test k) at ∙ ap (λ (b : Bool). cond b (Some k) None) here);
            found = find_is (x ∷ xs) k x within here (λ i below. before i x below) ∙ sym (ap (kept_if test) at ∙ ap (λ (b : Bool). cond b (Some (get_or (x ∷ xs) k x)) None) here);
          }
          | inr away ↦ record {
            place = position_none (x ∷ xs) x (λ i below. by i below (cases_lt i k) away) ∙ sym (ap (place_if test k) at ∙ ap (λ (b : Bool). cond b (Some k) None) away);
            found = find_none (x ∷ xs) x (λ i below. by i below (cases_lt i k) away) ∙ sym (ap (kept_if test) at ∙ ap (λ (b : Bool). cond b (Some (get_or (x ∷ xs) k x)) None) away);
          }
        ])
    | inr past ↦
        (let none : slice_get (x ∷ xs) k ≡ None = slice_get_past (x ∷ xs) k past in
        record {
          place = position_none (x ∷ xs) x (λ i below. before i x (omega (arith, below, past))) ∙ sym (ap (place_if test k) none);
          found = find_none (x ∷ xs) x (λ i below. before i x (omega (arith, below, past))) ∙ sym (ap (kept_if test) none);
        })
  ]
    where
      by : (i : ℕ) → i < length (x ∷ xs) → (i < k) ⊎ (k ≤ i) → test (get_or (x ∷ xs) k x) ≡ false → test (get_or (x ∷ xs) i x) ≡ false
      by i below (inl under) away = before i x under
      by i below (inr from) away = behind i x from below away

  any_number : (xs : List X) → nat_lt (position_or_len test xs) (length xs) ≡ list_any test xs
  any_number [] = refl
  any_number (x ∷ xs) = by (test x) (any_number xs)
    where
      later : (n m : ℕ) → nat_lt (1 + n) (suc m) ≡ nat_lt n m
      later n m = grind (arith, nat_tests)

      by : (b : Bool) → nat_lt (position_or_len test xs) (length xs) ≡ list_any test xs → nat_lt (cond (not b) (1 + position_or_len test xs) 0) (suc (length xs)) ≡ (b || list_any test xs)
      by true rest = zero_below (length xs)
      by false rest = later (position_or_len test xs) (length xs) ∙ rest

  -- there is a first place exactly where some element passes
  pub any_found : (xs : List X) → is_some (position test xs) ≡ list_any test xs
  any_found xs = by (nat_lt (position_or_len test xs) (length xs)) ∙ any_number xs
    where
      by : (b : Bool) → is_some (cond b (Some (position_or_len test xs)) None) ≡ b
      by true = refl
      by false = refl

-- ---- lists in order

-- a test that passes on to what stands before
pub parted : {X : Type 0} (R : X → X → Type 0) (before : X → Bool) (xs : List X) → AllPairs R xs → ((x y : X) → R x y → before y ≡ true → before x ≡ true) → IsPartitionedBy before xs
parted R before xs ordered passes i j d most within at = elim (cases_order i j) [
  | inl same ↦ ap (λ (n : ℕ). before (get_or xs n d)) same ∙ at
  | inr rest ↦ elim rest [
    | inl below ↦ passes (get_or xs i d) (get_or xs j d) (ordered i j d below within) at
    | inr above ↦ absurd (omega (arith, most, above))
  ]
]

-- where the elements end that come before all that pass a test, the first one stands that passes it, if any does
pub first_behind : {X : Type 0} (R : X → X → Type 0) (before test : X → Bool) (xs : List X) (k : ℕ) → AllPairs R xs
    → ((x y : X) → R x y → before y ≡ true → before x ≡ true)
    → ((x : X) → test x ≡ true → before x ≡ false)
    → ((x y : X) → R x y → test y ≡ true → before x ≡ false → test x ≡ true)
    → k ≤ length xs → (IsPartitionedBy before xs → IsPartitionPoint (λ y. before y ≡ true) (λ y. before y ≡ false) xs k)
    → IsFirst test xs k
first_behind {X} R before test xs k ordered passes apart alike bound ends =
    let point = ends (parted R before xs ordered passes) in
    first_at test xs k bound
    (λ i d under. false_from_ne_true (test (get_or xs i d)) (λ here. true≢false (sym (point.0 i d (omega arith) under) ∙ apart (get_or xs i d) here)))
    (λ i d from within away. false_from_ne_true (test (get_or xs i d)) (λ here. true≢false (sym (first i d from within here (point.1 k d (omega arith) (omega (arith, from, within)))) ∙ away)))
  where
    first : (i : ℕ) (d : X) → k ≤ i → i < length xs → test (get_or xs i d) ≡ true → before (get_or xs k d) ≡ false → test (get_or xs k d) ≡ true
    first i d from within here behind = elim (cases_order k i) [
      | inl same ↦ ap (λ (n : ℕ). test (get_or xs n d)) same ∙ here
      | inr rest ↦ elim rest [
        | inl below ↦ alike (get_or xs k d) (get_or xs i d) (ordered k i d below within) here behind
        | inr above ↦ absurd (omega (arith, from, above))
      ]
    ]

-- two lists in order one after the other, where each of the first comes before each of the second
pub pairs_append : {X : Type 0} (R : X → X → Type 0) (xs ys : List X) → AllPairs R xs → AllPairs R ys → All (λ x. All (R x) ys) xs → AllPairs R (xs ++ ys)
pairs_append R [] ys first second before = second
pairs_append R (x ∷ xs) ys first second before =
    AllPairs-cons R x (xs ++ ys)
    (All-append (R x) xs ys (λ j d within. first 0 (suc j) d (omega arith) (omega (arith, within))) (All-head (λ x. All (R x) ys) x xs before))
    (pairs_append R xs ys (λ i j d below within. first (suc i) (suc j) d (omega (arith, below)) (omega (arith, within))) second (All-tail (λ x. All (R x) ys) x xs before))
