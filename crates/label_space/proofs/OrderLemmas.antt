-- Lists in rising order of a number.
use Rattle.std.proofs.Common.{◌≡◌, ◌<◌, ◌≤◌, ◌+◌, ◌==◌, ℕ, zero, suc, Bool, true, false, not, nat_lt, List, [], ◌∷◌, length, get_or, cond, map, refl, ap, inl, inr, arith}
use Rattle.std.specs.Prelude.{filter, nat_lt}
use Rattle.std.specs.List.{AllByRecursion, insert}
use Rattle.std.proofs.lemmas.Bool.{cases_Bool, ltb-true, lt-ltb, ltb-false}
use Rattle.std.proofs.lemmas.Bool.Decides.{nat_tests}
use Rattle.net_values.proofs.NumberLemmas.{above_apart}
use Rattle.label_space.specs.Kept.{AreRisingBy, put_by}

module _ {X : Type 0} (number : X → ℕ) where
  -- what rises from a number rises from each one below
  pub rising_lower : (from low : ℕ) (xs : List X) → low ≤ from → AreRisingBy number from xs → AreRisingBy number low xs
  rising_lower from low [] less rising = tt
  rising_lower from low (x ∷ xs) less rising = (omega (arith, less, rising.0), rising.1)

  -- none of them has a number below
  pub unlike_below : (from low : ℕ) (xs : List X) → low < from → AreRisingBy number from xs → filter (λ x. not (number x == low)) xs ≡ xs
  unlike_below from low [] less rising = refl
  unlike_below from low (x ∷ xs) less rising =
      let other : (number x == low) ≡ false = above_apart low (number x) (omega (arith, less, rising.0)) in
      rw other (ap (λ (l : List X). x ∷ l) (unlike_below (number x + 1) low xs (omega (arith, less, rising.0)) rising.1))

  -- ---- one more

  -- at its place, an item that has another number than all
  pub rising_put : (new : X) (from : ℕ) (xs : List X) → AllByRecursion (λ x. (number x == number new) ≡ false) xs → from ≤ number new → AreRisingBy number from xs
      → AreRisingBy number from (put_by number new xs)
  rising_put new from [] apart least rising = (least, tt)
  rising_put new from (x ∷ xs) apart least rising = elim (cases_Bool (nat_lt (number x) (number new))) [
    | inl before ↦ rw before (rising.0, rising_put new (number x + 1) xs apart.1 (omega (arith, ltb-true (number x) (number new) before)) rising.1)
    | inr behind ↦ rw behind (least, (past (number x) (number new) apart.0 (ltb-false (number x) (number new) behind), rising.1))
  ]
    where
      past : (a b : ℕ) → (a == b) ≡ false → b ≤ a → b + 1 ≤ a
      past a b other least = grind (arith, nat_tests)

  pub long_put : (new : X) (xs : List X) → length (put_by number new xs) ≡ length xs + 1
  long_put new [] = refl
  long_put new (x ∷ xs) = elim (nat_lt (number x) (number new)) as (λ v. length (cond v (x ∷ put_by number new xs) (new ∷ x ∷ xs)) ≡ length (x ∷ xs) + 1) [
    | true ↦ omega (arith, long_put new xs)
    | false ↦ omega arith
  ]

  pub all_put : (P : X → Type 0) (new : X) (xs : List X) → P new → AllByRecursion P xs → AllByRecursion P (put_by number new xs)
  all_put P new [] one all = (one, tt)
  all_put P new (x ∷ xs) one all = elim (nat_lt (number x) (number new)) as (λ v. AllByRecursion P (cond v (x ∷ put_by number new xs) (new ∷ x ∷ xs))) [
    | true ↦ (all.0, all_put P new xs one all.1)
    | false ↦ (one, all)
  ]

  -- where it is inserted
  pub insert_put : (new : X) (xs : List X) (i : ℕ) → i ≤ length xs → ((k : ℕ) (d : X) → k < i → nat_lt (number (get_or xs k d)) (number new) ≡ true)
      → ((k : ℕ) (d : X) → i ≤ k → k < length xs → nat_lt (number (get_or xs k d)) (number new) ≡ false) → insert xs i new ≡ put_by number new xs
  insert_put new [] zero within before behind = refl
  insert_put new [] (suc i) within before behind = absurd (omega (arith, within))
  insert_put new (x ∷ xs) zero within before behind = rw (behind 0 new (omega arith) (omega arith)) refl
  insert_put new (x ∷ xs) (suc i) within before behind =
      rw (before 0 new (omega arith))
      (ap (λ (l : List X). x ∷ l) (insert_put new xs i (omega (arith, within)) (λ k d less. before (suc k) d (omega (arith, less)))
      (λ k d low high. behind (suc k) d (omega (arith, low)) (omega (arith, high)))))

  -- numbers that rise are parted by a number
  pub parted : (at from : ℕ) (xs : List X) → AreRisingBy number from xs → (i j : ℕ) (d : X) → i ≤ j → j < length xs → nat_lt (number (get_or xs j d)) at ≡ true
      → nat_lt (number (get_or xs i d)) at ≡ true
  parted at from [] rising i j d order within is = absurd (omega (arith, within))
  parted at from (x ∷ xs) rising zero zero d order within is = is
  parted at from (x ∷ xs) rising zero (suc j) d order within is =
      lt-ltb (number x) at (omega (arith, ltb-true (number (get_or xs j d)) at is, least (number x + 1) xs j d rising.1 (omega (arith, within))))
    where
      least : (from : ℕ) (xs : List X) (j : ℕ) (d : X) → AreRisingBy number from xs → j < length xs → from ≤ number (get_or xs j d)
      least from [] j d rising within = absurd (omega (arith, within))
      least from (x ∷ xs) zero d rising within = rising.0
      least from (x ∷ xs) (suc j) d rising within = omega (arith, rising.0, least (number x + 1) xs j d rising.1 (omega (arith, within)))
  parted at from (x ∷ xs) rising (suc i) zero d order within is = absurd (omega (arith, order))
  parted at from (x ∷ xs) rising (suc i) (suc j) d order within is = parted at (number x + 1) xs rising.1 i j d (omega (arith, order)) (omega (arith, within)) is

  -- ---- fewer

  pub rising_filtered : (p : X → Bool) (from : ℕ) (xs : List X) → AreRisingBy number from xs → AreRisingBy number from (filter p xs)
  rising_filtered p from [] rising = tt
  rising_filtered p from (x ∷ xs) rising = elim (p x) as (λ v. AreRisingBy number from (cond v (x ∷ filter p xs) (filter p xs))) [
    | true ↦ (rising.0, rising_filtered p (number x + 1) xs rising.1)
    | false ↦ rising_lower (number x + 1) from (filter p xs) (omega (arith, rising.0)) (rising_filtered p (number x + 1) xs rising.1)
  ]

  pub all_filtered : (P : X → Type 0) (p : X → Bool) (xs : List X) → AllByRecursion P xs → AllByRecursion P (filter p xs)
  all_filtered P p [] all = tt
  all_filtered P p (x ∷ xs) all = elim (p x) as (λ v. AllByRecursion P (cond v (x ∷ filter p xs) (filter p xs))) [
    | true ↦ (all.0, all_filtered P p xs all.1)
    | false ↦ all_filtered P p xs all.1
  ]

  pub long_filtered : (p : X → Bool) (xs : List X) → length (filter p xs) ≤ length xs
  long_filtered p [] = omega arith
  long_filtered p (x ∷ xs) = elim (p x) as (λ v. length (cond v (x ∷ filter p xs) (filter p xs)) ≤ length (x ∷ xs)) [
    | true ↦ omega (arith, long_filtered p xs)
    | false ↦ omega (arith, long_filtered p xs)
  ]

  pub all_weaker : (P Q : X → Type 0) (xs : List X) → ((x : X) → P x → Q x) → AllByRecursion P xs → AllByRecursion Q xs
  all_weaker P Q [] f all = tt
  all_weaker P Q (x ∷ xs) f all = (f x all.0, all_weaker P Q xs f all.1)

  -- ---- each changed, with the number that it had

  pub rising_map : (f : X → X) (keep : (x : X) → number (f x) ≡ number x) (from : ℕ) (xs : List X) → AreRisingBy number from xs → AreRisingBy number from (map f xs)
  rising_map f keep from [] rising = tt
  rising_map f keep from (x ∷ xs) rising = (
    omega (arith, rising.0, keep x),
    rising_lower (number x + 1) (number (f x) + 1) (map f xs) (omega (arith, keep x)) (rising_map f keep (number x + 1) xs rising.1),
  )

  pub all_map : (P Q : X → Type 0) (f : X → X) (xs : List X) → ((x : X) → P x → Q (f x)) → AllByRecursion P xs → AllByRecursion Q (map f xs)
  all_map P Q f [] each all = tt
  all_map P Q f (x ∷ xs) each all = (each x all.0, all_map P Q f xs each all.1)

  pub map_put : (f : X → X) (keep : (x : X) → number (f x) ≡ number x) (new : X) (xs : List X) → map f (put_by number new xs) ≡ put_by number (f new) (map f xs)
  map_put f keep new [] = refl
  map_put f keep new (x ∷ xs) = rw (keep x, keep new)
      (elim (nat_lt (number x) (number new)) as (λ v. map f (cond v (x ∷ put_by number new xs) (new ∷ x ∷ xs)) ≡ cond v (f x ∷ put_by number (f new) (map f xs)) (f new ∷ f x ∷ map f xs)) [
        | true ↦ ap (λ (l : List X). f x ∷ l) (map_put f keep new xs)
        | false ↦ refl
      ])
