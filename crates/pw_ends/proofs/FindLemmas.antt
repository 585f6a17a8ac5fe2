-- Items by their numbers: what is found where one is put at its place, and where those of a number are taken out.
use Rattle.std.proofs.Common.{◌≡◌, ◌==◌, ℕ, Bool, true, false, not, cond, nat_lt, List, [], ◌∷◌, Option, Some, None, filter, map, refl, ap, inl, inr}
use Rattle.std.specs.List.{find}
use Rattle.std.proofs.lemmas.Bool.{cases_Bool}
use Rattle.net_values.proofs.NumberLemmas.{equal_to_one, elsewhere}
use Rattle.net_values.proofs.OptionLemmas.{something}
use Rattle.label_space.specs.Kept.{put_by}

module _ {X : Type 0} (number : X → ℕ) where
  -- an item of a number that none has is found, and all others as before
  pub find_put : (new : X) (xs : List X) → find (λ x. number x == number new) xs ≡ None → (n : ℕ) → find (λ x. number x == n) (put_by number new xs)
      ≡ cond (number new == n) (Some new) (find (λ x. number x == n) xs)
  find_put new [] none n = refl
  find_put new (x ∷ xs) none n = elim (cases_Bool (number x == number new)) [
    | inl here ↦ absurd (something x (rw here at none))
    | inr other ↦
        elim (nat_lt (number x) (number new)) as (λ v. find (λ y. number y == n) (cond v (x ∷ put_by number new xs) (new ∷ x ∷ xs))
        ≡ cond (number new == n) (Some new) (find (λ y. number y == n) (x ∷ xs))) [
          | true ↦ by (number x == n) refl other (find_put new xs (rw other at none) n)
          | false ↦ refl
        ]
  ]
    where
      by : (b : Bool) → (number x == n) ≡ b → (number x == number new) ≡ false → find (λ y. number y == n) (put_by number new xs) ≡ cond (number new == n) (Some new) (find (λ y. number y == n) xs)
          → cond b (Some x) (find (λ y. number y == n) (put_by number new xs)) ≡ cond (number new == n) (Some new) (cond b (Some x) (find (λ y. number y == n) xs))
      by true is other rest = elim (cases_Bool (number new == n)) [
        | inl clash ↦ equal_to_one (number x) (number new) n is clash other
        | inr unlike ↦ rw unlike refl
      ]
      by false is other rest = rest

  -- what is taken out is not found
  pub find_left : (n : ℕ) (xs : List X) → find (λ x. number x == n) (filter (λ x. not (number x == n)) xs) ≡ None
  find_left n [] = refl
  find_left n (x ∷ xs) = elim (cases_Bool (number x == n)) [
    | inl found ↦ rw found (find_left n xs)
    | inr other ↦ rw (other, other) (find_left n xs)
  ]

  pub find_left_other : (n other : ℕ) (xs : List X) → (n == other) ≡ false → find (λ x. number x == other) (filter (λ x. not (number x == n)) xs) ≡ find (λ x. number x == other) xs
  find_left_other n other [] away = refl
  find_left_other n other (x ∷ xs) away = elim (cases_Bool (number x == n)) [
    | inl found ↦
        (let unlike : (number x == other) ≡ false = elsewhere (number x) n other found away in
        rw (found, unlike) (find_left_other n other xs away))
    | inr kept ↦ rw kept (ap (λ (o : Option X). cond (number x == other) (Some x) o) (find_left_other n other xs away))
  ]

  -- the numbers of what is left, and of one more
  pub numbers_left : (p : ℕ → Bool) (xs : List X) → map number (filter (λ x. p (number x)) xs) ≡ filter p (map number xs)
  numbers_left p [] = refl
  numbers_left p (x ∷ xs) = elim (p (number x)) as
      (λ b. map number (cond b (x ∷ filter (λ y. p (number y)) xs) (filter (λ y. p (number y)) xs)) ≡ cond b (number x ∷ filter p (map number xs)) (filter p (map number xs))) [
        | true ↦ ap (λ (l : List ℕ). number x ∷ l) (numbers_left p xs)
        | false ↦ numbers_left p xs
      ]

  pub numbers_put : (new : X) (xs : List X) → map number (put_by number new xs) ≡ put_by (λ (n : ℕ). n) (number new) (map number xs)
  numbers_put new [] = refl
  numbers_put new (x ∷ xs) = elim (nat_lt (number x) (number new)) as
      (λ v. map number (cond v (x ∷ put_by number new xs) (new ∷ x ∷ xs)) ≡ cond v (number x ∷ put_by (λ (n : ℕ). n) (number new) (map number xs)) (number new ∷ number x ∷ map number xs)) [
        | true ↦ ap (λ (l : List ℕ). number x ∷ l) (numbers_put new xs)
        | false ↦ refl
      ]
