-- Rows of like values.
use Rattle.std.proofs.Common.{◌≡◌, ◌==◌, ◌<◌, ◌≤◌, ◌+◌, ◌∷◌, ◌∙◌, [], ℕ, zero, suc, Bool, true, false, List, nat_lt, cond, refl, arith, length, slice_index_or, slice_set}
use Rattle.std.proofs.lemmas.Bool.Decides.{nat_tests}
use Rattle.std.proofs.lemmas.List.{replicate_more}

pub ruleset replicate_steps = (replicate_more)

pub set_at : {X : Type 0} (d : X) (xs : List X) (i : ℕ) (v : X) (k : ℕ) → i < length xs → slice_index_or (slice_set xs i v) k d ≡ cond (k == i) v (slice_index_or xs k d)
set_at d (x ∷ xs) zero v zero h = refl
set_at d (x ∷ xs) zero v (suc k) h = grind (arith, nat_tests)
set_at d (x ∷ xs) (suc i) v zero h = grind (arith, nat_tests)
set_at d (x ∷ xs) (suc i) v (suc k) h = grind (arith, nat_tests, set_at d xs i v k (grind arith))
set_at d [] i v k h = grind arith

pub past_end : {X : Type 0} (d : X) (xs : List X) (k : ℕ) → length xs ≤ k → slice_index_or xs k d ≡ d
past_end d [] k h = refl
past_end d (x ∷ xs) zero h = absurd (omega (arith, h))
past_end d (x ∷ xs) (suc k) h = past_end d xs k (omega (arith, h))

-- the first ones are all alike
pub alike_more : {X : Type 0} (d : X) (xs : List X) (i : ℕ) → i < length xs → ((k : ℕ) → k < i → slice_index_or xs k d ≡ d) → (k : ℕ) → k < i + 1 → slice_index_or (slice_set xs i d) k d ≡ d
alike_more d xs i h before k within = set_at d xs i d k h ∙ by (k == i) refl where
  by : (b : Bool) → (k == i) ≡ b → cond b d (slice_index_or xs k d) ≡ d
  by true here = refl
  by false away = before k (grind (arith, nat_tests, within, away))

pub alike_all : {X : Type 0} (d : X) (xs : List X) (i : ℕ) → length xs ≤ i → ((k : ℕ) → k < i → slice_index_or xs k d ≡ d) → (k : ℕ) → slice_index_or xs k d ≡ d
alike_all d xs i h before k = by (nat_lt k i) refl where
  by : (b : Bool) → nat_lt k i ≡ b → slice_index_or xs k d ≡ d
  by true within = before k (grind (arith, nat_tests, within))
  by false past = past_end d xs k (grind (arith, nat_tests, past, h))

pub ruleset row_steps = (alike_more, alike_all)
