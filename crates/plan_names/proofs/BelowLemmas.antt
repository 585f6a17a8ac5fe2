-- The test of the numbers below a bound, which computes.
use Rattle.std.proofs.Common.{◌≡◌, ◌<◌, ◌&&◌, ℕ, zero, suc, Bool, true, arith, inl, inr}
use Rattle.std.proofs.lemmas.Bool.{cases_lt, and_parts as parts}

unfoldable pub all_below : (ℕ → Bool) → ℕ → Bool
all_below test zero = true
all_below test (suc n) = test n && all_below test n

pub below_at : (test : ℕ → Bool) (n k : ℕ) → all_below test n ≡ true → k < n → test k ≡ true
unfolding all_below
below_at test zero k e lt = absurd (omega arith)
below_at test (suc n) k e lt =
    let both = parts (test n) (all_below test n) e in
    elim (cases_lt k n) [
      | inl under ↦ below_at test n k both.1 under
      | inr top ↦
          let same : k ≡ n = omega arith in
          rw same both.0
    ]
