-- One message is heavier than few of higher levels.
use Rattle.std.proofs.Common.{◌≤◌, ◌<◌, ℕ, zero, suc, List, [], ◌∷◌, length, arith}
use Rattle.std.specs.List.{AllByRecursion}
use Rattle.rest_laws.specs.Weight.{FewWeighLess, grow, heavy, total}

grow_least : (few h : ℕ) → h ≤ grow few h
grow_least zero h = omega arith
grow_least (suc few) h = omega arith

pub heavy_some : (few levels : ℕ) → 1 ≤ heavy few levels
heavy_some few zero = omega arith
heavy_some few (suc levels) = omega (arith, heavy_some few levels, grow_least few (heavy few levels))

no_levels : (m : ℕ) → suc m ≤ 0 → ⊥
no_levels m h = omega (arith, h)

-- more levels above weigh no less
pub heavy_rises : (few m n : ℕ) → m ≤ n → heavy few m ≤ heavy few n
heavy_rises few zero n h = heavy_some few n
heavy_rises few (suc m) zero h = absurd (no_levels m h)
heavy_rises few (suc m) (suc n) h = grows few (heavy few m) (heavy few n) (heavy_rises few m n (omega (arith, h))) where
  grows : (few a b : ℕ) → a ≤ b → grow few a ≤ grow few b
  grows zero a b le = le
  grows (suc k) a b le = omega (arith, le, grows k a b le)

-- few of them, none of which is heavier than this
few_under : (few h : ℕ) → 1 ≤ h → (all : ℕ) (ns : List ℕ) → length ns ≤ few → AllByRecursion (λ n. heavy all n ≤ h) ns → total all ns < grow few h
few_under few h some all [] short each = omega (arith, some, grow_least few h)
few_under zero h some all (n ∷ ns) short each = absurd (no_levels (length ns) short)
few_under (suc few) h some all (n ∷ ns) short each = omega (arith, each.0, few_under few h some all ns (omega (arith, short)) each.1)

each_under : (few levels : ℕ) (ns : List ℕ) → AllByRecursion (λ n. n < suc levels) ns → AllByRecursion (λ n. heavy few n ≤ heavy few levels) ns
each_under few levels [] each = tt
each_under few levels (n ∷ ns) each = (heavy_rises few n levels (omega (arith, each.0)), each_under few levels ns each.1)

no_higher : (ns : List ℕ) (n : ℕ) → n < 0 → ⊥
no_higher ns n h = omega (arith, h)

-- so the messages that one makes be put, of which each has fewer levels above it, weigh less than it
pub lighter : FewWeighLess
lighter few zero [] short each = omega arith
lighter few zero (n ∷ ns) short each = absurd (no_higher ns n each.0)
lighter few (suc levels) ns short each = few_under few (heavy few levels) (heavy_some few levels) few ns short (each_under few levels ns each)
