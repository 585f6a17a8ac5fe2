-- Bits of a word.
use Rattle.std.proofs.Common.{◌≡◌, ◌≢◌, ◌<◌, ◌≤◌, ◌+◌, ◌*◌, ◌^◌, ◌%◌, ◌&&◌, ℕ, zero, suc, Bool, true, false, Some, None, cond, refl, bit_or, bit_and, nat_eq, nat_lt, ap, arith, eq-eqb, w64}
use Rattle.std.proofs.lemmas.Bool.Decides.{nat_tests}
use Rattle.std.proofs.lemmas.Nat.Bits.{bit_at_set_same, bit_at_set_other, bit_at_clear_same, bit_at_clear_other, bit_at-trailing_zeros, bit_at-zero}
use Rattle.std.proofs.lemmas.Bool.{and_from, and_right}
use Rattle.std.specs.Int.{bit_at, bit_not, trailing_zeros}
use Rattle.net_values.proofs.BoolLemmas.{and_false}
use Rattle.network_model.specs.Delivery.{first_from}
use Rattle.psn_net.specs.PairIndex.{in_word}

pub on_same : (word k : ℕ) → k < 64 → in_word (bit_or word (1 * 2 ^ k % 2 ^ 64)) k ≡ true
unfolding in_word
on_same word k h = and_from (nat_lt k 64) _ (grind (arith, nat_tests)) (eq-eqb _ _ (bit_at_set_same w64 word k h))

pub on_other : (word k i : ℕ) → k < 64 → i ≢ k → in_word (bit_or word (1 * 2 ^ k % 2 ^ 64)) i ≡ in_word word i
unfolding in_word
on_other word k i h ne = ap (λ (n : ℕ). nat_lt i 64 && nat_eq n 1) (bit_at_set_other w64 word k h i ne)

pub off_same : (word k : ℕ) → k < 64 → in_word (bit_and word (bit_not w64 (1 * 2 ^ k % 2 ^ 64))) k ≡ false
unfolding in_word
off_same word k h = and_right (nat_lt k 64) _ (ap (λ (n : ℕ). nat_eq n 1) (bit_at_clear_same w64 word k h))

pub off_other : (word k i : ℕ) → k < 64 → i ≢ k → in_word (bit_and word (bit_not w64 (1 * 2 ^ k % 2 ^ 64))) i ≡ in_word word i
unfolding in_word
off_other word k i h ne = within (nat_lt i 64) refl
  where
    within : (a : Bool) → nat_lt i 64 ≡ a → a && nat_eq (bit_at (bit_and word (bit_not w64 (1 * 2 ^ k % 2 ^ 64))) i) 1 ≡ a && nat_eq (bit_at word i) 1
    within true e = ap (λ (n : ℕ). nat_eq n 1) (bit_at_clear_other w64 word k h i (grind (arith, nat_tests)) ne)
    within false e = refl

pub ruleset word_steps = (on_same, on_other, off_same, off_other)

-- ---- the lowest bit

first_is : (test : ℕ → Bool) (place n k : ℕ) → place ≤ k → k < place + n → test k ≡ true → ((i : ℕ) → i < k → test i ≡ false) → first_from test place n ≡ Some k
first_is test place zero k a b t l = grind arith
first_is test place (suc n) k a b t l = by (test place) refl (λ e. first_is test (place + 1) n k (grind (arith, nat_tests, t)) (grind arith) t l)
  where
    by : (b : Bool) → test place ≡ b → (test place ≡ false → first_from test (place + 1) n ≡ Some k) → cond b (Some place) (first_from test (place + 1) n) ≡ Some k
    by true e rest = grind (arith, nat_tests, t, l place)
    by false e rest = rest e

first_none : (test : ℕ → Bool) (place n : ℕ) → ((i : ℕ) → test i ≡ false) → first_from test place n ≡ None
first_none test place zero h = refl
first_none test place (suc n) h = let e = h place in let r = first_none test (place + 1) n h in rw e r

pub none_in_zero : (i : ℕ) → in_word 0 i ≡ false
unfolding in_word
none_in_zero i = and_right (nat_lt i 64) _ (ap (λ (n : ℕ). nat_eq n 1) (bit_at-zero i))

pub none_on : (size : ℕ) → first_from (in_word 0) 0 size ≡ None
none_on size = first_none (in_word 0) 0 size none_in_zero

on : (word k : ℕ) → k < 64 → bit_at word k ≡ 1 → in_word word k ≡ true
unfolding in_word
on word k h e = rw e (grind (arith, nat_tests))

not_on : (word k : ℕ) → bit_at word k ≡ 0 → in_word word k ≡ false
unfolding in_word
not_on word k e = rw e (and_false (nat_lt k 64))

lowest_lit : (word : ℕ) → 0 < word → word < 2 ^ 64 → in_word word (trailing_zeros w64 word) ≡ true
lowest_lit word p f = on word (trailing_zeros w64 word) (bit_at-trailing_zeros w64 word p f).0 (bit_at-trailing_zeros w64 word p f).1

below_size : (word size k : ℕ) → ((k : ℕ) → size ≤ k → in_word word k ≡ false) → in_word word k ≡ true → k < size
below_size word size k h e = grind (arith, nat_tests, e, h k)

pub lowest_within : (word size : ℕ) → 0 < word → word < 2 ^ 64 → ((k : ℕ) → size ≤ k → in_word word k ≡ false) → trailing_zeros w64 word < size
lowest_within word size p f h = below_size word size (trailing_zeros w64 word) h (lowest_lit word p f)

pub lowest_on : (word size : ℕ) → 0 < word → word < 2 ^ 64 → ((k : ℕ) → size ≤ k → in_word word k ≡ false) → first_from (in_word word) 0 size ≡ Some (trailing_zeros w64 word)
lowest_on word size p f h =
    first_is (in_word word) 0 size (trailing_zeros w64 word) (omega arith) (omega (arith, lowest_within word size p f h)) (lowest_lit word p f)
    (λ i l. not_on word i ((bit_at-trailing_zeros w64 word p f).2 i l))

pub ruleset word_first = (none_on, lowest_on, lowest_within)
