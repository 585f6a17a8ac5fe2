-- The bits of a status.
use Rattle.std.proofs.Common.{◌≡◌, ◌≢◌, ◌<◌, ◌≤◌, ◌+◌, ◌*◌, ◌/◌, ◌%◌, ◌==◌, ◌∙◌, ◌||◌, ℕ, zero, suc, Bool, true, false, not, max, refl, sym, ap, bit_and, bit_or, arith, inl, inr}
use Rattle.std.specs.Int.{bit_at}
use Rattle.std.specs.Int.Bits.{or_add_and}
use Rattle.std.proofs.lemmas.Bool.{cases_Bool}
use Rattle.std.proofs.lemmas.Bool.Decides.{nat_tests}
use Rattle.std.proofs.lemmas.Nat.{and_mask}
use Rattle.std.proofs.lemmas.Nat.Bits.{and_pow, bit_at-lt, bit_at-pow_other, bit_at-pow_same, bit_at_or}
use Rattle.pw_tlvs.specs.declared.pw_status.PwStatus.{PwStatus}
use Rattle.pw_status.specs.Status.{CombinedAgain, combined, is_failure, is_set, is_standby, of_bits}

-- the five lowest bits as a number
low_bits : (n : ℕ) → n % 32 ≡ n / 1 % 2 + 2 * (n / 2 % 2) + 4 * (n / 4 % 2) + 8 * (n / 8 % 2) + 16 * (n / 16 % 2)
low_bits n = omega arith

-- a number of five digits is not 0 exactly where one of them is 1
five : (a b c d e : ℕ) → a < 2 → b < 2 → c < 2 → d < 2 → e < 2 → not (a + 2 * b + 4 * c + 8 * d + 16 * e == 0) ≡ (a == 1 || (b == 1 || (c == 1 || (d == 1 || (e == 1 || false)))))
five a b c d e la lb lc ld le = grind (arith, nat_tests)

bit : (n : ℕ) → n % 2 < 2
bit n = omega arith

failure_of : (n : ℕ) → is_failure (record { 0 = n }) ≡ not (n % 32 == 0)
failure_of n = sym (five (n / 1 % 2) (n / 2 % 2) (n / 4 % 2) (n / 8 % 2) (n / 16 % 2) (bit (n / 1)) (bit (n / 2)) (bit (n / 4)) (bit (n / 8)) (bit (n / 16)))
    ∙ ap (λ (v : ℕ). not (v == 0)) (sym (low_bits n))

-- the mask of the five bits leaves nothing exactly where none of them is set
pub failure_is : (status : PwStatus) → not (bit_and status.0 31 == 0) ≡ is_failure status
failure_is status = ap (λ (v : ℕ). not (v == 0)) (and_mask status.0 5) ∙ sym (failure_of status.0)

-- ---- a combined status

no_bit : (n : ℕ) → n < 2 → (n == 1) ≡ false → n ≡ 0
no_bit n less clear = grind (arith, nat_tests)

one_bit : (n : ℕ) → (n == 1) ≡ true → n ≡ 1
one_bit n set = grind (arith, nat_tests)

-- a number and the mask of the standby bit have that bit in common, or none
shared : (bits : ℕ) → bit_or bits 32 + bit_at bits 5 * 32 ≡ bits + 32
shared bits = ap (λ (n : ℕ). bit_or bits 32 + n) (sym (and_pow bits 5)) ∙ or_add_and bits 32

-- the mask sets the bit where it was not set
pub or_standby : (bits : ℕ) → bit_or bits 32 ≡ (combined bits true).0
or_standby bits = elim (cases_Bool (bit_at bits 5 == 1)) [
  | inl set ↦ rw set (omega (arith, shared bits, one_bit (bit_at bits 5) set))
  | inr clear ↦ rw clear (omega (arith, shared bits, no_bit (bit_at bits 5) (bit_at-lt bits 5) clear))
]

most : (n : ℕ) → n < 2 → (max n 1 == 1) ≡ true
most zero less = refl
most (suc zero) less = refl
most (suc (suc n)) less = absurd (omega (arith, less))

alone : (n : ℕ) → max n 0 ≡ n
alone n = omega arith

pub others : (bits : ℕ) (standby : Bool) (bit : ℕ) → bit ≢ 5 → is_set (combined bits standby) bit ≡ is_set (of_bits bits) bit
others bits false bit away = refl
others bits true bit away =
    let same : bit_at (combined bits true).0 bit ≡ bit_at bits bit =
    ap (λ (n : ℕ). bit_at n bit) (sym (or_standby bits)) ∙ (bit_at_or bits 32 bit ∙ (ap (λ (n : ℕ). max (bit_at bits bit) n) (bit_at-pow_other 5 bit away) ∙ alone (bit_at bits bit))) in
    ap (λ (n : ℕ). n == 1) same

standby_set : (bits : ℕ) → is_standby (combined bits true) ≡ true
standby_set bits =
    let same : bit_at (combined bits true).0 5 ≡ max (bit_at bits 5) 1 =
    ap (λ (n : ℕ). bit_at n 5) (sym (or_standby bits)) ∙ (bit_at_or bits 32 5 ∙ ap (λ (n : ℕ). max (bit_at bits 5) n) (bit_at-pow_same 5)) in
    ap (λ (n : ℕ). n == 1) same ∙ most (bit_at bits 5) (bit_at-lt bits 5)

standby : (bits : ℕ) (standby : Bool) → is_standby (combined bits standby) ≡ (standby || is_standby (of_bits bits))
standby bits true = standby_set bits
standby bits false = refl

away : (k : ℕ) → k < 5 → k ≢ 5
away k less = λ same. absurd (omega (arith, less, same))

failure : (bits : ℕ) (standby : Bool) → is_failure (combined bits standby) ≡ is_failure (of_bits bits)
failure bits standby = rw (
  others bits standby 0 (away 0 (omega arith)),
  others bits standby 1 (away 1 (omega arith)),
  others bits standby 2 (away 2 (omega arith)),
  others bits standby 3 (away 3 (omega arith)),
  others bits standby 4 (away 4 (omega arith)),
) refl

-- ---- of failure bits alone

low : (bits : ℕ) → bits ≤ 31 → is_standby (of_bits bits) ≡ false
low bits few = let none : bits / 32 % 2 ≡ 0 = omega (arith, few) in rw none refl

failure_alone : (bits : ℕ) (standby : Bool) → bits ≤ 31 → is_failure (combined bits standby) ≡ not (bits == 0)
failure_alone bits b few =
    let same : bits % 32 ≡ bits = omega (arith, few) in
    failure bits b ∙ (failure_of bits ∙ ap (λ (v : ℕ). not (v == 0)) same)

standby_alone : (bits : ℕ) (standby : Bool) → bits ≤ 31 → is_standby (combined bits standby) ≡ standby
standby_alone bits true few = standby bits true
standby_alone bits false few = low bits few

-- ---- a status of few bits is small

pub combined_most : (bits : ℕ) (standby : Bool) → (combined bits standby).0 ≤ bits + 32
combined_most bits true = elim (cases_Bool (is_standby (of_bits bits))) [
  | inl set ↦ rw set (omega arith)
  | inr clear ↦ rw clear (omega arith)
]
combined_most bits false = omega arith

pub combined_again : CombinedAgain
combined_again = record {
  failure = failure;
  standby = standby;
  others = others;
  failure_alone = failure_alone;
  standby_alone = standby_alone;
}
