-- Bits of the word of marks.
use Rattle.std.proofs.Common.{◌≡◌, ◌≢◌, ◌<◌, ◌≤◌, ◌*◌, ◌^◌, ◌%◌, ◌||◌, ◌==◌, ◌∙◌, ℕ, Bool, true, false, not, cond, refl, bit_or, bit_and, max, nat_eq, nat_lt, ap, sym, arith, eq-eqb, inl, inr, w64}
use Rattle.std.proofs.lemmas.Bool.{cases_Bool, or_right}
use Rattle.std.proofs.lemmas.Bool.Decides.{nat_tests}
use Rattle.std.proofs.lemmas.Nat.Bits.{bit_at_set_same, bit_at_set_other, bit_at_clear_same, bit_at_clear_other, bit_at_or, bit_at-lt, bit_at-zero}
use Rattle.std.specs.Int.{bit_at, bit_not}
use Rattle.net_values.proofs.BoolLemmas.{first_fails, or_false, second_fails}
use Rattle.pw_ends.specs.declared.peer_marks.PeerMarks.{PeerMarks}
use Rattle.pw_ends.specs.Marks.{is_marked}

-- no bit is on
pub unmarked : (marks : PeerMarks) (k : ℕ) → marks.word ≡ 0 → is_marked marks k ≡ not (nat_lt k 64)
unfolding is_marked
unmarked marks k none = ap (λ (word : ℕ). not (nat_lt k 64) || nat_eq (bit_at word k) 1) none ∙ (ap (λ (n : ℕ). not (nat_lt k 64) || nat_eq n 1) (bit_at-zero k) ∙ or_false (not (nat_lt k 64)))

-- each bit that is on is so in another word
pub bits_within : (marks others : PeerMarks) (k : ℕ) → bit_or marks.word others.word ≡ others.word → is_marked others k ≡ false → is_marked marks k ≡ false
unfolding is_marked
bits_within marks others k within is =
    ap (λ (b : Bool). b || nat_eq (bit_at marks.word k) 1) (first_fails (not (nat_lt k 64)) (nat_eq (bit_at others.word k) 1) is)
    ∙ off (second_fails (not (nat_lt k 64)) (nat_eq (bit_at others.word k) 1) is)
  where
    both : bit_at others.word k ≡ max (bit_at marks.word k) (bit_at others.word k)
    both = ap (λ (word : ℕ). bit_at word k) (sym within) ∙ bit_at_or marks.word others.word k

    off : nat_eq (bit_at others.word k) 1 ≡ false → nat_eq (bit_at marks.word k) 1 ≡ false
    off none = grind (arith, nat_tests, none, both, bit_at-lt others.word k)

-- one bit is set
pub bit_set : (marks now : PeerMarks) (peer k : ℕ) → peer < 64 → now.word ≡ bit_or marks.word (1 * 2 ^ peer % 2 ^ 64) → is_marked now k ≡ (k == peer || is_marked marks k)
unfolding is_marked
bit_set marks now peer k within is = elim (cases_Bool (k == peer)) [
  | inl same ↦ rw same (ap (λ (word : ℕ). not (nat_lt k 64) || nat_eq (bit_at word k) 1) is ∙ at_peer (equal same))
  | inr apart ↦ rw apart (ap (λ (word : ℕ). not (nat_lt k 64) || nat_eq (bit_at word k) 1) is
      ∙ ap (λ (n : ℕ). not (nat_lt k 64) || nat_eq n 1) (bit_at_set_other w64 marks.word peer within k (unequal apart)))
]
  where
    equal : (k == peer) ≡ true → k ≡ peer
    equal same = grind (arith, nat_tests)

    unequal : (k == peer) ≡ false → k ≢ peer
    unequal apart = grind (arith, nat_tests)

    at_peer : k ≡ peer → (not (nat_lt k 64) || nat_eq (bit_at (bit_or marks.word (1 * 2 ^ peer % 2 ^ 64)) k) 1) ≡ true
    at_peer same = rw same (or_right (not (nat_lt peer 64)) _ (eq-eqb _ _ (bit_at_set_same w64 marks.word peer within)))

-- one past the 64 is marked already
pub bit_past : (marks : PeerMarks) (peer k : ℕ) → 64 ≤ peer → is_marked marks k ≡ (k == peer || is_marked marks k)
unfolding is_marked
bit_past marks peer k past = elim (cases_Bool (k == peer)) [
  | inl same ↦ rw same (first (nat_lt k 64) _ (beyond (equal same)))
  | inr apart ↦ rw apart refl
]
  where
    equal : (k == peer) ≡ true → k ≡ peer
    equal same = grind (arith, nat_tests)

    beyond : k ≡ peer → nat_lt k 64 ≡ false
    beyond same = grind (arith, nat_tests)

    first : (a b : Bool) → a ≡ false → (not a || b) ≡ true
    first true b is = absurd (cc (is))
    first false b is = refl

-- one bit is cleared
pub bit_cleared : (marks now : PeerMarks) (peer k : ℕ) → peer < 64 → now.word ≡ bit_and marks.word (bit_not w64 (1 * 2 ^ peer % 2 ^ 64)) → is_marked now k
    ≡ cond (k == peer) (not (nat_lt k 64)) (is_marked marks k)
unfolding is_marked
bit_cleared marks now peer k within is = elim (cases_Bool (k == peer)) [
  | inl same ↦ rw same (ap (λ (word : ℕ). not (nat_lt k 64) || nat_eq (bit_at word k) 1) is ∙ at_peer (equal same))
  | inr apart ↦ rw apart (ap (λ (word : ℕ). not (nat_lt k 64) || nat_eq (bit_at word k) 1) is ∙ other (nat_lt k 64) refl (unequal apart))
]
  where
    equal : (k == peer) ≡ true → k ≡ peer
    equal same = grind (arith, nat_tests)

    unequal : (k == peer) ≡ false → k ≢ peer
    unequal apart = grind (arith, nat_tests)

    second : (a b : Bool) → b ≡ false → (a || b) ≡ a
    second true b is = refl
    second false b is = is

    at_peer : k ≡ peer → (not (nat_lt k 64) || nat_eq (bit_at (bit_and marks.word (bit_not w64 (1 * 2 ^ peer % 2 ^ 64))) k) 1) ≡ not (nat_lt k 64)
    at_peer same = rw same (second (not (nat_lt peer 64)) _ (ap (λ (n : ℕ). nat_eq n 1) (bit_at_clear_same w64 marks.word peer within)))

    other : (a : Bool) → nat_lt k 64 ≡ a → k ≢ peer → (not a || nat_eq (bit_at (bit_and marks.word (bit_not w64 (1 * 2 ^ peer % 2 ^ 64))) k) 1) ≡ (not a || nat_eq (bit_at marks.word k) 1)
    other true short apart = ap (λ (n : ℕ). nat_eq n 1) (bit_at_clear_other w64 marks.word peer within k (grind (arith, nat_tests)) apart)
    other false short apart = refl

-- the mark of one past the 64 stays
pub bit_kept : (marks : PeerMarks) (peer k : ℕ) → 64 ≤ peer → is_marked marks k ≡ cond (k == peer) (not (nat_lt k 64)) (is_marked marks k)
unfolding is_marked
bit_kept marks peer k past = elim (cases_Bool (k == peer)) [
  | inl same ↦ rw same (first (nat_lt k 64) _ (beyond (equal same)))
  | inr apart ↦ rw apart refl
]
  where
    equal : (k == peer) ≡ true → k ≡ peer
    equal same = grind (arith, nat_tests)

    beyond : k ≡ peer → nat_lt k 64 ≡ false
    beyond same = grind (arith, nat_tests)

    first : (a b : Bool) → a ≡ false → (not a || b) ≡ not a
    first true b is = absurd (cc (is))
    first false b is = refl
