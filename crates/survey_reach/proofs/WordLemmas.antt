-- Bits of a word.
use Rattle.std.proofs.Common.{◌≡◌, ◌≢◌, ◌<◌, ◌+◌, ◌*◌, ◌^◌, ◌%◌, ◌&&◌, ◌||◌, ◌-◌, ◌∙◌, arith, eq-eqb, sym, w64}
use Rattle.std.proofs.Common.{not, ℕ, zero, suc, Bool, true, false, refl, bit_or, bit_and, min, nat_eq, nat_lt, replicate, ap}
use Rattle.std.proofs.lemmas.Bool.Decides.{nat_tests}
use Rattle.std.proofs.lemmas.Nat.Bits.{bit_at_and, bit_at_not, bit_at_set_same, bit_at_set_other, bit_at-lt, bit_at-zero}
use Rattle.std.proofs.lemmas.Bool.{and_from, and_right, eqb-true, le-ltb, lt-ltb}
use Rattle.std.specs.Int.{bit_at, bit_not}
use Rattle.net_values.proofs.BoolLemmas.{and_false, clash_at, or_false}
use Rattle.net_values.proofs.NumberLemmas.{lt_next, not_below_itself}
use Rattle.survey_reach.specs.Words.{has_pair, in_word}

pub on_same : (word k : ℕ) → k < 64 → in_word (bit_or word (1 * 2 ^ k % 2 ^ 64)) k ≡ true
unfolding in_word
on_same word k h = and_from (nat_lt k 64) _ (grind (arith, nat_tests)) (eq-eqb _ _ (bit_at_set_same w64 word k h))

pub on_other : (word k i : ℕ) → k < 64 → i ≢ k → in_word (bit_or word (1 * 2 ^ k % 2 ^ 64)) i ≡ in_word word i
unfolding in_word
on_other word k i h ne = ap (λ (n : ℕ). nat_lt i 64 && nat_eq n 1) (bit_at_set_other w64 word k h i ne)

pub ruleset word_steps = (on_same, on_other)

pub none_in_zero : (i : ℕ) → in_word 0 i ≡ false
unfolding in_word
none_in_zero i = and_right (nat_lt i 64) _ (ap (λ (n : ℕ). nat_eq n 1) (bit_at-zero i))

pub none_in_rows : (count a b : ℕ) → has_pair (replicate count 0) a b ≡ false
unfolding has_pair
none_in_rows zero a b = none_in_zero b
none_in_rows (suc count) zero b = none_in_zero b
none_in_rows (suc count) (suc a) b = none_in_rows count a b

-- ---- the bits of two words

one_of_least : (a b : ℕ) → a < 2 → b < 2 → nat_eq (min a b) 1 ≡ nat_eq a 1 && nat_eq b 1
one_of_least zero zero f g = refl
one_of_least zero (suc zero) f g = refl
one_of_least zero (suc (suc b)) f g = grind arith
one_of_least (suc zero) zero f g = refl
one_of_least (suc zero) (suc zero) f g = refl
one_of_least (suc zero) (suc (suc b)) f g = grind arith
one_of_least (suc (suc a)) b f g = grind arith

where_within : (a x y z : Bool) → x ≡ y && z → a && x ≡ (a && y) && (a && z)
where_within true x y z e = e
where_within false x y z e = refl

pub on_both : (word other k : ℕ) → in_word (bit_and word other) k ≡ in_word word k && in_word other k
unfolding in_word
on_both word other k = where_within (nat_lt k 64) _ _ _ (rw (bit_at_and word other k) (one_of_least (bit_at word k) (bit_at other k) (bit_at-lt word k) (bit_at-lt other k)))

one_less : (a b : ℕ) → a < 2 → b < 2 → nat_eq (min a (1 - b)) 1 ≡ nat_eq a 1 && not (nat_eq b 1)
one_less zero zero f g = refl
one_less zero (suc zero) f g = refl
one_less zero (suc (suc b)) f g = grind arith
one_less (suc zero) zero f g = refl
one_less (suc zero) (suc zero) f g = refl
one_less (suc zero) (suc (suc b)) f g = grind arith
one_less (suc (suc a)) b f g = grind arith

pub on_without : (word other k : ℕ) → other < 2 ^ 64 → in_word (bit_and word (bit_not w64 other)) k ≡ in_word word k && not (in_word other k)
unfolding in_word
on_without word other k f = within (nat_lt k 64) refl
  where
    within : (a : Bool) → nat_lt k 64 ≡ a → a && nat_eq (bit_at (bit_and word (bit_not w64 other)) k) 1 ≡ (a && nat_eq (bit_at word k) 1) && not (a && nat_eq (bit_at other k) 1)
    within true e = rw (bit_at_and word (bit_not w64 other) k)
        (rw (bit_at_not w64 other k f (grind (arith, nat_tests, e))) (one_less (bit_at word k) (bit_at other k) (bit_at-lt word k) (bit_at-lt other k)))
    within false e = refl

-- ---- a bit more, where so

pub bit_added : (word more place : ℕ) → in_word more place ≡ true → ((k : ℕ) → k ≢ place → in_word more k ≡ in_word word k) → (k : ℕ) → in_word more k ≡ (nat_eq k place && true) || in_word word k
bit_added word more place on others k = by (nat_eq k place) refl where
  by : (b : Bool) → nat_eq k place ≡ b → in_word more k ≡ (b && true) || in_word word k
  by true same = ap (in_word more) (eqb-true k place same) ∙ on
  by false apart = others k (λ e. clash_at (nat_eq k place) (eq-eqb k place e) apart)

pub bit_kept : (word place k : ℕ) → in_word word k ≡ (nat_eq k place && false) || in_word word k
bit_kept word place k = sym (ap (λ (b : Bool). b || in_word word k) (and_false (nat_eq k place)))

pub ruleset bit_where = (bit_added, bit_kept)

-- ---- the bits of a word that pass a test, place by place

pub below_none : (k : ℕ) → nat_lt k 0 ≡ false
below_none k = le-ltb k 0 (omega arith)

-- none yet
pub word_none : (test : ℕ → Bool) (k : ℕ) → in_word 0 k ≡ nat_lt k 0 && test k
word_none test k = none_in_zero k ∙ sym (ap (λ (b : Bool). b && test k) (below_none k))

-- that of one more place
pub word_more : (test : ℕ → Bool) (old new place : ℕ) (so : Bool) → ((k : ℕ) → in_word old k ≡ nat_lt k place && test k) → so ≡ test place
    → ((k : ℕ) → in_word new k ≡ (nat_eq k place && so) || in_word old k) → (k : ℕ) → in_word new k ≡ nat_lt k (place + 1) && test k
word_more test old new place so so_far is added k = added k ∙ by (nat_eq k place) refl where
  by : (b : Bool) → nat_eq k place ≡ b → (b && so) || in_word old k ≡ nat_lt k (place + 1) && test k
  by false apart = so_far k ∙ ap (λ (b : Bool). b && test k) (sym (lt_next k place apart))
  by true same =
      let here : k ≡ place = eqb-true k place same in
      let none : in_word old k ≡ false = so_far k ∙ ap (λ (b : Bool). b && test k) (ap (nat_lt k) (sym here) ∙ not_below_itself k) in
      let below : nat_lt k (place + 1) ≡ true = lt-ltb k (place + 1) (omega (arith, here)) in
      (ap (λ (b : Bool). so || b) none ∙ or_false so) ∙ ((is ∙ ap test (sym here)) ∙ sym (ap (λ (b : Bool). b && test k) below))
