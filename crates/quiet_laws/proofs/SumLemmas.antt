-- Sums over the places below one.
use Rattle.std.proofs.Common.{◌≡◌, ◌≤◌, ◌<◌, ◌+◌, ◌∙◌, ℕ, zero, suc, Bool, true, false, cond, nat_eq, ◌⊎◌, inl, inr, refl, sym, ap, subst, arith}
use Rattle.std.proofs.lemmas.Bool.{cases_lt, eqb-true, eq-eqb}
use Rattle.net_values.proofs.BoolLemmas.{clash}
use Rattle.quiet_laws.specs.Measure.{sum_below}

pub sums_less : (f g : ℕ → ℕ) (n : ℕ) → ((k : ℕ) → f k ≤ g k) → sum_below f n ≤ sum_below g n
sums_less f g zero less = omega arith
sums_less f g (suc n) less = omega (arith, less n, sums_less f g n less)

pub sums_two : (f g : ℕ → ℕ) (n : ℕ) → sum_below (λ k. f k + g k) n ≡ sum_below f n + sum_below g n
sums_two f g zero = refl
sums_two f g (suc n) = omega (arith, sums_two f g n)

-- at one place alone
abbrev pub at_place : ℕ → ℕ → ℕ → ℕ
at_place p x k = cond (nat_eq k p) x 0

none_sum : (p x n : ℕ) → n ≤ p → sum_below (at_place p x) n ≡ 0
none_sum p x zero le = refl
none_sum p x (suc n) le = by (λ lower. none_sum p x n lower) (nat_eq n p) refl where
  apart : n ≡ p → suc n ≤ p → ⊥
  apart is le = omega (arith, is, le)

  only : (a b : ℕ) → b ≡ 0 → a ≡ 0 → a + b ≡ 0
  only a b one other = omega (arith, one, other)

  lower : suc n ≤ p → n ≤ p
  lower le = omega (arith, le)

  by : (n ≤ p → sum_below (at_place p x) n ≡ 0) → (b : Bool) → nat_eq n p ≡ b → cond (nat_eq n p) x 0 + sum_below (at_place p x) n ≡ 0
  by rest true is = absurd (apart (eqb-true n p is) le)
  by rest false is = only (cond (nat_eq n p) x 0) (sum_below (at_place p x) n) (rest (lower le)) (ap (λ (b : Bool). cond b x 0) is)

pub point_most : (p x n : ℕ) → sum_below (at_place p x) n ≤ x
point_most p x zero = omega arith
point_most p x (suc n) = by (point_most p x n) (nat_eq n p) refl where
  here : (a b : ℕ) → a ≡ x → b ≡ 0 → a + b ≤ x
  here a b one other = omega (arith, one, other)

  there : (a b : ℕ) → a ≡ 0 → b ≤ x → a + b ≤ x
  there a b one other = omega (arith, one, other)

  same : n ≡ p → n ≤ p
  same is = omega (arith, is)

  by : sum_below (at_place p x) n ≤ x → (b : Bool) → nat_eq n p ≡ b → cond (nat_eq n p) x 0 + sum_below (at_place p x) n ≤ x
  by rest true is = here (cond (nat_eq n p) x 0) (sum_below (at_place p x) n) (ap (λ (b : Bool). cond b x 0) is) (none_sum p x n (same (eqb-true n p is)))
  by rest false is = there (cond (nat_eq n p) x 0) (sum_below (at_place p x) n) (ap (λ (b : Bool). cond b x 0) is) rest

pub point_least : (p x n : ℕ) → p < n → x ≤ sum_below (at_place p x) n
point_least p x zero le = absurd (no le) where
  no : p < 0 → ⊥
  no le = omega (arith, le)
point_least p x (suc n) le = by (λ less. point_least p x n less) (nat_eq n p) refl where
  here : (a b : ℕ) → a ≡ x → x ≤ a + b
  here a b one = omega (arith, one)

  there : (a b : ℕ) → x ≤ b → x ≤ a + b
  there a b le = omega (arith, le)

  below : (n ≡ p → ⊥) → p < suc n → p < n
  below apart le = omega (arith, apart, le)

  other : nat_eq n p ≡ false → n ≡ p → ⊥
  other is same = clash (sym is ∙ eq-eqb n p same)

  by : (p < n → x ≤ sum_below (at_place p x) n) → (b : Bool) → nat_eq n p ≡ b → x ≤ cond (nat_eq n p) x 0 + sum_below (at_place p x) n
  by rest true is = here (cond (nat_eq n p) x 0) (sum_below (at_place p x) n) (ap (λ (b : Bool). cond b x 0) is)
  by rest false is = there (cond (nat_eq n p) x 0) (sum_below (at_place p x) n) (rest (less n p le (other is))) where
    less : (n p : ℕ) → p < suc n → (n ≡ p → ⊥) → p < n
    less n p le apart = either (cases_lt p n) where
      at_end : (n p : ℕ) → p < suc n → n ≤ p → n ≡ p
      at_end n p le more = omega (arith, le, more)

      either : (p < n) ⊎ (n ≤ p) → p < n
      either (inl below) = below
      either (inr more) = absurd (apart (at_end n p le more))

-- one place is no more than all
pub place_less : (f : ℕ → ℕ) (p n : ℕ) → p < n → f p ≤ sum_below f n
place_less f p n below = both (f p) (sum_below (at_place p (f p)) n) (sum_below f n) (point_least p (f p) n below) (sums_less (at_place p (f p)) f n each) where
  both : (a b c : ℕ) → a ≤ b → b ≤ c → a ≤ c
  both a b c one other = omega (arith, one, other)

  each : (k : ℕ) → at_place p (f p) k ≤ f k
  each k = by (nat_eq k p) refl where
    same : (a b : ℕ) → a ≡ b → a ≤ b
    same a b is = omega (arith, is)

    by : (b : Bool) → nat_eq k p ≡ b → cond (nat_eq k p) (f p) 0 ≤ f k
    by true is = same (cond (nat_eq k p) (f p) 0) (f k) (ap (λ (b : Bool). cond b (f p) 0) is ∙ ap f (sym (eqb-true k p is)))
    by false is = subst (λ (b : Bool). cond b (f p) 0 ≤ f k) (sym is) (omega arith)

-- ---- over two places

abbrev pub grid : (ℕ → ℕ → ℕ) → ℕ → ℕ
grid f n = sum_below (λ a. sum_below (λ b. f a b) n) n

-- at one pair alone
abbrev pub at_pair : (p q x a b : ℕ) → ℕ
at_pair p q x a b = at_place p (at_place q x b) a

row_point : (p q x n a : ℕ) → sum_below (λ b. at_pair p q x a b) n ≡ at_place p (sum_below (at_place q x) n) a
row_point p q x n a = by (nat_eq a p) refl where
  nothing : (n : ℕ) → sum_below (λ b. 0) n ≡ 0
  nothing zero = refl
  nothing (suc n) = omega (arith, nothing n)

  by : (c : Bool) → nat_eq a p ≡ c → sum_below (λ b. cond (nat_eq a p) (at_place q x b) 0) n ≡ cond (nat_eq a p) (sum_below (at_place q x) n) 0
  by true is = ap (λ (c : Bool). sum_below (λ b. cond c (at_place q x b) 0) n) is ∙ sym (ap (λ (c : Bool). cond c (sum_below (at_place q x) n) 0) is)
  by false is = ap (λ (c : Bool). sum_below (λ b. cond c (at_place q x b) 0) n) is ∙ (nothing n ∙ sym (ap (λ (c : Bool). cond c (sum_below (at_place q x) n) 0) is))

pub same_sums : (f g : ℕ → ℕ) (n : ℕ) → ((k : ℕ) → f k ≡ g k) → sum_below f n ≡ sum_below g n
same_sums f g zero same = refl
same_sums f g (suc n) same = omega (arith, same n, same_sums f g n same)

pub pair_most : (p q x n : ℕ) → grid (at_pair p q x) n ≤ x
pair_most p q x n = both (sum_below (λ a. sum_below (λ b. at_pair p q x a b) n) n) (sum_below (at_place p (sum_below (at_place q x) n)) n) (sum_below (at_place q x) n) x
    (same_sums (λ a. sum_below (λ b. at_pair p q x a b) n) (at_place p (sum_below (at_place q x) n)) n (row_point p q x n)) (point_most p (sum_below (at_place q x) n) n) (point_most q x n)
  where
    both : (a b c d : ℕ) → a ≡ b → b ≤ c → c ≤ d → a ≤ d
    both a b c d is one other = omega (arith, is, one, other)

pub pair_least : (p q x n : ℕ) → p < n → q < n → x ≤ grid (at_pair p q x) n
pair_least p q x n one other = both (sum_below (λ a. sum_below (λ b. at_pair p q x a b) n) n) (sum_below (at_place p (sum_below (at_place q x) n)) n) (sum_below (at_place q x) n) x
    (same_sums (λ a. sum_below (λ b. at_pair p q x a b) n) (at_place p (sum_below (at_place q x) n)) n (row_point p q x n)) (point_least p (sum_below (at_place q x) n) n one) (point_least q x n other)
  where
    both : (a b c d : ℕ) → a ≡ b → c ≤ b → d ≤ c → d ≤ a
    both a b c d is one other = omega (arith, is, one, other)

-- in one row alone
pub row_most : (p : ℕ) (f : ℕ → ℕ) (n : ℕ) → grid (λ a b. at_place p (f b) a) n ≤ sum_below f n
row_most p f n = both (sum_below (λ a. sum_below (λ b. at_place p (f b) a) n) n) (sum_below (at_place p (sum_below f n)) n) (sum_below f n)
    (same_sums (λ a. sum_below (λ b. at_place p (f b) a) n) (at_place p (sum_below f n)) n row) (point_most p (sum_below f n) n)
  where
    both : (a b c : ℕ) → a ≡ b → b ≤ c → a ≤ c
    both a b c is le = omega (arith, is, le)

    nothing : (n : ℕ) → sum_below (λ b. 0) n ≡ 0
    nothing zero = refl
    nothing (suc n) = omega (arith, nothing n)

    row : (a : ℕ) → sum_below (λ b. at_place p (f b) a) n ≡ at_place p (sum_below f n) a
    row a = by (nat_eq a p) refl where
      by : (c : Bool) → nat_eq a p ≡ c → sum_below (λ b. cond (nat_eq a p) (f b) 0) n ≡ cond (nat_eq a p) (sum_below f n) 0
      by true is = ap (λ (c : Bool). sum_below (λ b. cond c (f b) 0) n) is ∙ sym (ap (λ (c : Bool). cond c (sum_below f n) 0) is)
      by false is = ap (λ (c : Bool). sum_below (λ b. cond c (f b) 0) n) is ∙ (nothing n ∙ sym (ap (λ (c : Bool). cond c (sum_below f n) 0) is))

pub grids_less : (f g : ℕ → ℕ → ℕ) (n : ℕ) → ((a b : ℕ) → f a b ≤ g a b) → grid f n ≤ grid g n
grids_less f g n less = sums_less (λ a. sum_below (λ b. f a b) n) (λ a. sum_below (λ b. g a b) n) n (λ a. sums_less (λ b. f a b) (λ b. g a b) n (λ b. less a b))

pub grids_two : (f g : ℕ → ℕ → ℕ) (n : ℕ) → grid (λ a b. f a b + g a b) n ≡ grid f n + grid g n
grids_two f g n =
    same_sums (λ a. sum_below (λ b. f a b + g a b) n) (λ a. sum_below (λ b. f a b) n + sum_below (λ b. g a b) n) n (λ a. sums_two (λ b. f a b) (λ b. g a b) n)
    ∙ sums_two (λ a. sum_below (λ b. f a b) n) (λ a. sum_below (λ b. g a b) n) n
