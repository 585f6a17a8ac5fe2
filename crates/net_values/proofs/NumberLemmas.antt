-- Numbers, and the tests on them.
use Rattle.std.proofs.Common.{◌&&◌, ◌+◌, ◌-◌, ◌<◌, ◌==◌, ◌^◌, ◌≡◌, ◌≢◌, ◌≤◌, ◌⊎◌, Bool, arith, cond, false, inl, inr, nat_eq, nat_lt, suc, true, zero, ℕ}
use Rattle.std.proofs.lemmas.Bool.{cases_lt}
use Rattle.std.proofs.lemmas.Bool.Decides.{nat_tests}

pub above_apart : (a b : ℕ) → a < b → nat_eq b a ≡ false
above_apart a b less = grind (arith, nat_tests)

pub add_none : (last : Bool) {sum : ℕ} → sum ≡ 0 → cond last 1 0 + sum ≡ cond last 1 0
add_none true e = omega arith
add_none false e = omega arith

pub add_zero : (p : ℕ) → p ≡ p + zero
add_zero p = omega arith

pub apart_back : (m n : ℕ) → nat_eq m n ≡ false → nat_eq n m ≡ false
apart_back m n apart = grind (arith, nat_tests)

pub apart_test : (a b : ℕ) → a ≢ b → (a == b) ≡ false
apart_test a b differ = grind (arith, nat_tests)

pub at_start : (n : ℕ) → n + zero ≡ n
at_start n = omega arith

pub before_next : (tick t now : ℕ) → now ≡ t + 1 → tick ≤ t → tick ≤ now
before_next tick t now is past = omega (arith, is, past)

pub below_32_bits : (n : ℕ) → n ≤ 4294967295 → n < 2 ^ 32
below_32_bits n few = omega (arith, few)

pub below_apart : (x y : ℕ) → x < y → (x == y) ≡ false
below_apart x y h = grind (arith, nat_tests, h)

pub difference_of : (a b c : ℕ) → a + b ≡ c → c - b ≡ a
difference_of a b c is = omega (arith, is)

pub elsewhere : (a b c : ℕ) → (a == b) ≡ true → (b == c) ≡ false → (a == c) ≡ false
elsewhere a b c here other = grind (arith, nat_tests)

pub equal_at_most : (tick ticks : ℕ) → tick ≡ ticks → tick ≤ ticks
equal_at_most tick ticks is = omega (arith, is)

pub equal_back : (m n : ℕ) → (m == n) ≡ true → (n == m) ≡ true
equal_back m n is = grind (arith, nat_tests)

pub equal_over : (m n s : ℕ) → nat_eq m s ≡ true → nat_eq n s ≡ true → nat_eq m n ≡ true
equal_over m n s first second = grind (arith, nat_tests)

pub equal_to_one : {P : Type 0} (a b c : ℕ) → (a == c) ≡ true → (b == c) ≡ true → (a == b) ≡ false → P
equal_to_one a b c one two other = grind (arith, nat_tests)

pub equal_turned : (m n : ℕ) → nat_eq m n ≡ nat_eq n m
equal_turned m n = grind (arith, nat_tests)

pub from_none : (i : ℕ) → 0 + i ≡ i
from_none i = omega arith

pub from_none_back : (k : ℕ) → k ≡ 0 + k
from_none_back k = omega arith

pub is_none : (n : ℕ) → nat_lt 0 n ≡ false → n ≡ 0
is_none n h = grind (arith, nat_tests, h)

pub less_apart : (a b : ℕ) → nat_lt a b ≡ true → (a == b) ≡ false
less_apart a b less = grind (arith, nat_tests)

pub lt_next : (p k : ℕ) → nat_eq p k ≡ false → nat_lt p (k + 1) ≡ nat_lt p k
lt_next p k apart = grind (arith, nat_tests, apart)

pub next_place : (n j : ℕ) → (n + 1) + j ≡ n + suc j
next_place n j = omega arith

pub next_within : (t now n limit : ℕ) → now ≡ t + 1 → t + suc n < limit → now + n < limit
next_within t now n limit is within = omega (arith, is, within)

pub next_within_less : (t n limit : ℕ) → t + suc n < limit → t + 1 < limit
next_within_less t n limit within = omega (arith, within)

pub none_below : (k : ℕ) → nat_lt k 0 ≡ true → ⊥
none_below k less = grind (arith, nat_tests)

pub not_below_itself : (n : ℕ) → nat_lt n n ≡ false
not_below_itself n = grind (arith, nat_tests)

pub one_before : (a b : ℕ) → nat_eq a b ≡ false → (a < b) ⊎ (b < a)
one_before a b apart = elim (cases_lt a b) [
  | inl before ↦ inl before
  | inr behind ↦ inr (grind (arith, nat_tests))
]

pub same_number : (n : ℕ) → nat_eq n n ≡ true
same_number n = grind (arith, nat_tests)

pub step_into : (n k : ℕ) → n + suc k ≡ (n + 1) + k
step_into n k = omega arith

pub step_over : (p i : ℕ) → p + 1 + i ≡ p + suc i
step_over p i = omega arith

pub suc_is_add : (n : ℕ) → suc n ≡ n + 1
suc_is_add n = omega arith

pub test_turned : (a b : ℕ) (v : Bool) → (a == b) ≡ v → (b == a) ≡ v
test_turned a b v is = grind (arith, nat_tests)

pub ttl_lives : (t m : ℕ) → m ≤ 5 → t + m ≡ 255 → nat_eq t 1 ≡ false
ttl_lives t m few is = grind (arith, nat_tests)

pub ttl_most : (t m : ℕ) → t + m ≡ 255 → t ≤ 255
ttl_most t m is = omega (arith, is)

pub ttl_passed : (t m n : ℕ) → n ≡ m + 1 → 1 ≤ t → t + m ≡ 255 → (t - 1) + n ≡ 255
ttl_passed t m n more some is = omega (arith, more, some, is)

pub ttl_whole : (n : ℕ) → n ≡ 0 → 255 + n ≡ 255
ttl_whole n is = omega (arith, is)

pub turned_away : (a b : ℕ) → (a == b) ≡ false → (b == a && a == b) ≡ false
turned_away a b is = grind (arith, is)

pub two_same : (a b : ℕ) → (a == a && b == b) ≡ true
two_same a b = grind (arith, nat_tests)

pub zero_below : (n : ℕ) → nat_lt 0 (suc n) ≡ true
zero_below n = grind (arith, nat_tests)
