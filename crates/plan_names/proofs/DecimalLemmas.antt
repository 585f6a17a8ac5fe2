-- Digits, and their value, which grows.
use Rattle.std.proofs.Common.{◌≡◌, ◌<◌, ◌≤◌, ◌∙◌, ◌+◌, ◌-◌, ◌*◌, ◌^◌, ℕ, zero, suc, true, false, List, [], ◌∷◌, nat_le, eqb, length, drop, get_or, Some, refl, sym, ap, arith}
use Rattle.std.proofs.lemmas.Fmt.{digits_value-decimal, digits_decimal, decimal_nonempty, decimal_digit, first_decimal}
use Rattle.std.proofs.lemmas.List.{drop_more}
use Rattle.std.proofs.lemmas.Str.Parse.{IsNumeralModel, IsDigitsTest, numerals_by_fold}
use Rattle.std.specs.Fmt.{decimal}
use Rattle.std.specs.List.{list_all}
use Rattle.std.proofs.lemmas.Bool.{lt-leb, lt-ltb, le-leb, ne_eqb, and_parts as parts}
use Rattle.std.proofs.lemmas.Bool.Decides.{nat_tests}
use Rattle.plan_names.specs.Decimal.{decimal_from, is_decimal, is_digit_of, value_from}

pub in_range : (c : ℕ) → is_digit_of c ≡ true → (48 ≤ c) × (c ≤ 57)
in_range c e = grind (arith, nat_tests, e)

pub is_digit : (c : ℕ) → (48 ≤ c) × (c ≤ 57) → is_digit_of c ≡ true
is_digit c k = grind (arith, nat_tests, k.0, k.1)

value_grows : (before : ℕ) (ds : List ℕ) → before ≤ value_from before ds
value_grows before [] = omega arith
value_grows before (d ∷ ds) = omega (arith, value_grows (before * 10 + (d - 48)) ds)

-- a value above the limit stays there
pub too_large : (next limit : ℕ) (ds : List ℕ) → limit < next → nat_le (value_from next ds) limit ≡ false
too_large next limit ds above = lt-leb (value_from next ds) limit (omega (arith, value_grows next ds))

-- the value of one digit more is above the limit, so that of all is
pub too_large_at : (value limit next i : ℕ) (text : List ℕ) → i < length text → value_from value (drop i text) ≡ value_from 0 text → next ≡ value * 10 + (get_or text i 0 - 48) → limit < next
    → nat_le (value_from 0 text) limit ≡ false
too_large_at value limit next i text within so_far is above =
    let parted : drop i text ≡ get_or text i 0 ∷ drop (i + 1) text = drop_more text i 0 within in
    let all : value_from next (drop (i + 1) text) ≡ value_from 0 text = ap (λ n. value_from n (drop (i + 1) text)) is ∙ ap (λ xs. value_from value xs) (sym parted) ∙ so_far in
    ap (λ n. nat_le n limit) (sym all) ∙ too_large next limit (drop (i + 1) text) above

-- ---- what decimal says is read

pub tells_digits : IsDigitsTest (λ ds. list_all is_digit_of ds ≡ true)
tells_digits = record {
  empty = refl;
  parts = λ c cs e. let both = parts (is_digit_of c) (list_all is_digit_of cs) e in (in_range c both.0, both.1);
  more = λ c cs k e. rw (is_digit c k) e;
}

pub numerals : IsNumeralModel (λ ds. list_all is_digit_of ds ≡ true) (value_from 0)
numerals = numerals_by_fold _ tells_digits value_from (record { empty = λ n. refl; more = λ n c cs k. refl })

some_decimal : (n : ℕ) → n < 2 ^ 64 → is_decimal (decimal n) ≡ true
some_decimal zero h = ap is_decimal (decimal_digit 0 (omega arith))
some_decimal (suc n) h =
    let lead : 48 < get_or (decimal (suc n)) 0 0 = first_decimal (suc n) (omega arith) h in
    let apart : eqb (get_or (decimal (suc n)) 0 0) 48 ≡ false = ne_eqb _ 48 (λ e. omega (arith, e, lead)) in
    rw (lt-ltb 0 _ (decimal_nonempty (suc n) h), digits_decimal numerals (suc n) h, apart) refl

-- a number in its range
pub number_said : (low high n : ℕ) → low ≤ n → n ≤ high → n < 2 ^ 64 → decimal_from low high (decimal n) ≡ Some n
number_said low high n least most h =
    rw (some_decimal n h, digits_value-decimal numerals n h, le-leb low n least, le-leb n high most) refl
