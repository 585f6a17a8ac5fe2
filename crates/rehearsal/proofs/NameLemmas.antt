-- A letter and a number are a name.
use Rattle.std.proofs.Common.{◌≡◌, ◌≤◌, ◌<◌, ◌^◌, ◌++◌, ◌&&◌, nat_le, ℕ, Bool, true, false, IsTrue, List, [], ◌∷◌, length, decimal, refl, arith}
use Rattle.std.specs.List.{list_all}
use Rattle.std.proofs.lemmas.Bool.Decides.{nat_tests}
use Rattle.std.proofs.lemmas.Fmt.{decimal_is_IsNumeral, length-decimal-le}
use Rattle.std.specs.Str.Parse.{AllDigits}
use Rattle.std.proofs.lemmas.Str.Parse.{digit_from_value}
use Rattle.net_values.specs.Name.{IsName, is_name_octet_of}

is_digit : (c : ℕ) → 48 ≤ c → c ≤ 57 → is_name_octet_of c ≡ true
is_digit c low high = grind (arith, nat_tests)

are_digits : (ds : List ℕ) → AllDigits 10 ds → list_all is_name_octet_of ds ≡ true
are_digits [] all = refl
are_digits (d ∷ ds) all = let r = digit_from_value d all.0 in rw (is_digit d r.0 r.1) (are_digits ds all.1)

allowed : (b : Bool) → IsTrue (b && true) → b ≡ true
allowed true h = refl
allowed false h = h

first_allowed : (x : ℕ) → IsName (x ∷ []) → is_name_octet_of x ≡ true
first_allowed x name = allowed (is_name_octet_of x) name

name_of : (text : List ℕ) → 1 ≤ length text → length text ≤ 32 → list_all is_name_octet_of text ≡ true → IsName text
name_of text some fits all = let low : nat_le 1 (length text) ≡ true = grind (arith, nat_tests) in let high : nat_le (length text) 32 ≡ true = grind (arith, nat_tests) in
    rw low (rw high (rw all refl))

pub numbered_name : (letter : List ℕ) (number : ℕ) → IsName letter → length letter ≡ 1 → number < 2 ^ 16 → IsName (letter ++ decimal number)
numbered_name [] number name one small = absurd (omega arith)
numbered_name (x ∷ []) number name one small =
    let len = length-decimal-le 5 number (omega arith) (omega arith) (omega arith) in
    name_of (x ∷ decimal number) (omega arith) (omega arith) (rw (first_allowed x name) (are_digits (decimal number) (decimal_is_IsNumeral number (omega arith)).0.1))
numbered_name (x ∷ y ∷ rest) number name one small = absurd (omega arith)
