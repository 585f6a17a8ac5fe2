-- Addresses as numbers.
use Rattle.std.proofs.Common.{◌≡◌, ◌<◌, ◌==◌, ◌+◌, ◌*◌, ℕ, true, false, not, List, [], ◌∷◌, length, nat_lt, arith}
use Rattle.std.specs.List.{AllByRecursion}
use Rattle.std.specs.Str.{bytes_eq}
use Rattle.std.proofs.lemmas.Bool.{ne_eqb}
use Rattle.byteorder.specs.Endian.{big_number}

-- the digits of equal numbers are equal, the highest first
first_same : (a b r s : ℕ) → r < 16777216 → s < 16777216 → a * 16777216 + r ≡ b * 16777216 + s → a ≡ b
first_same a b r s small small' same = omega arith

second_same : (a b r s : ℕ) → r < 65536 → s < 65536 → a * 65536 + r ≡ b * 65536 + s → a ≡ b
second_same a b r s small small' same = omega arith

third_same : (a b r s : ℕ) → r < 256 → s < 256 → a * 256 + r ≡ b * 256 + s → a ≡ b
third_same a b r s small small' same = omega arith

same_digits : (a b c d e f g h : ℕ) → a < 256 → b < 256 → c < 256 → d < 256 → e < 256 → f < 256 → g < 256 → h < 256
    → a * 16777216 + (b * 65536 + (c * 256 + d)) ≡ e * 16777216 + (f * 65536 + (g * 256 + h)) → (a ≡ e) × (b ≡ f) × (c ≡ g) × (d ≡ h)
same_digits a b c d e f g h la lb lc ld le lf lg lh same =
    let one : a ≡ e = first_same a e (b * 65536 + (c * 256 + d)) (f * 65536 + (g * 256 + h)) (omega arith) (omega arith) same in
    let two : b ≡ f = second_same b f (c * 256 + d) (g * 256 + h) (omega arith) (omega arith) (omega arith) in
    let three : c ≡ g = third_same c g d h ld lh (omega arith) in
    (one, two, three, omega arith)

-- equal octets are equal lists
same_octets : (a b c d e f g h : ℕ) → a ≡ e → b ≡ f → c ≡ g → d ≡ h → bytes_eq (a ∷ b ∷ c ∷ d ∷ []) (e ∷ f ∷ g ∷ h ∷ []) ≡ true
same_octets a b c d e f g h one two three four = grind (arith)

four_apart : (a b c d e f g h : ℕ) → a < 256 → b < 256 → c < 256 → d < 256 → e < 256 → f < 256 → g < 256 → h < 256 → bytes_eq (a ∷ b ∷ c ∷ d ∷ []) (e ∷ f ∷ g ∷ h ∷ []) ≡ false
    → a * 16777216 + (b * 65536 + (c * 256 + d)) ≡ e * 16777216 + (f * 65536 + (g * 256 + h)) → ⊥
four_apart a b c d e f g h la lb lc ld le lf lg lh apart same =
    let digits = same_digits a b c d e f g h la lb lc ld le lf lg lh same in
    let equal = same_octets a b c d e f g h digits.0 digits.1 digits.2 digits.3 in
    grind (arith)

-- other octets are another number
pub numbers_apart : (xs ys : List ℕ) → length xs ≡ 4 → length ys ≡ 4 → AllByRecursion (λ octet. octet < 256) xs → AllByRecursion (λ octet. octet < 256) ys → bytes_eq xs ys ≡ false
    → (big_number 4 xs == big_number 4 ys) ≡ false
numbers_apart (a ∷ b ∷ c ∷ d ∷ []) (e ∷ f ∷ g ∷ h ∷ []) four four' octets octets' apart =
    ne_eqb (big_number 4 (a ∷ b ∷ c ∷ d ∷ [])) (big_number 4 (e ∷ f ∷ g ∷ h ∷ []))
    (λ same. four_apart a b c d e f g h octets.0 octets.1.0 octets.1.1.0 octets.1.1.1.0 octets'.0 octets'.1.0 octets'.1.1.0 octets'.1.1.1.0 apart (omega (arith, same)))
numbers_apart xs ys four four' octets octets' apart = grind (arith)

-- of two numbers that differ one is the larger
pub one_larger : (n m : ℕ) → (n == m) ≡ false → nat_lt n m ≡ not (nat_lt m n)
one_larger n m apart = grind (arith)
