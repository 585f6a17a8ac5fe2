-- The table of digits, checked octet by octet.
use Rattle.std.proofs.Common.{◌≡◌, ◌<◌, ◌+◌, ◌*◌, ◌/◌, ◌%◌, ◌==◌, ◌&&◌, ℕ, zero, suc, Bool, true, slice_index, refl}
use Rattle.std.proofs.lemmas.Bool.Decides.{Decides-below_and, Decides-eqb}
use Rattle.hex.specs.Hex.{lower_digits}
use Rattle.text_pieces.specs.declared.hexadecimal.TheConstants.{PAIRS}

high : ℕ → ℕ
high octet = slice_index PAIRS.now (2 * octet)

low : ℕ → ℕ
low octet = slice_index PAIRS.now (2 * octet + 1)

high_match : ℕ → Bool
high_match zero = true
high_match (suc n) = (high n == slice_index lower_digits (n / 16)) && high_match n

low_match : ℕ → Bool
low_match zero = true
low_match (suc n) = (low n == slice_index lower_digits (n % 16)) && low_match n

-- the first digit that the table has for an octet
pub high_digit : (octet : ℕ) → octet < 256 → slice_index PAIRS.now (2 * octet) ≡ slice_index lower_digits (octet / 16)
unfolding high high_match
high_digit =
    (Decides-below_and (λ n. high n == slice_index lower_digits (n / 16)) (λ n. high n ≡ slice_index lower_digits (n / 16)) high_match (λ n. Decides-eqb _ _) refl (λ _. refl) 256).0 refl

-- and the second one
pub low_digit : (octet : ℕ) → octet < 256 → slice_index PAIRS.now (2 * octet + 1) ≡ slice_index lower_digits (octet % 16)
unfolding low low_match
low_digit =
    (Decides-below_and (λ n. low n == slice_index lower_digits (n % 16)) (λ n. low n ≡ slice_index lower_digits (n % 16)) low_match (λ n. Decides-eqb _ _) refl (λ _. refl) 256).0 refl
