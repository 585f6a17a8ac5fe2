-- Digits where capital letters are digits, and where they are none: by lanes and one by one.
use Rattle.std.proofs.Common.{◌≡◌, ◌<◌, ◌∙◌, ℕ, zero, suc, Bool, true, false, eqb, eqb→eq, List, [], ◌∷◌, drop, length, map, refl, ap, sym, arith, slice_index, take}
use Rattle.std.proofs.lemmas.Bool.{agree_below, agree_below_at}
use Rattle.std.proofs.lemmas.Float.{T_from_true}
use Rattle.std.proofs.lemmas.List.{drop-map, length-map, take-map}
use Rattle.std.specs.Simd.Lanes.{chunk}
use Rattle.octet_text.specs.Hex.{digit_in, digit_value, digits_in, lowered, part, small_or_none, small_part, worth}

-- ---- parts of digits

pub digits_length : (capitals : Bool) (word : List ℕ) → length (digits_in capitals word) ≡ length word
digits_length true word = refl
digits_length false word = length-map word small_or_none

small_at : (word : List ℕ) (i : ℕ) → i < length word → slice_index (map small_or_none word) i ≡ small_or_none (slice_index word i)
small_at [] i within = absurd (omega (arith, within))
small_at (a ∷ rest) zero within = refl
small_at (a ∷ rest) (suc i) within = small_at rest i (omega (arith, within))

pub digits_at : (capitals : Bool) (word : List ℕ) (i : ℕ) → i < length word → slice_index (digits_in capitals word) i ≡ digit_in capitals (slice_index word i)
digits_at true word i within = refl
digits_at false word i within = small_at word i within

pub digits_chunk : (capitals : Bool) (word : List ℕ) (at : ℕ) → chunk at 16 (digits_in capitals word) ≡ digits_in capitals (chunk at 16 word)
digits_chunk true word at = refl
digits_chunk false word at = ap (take 16) (drop-map small_or_none at word) ∙ take-map small_or_none 16 (drop at word)

pub digits_drop : (capitals : Bool) (rest word : List ℕ) (at : ℕ) → rest ≡ drop at word → digits_in capitals rest ≡ drop at (digits_in capitals word)
digits_drop true rest word at is = is
digits_drop false rest word at is = ap (map small_or_none) is ∙ sym (drop-map small_or_none at word)

pub digits_take : (capitals : Bool) (piece word : List ℕ) (n : ℕ) → piece ≡ take n word → digits_in capitals piece ≡ take n (digits_in capitals word)
digits_take true piece word n is = is
digits_take false piece word n is = ap (map small_or_none) is ∙ sym (take-map small_or_none n word)

-- ---- what they are worth

worth_small : (word : List ℕ) → map worth (map small_or_none word) ≡ map (λ d. worth (small_or_none d)) word
worth_small [] = refl
worth_small (a ∷ rest) = ap (λ (l : List ℕ). worth (small_or_none a) ∷ l) (worth_small rest)

pub worth_in : (capitals : Bool) (word : List ℕ) → map worth (digits_in capitals word) ≡ map (λ d. worth (digit_in capitals d)) word
worth_in true word = refl
worth_in false word = worth_small word

-- no letter is lowered
pub as_they_are : (word : List ℕ) → word ≡ map (lowered false) word
as_they_are [] = refl
as_they_are (a ∷ rest) = ap (λ (l : List ℕ). a ∷ l) (as_they_are rest)

-- the value of a digit where capital letters are digits, and where they are none
pub any_part : (digit : ℕ) (capitals : Bool) → capitals ≡ true → part (digit_value digit) ≡ part (digit_value (digit_in capitals digit))
any_part digit capitals is = ap (λ (c : Bool). part (digit_value (digit_in c digit))) (sym is)

agrees : agree_below (λ x. eqb (small_part x) (part (digit_value (small_or_none x)))) (λ _. true) 256 ≡ true
agrees = refl

pub small_in : (digit : ℕ) (capitals : Bool) → capitals ≡ false → digit < 256 → small_part digit ≡ part (digit_value (digit_in capitals digit))
small_in digit capitals is lt =
    eqb→eq (small_part digit) (part (digit_value (small_or_none digit)))
    (T_from_true (eqb (small_part digit) (part (digit_value (small_or_none digit)))) (agree_below_at (λ x. eqb (small_part x) (part (digit_value (small_or_none x)))) (λ _. true) 256 digit agrees lt))
    ∙ ap (λ (c : Bool). part (digit_value (digit_in c digit))) (sym is)
