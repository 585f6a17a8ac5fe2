-- Octets are written in one way without capital letters.
use Rattle.std.proofs.Common.{◌≡◌, ◌<◌, ◌≤◌, ◌+◌, ◌*◌, ◌/◌, ◌%◌, ◌==◌, ◌&&◌, ℕ, suc, Bool, true, false, List, [], ◌∷◌, Option, Some, None, IfSome, map, slice_index, option_and_then, option_map, unwrap_or, nat_lt, if◌then◌else◌, refl, arith, inl, inr}
use Rattle.std.proofs.lemmas.Bool.{cases_lt, eqb-true, and_parts}
use Rattle.std.proofs.lemmas.Bool.Decides.{Decides-ltb, nat_tests}
use Rattle.std.proofs.lemmas.List.Elements.{All-cons, All-nil}
use Rattle.hex.specs.Hex.{encode_with, lower_digits}
use Rattle.octet_text.specs.Hex.{digit_value, is_small, small_or_none, unhex}
use Rattle.plan_names.proofs.BelowLemmas.{all_below, below_at}
use Rattle.text_pieces.specs.Pieces.{hex}
use Rattle.event_rows.specs.Rows.{AreOctetsTold}
use Rattle.report_entries.specs.Reading.{digits_told}

digit_small : (d : ℕ) → d < 16 → small_or_none (slice_index lower_digits d) ≡ slice_index lower_digits d
unfolding all_below
digit_small d lt = eqb-true _ _ (below_at (λ n. small_or_none (slice_index lower_digits n) == slice_index lower_digits n) 16 d refl lt)

-- digits have no capital letter
pub digits_small : (octets : List ℕ) → AreOctetsTold octets → map small_or_none (hex octets) ≡ hex octets
unfolding encode_with
digits_small [] are = refl
digits_small (octet ∷ octets) are =
    let high : small_or_none (slice_index lower_digits (octet / 16)) ≡ slice_index lower_digits (octet / 16) = digit_small (octet / 16) (omega (arith, are 0 0 (omega arith))) in
    let low : small_or_none (slice_index lower_digits (octet % 16)) ≡ slice_index lower_digits (octet % 16) = digit_small (octet % 16) (omega arith) in
    let rest : map small_or_none (hex octets) ≡ hex octets = digits_small octets (λ k d lt. are (suc k) d (omega (arith, lt))) in
    λ i. high i ∷ low i ∷ rest i

-- a digit of this value is written so
abbrev IsDigit : ℕ → ℕ → Type 0
IsDigit octet value = (value < 16) × (slice_index lower_digits value ≡ octet)

is_digit : ℕ → ℕ → Bool
is_digit octet value = nat_lt value 16 && (slice_index lower_digits value == octet)

is_fair : ℕ → Bool
is_fair octet = unwrap_or (option_map (is_digit octet) (digit_value (small_or_none octet))) true

fair_at : (octet : ℕ) (o : Option ℕ) → unwrap_or (option_map (is_digit octet) o) true ≡ true → IfSome o (IsDigit octet)
unfolding is_digit
fair_at octet None is = tt
fair_at octet (Some value) is =
    let parts = and_parts (nat_lt value 16) (slice_index lower_digits value == octet) is in
    ((Decides-ltb value 16).0 parts.0, eqb-true (slice_index lower_digits value) octet parts.1)

no_digit : (octet : ℕ) → 103 ≤ octet → digit_value (small_or_none octet) ≡ None
no_digit octet far = by (is_small octet) where
  by : (b : Bool) → digit_value (if b then octet else 0) ≡ None
  by true = grind (arith, nat_tests, far)
  by false = refl

digit_again : (octet : ℕ) → IfSome (digit_value (small_or_none octet)) (IsDigit octet)
unfolding all_below is_fair is_digit
digit_again octet = elim (cases_lt octet 103) [
  | inl under ↦ fair_at octet (digit_value (small_or_none octet)) (below_at is_fair 103 octet refl under)
  | inr far ↦ rw (no_digit octet (omega (arith, far))) tt
]

-- octets, and their digits
abbrev pub AreTold : List ℕ → List ℕ → Type 0
AreTold word octets = AreOctetsTold octets × (hex octets ≡ word)

pair_again : (a b : ℕ) (rest : List ℕ) (x y : Option ℕ) (o : Option (List ℕ)) → IfSome x (IsDigit a) → IfSome y (IsDigit b) → IfSome o (AreTold rest)
    → IfSome (option_and_then (λ octet. option_map (λ octets. octet ∷ octets) o) (option_and_then (λ high. option_map (λ low. high * 16 + low) y) x)) (AreTold (a ∷ b ∷ rest))
unfolding encode_with
pair_again a b rest None y o first next behind = tt
pair_again a b rest (Some high) None o first next behind = tt
pair_again a b rest (Some high) (Some low) None first next behind = tt
pair_again a b rest (Some high) (Some low) (Some octets) first next behind =
    let front : (high * 16 + low) / 16 ≡ high = omega (arith, first.0, next.0) in
    let back : (high * 16 + low) % 16 ≡ low = omega (arith, first.0, next.0) in
    let few : high * 16 + low < 256 = omega (arith, first.0, next.0) in
    (All-cons (λ octet. octet < 256) (high * 16 + low) octets few behind.0, rw (front, back, first.1, next.1, behind.1) refl)

unhex_again : (word : List ℕ) → IfSome (unhex (map small_or_none word)) (AreTold word)
unfolding encode_with
unhex_again [] = (All-nil (λ octet. octet < 256), refl)
unhex_again (a ∷ []) = tt
unhex_again (a ∷ b ∷ rest) =
    pair_again a b rest (digit_value (small_or_none a)) (digit_value (small_or_none b)) (unhex (map small_or_none rest)) (digit_again a) (digit_again b) (unhex_again rest)

-- octets that are read are written so
pub octets_again : (word : List ℕ) → IfSome (digits_told word) (AreTold word)
unfolding digits_told
octets_again word = unhex_again word
