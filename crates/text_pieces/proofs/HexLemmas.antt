-- The digits of octets one piece after another.
use Rattle.std.proofs.Common.{◌≡◌, ◌≤◌, ◌+◌, ◌*◌, ◌/◌, ◌%◌, ◌++◌, ◌∙◌, ℕ, List, [], ◌∷◌, length, take, drop, refl, ap, sym, arith, append_assoc, take-append-drop}
use Rattle.std.specs.Prelude.{slice_index}
use Rattle.std.proofs.lemmas.List.{append-nil, drop-drop, drop_all}
use Rattle.std.specs.Simd.Lanes.{put_chunk}
use Rattle.std.proofs.lemmas.Simd.{take_more_put_chunk}
use Rattle.hex.specs.Hex.{encode_with, lower_digits}
use Rattle.text_pieces.specs.Pieces.{hex}

digits_of-append : (digits front back : List ℕ) → encode_with digits (front ++ back) ≡ encode_with digits front ++ encode_with digits back
unfolding encode_with
digits_of-append digits [] back = refl
digits_of-append digits (octet ∷ front) back = ap (λ (l : List ℕ). slice_index digits (octet / 16) ∷ slice_index digits (octet % 16) ∷ l) (digits_of-append digits front back)

pub hex-append : (front back : List ℕ) → hex (front ++ back) ≡ hex front ++ hex back
hex-append front back = digits_of-append lower_digits front back

-- the digits from a place on are those of a piece there, and those behind it
pub hex_from : (octets : List ℕ) (at count : ℕ) → hex (drop at octets) ≡ hex (take count (drop at octets)) ++ hex (drop (at + count) octets)
hex_from octets at count =
    ap hex (sym (take-append-drop count (drop at octets)))
    ∙ (hex-append (take count (drop at octets)) (drop count (drop at octets)) ∙ ap (λ (l : List ℕ). hex (take count (drop at octets)) ++ hex l) (drop-drop count at octets))

pub hex_none : hex [] ≡ []
unfolding encode_with
hex_none = refl

-- a piece's digits are added
pub digits_next : (text now whole octets rest piece : List ℕ) (at mid : ℕ) → rest ≡ drop at octets → piece ≡ take mid rest → length piece ≡ mid
    → now ≡ text ++ hex piece → text ++ hex (drop at octets) ≡ whole → now ++ hex (drop (at + length piece) octets) ≡ whole
digits_next text now whole octets rest piece at mid behind front len adds told =
    let more : List ℕ = hex (drop (at + length piece) octets) in
    let is : piece ≡ take (length piece) (drop at octets) = front ∙ (ap (λ (k : ℕ). take k rest) (sym len) ∙ ap (λ (l : List ℕ). take (length piece) l) behind) in
    let split : hex (drop at octets) ≡ hex piece ++ more = hex_from octets at (length piece) ∙ ap (λ (l : List ℕ). hex l ++ more) (sym is) in
    (ap (λ (l : List ℕ). l ++ more) adds ∙ append_assoc text (hex piece) more) ∙ (ap (λ (l : List ℕ). text ++ l) (sym split) ∙ told)

-- no octet is left
pub digits_all : (text whole octets : List ℕ) (at : ℕ) → length octets ≤ at → text ++ hex (drop at octets) ≡ whole → text ≡ whole
digits_all text whole octets at end told =
    (sym (append-nil text) ∙ ap (λ (l : List ℕ). text ++ l) (sym (ap hex (drop_all at octets end) ∙ hex_none))) ∙ told

-- no digit is written yet
pub hex_begun : (digits octets : List ℕ) → take (2 * 0) digits ++ hex (drop 0 octets) ≡ hex octets
hex_begun digits octets = refl

-- the digits of eight octets are written behind those before them
pub sixteen_written : (digits octets made now : List ℕ) (at : ℕ) → at + 8 ≤ length octets → length digits ≡ 2 * length octets → length made ≡ 16
    → made ≡ hex (take 8 (drop at octets)) → now ≡ put_chunk (2 * at) digits made → take (2 * at) digits ++ hex (drop at octets) ≡ hex octets
    → take (2 * (at + 8)) now ++ hex (drop (at + 8) octets) ≡ hex octets
sixteen_written digits octets made now at within size len is put told =
    let more : List ℕ = hex (drop (at + 8) octets) in
    let adds : take (2 * (at + 8)) now ≡ take (2 * at) digits ++ made =
    ap (take (2 * (at + 8))) put ∙ take_more_put_chunk (2 * at) digits made (2 * (at + 8)) (omega (arith, len)) (omega (arith, within, size)) in
    let split : hex (drop at octets) ≡ made ++ more = hex_from octets at 8 ∙ ap (λ (l : List ℕ). l ++ more) (sym is) in
    (ap (λ (l : List ℕ). l ++ more) adds ∙ append_assoc (take (2 * at) digits) made more)
    ∙ (ap (λ (l : List ℕ). take (2 * at) digits ++ l) (sym split) ∙ told)
