-- The digits of octets one piece after another.
use Rattle.std.proofs.Common.{◌≡◌, ◌≤◌, ◌+◌, ◌++◌, ◌∙◌, ℕ, List, [], length, take, drop, sym, ap}
use Rattle.std.proofs.lemmas.List.{drop_all}
use Rattle.text_pieces.specs.Pieces.{hex}
use Rattle.text_pieces.proofs.HexLemmas.{hex_from, hex_none}

-- the digits from a place on are those of the piece there, and those behind it
pub hex_at : (octets rest piece : List ℕ) (at count : ℕ) → rest ≡ drop at octets → piece ≡ take count rest → length piece ≡ count → hex (drop at octets)
    ≡ hex piece ++ hex (drop (at + length piece) octets)
hex_at octets rest piece at count behind front len =
    let is : piece ≡ take (length piece) (drop at octets) = front ∙ (ap (λ (k : ℕ). take k rest) (sym len) ∙ ap (λ (l : List ℕ). take (length piece) l) behind) in
    hex_from octets at (length piece) ∙ ap (λ (l : List ℕ). hex l ++ hex (drop (at + length piece) octets)) (sym is)

-- no octet is left
pub hex_end : (octets : List ℕ) (at : ℕ) → length octets ≤ at → hex (drop at octets) ≡ []
hex_end octets at end = ap hex (drop_all at octets end) ∙ hex_none
