-- A text is cut at an octet.
use Rattle.std.specs.Int.{w64, trailing_zeros}
use Rattle.std.specs.Prelude.{◌==◌, ℕ, List, [], ◌∷◌, Option, Some, None, if◌then◌else◌}

-- the octets before the first such one, or all where there is none
abbrev pub before_mark : ℕ → List ℕ → List ℕ
before_mark mark [] = []
before_mark mark (octet ∷ octets) = if octet == mark then [] else octet ∷ before_mark mark octets

-- those behind it
abbrev pub behind_mark : ℕ → List ℕ → Option (List ℕ)
behind_mark mark [] = None
behind_mark mark (octet ∷ octets) = if octet == mark then Some octets else behind_mark mark octets

-- the place of the lowest bit that is set, or so many
abbrev pub lowest_bit : ℕ → ℕ → ℕ
lowest_bit bits most = if bits == 0 then most else trailing_zeros w64 bits
