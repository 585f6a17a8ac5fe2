-- Words and hexadecimal digits.
use Rattle.std.specs.Prelude.{◌++◌, ℕ, codes, List, [], ◌∷◌}
use Rattle.hex.specs.Hex.{encode_lower}

-- words with a blank before each
abbrev pub spaced : List (List ℕ) → List ℕ
spaced [] = []
spaced (word ∷ words) = (codes " " ++ word) ++ spaced words

-- two digits for each octet, the high one first, in lower case
abbrev pub hex : List ℕ → List ℕ
hex octets = encode_lower octets
