-- The Internet checksum (RFC 1071 section 1).
use Rattle.std.specs.Prelude.{◌≡◌, ◌+◌, ◌*◌, ◌-◌, ◌/◌, ◌%◌, ◌++◌, ℕ, List, [], ◌∷◌}
use Rattle.byteorder.specs.Endian.{big_bytes}

-- the octets as words of sixteen bits; one last octet alone is the high half of a word
abbrev pub words : List ℕ → List ℕ
words [] = []
words (octet ∷ []) = octet * 256 ∷ []
words (high ∷ low ∷ octets) = (high * 256 + low) ∷ words octets

-- the sum of two words in ones' complement: the carry is added at the lowest bit
unfoldable pub ones_plus : ℕ → ℕ → ℕ
ones_plus a b = (a + b) % 65536 + (a + b) / 65536

-- the sum of all words
abbrev pub ones_total : List ℕ → ℕ
ones_total [] = 0
ones_total (word ∷ rest) = ones_plus word (ones_total rest)

-- the ones' complement sum of the words of the octets
abbrev pub ones_sum : List ℕ → ℕ
ones_sum octets = ones_total (words octets)

-- what a receiver tests: the ones' complement sum, checksum and all, is all ones
abbrev pub IsSummed : List ℕ → Type 0
IsSummed octets = ones_sum octets ≡ 65535

-- the octets with their checksum between the two parts: the complement of their ones' complement sum, in which the
-- checksum counts as 0 (RFC 791 section 3.1, RFC 792)
abbrev pub summed : List ℕ → List ℕ → List ℕ
summed front back = front ++ (big_bytes 2 (65535 - ones_sum (front ++ (0 ∷ 0 ∷ back))) ++ back)
