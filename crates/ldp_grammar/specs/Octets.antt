-- Numbers in octets, the high octet first (RFC 5036 section 3).
use Rattle.std.specs.Prelude.{◌==◌, ◌/◌, ◌%◌, ◌^◌, ℕ, Bool, List, drop}
use Rattle.byteorder.specs.Endian.{big_bytes, big_number}

-- a number in two octets, and in four
abbrev pub two : ℕ → List ℕ
two n = big_bytes 2 n

abbrev pub four : ℕ → List ℕ
four n = big_bytes 4 n

-- the number in the two octets at a place, and in the four
abbrev pub two_at : ℕ → List ℕ → ℕ
two_at place octets = big_number 2 (drop place octets)

abbrev pub four_at : ℕ → List ℕ → ℕ
four_at place octets = big_number 4 (drop place octets)

-- a bit of a number, the lowest of them 0
abbrev pub bit : ℕ → ℕ → Bool
bit place n = n / 2 ^ place % 2 == 1
