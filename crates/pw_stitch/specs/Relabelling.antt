-- The first entry of a packet's label stack gets another label and another TTL (RFC 3032 section 2.1).
use Rattle.std.specs.Prelude.{◌+◌, ◌*◌, ◌/◌, ◌%◌, ◌++◌, ℕ, List, drop}
use Rattle.byteorder.specs.Endian.{big_bytes, big_number}

-- the traffic class and the bottom bit stay, and so does all behind the entry
abbrev pub relabelled : ℕ → ℕ → List ℕ → List ℕ
relabelled label ttl packet = big_bytes 4 (label * 4096 + (big_number 4 packet / 256 % 16 * 256 + ttl)) ++ drop 4 packet
