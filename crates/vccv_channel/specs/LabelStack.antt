-- Entries of a label stack (RFC 3032 section 2.1).
use Rattle.std.specs.Prelude.{◌+◌, ◌*◌, ℕ, Bool, List, if◌then◌else◌}
use Rattle.byteorder.specs.Endian.{big_bytes}

-- 20 bits of label, three of traffic class, which are 0, the bottom bit and 8 bits of TTL
abbrev pub stack_entry : ℕ → Bool → ℕ → List ℕ
stack_entry label bottom ttl = big_bytes 4 (label * 4096 + ((if bottom then 256 else 0) + ttl))
