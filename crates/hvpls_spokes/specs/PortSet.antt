-- Sets of ports: the port p is bit p modulo 64 of word p / 64.
use Rattle.std.specs.Prelude.{◌/◌, ◌%◌, ◌==◌, ℕ, Bool, List, slice_index}
use Rattle.std.specs.Int.{bit_at}

-- the port is in the set
abbrev pub holds_port : List ℕ → ℕ → Bool
holds_port words port = bit_at (slice_index words (port / 64)) (port % 64) == 1
