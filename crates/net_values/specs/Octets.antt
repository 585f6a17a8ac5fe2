-- What an octet is.
use Rattle.std.specs.Prelude.{◌<◌, ℕ, List, slice_index}

-- each number is one that an octet holds
abbrev pub AreOctets : List ℕ → Type 0
AreOctets octets = (at : ℕ) → slice_index octets at < 256
