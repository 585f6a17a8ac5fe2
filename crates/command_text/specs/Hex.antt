-- The octets of a frame.
use Rattle.std.specs.Prelude.{◌&&◌, nat_le, ℕ, List, length, Option, Some, None, option_and_then, if◌then◌else◌}
use Rattle.octet_text.specs.Hex.{unhex}

-- the octets, where they are 1 to 9216
abbrev pub of_frame_size : List ℕ → Option (List ℕ)
of_frame_size octets = if nat_le 1 (length octets) && nat_le (length octets) 9216 then Some octets else None

-- the octets of a frame
abbrev pub frame_of : List ℕ → Option (List ℕ)
frame_of digits = option_and_then of_frame_size (unhex digits)
