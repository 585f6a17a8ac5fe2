-- What a switching point accepts: a content that has not passed it yet, and may pass one more (RFC 6073 section 7.6).
use Rattle.std.specs.Prelude.{◌&&◌, not, nat_lt, length, ℕ, Bool, false, Option, Some, None}
use Rattle.std.specs.List.{list_any}
use Rattle.std.specs.Str.{bytes_eq}
use Rattle.net_values.specs.declared.addr.Addr.{Addr}
use Rattle.pw_tlvs.specs.declared.point.Point.{Point}
use Rattle.pw_signalling.specs.declared.told.Told.{Told}

-- a wire passes five edges at most, of which three are switching points
abbrev pub most_points : ℕ
most_points = 3

-- the address of a point, where it tells one, is this own one
abbrev pub is_address : Addr → Option Addr → Bool
is_address own None = false
is_address own (Some address) = bytes_eq own.0 address.0

-- it is the point of the switching point with this address
abbrev pub is_point_at : Addr → Point → Bool
is_point_at own point = is_address own point.local

-- the same of a point, where there is one
abbrev pub is_held_at : Addr → Option Point → Bool
is_held_at own None = false
is_held_at own (Some point) = is_point_at own point

-- a content that has not passed this switching point, nor three others (RFC 6073 section 7.6)
abbrev pub accepts : Addr → Told → Bool
accepts own told = not (list_any (is_point_at own) told.points) && nat_lt (length told.points) most_points
