-- A change of what a switching point should tell: one of the status alone goes on by a Notification (RFC 6073 section 10), and for any
-- other the label is withdrawn and advertised again.
use Rattle.std.specs.Prelude.{◌==◌, ◌&&◌, nat_eq, slice_get, ℕ, Bool, List, None}
use Rattle.std.specs.Bool.{beq}
use Rattle.std.specs.Cmp.Lexicographic.{pointwise}
use Rattle.std.specs.Option.{option_eq}
use Rattle.std.specs.Str.{bytes_eq}
use Rattle.net_values.specs.declared.addr.Addr.{Addr}
use Rattle.pw_tlvs.specs.declared.point.Point.{Point}
use Rattle.pw_signalling.specs.declared.told.Told.{Told}

abbrev pub is_same_address : Addr → Addr → Bool
is_same_address one other = bytes_eq one.0 other.0

abbrev pub is_same_point : Point → Point → Bool
is_same_point one other = (option_eq nat_eq one.pw_id other.pw_id && option_eq is_same_address one.local other.local) && option_eq is_same_address one.remote other.remote

-- the types of control channels, and of connectivity verification
abbrev pub are_same_channels : ℕ × ℕ → ℕ × ℕ → Bool
are_same_channels one other = one.0 == other.0 && one.1 == other.1

abbrev pub has_same_channels : Told → Told → Bool
has_same_channels one other = option_eq are_same_channels one.vccv other.vccv

-- the same channels, and the same description
abbrev pub has_same_texts : Told → Told → Bool
has_same_texts one other = has_same_channels one other && bytes_eq one.description other.description

-- the same MTU, and the same VLAN ID
abbrev pub has_same_numbers : Told → Told → Bool
has_same_numbers one other = option_eq nat_eq one.mtu other.mtu && option_eq nat_eq one.vlan other.vlan

-- the interface parameters of both are the same
abbrev pub has_same_params : Told → Told → Bool
has_same_params one other = has_same_texts one other && has_same_numbers one other

-- both are the same but for the status
abbrev pub is_same_but_status : Told → Told → Bool
is_same_but_status one other =
    (((beq one.c other.c && one.kind == other.kind) && one.group == other.group) && has_same_params one other) && pointwise is_same_point one.points other.points

-- a content without its status
abbrev pub without_status : Told → Told
without_status told = record told { status = None }

-- ---- at most three points, place by place

-- the points at one place are the same, or both lists have none there
abbrev pub is_same_at : List Point → List Point → ℕ → Bool
is_same_at points others at = option_eq is_same_point (slice_get points at) (slice_get others at)

abbrev pub are_same_three : List Point → List Point → Bool
are_same_three points others = (is_same_at points others 0 && is_same_at points others 1) && is_same_at points others 2
