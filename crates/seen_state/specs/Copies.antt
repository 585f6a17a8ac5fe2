-- The packets under way, by their numbers and by the frames that they carry copies of.
use Rattle.std.specs.Prelude.{◌≡◌, ◌≤◌, ◌+◌, ◌==◌, ℕ, Bool, false, List, [], ◌∷◌, Option, Some, None, unwrap_or, if◌then◌else◌}
use Rattle.seen_network.specs.Seen.{SeenCopy, origin_among}
use Rattle.seen_state.specs.Numbered.{Values, value_at}

-- two maps of the packets under way, and how many have come
pub record CopyMaps : Type 0 where
  -- the frame that a packet carries a copy of, by the packet's number
  pub origins : Values ℕ
  -- how many copies of a frame are under way
  pub counts : Values ℕ
  -- how many packets have come so far
  pub comings : ℕ

-- the frame that a packet carries a copy of
abbrev pub origin_under : CopyMaps → ℕ → Option ℕ
origin_under maps number = value_at maps.origins number

abbrev pub count_in : Values ℕ → ℕ → ℕ
count_in counts origin = unwrap_or (value_at counts origin) 0

-- no more copies of a frame than packets that came
abbrev pub AreFew : CopyMaps → Type 0
AreFew maps = (origin : ℕ) → count_in maps.counts origin ≤ maps.comings

-- how many of these are copies of the frame
abbrev pub copies_of : ℕ → List SeenCopy → ℕ
copies_of origin [] = 0
copies_of origin (copy ∷ copies) = (if copy.origin == origin then 1 else 0) + copies_of origin copies

-- no two have one number
abbrev pub HaveOwnNumbers : List SeenCopy → Type 0
HaveOwnNumbers [] = Unit {0}
HaveOwnNumbers (copy ∷ copies) = (origin_among copy.number copies ≡ None) × HaveOwnNumbers copies

-- the maps tell of these packets
pub record TellsPackets (maps : CopyMaps) (copies : List SeenCopy) : Type 0 where
  pub origins : (number : ℕ) → origin_under maps number ≡ origin_among number copies
  pub counts : (origin : ℕ) → count_in maps.counts origin ≡ copies_of origin copies
  pub own : HaveOwnNumbers copies

-- it is this number
abbrev pub is_number : ℕ → Option ℕ → Bool
is_number number None = false
is_number number (Some other) = other == number
