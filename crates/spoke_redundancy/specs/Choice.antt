-- The choice among spokes (RFC 6870, RFC 4762 section 10.2.1).
use Rattle.std.specs.Prelude.{◌&&◌, not, nat_lt, ℕ, Bool, List, Option, position}
use Rattle.std.specs.List.{list_any}
use Rattle.spoke_redundancy.specs.declared.spoke.Spoke.{Spoke}

-- a spoke that can be chosen
abbrev pub is_usable_spoke : Spoke → Bool
is_usable_spoke spoke = spoke.usable

-- the other spoke is usable, and its priority number is less
abbrev pub comes_before : Spoke → Spoke → Bool
comes_before spoke other = other.usable && nat_lt other.priority spoke.priority

-- the spoke is usable, and none of these comes before it
abbrev pub is_best : List Spoke → Spoke → Bool
is_best spokes spoke = spoke.usable && not (list_any (comes_before spoke) spokes)

-- the place of the spoke that is chosen: the first of the best ones
abbrev pub chosen : List Spoke → Option ℕ
chosen spokes = position (is_best spokes) spokes
