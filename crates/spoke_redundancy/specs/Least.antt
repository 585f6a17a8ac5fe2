-- The least priority number of the usable ones of some spokes.
use Rattle.std.specs.Prelude.{◌≡◌, ◌&&◌, not, nat_lt, ℕ, Bool, false, List, Option, Some, None}
use Rattle.std.specs.List.{list_any}
use Rattle.spoke_redundancy.specs.declared.spoke.Spoke.{Spoke}

-- the spoke is usable, and its priority number is less than this one
abbrev pub is_usable_below : ℕ → Spoke → Bool
is_usable_below number spoke = spoke.usable && nat_lt spoke.priority number

-- there is a least number, and it is less than this one
abbrev pub is_less : Option ℕ → ℕ → Bool
is_less None number = false
is_less (Some least) number = nat_lt least number

-- the spoke is usable, and the least number is not less than its priority number
abbrev pub is_least : Option ℕ → Spoke → Bool
is_least least spoke = spoke.usable && not (is_less least spoke.priority)

-- it is less than a number exactly where the priority number of some usable spoke is
pub record IsLeast (spokes : List Spoke) (least : Option ℕ) : Type 0 where
  pub below : (number : ℕ) → list_any (is_usable_below number) spokes ≡ is_less least number
