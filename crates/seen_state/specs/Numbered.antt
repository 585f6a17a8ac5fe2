-- Values by numbers.
use Rattle.std.specs.Prelude.{ℕ, [], List, Option, Some, None}
use Rattle.std.specs.BTreeMap.{is_at}
use Rattle.std.specs.Map.{lookup}
use Rattle.std.specs.Ordering.{nat_cmp}
use Rattle.numbered_row.specs.Places.{Places, placed_at}

pub record Values (V : Type 0) : Type 0 where
  pub row : Places V
  -- the values that have no place
  pub others : List (ℕ × V)

-- the first one, or else the second one
abbrev pub or_other : {V : Type 0} → Option V → Option V → Option V
or_other (Some value) other = Some value
or_other None other = other

-- the value of a number
abbrev pub value_at : {V : Type 0} → Values V → ℕ → Option V
value_at values number = or_other (placed_at values.row number) (lookup (is_at (nat_cmp number)) values.others)

abbrev pub no_values : {V : Type 0} → Values V
no_values = record { row = record { first = 0; places = [] }; others = [] }
