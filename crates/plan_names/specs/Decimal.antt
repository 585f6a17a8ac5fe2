-- Decimal numbers without leading zeros.
use Rattle.std.specs.Prelude.{◌==◌, ◌&&◌, ◌+◌, ◌-◌, ◌*◌, not, nat_le, nat_lt, ℕ, Bool, List, [], ◌∷◌, length, slice_index, Option, Some, None, if◌then◌else◌}
use Rattle.std.specs.List.{list_all}

abbrev pub is_digit_of : ℕ → Bool
is_digit_of octet = nat_le 48 octet && nat_le octet 57

-- the number that digits write, behind those that wrote this one
abbrev pub value_from : ℕ → List ℕ → ℕ
value_from before [] = before
value_from before (d ∷ ds) = value_from (before * 10 + (d - 48)) ds

-- digits, and no zero in front of others
abbrev pub is_decimal : List ℕ → Bool
is_decimal text = (nat_lt 0 (length text) && list_all is_digit_of text) && not (slice_index text 0 == 48 && nat_lt 1 (length text))

-- a decimal number from low to high
abbrev pub decimal_from : ℕ → ℕ → List ℕ → Option ℕ
decimal_from low high text = if is_decimal text && (nat_le low (value_from 0 text) && nat_le (value_from 0 text) high) then Some (value_from 0 text) else None
