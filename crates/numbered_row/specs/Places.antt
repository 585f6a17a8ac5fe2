-- Places in a row, each of a number.
use Rattle.std.specs.Prelude.{◌≡◌, ◌⊎◌, ◌&&◌, ◌==◌, ◌+◌, ◌-◌, nat_le, nat_lt, ℕ, Bool, true, false, List, [], ◌∷◌, Option, Some, None, length, if◌then◌else◌}

-- places in a row, each of a number
pub record Places (V : Type 0) : Type 0 where
  -- the number of the first place
  pub first : ℕ
  pub places : List (Option V)

-- the number has a place
abbrev pub has_place : {V : Type 0} → Places V → ℕ → Bool
has_place row number = nat_le row.first number && nat_lt (number - row.first) (length row.places)

-- the place of the number would stand behind the last one, or be the only one
abbrev pub IsNext : {V : Type 0} → Places V → ℕ → Type 0
IsNext row number = (length row.places ≡ 0) ⊎ (row.first + length row.places ≡ number)

-- the value at the place of a number, where the first place is that of this one
abbrev pub value_placed : {V : Type 0} → ℕ → List (Option V) → ℕ → Option V
value_placed first [] number = None
value_placed first (place ∷ places) number = if number == first then place else value_placed (first + 1) places number

abbrev pub placed_at : {V : Type 0} → Places V → ℕ → Option V
placed_at row number = value_placed row.first row.places number

-- the values at places behind their numbers, where the first place is that of this one
abbrev pub placed_from : {V : Type 0} → ℕ → List (Option V) → List (ℕ × V)
placed_from n [] = []
placed_from n (None ∷ places) = placed_from (n + 1) places
placed_from n (Some value ∷ places) = (n, value) ∷ placed_from (n + 1) places

-- the first place has no value
abbrev pub starts_vacant : {V : Type 0} → List (Option V) → Bool
starts_vacant [] = false
starts_vacant (None ∷ places) = true
starts_vacant (Some value ∷ places) = false

-- without the places before the first value
abbrev pub trimmed : {V : Type 0} → List (Option V) → List (Option V)
trimmed [] = []
trimmed (None ∷ places) = trimmed places
trimmed (Some value ∷ places) = Some value ∷ places
