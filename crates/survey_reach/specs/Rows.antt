-- Lists by places.
use Rattle.std.specs.Prelude.{◌≡◌, ◌<◌, ℕ, List, length, slice_index_or}

-- a list has so many items, and at each place what is given for it
pub record IsFilled {B : Type 0} (given : ℕ → B) (none : B) (count : ℕ) (items : List B) : Type 0 where
  pub all : length items ≡ count
  pub each : (place : ℕ) → place < count → slice_index_or items place none ≡ given place
