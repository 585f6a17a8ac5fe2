-- Lists by place seen as maps.
use Rattle.std.specs.Prelude.{ℕ, List, slice_index_or}

-- a list by place as a map, with the value past its end
abbrev pub view : {X : Type 0} → X → List X → ℕ → X
view past items place = slice_index_or items place past
