-- Values at their places.
use Rattle.std.proofs.Common.{◌≡◌, ◌<◌, ◌≤◌, ◌+◌, ◌++◌, ℕ, zero, suc, List, [], ◌∷◌, get_or, length, slice_index_or, take, refl, arith}
use Rattle.line_shapes.specs.Shapes.{AreSmall, IsSmall, nth_value, values_behind}
use Rattle.line_shapes.specs.declared.kind.Kind.{Kind}

nothing : (place : ℕ) → nth_value place [] ≡ 0
nothing zero = refl
nothing (suc place) = nothing place

-- a value that is there
pub value_take : (items : List ℕ) (len place : ℕ) → place < len → nth_value place (take len items) ≡ slice_index_or items place 0
value_take items zero place lt = absurd (omega (arith, lt))
value_take [] (suc len) zero lt = refl
value_take [] (suc len) (suc place) lt = nothing place
value_take (x ∷ xs) (suc len) zero lt = refl
value_take (x ∷ xs) (suc len) (suc place) lt = value_take xs len place (omega (arith, lt))

-- one behind the last one
pub value_past : (items : List ℕ) (len place : ℕ) → len ≤ place → nth_value place (take len items) ≡ 0
value_past items zero place le = nothing place
value_past [] (suc len) place le = nothing place
value_past (x ∷ xs) (suc len) zero le = absurd (omega (arith, le))
value_past (x ∷ xs) (suc len) (suc place) le = value_past xs len place (omega (arith, le))

-- one place more
pub small_more : (kinds : List Kind) (values : List ℕ) (place : ℕ) (none : Kind) (value : ℕ) → place < length kinds → length values ≡ place → IsSmall (get_or kinds place none) value
    → AreSmall (take place kinds) values → AreSmall (take (place + 1) kinds) (values ++ value ∷ [])
small_more kinds values place none value lt size small are = let next : place + 1 ≡ suc place = omega arith in rw next (by kinds values place lt size small are) where
  by : (kinds : List Kind) (values : List ℕ) (place : ℕ) → place < length kinds → length values ≡ place → IsSmall (get_or kinds place none) value
      → AreSmall (take place kinds) values → AreSmall (take (suc place) kinds) (values ++ value ∷ [])
  by [] values place lt size small are = absurd (omega (arith, lt))
  by (kind ∷ kinds) [] zero lt size small are = (small, tt)
  by (kind ∷ kinds) (x ∷ values) zero lt size small are = absurd (omega (arith, size))
  by (kind ∷ kinds) [] (suc place) lt size small are = absurd (omega (arith, size))
  by (kind ∷ kinds) (x ∷ values) (suc place) lt size small are = (are.0, by kinds values place (omega (arith, lt)) (omega (arith, size)) small are.1)

-- all places
pub small_all : (kinds : List Kind) (values : List ℕ) (place : ℕ) → length kinds ≤ place → AreSmall (take place kinds) values → AreSmall kinds values
small_all [] values place all are = tt
small_all (kind ∷ kinds) values zero all are = absurd (omega (arith, all))
small_all (kind ∷ kinds) values (suc place) all are = (are.0, small_all kinds (values_behind values) place (omega (arith, all)) are.1)
