-- The names of rows, by their places.
use Rattle.std.proofs.Common.{◌≡◌, ◌<◌, ℕ, zero, suc, List, [], ◌∷◌, length, map, get_or, slice_get, Some, option_map, refl, arith}
use Rattle.std.proofs.lemmas.List.{length-map}
use Rattle.plan_names.specs.Names.{place_in}
use Rattle.plan_names.specs.Planned.{AreNames}
use Rattle.plan_names.proofs.NameLemmas.{place_found}
use Rattle.line_shapes.specs.Words.{name_or_empty}

pub row_name : {Y : Type 0} (f : Y → List ℕ) (rows : List Y) (i : ℕ) → i < length rows → name_or_empty (option_map f (slice_get rows i)) ≡ get_or (map f rows) i []
row_name f [] i lt = absurd (omega arith)
row_name f (row ∷ rows) zero lt = refl
row_name f (row ∷ rows) (suc i) lt = row_name f rows i (omega arith)

pub row_said : {Y : Type 0} (f : Y → List ℕ) (rows : List Y) (i : ℕ) → AreNames (map f rows) → i < length rows
    → place_in (map f rows) (name_or_empty (option_map f (slice_get rows i))) ≡ Some i
row_said f rows i are lt = rw (row_name f rows i lt) (place_found (map f rows) i are (rw length-map lt))
