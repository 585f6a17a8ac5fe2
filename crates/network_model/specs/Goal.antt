-- Where what goes from an edge to its neighbour on the path of a wire travels: past switching points, to a terminal edge (RFC 6073
-- section 4).
use Rattle.std.specs.Prelude.{List, [], ◌∷◌, if◌then◌else◌, length, ℕ}
use Rattle.net_base.specs.declared.plan.Plan.{Plan}
use Rattle.net_base.specs.declared.plan.places.EdgeId.{EdgeId}
use Rattle.net_base.specs.declared.plan.wire_plan.WirePlan.{WirePlan}
use Rattle.net_base.specs.plan.Paths.{expected, follows}

-- the first edge of a path and its last one, or another edge where it has none
abbrev pub first_or : EdgeId → List EdgeId → EdgeId
first_or other [] = other
first_or other (first ∷ rest) = first

abbrev pub last_or : EdgeId → List EdgeId → EdgeId
last_or other [] = other
last_or other (last ∷ []) = last
last_or other (first ∷ next ∷ rest) = last_or other (next ∷ rest)

-- the terminal edge to which it travels: the last edge of the path where the neighbour comes after the edge, and else the first one
abbrev pub goal : List EdgeId → EdgeId → EdgeId → EdgeId
goal path from to = if follows path from.0 to.0 then last_or to path else first_or to path

-- the terminal edge from which it comes is the one to which what goes back travels
abbrev pub start : List EdgeId → EdgeId → EdgeId → EdgeId
start path from to = goal path to from

-- how many switching points it has passed, the edge itself among them where it is one
abbrev pub points_passed : Plan → WirePlan → ℕ → ℕ → ℕ
points_passed plan row from to = length (expected plan row from to).points
