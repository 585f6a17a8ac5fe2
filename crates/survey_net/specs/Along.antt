-- What is asked along the path of a wire.
use Rattle.std.specs.Prelude.{◌&&◌, nat_lt, ℕ, Bool, true, false, List, [], ◌∷◌, Option, Some, None}
use Rattle.net_base.specs.declared.plan.places.EdgeId.{EdgeId}
use Rattle.network_model.specs.State.{NetworkState}
use Rattle.settle_laws.specs.Sound.{is_clear}

-- an edge is one of at most 64
abbrev pub is_one : EdgeId → Bool
is_one edge = nat_lt edge.0 64

-- each two neighbours on a path are a pair
abbrev pub are_pairs : (ℕ → ℕ → Bool) → List EdgeId → Bool
are_pairs pair [] = true
are_pairs pair (last ∷ []) = true
are_pairs pair (first ∷ next ∷ rest) = pair first.0 next.0 && are_pairs pair (next ∷ rest)

-- an edge is a pair with the first one after it, where there is one
abbrev pub meets_next : (ℕ → ℕ → Bool) → EdgeId → List EdgeId → Bool
meets_next pair first [] = true
meets_next pair first (next ∷ rest) = pair first.0 next.0

-- the end of a wire at an edge has no failure bits, where there is an edge
abbrev pub is_clear_at : NetworkState → ℕ → Option EdgeId → Bool
is_clear_at network wire None = false
is_clear_at network wire (Some edge) = is_clear network wire edge

-- the priority number of a wire at an edge, where there is an edge
abbrev pub number_there : NetworkState → ℕ → Option EdgeId → ℕ
number_there network wire None = 0
number_there network wire (Some edge) = (network.edges edge.0).priority wire
