-- Terminal edges of a wire that forward.
use Rattle.std.specs.Prelude.{ℕ, Bool, false, Option, Some, None}
use Rattle.net_base.specs.declared.plan.Plan.{Plan}
use Rattle.net_base.specs.declared.plan.places.EdgeId.{EdgeId}
use Rattle.edge_model.specs.Ends.{end_forwards}
use Rattle.network_model.specs.State.{NetworkState}

-- an edge that is told forwards
abbrev pub forwards_if : Plan → NetworkState → ℕ → Option EdgeId → Bool
forwards_if plan network wire None = false
forwards_if plan network wire (Some edge) = end_forwards plan (network.edges edge.0) (record { 0 = wire })
