-- Which edges of a plan are joined, as an index of pairs.
use Rattle.std.specs.Prelude.{◌≡◌, ℕ, Bool, List, length, nat_lt}
use Rattle.std.specs.List.{list_all}
use Rattle.net_base.specs.declared.plan.Plan.{Plan}
use Rattle.net_base.specs.declared.plan.places.EdgeId.{EdgeId}
use Rattle.net_base.specs.plan.Paths.{are_joined}
use Rattle.psn_net.specs.PairIndex.{IndexLists, has_mark}

-- a pair has a mark exactly where a segment of some wire joins the two edges (RFC 6073)
pub record IsJoinedIndex (plan : Plan) (index : IndexLists) : Type 0 where
  pub size : length index.rows ≡ length plan.edges
  pub each : (a b : ℕ) → has_mark index a b ≡ are_joined plan a b

-- the edges of a path are of the first so many
abbrev pub are_below : ℕ → List EdgeId → Bool
are_below count path = list_all (λ edge. nat_lt edge.0 count) path
