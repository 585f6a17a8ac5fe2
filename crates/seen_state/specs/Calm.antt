-- What is seen of a plan's network.
use Rattle.net_base.specs.declared.plan.Plan.{Plan}
use Rattle.seen_state.specs.SeenEdges.{SeenEdgeLists}

-- what is seen of the edges, and the plan
pub record SeenOfPlan : Type 0 where
  pub seen_edges : SeenEdgeLists
  pub plan : Plan
