use Rattle.std.proofs.Common.{subst}
use Rattle.provider_edge.proofs.BoundsLemmas.{bounded}
use Rattle.provider_edge.specs.Bounds.{IsBounded}
use Rattle.provider_edge.specs.Lists.{EdgeLists, seen}
use Rattle.provider_edge.specs.contracts.edge.Edge.{the_view}
use Rattle.provider_edge.proofs.edge.Edge.bounded.Goals as goal

pub returns : goal.returns
returns c = subst (λ (n : EdgeLists). IsBounded n.plan (seen n)) c.self.view_is (bounded (the_view c.self.inside) c.self.invariant c.bounded.ensures.few c.bounded.ensures.past)
