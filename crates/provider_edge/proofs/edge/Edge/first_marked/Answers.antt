-- Each end before the first mark has none.
use Rattle.std.proofs.Common.{subst}
use Rattle.provider_edge.specs.contracts.edge.Edge.{the_view}
use Rattle.provider_edge.proofs.MarkLemmas.{settled_before}
use Rattle.provider_edge.specs.Lists.{EdgeLists, seen}
use Rattle.provider_edge.specs.Tidy.{IsSettledAt}
use Rattle.provider_edge.proofs.edge.Edge.first_marked.Goals as goal

pub returns-in-Some : goal.returns-in-Some
returns-in-Some c = λ slot below.
    subst (λ (n : EdgeLists). IsSettledAt n.plan (seen n) slot) c.self.view_is
    (settled_before (the_view c.self.inside) c.in-Some.marks c.first.result c.in-Some.is c.self.invariant c.first.ensures slot below)
