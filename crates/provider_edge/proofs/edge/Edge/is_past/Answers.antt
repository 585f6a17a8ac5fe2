-- Each end behind the last mark has none.
use Rattle.std.proofs.Common.{subst}
use Rattle.provider_edge.specs.contracts.edge.Edge.{the_view}
use Rattle.provider_edge.proofs.MarkLemmas.{settled_from}
use Rattle.provider_edge.specs.Lists.{EdgeLists, seen}
use Rattle.provider_edge.specs.Tidy.{IsSettledAt}
use Rattle.provider_edge.proofs.edge.Edge.is_past.Goals as goal

pub returns-in-Some : goal.returns-in-Some
returns-in-Some c = λ is other above.
    subst (λ (n : EdgeLists). IsSettledAt n.plan (seen n) other) c.self.view_is
    (settled_from (the_view c.self.inside) c.in-Some.marks c.args.slot c.in-Some.is c.self.invariant (c.is_past.ensures is) other above)
