use Rattle.std.proofs.Common.{◌≡◌, subst}
use Rattle.edge_model.specs.Session.{losing_ends}
use Rattle.provider_edge.specs.contracts.edge.Edge.{the_view}
use Rattle.provider_edge.proofs.ListLemmas.{lost_already}
use Rattle.provider_edge.specs.Lists.{EdgeLists, seen}
use Rattle.provider_edge.proofs.edge.Edge.is_apart.Goals as goal

pub returns-clause-untold : goal.returns-clause-untold
returns-clause-untold c = λ is.
    subst (λ (n : EdgeLists). losing_ends c.args.peer (seen n) ≡ seen n) c.self.view_is
    (lost_already (the_view c.self.inside) c.args.peer (c.is_untold.ensures.untold is) (c.is_untold.ensures.kept is))
