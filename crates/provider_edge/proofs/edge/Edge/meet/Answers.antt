-- No label is free by that, so the marks stay.
use Rattle.std.proofs.Common.{◌≡◌, ◌∙◌, ap, subst}
use Rattle.edge_model.specs.Labels.{meeting}
use Rattle.provider_edge.specs.contracts.edge.Edge.{the_view}
use Rattle.provider_edge.proofs.ListLemmas.{ends_met}
use Rattle.provider_edge.proofs.MarkingLemmas.{met_marked}
use Rattle.provider_edge.specs.Lists.{EdgeLists, seen}
use Rattle.provider_edge.proofs.edge.Edge.meet.Goals as goal

pub invariant_of-self : goal.invariant_of-self
invariant_of-self c =
    met_marked (the_view c.self.inside) c.args.peer c.met.new.self (ap (λ (e : EdgeLists). e.stopped) c.self.view_is ∙ c.requires.working) c.self.invariant c.met.ensures.ends

pub returns-clause-step : goal.returns-clause-step
returns-clause-step c =
    subst (λ (n : EdgeLists). seen (record (the_view c.self.inside) { ends = c.met.new.self }) ≡ meeting c.args.peer (seen n)) c.self.view_is
    (ends_met (the_view c.self.inside) c.args.peer c.met.new.self c.met.ensures.ends)
