use Rattle.std.proofs.Common.{◌<◌, ◌∙◌, length, ap, sym, subst}
use Rattle.std.specs.List.{list_any}
use Rattle.edge_model.specs.EndPlaces.{is_end_of_wire}
use Rattle.provider_edge.specs.contracts.edge.Edge.{the_view}
use Rattle.provider_edge.proofs.ListLemmas.{ends_within}
use Rattle.provider_edge.specs.Lists.{EdgeLists}
use Rattle.provider_edge.proofs.edge.Edge.ends_here.Goals as goal

pub returns-clause-within : goal.returns-clause-within
returns-clause-within c = λ found.
    subst (λ (n : EdgeLists). c.args.wire.0 < length n.plan.wires) c.self.view_is
    (ends_within (the_view c.self.inside).plan (the_view c.self.inside).me c.args.wire
    (ap (list_any (is_end_of_wire c.args.wire)) (sym c.self.invariant.places) ∙ (sym c.ends_here.ensures.ends ∙ found)))
