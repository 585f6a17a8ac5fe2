use Rattle.provider_edge.specs.contracts.edge.Edge.{the_view}
use Rattle.provider_edge.proofs.MarkedLemmas.{each_tidy}
use Rattle.provider_edge.specs.Spokes.{starts_spoke}
use Rattle.provider_edge.proofs.edge.Edge.marks_of.Goals as goal

pub returns : goal.returns
returns c =
    each_tidy (the_view c.self.inside) c.args.self.now
    (starts_spoke c.args.self.now.plan c.args.self.now.me (record { 0 = c.args.service })) c.marks_with_spokes.result c.self.view_is c.self.invariant c.marks_with_spokes.ensures
