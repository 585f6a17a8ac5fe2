use Rattle.provider_edge.specs.contracts.edge.Edge.{the_view}
use Rattle.provider_edge.proofs.MarkedLemmas.{wire_tidy}
use Rattle.provider_edge.proofs.edge.Edge.marks_at.Goals as goal

pub returns : goal.returns
returns c = wire_tidy (the_view c.self.inside) c.args.self.now c.args.wire.0 c.marks_with_wire.result c.self.view_is c.self.invariant c.marks_with_wire.ensures
