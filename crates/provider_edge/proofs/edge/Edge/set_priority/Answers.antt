-- The priority is set, and the ends of the wire have marks.
use Rattle.std.proofs.Common.{rules}
use Rattle.provider_edge.specs.contracts.edge.Edge.{the_view}
use Rattle.provider_edge.proofs.MarkingLemmas.{priority_marked, priority_seen}
use Rattle.provider_edge.proofs.edge.Edge.set_priority.Goals as goal

pub invariant_of-self : goal.invariant_of-self
invariant_of-self c = priority_marked (the_view c.self.inside) c.args.self.now c.args.wire c.args.priority c.marks_at-marks.result c.self.view_is c.self.invariant c.requires.within c.marks_at-marks.ensures (search rules)

pub returns-clause-step : goal.returns-clause-step
returns-clause-step c = priority_seen (the_view c.self.inside) c.args.self.now c.args.wire c.args.priority c.marks_at-marks.result c.self.view_is c.self.invariant c.requires.within
