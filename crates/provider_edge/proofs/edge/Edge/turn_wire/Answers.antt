-- The wire is put on or off, and its ends have marks.
use Rattle.std.proofs.Common.{rules}
use Rattle.provider_edge.specs.contracts.edge.Edge.{the_view}
use Rattle.provider_edge.proofs.MarkingLemmas.{off_marked, off_seen, on_marked, on_seen}
use Rattle.provider_edge.proofs.edge.Edge.turn_wire.Goals as goal

pub invariant_of-self : goal.invariant_of-self
invariant_of-self c =
    on_marked (the_view c.self.inside) c.args.self.now c.args.wire c.args.on c.renew.new.self c.marks_at-marks.result c.self.view_is c.self.invariant c.requires.working c.requires.within c.marks_at-marks.ensures (search rules)
    c.renew.ensures.places c.renew.ensures.seen c.renew.ensures.next c.renew.ensures.kept

pub returns-then-on-clause-step : goal.returns-then-on-clause-step
returns-then-on-clause-step c =
    on_seen (the_view c.self.inside) c.args.self.now c.args.wire c.args.on c.renew.new.self c.marks_at-marks.result c.self.view_is c.self.invariant c.requires.within c.if-on.true c.renew.ensures.places c.renew.ensures.seen c.renew.ensures.next c.renew.ensures.kept

pub invariant_of-self-else-on : goal.invariant_of-self-else-on
invariant_of-self-else-on c = off_marked (the_view c.self.inside) c.args.self.now c.args.wire c.args.on c.marks_at-marks.result c.self.view_is c.self.invariant c.requires.within c.marks_at-marks.ensures (search rules)

pub returns-else-on-clause-step : goal.returns-else-on-clause-step
returns-else-on-clause-step c = off_seen (the_view c.self.inside) c.args.self.now c.args.wire c.args.on c.marks_at-marks.result c.self.view_is c.self.invariant c.requires.within c.if-on.false
