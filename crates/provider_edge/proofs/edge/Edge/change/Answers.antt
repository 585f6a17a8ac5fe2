-- The end is changed, and those of its wire have marks.
use Rattle.pw_ends.specs.Changes.{changed}
use Rattle.provider_edge.specs.contracts.edge.Edge.{the_view}
use Rattle.provider_edge.proofs.MarkingLemmas.{end_marked, end_seen}
use Rattle.provider_edge.proofs.edge.Edge.change.Goals as goal

pub invariant_of-self : goal.invariant_of-self
invariant_of-self c =
    end_marked (the_view c.self.inside) c.args.self.now c.change.new.self (changed c.args.change.now) c.args.slot c.place_at.result c.marks_at-marks.result
    c.self.view_is c.self.invariant c.requires.working c.change.ensures.places c.change.ensures.seen c.change.ensures.next c.change.ensures.kept c.place_at.ensures.place c.marks_at-marks.ensures

pub returns-clause-step : goal.returns-clause-step
returns-clause-step c =
    end_seen (the_view c.self.inside) c.args.self.now c.change.new.self
    (changed c.args.change.now) c.args.slot c.marks_at-marks.result c.self.view_is c.change.ensures.places c.change.ensures.seen c.change.ensures.next c.change.ensures.kept
