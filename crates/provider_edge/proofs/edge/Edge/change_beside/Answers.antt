-- The ends are changed, and those of their wires have marks.
use Rattle.std.proofs.Common.{◌∙◌}
use Rattle.pw_ends.specs.Changes.{changed}
use Rattle.pw_ends.specs.Ends.{seen_ends}
use Rattle.pw_ends.proofs.SlotLemmas.{fresh_stays}
use Rattle.provider_edge.specs.contracts.edge.Edge.{the_view}
use Rattle.provider_edge.specs.Lists.{EdgeLists}
use Rattle.provider_edge.proofs.GivenLemmas.{group_keeps}
use Rattle.provider_edge.proofs.MarkingLemmas.{group_marked, group_seen}
use Rattle.provider_edge.proofs.edge.Edge.change_beside.Goals as goal

pub invariant_of-self : goal.invariant_of-self
invariant_of-self c =
    let v : EdgeLists = the_view c.self.inside in
    group_marked v c.args.self.now c.change_beside.new.self c.args.peer (changed c.args.change.now) c.marks_beside-marks.result
    c.self.view_is c.self.invariant c.requires.working c.change_beside.ensures.places (fresh_stays c.args.change.now) c.change_beside.ensures.seen c.change_beside.ensures.next
    (c.change_beside.ensures.kept ∙ group_keeps c.args.peer (changed c.args.change.now) (seen_ends v.ends) v.ends.places v.ends.labels.kept c.requires.labels) c.marks_beside-marks.ensures

pub returns-clause-step : goal.returns-clause-step
returns-clause-step c =
    let v : EdgeLists = the_view c.self.inside in
    group_seen v c.args.self.now c.change_beside.new.self c.args.peer
    (changed c.args.change.now) c.marks_beside-marks.result c.self.view_is c.change_beside.ensures.places c.change_beside.ensures.seen c.change_beside.ensures.next
    (c.change_beside.ensures.kept ∙ group_keeps c.args.peer (changed c.args.change.now) (seen_ends v.ends) v.ends.places v.ends.labels.kept c.requires.labels)
