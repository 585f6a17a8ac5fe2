-- Where the choices are those of before, no end has one to tell; else one more end is passed, until all are.
use Rattle.std.proofs.Common.{None, ◌<◌, length, arith}
use Rattle.edge_model.specs.EndPlaces.{end_places}
use Rattle.edge_model.specs.Mend.{mends_choice}
use Rattle.edge_forwarding.specs.Views.{view}
use Rattle.pw_ends.specs.Ends.{place_of}
use Rattle.peer_dialogue.proofs.SpeakerLemmas.{agrees_before}
use Rattle.provider_edge.proofs.AtWorkLemmas.{works_both}
use Rattle.provider_edge.proofs.MendLemmas.{ends_next, ends_past, said_more, same_choices, within_kept}
use Rattle.provider_edge.specs.AtWork.{at_work}
use Rattle.provider_edge.specs.Lists.{seen}
use Rattle.provider_edge.proofs.edge.Edge.mend_choices.Goals as goal

pub mend_choice-requires-clause-slot : goal.mend_choice-requires-clause-slot
mend_choice-requires-clause-slot g c = within_kept c.args.self.now c.loop-slot.self c.loop-slot.slot c.loop-slot.invariant.goes.keeps
    (omega (arith, c.loop-slot-test.true, c.count_ends-slot-end.ensures.count))

pub loop-slot-preserved : goal.loop-slot-preserved
loop-slot-preserved g c = record {
  goes = works_both g.L.Link.calls _ _ _ _ _ _ c.loop-slot.invariant.goes c.in_ok-failed.ensures.goes;
  places = c.loop-slot.invariant.places;
  step = λ told agrees.
      let below : c.loop-slot.slot < length c.loop-slot.self.ends.places =
      within_kept c.args.self.now c.loop-slot.self c.loop-slot.slot c.loop-slot.invariant.goes.keeps (omega (arith, c.loop-slot-test.true, c.count_ends-slot-end.ensures.count)) in
      ends_next (λ plan. mends_choice plan told (view None c.args.chosen.now)) c.args.self.now c.loop-slot.self c.loop-slot.slot _ _ _ c.loop-slot.invariant.goes.keeps c.loop-slot.invariant.places below
      (c.loop-slot.invariant.step told (agrees_before told _ _ c.in_ok-failed.ensures.goes.on.calls agrees))
      (said_more c.loop-slot.failed c.in_ok-failed.field-0 (at_work g.L.Link.calls c.loop-slot.self c.loop-slot.work)
      (at_work g.L.Link.calls c.mend_choice.new.self c.mend_choice.new.work)
      (mends_choice c.loop-slot.self.plan told (view None c.args.chosen.now) (place_of c.loop-slot.self.ends c.loop-slot.slot)) (c.in_ok-failed.ensures.step told agrees));
}

pub returns-clause-step : goal.returns-clause-step
returns-clause-step g c = λ told agrees.
    ends_past (λ plan. mends_choice plan told (view None c.args.chosen.now)) c.args.self.now c.loop-slot.slot _ _ c.loop-slot.invariant.places
    (omega (arith, c.loop-slot-test.false, c.count_ends-slot-end.ensures.count)) (c.loop-slot.invariant.step told agrees)

pub returns-in_err-failed-clause-goes : goal.returns-in_err-failed-clause-goes
returns-in_err-failed-clause-goes g c = works_both g.L.Link.calls _ _ _ _ _ _ c.loop-slot.invariant.goes c.mend_choice.ensures.goes

pub returns-then-has_chosen-clause-step : goal.returns-then-has_chosen-clause-step
returns-then-has_chosen-clause-step g c = λ told agrees.
    same_choices c.args.self.now.plan told (view None c.args.chosen.now) (end_places c.args.self.now.plan c.args.self.now.me) (seen c.args.self.now)
    (g.L.Link.calls c.args.work.now.link.now) c.args.work.now.effects.now.list c.args.before
    (c.has_chosen.ensures c.if-has_chosen.true)
