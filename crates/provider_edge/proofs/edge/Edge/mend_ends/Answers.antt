-- The ends before the first mark and behind the last one are settled; of those between one more is mended, until all are.
use Rattle.std.proofs.Common.{◌<◌, false, length, arith}
use Rattle.edge_model.specs.Mend.{mends_end}
use Rattle.pw_ends.specs.Ends.{place_of}
use Rattle.peer_dialogue.proofs.SpeakerLemmas.{agrees_before}
use Rattle.peer_dialogue.proofs.AtWorkLemmas.{work_same}
use Rattle.provider_edge.proofs.AtWorkLemmas.{works_both}
use Rattle.provider_edge.proofs.ListLemmas.{keeps_same}
use Rattle.provider_edge.proofs.MarkedLemmas.{ends_begin, ends_stop}
use Rattle.provider_edge.proofs.MendLemmas.{ends_next, ends_past, said_more, within_kept}
use Rattle.provider_edge.specs.AtWork.{at_work}
use Rattle.provider_edge.proofs.edge.Edge.mend_ends.Goals as goal

pub mend_end-requires-clause-slot : goal.mend_end-requires-clause-slot
mend_end-requires-clause-slot g c = within_kept c.args.self.now c.loop-slot.self c.loop-slot.slot c.loop-slot.invariant.goes.keeps
    (omega (arith, c.loop-slot-test.true, c.count_ends-slot-end.ensures.count))

pub loop-slot-preserved : goal.loop-slot-preserved
loop-slot-preserved g c = record {
  goes = works_both g.L.Link.calls _ _ _ _ _ _ c.loop-slot.invariant.goes c.in_ok-failed.ensures.goes;
  places = c.loop-slot.invariant.places;
  step = λ told agrees.
      let below : c.loop-slot.slot < length c.loop-slot.self.ends.places =
      within_kept c.args.self.now c.loop-slot.self c.loop-slot.slot c.loop-slot.invariant.goes.keeps (omega (arith, c.loop-slot-test.true, c.count_ends-slot-end.ensures.count)) in
      ends_next (λ plan. mends_end plan told) c.args.self.now c.loop-slot.self c.loop-slot.slot _ _ _ c.loop-slot.invariant.goes.keeps c.loop-slot.invariant.places below
      (c.loop-slot.invariant.step told (agrees_before told _ _ c.in_ok-failed.ensures.goes.on.calls agrees))
      (said_more c.loop-slot.failed c.in_ok-failed.field-0 (at_work g.L.Link.calls c.loop-slot.self c.loop-slot.work) (at_work g.L.Link.calls c.mend_end.new.self c.mend_end.new.work)
      (mends_end c.loop-slot.self.plan told (place_of c.loop-slot.self.ends c.loop-slot.slot)) (c.in_ok-failed.ensures.step told agrees));
}

pub returns-clause-step : goal.returns-clause-step
returns-clause-step g c = λ told agrees.
    ends_past (λ plan. mends_end plan told) c.args.self.now c.loop-slot.slot _ _ c.loop-slot.invariant.places
    (omega (arith, c.loop-slot-test.false, c.count_ends-slot-end.ensures.count)) (c.loop-slot.invariant.step told agrees)

pub returns-in_err-failed-clause-goes : goal.returns-in_err-failed-clause-goes
returns-in_err-failed-clause-goes g c = works_both g.L.Link.calls _ _ _ _ _ _ c.loop-slot.invariant.goes c.mend_end.ensures.goes

pub loop-slot-init : goal.loop-slot-init
loop-slot-init g c = record {
  goes = record { keeps = keeps_same c.args.self.now; on = work_same g.L.Link.calls c.args.work.now };
  places = c.count_ends-slot-end.ensures.places;
  step = λ told agrees. ends_begin c.args.self.now told (g.L.Link.calls c.args.work.now.link.now) c.args.work.now.effects.now.list false c.first_marked-slot.result c.first_marked-slot.ensures;
}

pub returns-then-is_past-clause-step : goal.returns-then-is_past-clause-step
returns-then-is_past-clause-step g c = λ told agrees.
    ends_stop c.args.self.now c.loop-slot.self told (g.L.Link.calls c.loop-slot.work.link.now) c.loop-slot.work.effects.now.list c.loop-slot.failed c.loop-slot.slot _ c.loop-slot.invariant.goes.keeps
    (c.is_past.ensures c.if-is_past.true) (c.loop-slot.invariant.step told agrees)
