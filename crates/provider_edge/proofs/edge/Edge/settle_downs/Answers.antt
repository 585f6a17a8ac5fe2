-- The ends before the first mark and behind the last one are settled; of those between one more is settled, until all are.
use Rattle.std.proofs.Common.{◌<◌, length, arith}
use Rattle.provider_edge.proofs.ListLemmas.{keeps_both, keeps_same}
use Rattle.provider_edge.proofs.MarkedLemmas.{settles_begin, settles_stop}
use Rattle.provider_edge.proofs.MendLemmas.{settles_end, settles_next, within_kept}
use Rattle.provider_edge.proofs.edge.Edge.settle_downs.Goals as goal

pub settle_down-requires-clause-slot : goal.settle_down-requires-clause-slot
settle_down-requires-clause-slot c = within_kept c.args.self.now c.loop-slot.self c.loop-slot.slot c.loop-slot.invariant.keeps
    (omega (arith, c.loop-slot-test.true, c.count_ends-slot-end.ensures.count))

pub loop-slot-preserved : goal.loop-slot-preserved
loop-slot-preserved c = record {
  keeps = keeps_both _ _ _ c.loop-slot.invariant.keeps c.in_ok-settle_down.ensures.keeps;
  places = c.loop-slot.invariant.places;
  step = λ calls.
      let below : c.loop-slot.slot < length c.loop-slot.self.ends.places =
      within_kept c.args.self.now c.loop-slot.self c.loop-slot.slot c.loop-slot.invariant.keeps (omega (arith, c.loop-slot-test.true, c.count_ends-slot-end.ensures.count)) in
      settles_next c.args.self.now c.loop-slot.self c.loop-slot.slot _ _ _ c.loop-slot.invariant.keeps c.loop-slot.invariant.places below (c.loop-slot.invariant.step calls)
      (c.in_ok-settle_down.ensures.step calls);
}

pub returns-clause-step : goal.returns-clause-step
returns-clause-step c = λ calls.
    settles_end c.args.self.now c.loop-slot.slot _ _ c.loop-slot.invariant.places (omega (arith, c.loop-slot-test.false, c.count_ends-slot-end.ensures.count)) (c.loop-slot.invariant.step calls)

pub loop-slot-init : goal.loop-slot-init
loop-slot-init c = record {
  keeps = keeps_same c.args.self.now;
  places = c.count_ends-slot-end.ensures.places;
  step = λ calls. settles_begin c.args.self.now calls c.args.out.now c.first_marked-slot.result c.first_marked-slot.ensures;
}

pub returns-then-is_past-clause-step : goal.returns-then-is_past-clause-step
returns-then-is_past-clause-step c = λ calls.
    settles_stop c.args.self.now c.loop-slot.self calls c.loop-slot.out c.loop-slot.slot _ c.loop-slot.invariant.keeps (c.is_past.ensures c.if-is_past.true) (c.loop-slot.invariant.step calls)
