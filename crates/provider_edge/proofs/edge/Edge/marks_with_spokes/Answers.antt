-- The slots of the spokes have marks, one by one.
use Rattle.std.proofs.Common.{◌<◌, ◌+◌, ◌∙◌, length, slice_index_or, refl, ap, sym, arith}
use Rattle.provider_edge.specs.declared.end_marks.EndMarks.{EndMarks}
use Rattle.provider_edge.proofs.MarkLemmas.{MarksFirst, first_all, first_more, first_none, known, known_more}
use Rattle.provider_edge.proofs.SpokeLemmas.{slot_below}
use Rattle.provider_edge.specs.Lists.{EdgeLists}
use Rattle.provider_edge.specs.Spokes.{starts_spoke}
use Rattle.provider_edge.proofs.edge.Edge.marks_with_spokes.Goals as goal

pub overflow_add-slot : goal.overflow_add-slot
overflow_add-slot c =
    let below : slice_index_or c.slots_of-slots.result.now c.loop-slot.slot-index 0 < length c.args.self.now.ends.places =
    slot_below c.args.self.now.plan c.args.self.now.me c.args.self.now.ends.places c.args.service c.slots_of-slots.result.now c.loop-slot.slot-index 0 c.slots_of-slots.ensures.slots c.loop-slot-test.true in
    omega (arith, below, c.count_ends-ends.ensures.count, c.count_ends-ends.type_inv)

pub loop-slot-init : goal.loop-slot-init
loop-slot-init c =
    known (λ (old : EndMarks). MarksFirst c.slots_of-slots.result.now 0 old c.in_ok-marks.marks) c.args.self.now.marks c.in_ok-marks.marks
    (sym (ap (λ (n : EdgeLists). n.marks) c.self.view_is) ∙ c.in_ok-marks.was) (first_none c.slots_of-slots.result.now c.in_ok-marks.marks)

pub loop-slot-preserved : goal.loop-slot-preserved
loop-slot-preserved c =
    known_more (λ (old : EndMarks). MarksFirst c.slots_of-slots.result.now c.loop-slot.slot-index old c.loop-slot.marks)
    (λ (old : EndMarks). MarksFirst c.slots_of-slots.result.now (c.loop-slot.slot-index + 1) old c.with-marks.result) c.args.self.now.marks
    (λ old some. first_more c.slots_of-slots.result.now c.loop-slot.slot-index
    (slice_index_or c.slots_of-slots.result.now c.loop-slot.slot-index 0) old c.loop-slot.marks c.with-marks.result some c.loop-slot-test.true refl c.with-marks.ensures.wider c.with-marks.ensures.within)
    c.loop-slot.invariant

pub returns : goal.returns
returns c =
    first_all (starts_spoke c.args.self.now.plan c.args.self.now.me
    (record { 0 = c.args.service })) c.args.self.now.ends.places c.slots_of-slots.result.now c.loop-slot.slot-index c.args.self.now.marks c.in_ok-marks.marks c.loop-slot.marks
    (sym (ap (λ (n : EdgeLists). n.marks) c.self.view_is) ∙ c.in_ok-marks.was) c.slots_of-slots.ensures.slots c.loop-slot-test.false c.loop-slot.invariant
