-- The ends of each wire have marks that has an end beside the peer, one by one.
use Rattle.std.proofs.Common.{◌∙◌, ◌+◌, ap, sym, subst, arith}
use Rattle.edge_model.specs.declared.end_place.EndPlace.{EndPlace}
use Rattle.provider_edge.specs.declared.end_marks.EndMarks.{EndMarks}
use Rattle.provider_edge.proofs.MarkLemmas.{AreSlotsOf, MarksSome, known, known_more, other_peer, some_all, some_more, some_none, some_past}
use Rattle.provider_edge.specs.Lists.{EdgeLists}
use Rattle.provider_edge.proofs.edge.Edge.marks_beside.Goals as goal
use Rattle.provider_edge.proofs.edge.Edge.marks_beside.Goals.{then-eq, else-eq}

pub loop-slot-init : goal.loop-slot-init
loop-slot-init c =
    known (λ (old : EndMarks). MarksSome c.args.self.now.ends.places c.args.peer.0 0 old c.in_ok-marks.marks) c.args.marks c.in_ok-marks.marks c.in_ok-marks.was
    (some_none c.args.self.now.ends.places c.args.peer.0 c.in_ok-marks.marks)

pub loop-slot-preserved : goal.loop-slot-preserved
loop-slot-preserved c =
    elim c.if-eq.branch [
      | then-eq w ↦ rw w.marks-is
          (known_more (λ (old : EndMarks). MarksSome c.args.self.now.ends.places c.args.peer.0 c.loop-slot.slot old c.loop-slot.marks)
          (λ (old : EndMarks). MarksSome c.args.self.now.ends.places c.args.peer.0 (c.loop-slot.slot + 1) old w.with-marks.result) c.args.marks
          (λ old some. some_more c.args.self.now.ends.places c.args.peer.0 c.loop-slot.slot w.slots_of-first.result.0 w.slots_of-first.result.1 old c.loop-slot.marks w.with-marks.result some
          (subst (λ (p : EndPlace). AreSlotsOf c.args.self.now.ends.places p.wire.0 w.slots_of-first.result.0 w.slots_of-first.result.1) c.place_at-place.ensures.place
          (subst (λ (n : EdgeLists). AreSlotsOf n.ends.places c.place_at-place.result.wire.0 w.slots_of-first.result.0 w.slots_of-first.result.1) c.self.view_is w.slots_of-first.ensures.slots))
          w.with-marks.ensures.wider w.with-marks.ensures.within)
          c.loop-slot.invariant)
      | else-eq w ↦ rw w.marks-is
          (known_more (λ (old : EndMarks). MarksSome c.args.self.now.ends.places c.args.peer.0 c.loop-slot.slot old c.loop-slot.marks)
          (λ (old : EndMarks). MarksSome c.args.self.now.ends.places c.args.peer.0 (c.loop-slot.slot + 1) old c.loop-slot.marks) c.args.marks
          (λ old some. some_past c.args.self.now.ends.places c.args.peer.0 c.loop-slot.slot old c.loop-slot.marks some
          (λ same. other_peer c.place_at-place.result.peer.0 c.args.peer.0 (sym c.eq.ensures ∙ w.if-eq.false) (ap (λ (p : EndPlace). p.peer.0) c.place_at-place.ensures.place ∙ same)))
          c.loop-slot.invariant)
    ]

pub returns : goal.returns
returns c =
    some_all c.args.self.now.ends.places c.args.peer.0 c.loop-slot.slot c.args.marks c.in_ok-marks.marks c.loop-slot.marks c.in_ok-marks.was
    (omega (arith, c.loop-slot-test.false, c.count_ends-slot-end.ensures.count)) c.loop-slot.invariant
