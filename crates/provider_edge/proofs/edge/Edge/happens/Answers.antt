-- What is left of a session is put back, and the ends beside the peer are cleared; a refusal has left none. The marks are those of before
-- where the session stands as it did, and else have those ends too.
use Rattle.std.proofs.Common.{◌∙◌, None, Some, [], ap, refl, sym}
use Rattle.edge_model.specs.Hear.{was_up}
use Rattle.edge_model.specs.Session.{happens}
use Rattle.edge_model.specs.State.{EdgeState}
use Rattle.peer_dialogue.specs.Event.{event_of}
use Rattle.peer_dialogue.specs.Peering.{at_edge}
use Rattle.provider_edge.specs.contracts.edge.Edge.{the_view}
use Rattle.provider_edge.proofs.LiftLemmas.{done_edge, happened, happened_none, nothing_kept, untouched_none}
use Rattle.provider_edge.proofs.ListLemmas.{keeps_both}
use Rattle.provider_edge.proofs.MessageLemmas.{cleared_none, left_none_read}
use Rattle.provider_edge.specs.AtWork.{at_work}
use Rattle.provider_edge.proofs.MarkedLemmas.{left_kept}
use Rattle.provider_edge.specs.Lists.{Keeps, seen}
use Rattle.provider_edge.proofs.edge.Edge.happens.Goals as goal

pub returns-in_default-clause-step : goal.returns-in_default-clause-step
returns-in_default-clause-step g c = λ told agrees.
    happened told c.args.peer (event_of c.args.event) (at_work g.L.Link.calls c.args.self.now c.args.work.now) (at_work g.L.Link.calls c.take_peering.new.self c.args.work.now)
    (at_work g.L.Link.calls c.clear_ends-in_default.new.self c.args.work.now)
    (happened_none told c.args.peer (event_of c.args.event) c.take_peering.result (seen c.args.self.now) (seen c.take_peering.new.self)
    (g.L.Link.calls c.args.work.now.link.now) c.args.work.now.effects.now.list
    c.take_peering.ensures.taken c.in_default.is c.take_peering.ensures.step)
    (c.clear_ends-in_default.ensures.step (g.L.Link.calls c.args.work.now.link.now) c.args.work.now.effects.now.list)

pub returns-in_default-clause-ended : goal.returns-in_default-clause-ended
returns-in_default-clause-ended g c = λ wrong refused.
    cleared_none c.args.peer (seen c.take_peering.new.self) (seen c.clear_ends-in_default.new.self) [] [] (c.clear_ends-in_default.ensures.step [] [])
    (left_none_read c.args.peer (seen c.args.self.now) (seen c.take_peering.new.self) None c.take_peering.ensures.step refl)

pub returns-clause-step : goal.returns-clause-step
returns-clause-step g c = λ told agrees.
    ap (λ (e : EdgeState). at_edge e (g.L.Link.calls c.happens.new.work.link.now) c.happens.new.work.effects.now.list) c.keep_marks.ensures.step
    ∙ happened told c.args.peer (event_of c.args.event) (at_work g.L.Link.calls c.args.self.now c.args.work.now) (at_work g.L.Link.calls c.put_peering.new.self c.happens.new.work)
    (at_work g.L.Link.calls c.clear_ends-2.new.self c.happens.new.work)
    (done_edge (happens told c.args.peer (event_of c.args.event)) c.args.peer c.take_peering.result c.in_ok-left.left (Some c.in-Some.peering)
    (seen c.args.self.now) (seen c.take_peering.new.self) (seen c.put_peering.new.self) (g.L.Link.calls c.args.work.now.link.now)
    (g.L.Link.calls c.happens.new.work.link.now) c.args.work.now.effects.now.list c.happens.new.work.effects.now.list
    c.take_peering.ensures.taken c.in-Some.is c.take_peering.ensures.step c.put_peering.ensures.step
    (c.in_ok-left.ensures.step told (seen c.args.self.now) agrees))
    (c.clear_ends-2.ensures.step (g.L.Link.calls c.happens.new.work.link.now) c.happens.new.work.effects.now.list)

pub returns-clause-ended : goal.returns-clause-ended
returns-clause-ended g c = λ wrong refused.
    ap (λ (e : EdgeState). e.peering c.args.peer.0) c.keep_marks.ensures.step
    ∙ cleared_none c.args.peer (seen c.put_peering.new.self) (seen c.clear_ends-2.new.self) [] [] (c.clear_ends-2.ensures.step [] [])
    (left_none_read c.args.peer (seen c.take_peering.new.self) (seen c.put_peering.new.self) c.in_ok-left.left c.put_peering.ensures.step (c.in_ok-left.ensures.refused wrong refused))

pub returns-clause-goes : goal.returns-clause-goes
returns-clause-goes g c = record {
  keeps = keeps_both _ _ _ c.take_peering.ensures.keeps
      (keeps_both _ _ _ c.put_peering.ensures.keeps (keeps_both _ _ _ c.clear_ends-2.ensures.keeps c.keep_marks.ensures.keeps));
  on = c.in_ok-left.ensures.goes;
}

pub returns-then-not-has_end-clause-step : goal.returns-then-not-has_end-clause-step
returns-then-not-has_end-clause-step g c = λ told agrees.
    happened told c.args.peer (event_of c.args.event) (at_work g.L.Link.calls c.args.self.now c.args.work.now) (at_work g.L.Link.calls c.args.self.now c.args.work.now)
    (at_work g.L.Link.calls c.clear_ends.new.self c.args.work.now)
    (untouched_none told c.args.peer (event_of c.args.event) (seen c.args.self.now) (g.L.Link.calls c.args.work.now.link.now) c.args.work.now.effects.now.list (sym c.if-not-has_end.ensures))
    (c.clear_ends.ensures.step (g.L.Link.calls c.args.work.now.link.now) c.args.work.now.effects.now.list)

pub returns-then-not-has_end-clause-ended : goal.returns-then-not-has_end-clause-ended
returns-then-not-has_end-clause-ended g c = λ wrong refused.
    cleared_none c.args.peer (seen c.args.self.now) (seen c.clear_ends.new.self) [] [] (c.clear_ends.ensures.step [] [])
    (nothing_kept c.args.peer (seen c.args.self.now) (sym c.if-not-has_end.ensures))

pub keep_marks-requires-clause-tidy : goal.keep_marks-requires-clause-tidy
keep_marks-requires-clause-tidy g c =
    let keeps : Keeps c.args.self.now c.clear_ends-2.new.self = keeps_both _ _ _ c.take_peering.ensures.keeps (keeps_both _ _ _ c.put_peering.ensures.keeps c.clear_ends-2.ensures.keeps) in
    left_kept (the_view c.self.inside) c.args.self.now c.take_peering.new.self c.put_peering.new.self c.clear_ends-2.new.self c.clear_ends-2.new.self c.args.peer c.take_peering.result c.in_ok-left.left c.is_up-was_up.result c.stands_as-stands.result c.marks_after-marks.result
    c.self.view_is c.self.invariant keeps keeps (c.is_up-was_up.ensures ∙ ap was_up (sym c.in-Some.is ∙ c.take_peering.ensures.taken)) c.take_peering.ensures.taken c.take_peering.ensures.step c.put_peering.ensures.step c.clear_ends-2.ensures.step c.stands_as-stands.ensures
    c.marks_after-marks.ensures.stood c.marks_after-marks.ensures.left
