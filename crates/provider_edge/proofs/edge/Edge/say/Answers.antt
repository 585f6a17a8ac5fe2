-- Without a session nothing is put; what is left of one is put back, and the ends beside the peer are cleared. The marks are those of
-- before where the session stands as it did, and else have those ends too.
use Rattle.std.proofs.Common.{◌∙◌, Bool, Some, ap, sym}
use Rattle.edge_model.specs.Hear.{was_up}
use Rattle.edge_model.specs.State.{EdgeState}
use Rattle.edge_model.specs.Work.{Work}
use Rattle.peer_dialogue.specs.Peering.{at_edge, had_spoken, is_over, put_message}
use Rattle.peer_dialogue.specs.PwMessage.{numbered}
use Rattle.provider_edge.proofs.LiftLemmas.{over_is, said_none, said_some, spoken_edge}
use Rattle.provider_edge.proofs.ListLemmas.{keeps_both}
use Rattle.provider_edge.proofs.MarkedLemmas.{left_kept}
use Rattle.provider_edge.specs.contracts.edge.Edge.{the_view}
use Rattle.provider_edge.specs.Lists.{Keeps, seen}
use Rattle.provider_edge.proofs.edge.Edge.say.Goals as goal

pub returns-in_default-clause-step : goal.returns-in_default-clause-step
returns-in_default-clause-step g c = λ told agrees.
    said_none told c.args.peer (numbered c.args.message.now) (c.take_peering.result) (seen c.args.self.now) (seen c.take_peering.new.self)
    (g.L.Link.calls c.args.work.now.link.now) c.args.work.now.effects.now.list
    (c.take_peering.ensures.taken) (c.in_default.is) (c.take_peering.ensures.step)

pub returns-clause-step : goal.returns-clause-step
returns-clause-step g c = λ told agrees.
    ap (λ (e : EdgeState). record { work = at_edge e (g.L.Link.calls c.say.new.work.link.now) c.say.new.work.effects.now.list; failed = c.is_none-failed.result }) c.keep_marks.ensures.step
    ∙ said_some told c.args.peer (numbered c.args.message.now) (c.take_peering.result) c.in-Some.peering
    (seen c.args.self.now) (g.L.Link.calls c.args.work.now.link.now) c.args.work.now.effects.now.list
    (at_edge (seen c.put_peering.new.self) (g.L.Link.calls c.say.new.work.link.now) c.say.new.work.effects.now.list)
    (at_edge (seen c.clear_ends.new.self) (g.L.Link.calls c.say.new.work.link.now) c.say.new.work.effects.now.list) c.is_none-failed.result
    (c.take_peering.ensures.taken) (c.in-Some.is)
    (ap (λ (b : Bool). record { work = at_edge (seen c.put_peering.new.self) (g.L.Link.calls c.say.new.work.link.now) c.say.new.work.effects.now.list; failed = b })
    (over_is c.in_ok-left.left c.is_none-failed.result c.is_none-failed.ensures)
    ∙ spoken_edge (λ (w : Work). had_spoken c.args.peer (put_message told c.args.peer (numbered c.args.message.now) w)) c.args.peer (c.take_peering.result) (c.in_ok-left.left)
    ((Some c.in-Some.peering))
    (seen c.args.self.now) (seen c.take_peering.new.self) (seen c.put_peering.new.self) (g.L.Link.calls c.args.work.now.link.now)
    (g.L.Link.calls c.say.new.work.link.now) c.args.work.now.effects.now.list c.say.new.work.effects.now.list (is_over c.in_ok-left.left)
    (c.take_peering.ensures.taken) (c.in-Some.is) (c.take_peering.ensures.step) (c.put_peering.ensures.step)
    (c.in_ok-left.ensures.step told (seen c.args.self.now) agrees))
    (c.clear_ends.ensures.step (g.L.Link.calls c.say.new.work.link.now) c.say.new.work.effects.now.list)

pub returns-clause-goes : goal.returns-clause-goes
returns-clause-goes g c = record {
  keeps = keeps_both _ _ _ c.take_peering.ensures.keeps
      (keeps_both _ _ _ c.put_peering.ensures.keeps (keeps_both _ _ _ c.clear_ends.ensures.keeps c.keep_marks.ensures.keeps));
  on = c.in_ok-left.ensures.goes;
}

pub keep_marks-requires-clause-tidy : goal.keep_marks-requires-clause-tidy
keep_marks-requires-clause-tidy g c =
    let keeps : Keeps c.args.self.now c.clear_ends.new.self = keeps_both _ _ _ c.take_peering.ensures.keeps (keeps_both _ _ _ c.put_peering.ensures.keeps c.clear_ends.ensures.keeps) in
    left_kept (the_view c.self.inside) c.args.self.now c.take_peering.new.self c.put_peering.new.self c.clear_ends.new.self c.clear_ends.new.self c.args.peer c.take_peering.result c.in_ok-left.left c.is_up-was_up.result c.stands_as-stands.result c.marks_after-marks.result
    c.self.view_is c.self.invariant keeps keeps (c.is_up-was_up.ensures ∙ ap was_up (sym c.in-Some.is ∙ c.take_peering.ensures.taken)) c.take_peering.ensures.taken c.take_peering.ensures.step c.put_peering.ensures.step c.clear_ends.ensures.step c.stands_as-stands.ensures
    c.marks_after-marks.ensures.stood c.marks_after-marks.ensures.left
