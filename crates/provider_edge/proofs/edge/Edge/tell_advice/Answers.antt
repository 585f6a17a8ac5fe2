-- Without an advice nothing is told. Else a session stands: the advice is put, what is left of it is put back, and the ends beside the peer
-- are cleared.
use Rattle.std.proofs.Common.{◌∙◌, Option, Some, ap, sym}
use Rattle.session_core.specs.declared.reply.Reply.{Reply}
use Rattle.edge_model.specs.Hear.{advises}
use Rattle.edge_model.specs.Put.{put_reply}
use Rattle.edge_model.specs.Session.{had_put}
use Rattle.edge_model.specs.Work.{Work}
use Rattle.peer_dialogue.specs.Peering.{at_edge}
use Rattle.provider_edge.proofs.LiftLemmas.{advised, done_edge, none_there}
use Rattle.provider_edge.proofs.ListLemmas.{keeps_both}
use Rattle.provider_edge.specs.AtWork.{at_work}
use Rattle.provider_edge.specs.Lists.{seen}
use Rattle.provider_edge.proofs.edge.Edge.tell_advice.Goals as goal

pub returns-in_default-clause-step : goal.returns-in_default-clause-step
returns-in_default-clause-step g c = λ told agrees.
    sym (ap (λ (r : Option Reply). advises told c.args.peer r (at_work g.L.Link.calls c.args.self.now c.args.work.now)) (sym c.advice_of.ensures.advice ∙ c.in_default.is))

pub returns-in_default-take_peering-clause-step : goal.returns-in_default-take_peering-clause-step
returns-in_default-take_peering-clause-step g c = λ told agrees.
    absurd (none_there c.args.peer (c.take_peering.result) (seen c.args.self.now) (c.take_peering.ensures.taken) (c.in_default-take_peering.is) (c.requires.stands))

pub returns-clause-step : goal.returns-clause-step
returns-clause-step g c = λ told agrees.
    advised told c.args.peer c.in-Some.reply (at_work g.L.Link.calls c.args.self.now c.args.work.now)
    (at_edge (seen c.put_peering.new.self) (g.L.Link.calls c.put.new.work.link.now) c.put.new.work.effects.now.list)
    (at_edge (seen c.clear_ends.new.self) (g.L.Link.calls c.put.new.work.link.now) c.put.new.work.effects.now.list)
    (done_edge (λ (w : Work). had_put c.args.peer (put_reply told c.args.peer c.in-Some.reply w)) c.args.peer (c.take_peering.result) (c.in_ok-left.left) ((Some c.in-Some-take_peering.peering))
    (seen c.args.self.now) (seen c.take_peering.new.self) (seen c.put_peering.new.self) (g.L.Link.calls c.args.work.now.link.now)
    (g.L.Link.calls c.put.new.work.link.now) c.args.work.now.effects.now.list c.put.new.work.effects.now.list
    (c.take_peering.ensures.taken) (c.in-Some-take_peering.is) (c.take_peering.ensures.step) (c.put_peering.ensures.step)
    (c.in_ok-left.ensures.step told (seen c.args.self.now) agrees))
    (c.clear_ends.ensures.step (g.L.Link.calls c.put.new.work.link.now) c.put.new.work.effects.now.list)
    ∙ sym (ap (λ (r : Option Reply). advises told c.args.peer r (at_work g.L.Link.calls c.args.self.now c.args.work.now)) (sym c.advice_of.ensures.advice ∙ c.in-Some.is))

pub returns-clause-goes : goal.returns-clause-goes
returns-clause-goes g c = record { keeps = keeps_both _ _ _ c.take_peering.ensures.keeps (keeps_both _ _ _ c.put_peering.ensures.keeps c.clear_ends.ensures.keeps); on = c.in_ok-left.ensures.goes }
