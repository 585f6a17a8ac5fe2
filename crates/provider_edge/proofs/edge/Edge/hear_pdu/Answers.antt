-- The sender is heard first, and then one more message.
use Rattle.std.proofs.Common.{arith}
use Rattle.peer_dialogue.proofs.SpeakerLemmas.{agrees_before}
use Rattle.provider_edge.proofs.AtWorkLemmas.{works_both}
use Rattle.provider_edge.proofs.MessageLemmas.{messages_next, pdu_begun}
use Rattle.provider_edge.specs.AtWork.{at_work}
use Rattle.provider_edge.proofs.edge.Edge.hear_pdu.Goals as goal

pub loop-place-init : goal.loop-place-init
loop-place-init g c = record {
  goes = c.in_ok-happens.ensures.goes;
  step = λ told agrees.
      pdu_begun c.args.self.now.plan told c.args.peer c.args.pdu.now c.as_slice-messages.result.now (at_work g.L.Link.calls c.args.self.now c.args.work.now)
      (at_work g.L.Link.calls c.happens.new.self c.happens.new.work)
      (c.in_ok-happens.ensures.step told agrees) c.as_slice-messages.ensures;
}

pub loop-place-preserved : goal.loop-place-preserved
loop-place-preserved g c = record {
  goes = works_both g.L.Link.calls _ _ _ _ _ _ c.loop-place.invariant.goes c.in_ok-hear_message.ensures.goes;
  step = λ told agrees.
      messages_next c.args.self.now.plan c.loop-place.self.plan told c.args.peer c.as_slice-messages.result.now c.loop-place.place c.index-messages-place.result _ _ _
      c.loop-place.invariant.goes.keeps.plan (omega (arith, c.loop-place-test.true)) c.index-messages-place.is
      (c.loop-place.invariant.step told (agrees_before told _ _ c.in_ok-hear_message.ensures.goes.on.calls agrees)) (c.in_ok-hear_message.ensures.step told agrees);
}

pub returns-in_err-hear_message-clause-goes : goal.returns-in_err-hear_message-clause-goes
returns-in_err-hear_message-clause-goes g c = works_both g.L.Link.calls _ _ _ _ _ _ c.loop-place.invariant.goes c.hear_message.ensures.goes
