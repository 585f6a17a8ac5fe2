-- One more reply is put; behind one that the link did not take, and behind the last, no other is.
use Rattle.std.proofs.Common.{◌∙◌, sym, arith}
use Rattle.peer_dialogue.proofs.AtWorkLemmas.{work_both}
use Rattle.peer_dialogue.proofs.SpeakerLemmas.{agrees_before, all_put, last_put, next_put, replies_end, same_peers}
use Rattle.peer_dialogue.proofs.speaker.Speaker.put_replies.Goals as goal

pub loop-place-preserved : goal.loop-place-preserved
loop-place-preserved g c = record {
  peers = c.in_ok-put_reply.ensures.peers ∙ c.loop-place.invariant.peers;
  goes = work_both g.L.Link.calls _ _ _ c.loop-place.invariant.goes c.in_ok-put_reply.ensures.goes;
  step = λ told s held edge agrees between. next_put told c.args.peer c.args.replies.now c.in-Some.reply c.loop-place.place c.loop-place.spoke c.in_ok-put_reply.field-0 s held edge _ _ _ _ _ _ _
      (sym c.get.ensures ∙ c.in-Some.is) c.if-not-branch.false (c.loop-place.invariant.step told s held edge (agrees_before told _ _ c.in_ok-put_reply.ensures.goes.calls agrees) between)
      (c.in_ok-put_reply.ensures.step told _ held edge agrees (same_peers c.loop-place.spoke s _ (between ∙ sym c.loop-place.invariant.peers)));
}

pub returns-then-not-branch-clause-step : goal.returns-then-not-branch-clause-step
returns-then-not-branch-clause-step g c = λ told s held edge agrees between. last_put told c.args.peer c.args.replies.now c.in-Some.reply c.loop-place.place c.loop-place.spoke c.in_ok-put_reply.field-0 s held edge _ _ _ _ _ _ _
    (sym c.get.ensures ∙ c.in-Some.is) c.if-not-branch.true (c.loop-place.invariant.step told s held edge (agrees_before told _ _ c.in_ok-put_reply.ensures.goes.calls agrees) between)
    (c.in_ok-put_reply.ensures.step told _ held edge agrees (same_peers c.loop-place.spoke s _ (between ∙ sym c.loop-place.invariant.peers)))

pub returns-in_default-clause-step : goal.returns-in_default-clause-step
returns-in_default-clause-step g c = λ told s held edge agrees between. all_put told c.args.peer c.args.replies.now c.loop-place.place _ _ (sym c.get.ensures ∙ c.in_default.is)
    (c.loop-place.invariant.step told s held edge agrees between)

pub returns-clause-step : goal.returns-clause-step
returns-clause-step g c = λ told s held edge agrees between. c.loop-place.invariant.step told s held edge agrees between
    ∙ replies_end told c.args.peer c.args.replies.now c.loop-place.place _ (omega (arith, c.loop-place-test.false, c.len-place-end.ensures.count))
