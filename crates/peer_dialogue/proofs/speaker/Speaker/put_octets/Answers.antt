use Rattle.peer_dialogue.proofs.SpeakerLemmas.{was_failed, was_taken}
use Rattle.peer_dialogue.proofs.speaker.Speaker.put_octets.Goals as goal

pub returns-then-not-branch-clause-step : goal.returns-then-not-branch-clause-step
returns-then-not-branch-clause-step g c = λ told s held edge agrees.
    was_failed told c.args.peer c.args.self.now.next_id _ _ held _ s edge _ _ _ c.as_slice.ensures c.if-not-branch.true c.in_ok-put_bytes.ensures.called agrees

pub returns-clause-step : goal.returns-clause-step
returns-clause-step g c = λ told s held edge agrees.
    was_taken told c.args.peer c.args.self.now.next_id _ _ _ held _ s edge _ _ _ _ c.as_slice.ensures c.if-not-branch.false c.in_ok-put_bytes.ensures.called c.in_ok-push.ensures.ok c.following-self.ensures agrees
