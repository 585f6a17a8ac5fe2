-- A message that the link took leaves a session that has spoken; one that it did not take ends the session.
use Rattle.std.proofs.Common.{◌≡◌, None, Some, ap, true, false, subst}
use Rattle.session_core.specs.Session.{view_of}
use Rattle.edge_model.specs.State.{Peering}
use Rattle.peer_dialogue.specs.Peering.{at_peer, had_spoken, put_message, state_of}
use Rattle.peer_dialogue.specs.PwMessage.{numbered}
use Rattle.peer_dialogue.proofs.SettleLemmas.{put_off, put_on}
use Rattle.peer_dialogue.proofs.SpeakerLemmas.{agrees_before}
use Rattle.peer_dialogue.proofs.peering.Peering.say.Goals as goal

pub returns-then-branch-clause-step : goal.returns-then-branch-clause-step
returns-then-branch-clause-step g c = λ told edge agrees.
    subst (λ (p : Peering). record {
      work = at_peer c.args.peer
          (Some (record { session = state_of c.say.new.self.peers (view_of c.spoke.result); held = c.self.inside.held; next_id = c.say.new.self.next_id })) edge
          (g.L.Link.calls c.say.new.work.link.now) c.say.new.work.effects.now.list;
      failed = false;
    }
    ≡ had_spoken c.args.peer (put_message told c.args.peer (numbered c.args.message.now)
    (at_peer c.args.peer (Some p) edge (g.L.Link.calls c.args.work.now.link.now) c.args.work.now.effects.now.list))) c.self.view_is
    (put_on (put_message told c.args.peer (numbered c.args.message.now)) c.args.peer c.self.inside.held c.self.inside.speaker.peers c.say.new.self.peers (view_of c.self.inside.session)
    (view_of c.spoke.result) c.self.inside.speaker.next_id c.say.new.self.next_id c.in_ok-say.field-0 edge
    (g.L.Link.calls c.args.work.now.link.now) (g.L.Link.calls c.say.new.work.link.now) c.args.work.now.effects.now.list c.say.new.work.effects.now.list c.self.invariant c.spoke.ensures.session c.if-branch.true
    (λ s between. c.in_ok-say.ensures.step told s c.self.inside.held edge agrees between))

pub returns-clause-step : goal.returns-clause-step
returns-clause-step g c = λ told edge agrees.
    subst (λ (p : Peering). record { work = at_peer c.args.peer None edge (g.L.Link.calls c.end.new.work.link.now) c.end.new.work.effects.now.list; failed = true }
    ≡ had_spoken c.args.peer (put_message told c.args.peer (numbered c.args.message.now)
    (at_peer c.args.peer (Some p) edge (g.L.Link.calls c.args.work.now.link.now) c.args.work.now.effects.now.list))) c.self.view_is
    (put_off (put_message told c.args.peer (numbered c.args.message.now)) c.args.peer c.self.inside.held c.self.inside.speaker.peers
    (view_of c.self.inside.session) c.self.inside.speaker.next_id c.say.new.self.next_id c.in_ok-say.field-0 edge
    (g.L.Link.calls c.args.work.now.link.now) (g.L.Link.calls c.say.new.work.link.now)
    (g.L.Link.calls c.end.new.work.link.now) c.args.work.now.effects.now.list c.say.new.work.effects.now.list c.end.new.work.effects.now.list c.self.invariant c.if-branch.false
    (λ s between. c.in_ok-say.ensures.step told s c.self.inside.held edge (agrees_before told _ _ c.in_ok-end.ensures.goes.calls agrees) between)
    (ap g.L.Link.calls c.in_ok-end.ensures.link) c.in_ok-end.ensures.told)
