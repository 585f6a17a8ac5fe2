-- What is put and then settled is what happens in the definition, between the same peers; a refusal leaves nothing. Each reply has its
-- data.
use Rattle.std.proofs.Common.{◌≡◌, Some, sym, subst}
use Rattle.session_core.specs.Session.{view_of}
use Rattle.edge_model.specs.Session.{happens}
use Rattle.edge_model.specs.State.{Peering}
use Rattle.peer_dialogue.specs.Event.{event_of}
use Rattle.peer_dialogue.specs.Peering.{IsBetween, at_peer}
use Rattle.peer_dialogue.proofs.SettleLemmas.{happened, map_ok, refused_none, said_data, stays_between}
use Rattle.peer_dialogue.proofs.SpeakerLemmas.{agrees_before}
use Rattle.peer_dialogue.proofs.peering.Peering.happens.Goals as goal

pub put_replies-requires : goal.put_replies-requires
put_replies-requires g c = said_data c.self.inside.speaker.peers (view_of c.self.inside.session) (event_of c.args.event) c.after-session.result.1 c.self.invariant c.after-session.ensures.replies

pub settle-requires : goal.settle-requires
settle-requires g c = subst (λ p. IsBetween p (view_of c.after-session.result.0)) (sym c.in_ok-put.ensures.peers)
    (stays_between c.self.inside.speaker.peers (view_of c.self.inside.session) (view_of c.after-session.result.0) (event_of c.args.event) c.self.invariant c.after-session.ensures.session)

pub returns-clause-step : goal.returns-clause-step
returns-clause-step g c = map_ok _ _ c.settle.result
    (λ left settles told edge agrees.
    subst (λ (p : Peering). at_peer c.args.peer left edge (g.L.Link.calls c.settle.new.work.link.now) c.settle.new.work.effects.now.list
    ≡ happens told c.args.peer (event_of c.args.event) (at_peer c.args.peer (Some p) edge (g.L.Link.calls c.args.work.now.link.now) c.args.work.now.effects.now.list)) c.self.view_is
    (happened told c.args.peer c.self.inside.held c.self.inside.speaker.peers (view_of c.self.inside.session)
    (view_of c.after-session.result.0) c.state-before.result c.self.inside.speaker.next_id c.put_replies.new.self.next_id
    c.in_ok-put.put.spoke c.in_ok-put.put.failed (event_of c.args.event) c.after-session.result.1 edge (g.L.Link.calls c.args.work.now.link.now)
    (g.L.Link.calls c.put_replies.new.work.link.now) c.args.work.now.effects.now.list c.put_replies.new.work.effects.now.list _
    c.self.invariant c.state-before.ensures c.after-session.ensures.session c.after-session.ensures.replies
    (λ s between. c.in_ok-put.ensures.step told s c.self.inside.held edge (agrees_before told _ _ c.settle.ensures.goes.calls agrees) between)
    (λ s named. settles s edge named)))
    c.settle.ensures.step

pub returns-clause-refused : goal.returns-clause-refused
returns-clause-refused g c = map_ok _ _ c.settle.result
    (λ left ended wrong refused. refused_none c.self.inside.speaker.peers (view_of c.self.inside.session) (view_of c.after-session.result.0)
    (event_of c.args.event) wrong left c.self.invariant c.after-session.ensures.session refused ended)
    c.settle.ensures.ended
