-- The session has ended, ends since the link did not take what was put, or stands and tells its change: each is settled by the definition.
-- One that stands keeps its peers.
use Rattle.std.proofs.Common.{◌≡◌, ◌∙◌, Some, sym, ap, refl}
use Rattle.session_core.specs.State.{SessionView, Stands}
use Rattle.session_core.specs.Session.{view_of}
use Rattle.peer_dialogue.specs.Peering.{at_peer, having_put, next_state, state_of}
use Rattle.peer_dialogue.proofs.SettleLemmas.{ended_by, not_ended, settled_end, settled_fault, settled_on, stands_by, stands_put, told_change}
use Rattle.peer_dialogue.proofs.moved.Moved.settle.Goals as goal

pub returns-in-Some-clause-step : goal.returns-in-Some-clause-step
returns-in-Some-clause-step g c = λ s edge named. settled_end c.args.peer s (view_of c.args.self.session) c.in-Some.reason _ edge (g.L.Link.calls c.args.work.now.link.now)
    (g.L.Link.calls c.end.new.work.link.now) c.args.work.now.effects.now.list c.end.new.work.effects.now.list _
    (ended_by (view_of c.args.self.session) c.in-Some.reason (sym c.reason_of.ensures ∙ c.in-Some.is)) refl (ap g.L.Link.calls c.in_ok-end.ensures.link) c.in_ok-end.ensures.told

pub returns-then-put-clause-step : goal.returns-then-put-clause-step
returns-then-put-clause-step g c = λ s edge named. settled_fault c.args.peer s (next_state s (view_of c.args.self.session)) (view_of c.args.self.session) _ edge
    (g.L.Link.calls c.args.work.now.link.now) (g.L.Link.calls c.end-then-put.new.work.link.now) c.args.work.now.effects.now.list c.end-then-put.new.work.effects.now.list _
    (stands_by s (view_of c.args.self.session) (sym c.reason_of.ensures ∙ c.in_default.is)) c.if-put.true refl (ap g.L.Link.calls c.in_ok-end-2.ensures.link) c.in_ok-end-2.ensures.told

pub invariant_of-result : goal.invariant_of-result
invariant_of-result g c = stands_put c.args.self.speaker.peers (view_of c.args.self.session) (view_of c.with_put-session.result) c.args.self.put.spoke
    (sym c.reason_of.ensures ∙ c.in_default.is) c.requires c.with_put-session.ensures

pub returns-clause-step : goal.returns-clause-step
returns-clause-step g c = λ s edge named.
    let stands : view_of c.args.self.session ≡ Stands (next_state s (view_of c.args.self.session)) = stands_by s (view_of c.args.self.session) (sym c.reason_of.ensures ∙ c.in_default.is) in
    let now : view_of c.with_put-session.result ≡ Stands (having_put c.args.self.put.spoke (next_state s (view_of c.args.self.session))) =
    c.with_put-session.ensures (next_state s (view_of c.args.self.session)) stands in
    ap (λ (v : SessionView). at_peer c.args.peer (Some (record { session = state_of c.args.self.speaker.peers v; held = c.args.self.held; next_id = c.args.self.speaker.next_id })) edge
    (g.L.Link.calls c.tell_change.new.work.link.now) c.tell_change.new.work.effects.now.list) now
    ∙ settled_on c.args.peer s (next_state s (view_of c.args.self.session)) (view_of c.args.self.session) _ edge (g.L.Link.calls c.args.work.now.link.now)
    (g.L.Link.calls c.tell_change.new.work.link.now) c.args.work.now.effects.now.list c.tell_change.new.work.effects.now.list _ stands c.if-put.false refl
    (ap g.L.Link.calls c.in_ok-tell_change.ensures.link)
    (told_change c.args.peer s (next_state s (view_of c.args.self.session))
    (view_of c.args.self.session) c.args.self.before c.state.result c.args.work.now.effects.now.list c.tell_change.new.work.effects.now.list named c.state.ensures stands
    c.in_ok-tell_change.ensures.same c.in_ok-tell_change.ensures.other)

pub returns-clause-ended : goal.returns-clause-ended
returns-clause-ended g c = λ why ended. absurd (not_ended (view_of c.args.self.session) why (sym c.reason_of.ensures ∙ c.in_default.is) ended)
