-- What the link took was sent to the end's peer; what it did not take is dropped.
use Rattle.std.proofs.Common.{true, false, refl, subst, Err}
use Rattle.net_base.specs.declared.outside.link_stop.LinkStop.{LinkStop}
use Rattle.net_base.specs.outside.Link.{IsCallAnswer}
use Rattle.pw_ends.specs.Ends.{place_of}
use Rattle.peer_dialogue.proofs.SettleLemmas.{map_on}
use Rattle.provider_edge.proofs.BridgeLemmas.{sent_is, sent_not}
use Rattle.provider_edge.specs.Lists.{seen}
use Rattle.provider_edge.proofs.edge.Edge.send.Goals as goal

pub returns-in-Ok-clause-step : goal.returns-in-Ok-clause-step
returns-in-Ok-clause-step g c = map_on _ _ c.push.result
    (λ gave. λ told agrees.
    sent_is told (place_of c.args.self.now.ends c.args.slot) c.place_at-place.result c.args.came c.args.packet _ true (seen c.args.self.now) _ _ c.args.work.now.effects.now.list _
    c.place_at-place.ensures.place c.as_slice.ensures refl c.in-Ok.ensures.calls gave agrees)
    c.push.ensures.ok

pub returns-in-Err-Failed-clause-step : goal.returns-in-Err-Failed-clause-step
returns-in-Err-Failed-clause-step g c = map_on _ _ c.drop_for.result
    (λ gave. λ told agrees.
    sent_not told (place_of c.args.self.now.ends c.args.slot) c.place_at-place.result c.args.came c.args.packet _ false (seen c.args.self.now) _ _ c.args.work.now.effects.now.list _
    c.place_at-place.ensures.place c.as_slice.ensures refl
    (subst (λ (s : LinkStop). IsCallAnswer {T = Unit {0}} (g.L.Link.calls c.args.work.now.link.now)
    (g.L.Link.calls c.send.new.self) c.place_at-place.result.peer true c.as_slice.result.now (Err s)) c.in-Err-Failed.field-0-is c.in-Err-Failed.ensures.calls) gave agrees)
    c.drop_for.ensures
