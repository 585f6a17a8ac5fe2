-- A channel that the end has not picked is not offered; what came in the one that it has picked is verified.
use Rattle.std.proofs.Common.{sym, ◌∙◌}
use Rattle.pw_ends.specs.Ends.{end_in, place_of}
use Rattle.peer_dialogue.proofs.SettleLemmas.{map_on}
use Rattle.provider_edge.proofs.EchoLemmas.{not_picked, picked_by}
use Rattle.provider_edge.proofs.edge.Edge.verify_in.Goals as goal

pub returns-then-not-is_picked-clause-step : goal.returns-then-not-is_picked-clause-step
returns-then-not-is_picked-clause-step g c = map_on _ _ c.drop_for.result
    (λ gave. λ told row agrees at.
    not_picked c.args.self.now told (place_of c.args.self.now.ends c.args.slot) row c.args.kind (end_in c.args.self.now.ends c.args.slot).remote c.channel_at.result c.args.behind_label.now
    (g.L.Link.calls c.args.work.now.link.now) c.args.work.now.effects.now.list _
    (c.channel_at.ensures row at) (sym c.is_picked.ensures ∙ c.if-not-is_picked.true) gave)
    c.drop_for.ensures

pub returns-clause-step : goal.returns-clause-step
returns-clause-step g c = map_on _ _ c.verify.result
    (λ step. λ told row agrees at.
    picked_by c.args.self.now told (place_of c.args.self.now.ends c.args.slot) row c.args.kind (end_in c.args.self.now.ends c.args.slot).remote c.channel_at.result c.args.behind_label.now
    (g.L.Link.calls c.args.work.now.link.now) c.args.work.now.effects.now.list _
    (c.channel_at.ensures row at) (sym c.is_picked.ensures ∙ c.if-not-is_picked.false) (λ binding held. step told row binding agrees at held))
    c.verify.ensures.step
