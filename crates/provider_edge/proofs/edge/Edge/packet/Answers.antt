use Rattle.std.proofs.Common.{◌∙◌, Err, ap, sym}
use Rattle.peer_dialogue.proofs.SettleLemmas.{map_on}
use Rattle.provider_edge.proofs.PacketLemmas.{packet_err}
use Rattle.provider_edge.specs.Lists.{seen}
use Rattle.provider_edge.proofs.edge.Edge.packet.Goals as goal

pub returns-in-Err-clause-step : goal.returns-in-Err-clause-step
returns-in-Err-clause-step g c = map_on _ _ c.drop_for.result
    (λ gave. λ told agrees.
    packet_err c.args.self.now.plan told c.args.octets.now c.cause.result (seen c.args.self.now) (g.L.Link.calls c.args.work.now.link.now) c.args.work.now.effects.now.list _
    (c.in-Err.ensures.fault ∙ ap Err (sym c.cause.ensures)) gave)
    c.drop_for.ensures
