-- What comes for an end that does not forward is dropped; else its frame is bridged by the port of the end's wire.
use Rattle.std.proofs.Common.{◌∙◌, sym}
use Rattle.edge_model.specs.Packet.{unpacked_at}
use Rattle.pw_ends.specs.Ends.{place_of}
use Rattle.peer_dialogue.proofs.SettleLemmas.{map_on}
use Rattle.provider_edge.proofs.PacketLemmas.{bridged_payload, enters_here, enters_not}
use Rattle.provider_edge.specs.Lists.{seen}
use Rattle.provider_edge.proofs.edge.Edge.enter.Goals as goal

pub returns-then-is_some-clause-step : goal.returns-then-is_some-clause-step
returns-then-is_some-clause-step g c = map_on _ _ c.drop_for.result
    (λ gave. λ told row agrees at.
    enters_not c.args.self.now.plan told row (place_of c.args.self.now.ends c.args.slot) c.args.payload.now c.down_of.result (seen c.args.self.now)
    (g.L.Link.calls c.args.work.now.link.now) c.args.work.now.effects.now.list _ (c.down_of.ensures) (sym c.is_some.ensures ∙ c.if-is_some.true) gave)
    c.drop_for.ensures

pub returns-clause-step : goal.returns-clause-step
returns-clause-step g c = map_on _ _ c.bridge_frame.result
    (λ step. λ told row agrees at.
    enters_here c.args.self.now told row c.args.slot c.args.payload.now c.down_of.result (g.L.Link.calls c.args.work.now.link.now) c.args.work.now.effects.now.list _ c.down_of.ensures
    (sym c.is_some.ensures ∙ c.if-is_some.false)
    (bridged_payload c.args.self.now told row c.args.slot c.place_at-place.result c.service_at-service.result c.port_at-port.result c.args.payload.now
    (g.L.Link.calls c.args.work.now.link.now) c.args.work.now.effects.now.list _ c.place_at-place.ensures.place (c.service_at-service.ensures.row row at) c.port_at-port.ensures.port
    (step told (unpacked_at c.args.self.now.plan row c.args.self.now.me c.args.payload.now) agrees (c.read_frame-read.ensures.read row at))))
    c.bridge_frame.ensures.step
