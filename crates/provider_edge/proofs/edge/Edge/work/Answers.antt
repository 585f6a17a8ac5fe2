-- Each input is taken by its own call, whose clause is the step of the definition on that input.
use Rattle.std.proofs.Common.{◌∙◌, ap, refl}
use Rattle.edge_model.specs.declared.effects.Effects.{Effects}
use Rattle.edge_model.specs.declared.input.Input.TheVariants as input
use Rattle.peer_dialogue.proofs.SpeakerLemmas.{goes_nowhere}
use Rattle.provider_edge.proofs.WorkLemmas.{input_done}
use Rattle.provider_edge.specs.Lists.{seen}
use Rattle.edge_model.specs.Packet.{packet_input}
use Rattle.peer_dialogue.proofs.SettleLemmas.{map_on}
use Rattle.peer_dialogue.specs.Peering.{at_edge}
use Rattle.provider_edge.proofs.AtWorkLemmas.{takes_by}
use Rattle.provider_edge.proofs.EdgeLemmas.{begun, given_out}
use Rattle.provider_edge.proofs.edge.Edge.work.Goals as goal

pub connected-requires : goal.connected-requires
connected-requires g c = c.requires.begun

pub returns-in-Connected-clause-goes : goal.returns-in-Connected-clause-goes
returns-in-Connected-clause-goes g c = c.connected.ensures.goes

pub returns-in-Connected-clause-step : goal.returns-in-Connected-clause-step
returns-in-Connected-clause-step g c =
    input_done c.connected.result c.args.self.now c.connected.new.self (g.L.Link.calls c.args.work.now.link.now)
    (g.L.Link.calls c.connected.new.work.link.now) c.connected.new.work.effects.now c.args.input (input.Connected c.in-Connected.peer) c.in-Connected.is c.connected.ensures.step

pub octets-requires : goal.octets-requires
octets-requires g c = c.requires.begun

pub returns-in-Octets-clause-goes : goal.returns-in-Octets-clause-goes
returns-in-Octets-clause-goes g c = c.octets.ensures.goes

pub returns-in-Octets-clause-step : goal.returns-in-Octets-clause-step
returns-in-Octets-clause-step g c =
    input_done c.octets.result c.args.self.now c.octets.new.self (g.L.Link.calls c.args.work.now.link.now)
    (g.L.Link.calls c.octets.new.work.link.now) c.octets.new.work.effects.now c.args.input (input.Octets c.in-Octets.peer c.in-Octets.bytes) c.in-Octets.is c.octets.ensures.step

pub lost-requires : goal.lost-requires
lost-requires g c = c.requires.begun

pub returns-in-Lost-clause-goes : goal.returns-in-Lost-clause-goes
returns-in-Lost-clause-goes g c = c.lost.ensures.goes

pub returns-in-Lost-clause-step : goal.returns-in-Lost-clause-step
returns-in-Lost-clause-step g c =
    input_done c.lost.result c.args.self.now c.lost.new.self (g.L.Link.calls c.args.work.now.link.now)
    (g.L.Link.calls c.lost.new.work.link.now) c.lost.new.work.effects.now c.args.input (input.Lost c.in-Lost.peer) c.in-Lost.is c.lost.ensures.step

pub tick-requires : goal.tick-requires
tick-requires g c = c.requires.begun

pub returns-in-Tick-clause-goes : goal.returns-in-Tick-clause-goes
returns-in-Tick-clause-goes g c = c.tick.ensures.goes

pub returns-in-Tick-clause-step : goal.returns-in-Tick-clause-step
returns-in-Tick-clause-step g c =
    input_done c.tick.result c.args.self.now c.tick.new.self (g.L.Link.calls c.args.work.now.link.now)
    (g.L.Link.calls c.tick.new.work.link.now) c.tick.new.work.effects.now c.args.input input.Tick c.in-Tick.is c.tick.ensures.step

pub frame-requires-clause-begun : goal.frame-requires-clause-begun
frame-requires-clause-begun g c = c.requires.begun

pub frame-requires-clause-synced : goal.frame-requires-clause-synced
frame-requires-clause-synced g c = c.requires.synced

pub returns-in-Frame-clause-goes : goal.returns-in-Frame-clause-goes
returns-in-Frame-clause-goes g c = c.frame.ensures.goes

pub returns-in-Frame-clause-step : goal.returns-in-Frame-clause-step
returns-in-Frame-clause-step g c =
    input_done c.frame.result c.args.self.now c.frame.new.self (g.L.Link.calls c.args.work.now.link.now)
    (g.L.Link.calls c.frame.new.work.link.now) c.frame.new.work.effects.now c.args.input (input.Frame c.in-Frame.circuit c.in-Frame.bytes) c.in-Frame.is c.frame.ensures.step

pub packet-requires-clause-working : goal.packet-requires-clause-working
packet-requires-clause-working g c = c.requires.begun.working

pub packet-requires-clause-synced : goal.packet-requires-clause-synced
packet-requires-clause-synced g c = c.requires.synced

pub returns-in-Packet-clause-goes : goal.returns-in-Packet-clause-goes
returns-in-Packet-clause-goes g c = takes_by g.L.Link.calls _ _ _ _ c.packet.ensures.goes.keeps c.packet.ensures.goes.on

pub returns-in-Packet-clause-step : goal.returns-in-Packet-clause-step
returns-in-Packet-clause-step g c =
    input_done c.packet.result c.args.self.now c.packet.new.self (g.L.Link.calls c.args.work.now.link.now)
    (g.L.Link.calls c.packet.new.work.link.now) c.packet.new.work.effects.now c.args.input (input.Packet c.in-Packet.bytes) c.in-Packet.is
    (map_on _ _ c.packet.result
    (λ step told agrees.
    given_out c.packet.new.self (g.L.Link.calls c.packet.new.work.link.now) c.packet.new.work.effects.now (c.packet.ensures.goes.on.idle ∙ ap (λ (e : Effects). e.idle) c.requires.begun.fresh)
    ∙ (step told agrees
    ∙ ap (packet_input c.args.self.now.plan told c.in-Packet.bytes.now)
    (ap (λ (e : Effects). at_edge (seen c.args.self.now) (g.L.Link.calls c.args.work.now.link.now) e.list) c.requires.begun.fresh ∙ begun (seen c.args.self.now) (g.L.Link.calls c.args.work.now.link.now))))
    c.packet.ensures.step)

pub circuit-requires : goal.circuit-requires
circuit-requires g c = c.requires.begun

pub returns-in-Circuit-clause-goes : goal.returns-in-Circuit-clause-goes
returns-in-Circuit-clause-goes g c = c.circuit.ensures.goes

pub returns-in-Circuit-clause-step : goal.returns-in-Circuit-clause-step
returns-in-Circuit-clause-step g c =
    input_done c.circuit.result c.args.self.now c.circuit.new.self (g.L.Link.calls c.args.work.now.link.now)
    (g.L.Link.calls c.circuit.new.work.link.now) c.circuit.new.work.effects.now c.args.input (input.Circuit c.in-Circuit.circuit c.in-Circuit.on) c.in-Circuit.is c.circuit.ensures.step

pub wire-requires : goal.wire-requires
wire-requires g c = c.requires.begun

pub returns-in-Wire-clause-goes : goal.returns-in-Wire-clause-goes
returns-in-Wire-clause-goes g c = c.wire.ensures.goes

pub returns-in-Wire-clause-step : goal.returns-in-Wire-clause-step
returns-in-Wire-clause-step g c =
    input_done c.wire.result c.args.self.now c.wire.new.self (g.L.Link.calls c.args.work.now.link.now)
    (g.L.Link.calls c.wire.new.work.link.now) c.wire.new.work.effects.now c.args.input (input.Wire c.in-Wire.wire c.in-Wire.on) c.in-Wire.is c.wire.ensures.step

pub status-requires-clause-begun : goal.status-requires-clause-begun
status-requires-clause-begun g c = c.requires.begun

pub returns-in-Status-clause-goes : goal.returns-in-Status-clause-goes
returns-in-Status-clause-goes g c = c.status.ensures.goes

pub returns-in-Status-clause-step : goal.returns-in-Status-clause-step
returns-in-Status-clause-step g c =
    input_done c.status.result c.args.self.now c.status.new.self (g.L.Link.calls c.args.work.now.link.now)
    (g.L.Link.calls c.status.new.work.link.now) c.status.new.work.effects.now c.args.input (input.Status c.in-Status.wire c.in-Status.bits) c.in-Status.is c.status.ensures.step

pub priority-requires : goal.priority-requires
priority-requires g c = c.requires.begun

pub returns-in-Priority-clause-goes : goal.returns-in-Priority-clause-goes
returns-in-Priority-clause-goes g c = c.priority.ensures.goes

pub returns-in-Priority-clause-step : goal.returns-in-Priority-clause-step
returns-in-Priority-clause-step g c =
    input_done c.priority.result c.args.self.now c.priority.new.self (g.L.Link.calls c.args.work.now.link.now)
    (g.L.Link.calls c.priority.new.work.link.now) c.priority.new.work.effects.now c.args.input (input.Priority c.in-Priority.wire c.in-Priority.priority) c.in-Priority.is c.priority.ensures.step

pub returns-in-Restart-clause-goes : goal.returns-in-Restart-clause-goes
returns-in-Restart-clause-goes g c = record { keeps = c.restart.ensures.keeps; link = refl; effects = refl; calls = goes_nowhere (g.L.Link.calls c.args.work.now.link.now) }

pub ping-requires : goal.ping-requires
ping-requires g c = c.requires.begun

pub returns-in-Ping-clause-goes : goal.returns-in-Ping-clause-goes
returns-in-Ping-clause-goes g c = c.ping.ensures.goes

pub returns-in-Ping-clause-step : goal.returns-in-Ping-clause-step
returns-in-Ping-clause-step g c =
    input_done c.ping.result c.args.self.now c.ping.new.self (g.L.Link.calls c.args.work.now.link.now)
    (g.L.Link.calls c.ping.new.work.link.now) c.ping.new.work.effects.now c.args.input (input.Ping c.in-Ping.wire) c.in-Ping.is c.ping.ensures.step
