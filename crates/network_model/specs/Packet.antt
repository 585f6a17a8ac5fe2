-- Packets under way: one reaches its edge, is lost, or is repeated.
use Rattle.std.specs.Prelude.{◌==◌, ◌+◌, ℕ, [], ◌∷◌, Option, Some, None, option_map, slice_get}
use Rattle.std.specs.List.{find}
use Rattle.net_base.specs.declared.plan.Plan.{Plan}
use Rattle.net_base.specs.declared.trace.entry.Entry.TheVariants.{Copied}
use Rattle.net_base.specs.declared.trace.event.Event.{Event}
use Rattle.net_base.specs.declared.trace.event.Event.TheVariants.{Arrive}
use Rattle.edge_model.specs.Packet.{packet_input}
use Rattle.edge_model.specs.Work.{Work}
use Rattle.network_model.specs.declared.packet.Packet.{Packet}
use Rattle.network_model.specs.Absorb.{Stepped, absorb, begin_at, idle, network_stays, taken_all}
use Rattle.network_model.specs.State.{NetworkState, with_copy, without_packet}

-- the packet under way with a number
abbrev pub packet_at : NetworkState → ℕ → Option Packet
packet_at network number = find (λ packet. packet.number == number) network.under_way

-- the work of the edge that a packet reaches
abbrev pub packet_work : Plan → NetworkState → Packet → Work
packet_work plan network packet = packet_input plan taken_all packet.bytes (begin_at network packet.to)

-- what the edge gives out has the origin of the packet, and has passed as many segments
abbrev pub arriving : Plan → Packet → NetworkState → Stepped
arriving plan packet network = absorb packet.to packet.origin packet.hops (packet_work plan network packet) (without_packet packet.number network)

-- the event `Arrive`: it is idle where no such packet is under way
abbrev pub arrive_event : Plan → Option Packet → NetworkState → Stepped
arrive_event plan None network = idle network
arrive_event plan (Some packet) network = arriving plan packet network

-- a packet is lost on its way
abbrev pub discard_event : Option Packet → NetworkState → Stepped
discard_event None network = idle network
discard_event (Some packet) network = network_stays (without_packet packet.number network)

-- a copy of a packet is under way under the next number, with the same origin, hops and age
abbrev pub repeating : Packet → NetworkState → Stepped
repeating packet network = record {
  state = with_copy packet network;
  entries = Copied (network.sent + 1) packet.number ∷ [];
}

-- the event `Again`: it is idle where no such packet is under way
abbrev pub again_event : Option Packet → NetworkState → Stepped
again_event None network = idle network
again_event (Some packet) network = repeating packet network

-- the next arrival: the packet under way with the lowest number
abbrev pub arrival_of : Packet → Event
arrival_of packet = Arrive packet.number

abbrev pub next_arrival : NetworkState → Option Event
next_arrival network = option_map arrival_of (slice_get network.under_way 0)
