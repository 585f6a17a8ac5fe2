-- A frame to a known station goes out by one port at most, at each edge that it enters (RFC 4762 section 4.1).
use Rattle.std.specs.Prelude.{◌≡◌, ◌≤◌, ◌+◌, ◌==◌, ◌++◌, ℕ, List, [], ◌∷◌, Option, Some, None, Ok, if◌then◌else◌}
use Rattle.net_base.specs.declared.plan.Plan.{Plan}
use Rattle.net_base.specs.declared.plan.circuit_plan.CircuitPlan.{CircuitPlan}
use Rattle.net_base.specs.declared.plan.places.CircuitId.{CircuitId}
use Rattle.net_base.specs.declared.plan.places.ServiceId.{ServiceId}
use Rattle.net_base.specs.declared.plan.wire_plan.WirePlan.{WirePlan}
use Rattle.net_base.specs.declared.trace.entry.Entry.{Entry}
use Rattle.net_base.specs.declared.trace.entry.Entry.TheVariants.{Left, Sent}
use Rattle.net_base.specs.declared.trace.event.Event.{Event}
use Rattle.net_base.specs.declared.trace.event.Event.TheVariants.{Frame, Arrive}
use Rattle.net_base.specs.plan.Places.{circuit_row}
use Rattle.net_base.specs.trace.Isolated.{inner_at}
use Rattle.vsi_bridge.specs.Targets.{known_port}
use Rattle.edge_model.specs.declared.end_place.EndPlace.{EndPlace}
use Rattle.edge_model.specs.Frame.{destination, hearing, port_at}
use Rattle.edge_model.specs.Local.{ComesBy}
use Rattle.edge_model.specs.Mend.{port_of_wire}
use Rattle.edge_model.specs.Packet.{behind_entry, unpacked_at}
use Rattle.edge_model.specs.State.{EdgeState, addresses_of}
use Rattle.network_model.specs.declared.packet.Packet.{Packet}
use Rattle.network_model.specs.Frame.{next_origin}
use Rattle.network_model.specs.Packet.{packet_at}
use Rattle.network_model.specs.Run.{state_after}
use Rattle.network_model.specs.State.{NetworkState, edge_at, empty_network}
use Rattle.network_model.specs.Step.{step}

-- how many copies of the frame went out: left at a circuit, or were sent on a wire
abbrev pub times_out : ℕ → List Entry → ℕ
times_out origin [] = 0
times_out origin (Left at from hops octets ∷ es) = (if from == origin then 1 else 0) + times_out origin es
times_out origin (Sent by to wire came packet from hops octets ∷ es) = (if from == origin then 1 else 0) + times_out origin es
times_out origin (e ∷ es) = times_out origin es

-- the port that the bridge of a service knows for the destination of a frame, once it has heard the frame by a port
abbrev pub known_after : ServiceId → List ℕ → Option ℕ → EdgeState → Option ℕ
known_after service frame None edge = known_port (addresses_of edge service) (destination frame)
known_after service frame (Some arrival) edge = known_port (addresses_of (hearing service frame arrival edge) service) (destination frame)

-- the same at the edge of a circuit by which the frame comes
abbrev pub known_to : Plan → NetworkState → CircuitId → CircuitPlan → List ℕ → Option ℕ
known_to plan network circuit row frame =
    known_after row.service frame (port_at plan (edge_at network row.edge) circuit row) (edge_at network row.edge)

-- in this state: what the step of a frame tells of the frame is one copy at most, where the bridge then knows its station
abbrev pub ServesFramesOnce : Plan → NetworkState → Type 0
ServesFramesOnce plan network = (circuit : CircuitId) (row : CircuitPlan) (octets frame : List ℕ) (port : ℕ)
    → circuit_row plan circuit ≡ Some row
    → inner_at plan circuit octets ≡ Ok frame
    → known_to plan network circuit row frame ≡ Some port
    → times_out (next_origin network) (step plan network (Frame circuit octets)).entries ≤ 1

-- the port that the bridge of the wire's service knows at the edge that a packet reaches, once it has heard the frame by the wire
abbrev pub known_behind : Plan → NetworkState → Packet → EndPlace → WirePlan → List ℕ → Option ℕ
known_behind plan network packet place row frame =
    known_after row.service frame (port_of_wire plan (edge_at network packet.to) place.wire row) (edge_at network packet.to)

-- and so it is with the step of a packet: what it tells of the packet's frame is one copy at most
abbrev pub ServesPacketsOnce : Plan → NetworkState → Type 0
ServesPacketsOnce plan network = (number : ℕ) (packet : Packet) (place : EndPlace) (row : WirePlan) (frame : List ℕ) (port : ℕ)
    → packet_at network number ≡ Some packet
    → ComesBy plan (edge_at network packet.to) packet.bytes place row
    → unpacked_at plan row packet.to (behind_entry packet.bytes) ≡ Ok frame
    → known_behind plan network packet place row frame ≡ Some port
    → times_out packet.origin (step plan network (Arrive number)).entries ≤ 1

-- so it is of frames, and of packets
pub record ServesKnownOnce (plan : Plan) (network : NetworkState) : Type 0 where
  pub frames : ServesFramesOnce plan network
  pub packets : ServesPacketsOnce plan network

-- in every state of a run
abbrev pub KnownOnce : Plan → List Event → Type 0
KnownOnce plan events = (before after : List Event) → events ≡ before ++ after → ServesKnownOnce plan (state_after plan (empty_network plan) before)
