-- What comes of a frame that the bridge of a service hears by a port: copies of it, each by another port of the service (RFC 4762
-- sections 4.1, 4.2 and 4.4). Whatever else an edge gives out on a frame or a packet is one drop, or nothing; on a packet also the
-- packet itself, at a switching point, and what comes of an echo packet.
use Rattle.std.specs.Prelude.{◌≡◌, ◌==◌, ◌-◌, ◌&&◌, ℕ, true, false, List, [], ◌∷◌, Option, Some, None, Ok, Err, slice_get}
use Rattle.net_base.specs.declared.plan.Plan.{Plan}
use Rattle.net_base.specs.declared.plan.circuit_plan.CircuitPlan.{CircuitPlan}
use Rattle.net_base.specs.declared.plan.places.CircuitId.{CircuitId}
use Rattle.net_base.specs.declared.plan.places.EdgeId.{EdgeId}
use Rattle.net_base.specs.declared.plan.places.ServiceId.{ServiceId}
use Rattle.net_base.specs.declared.plan.places.WireId.{WireId}
use Rattle.net_base.specs.declared.plan.wire_plan.WirePlan.{WirePlan}
use Rattle.net_base.specs.declared.trace.arrival.Arrival.{Arrival}
use Rattle.net_base.specs.declared.trace.arrival.Arrival.TheVariants as arrival
use Rattle.net_base.specs.declared.trace.drop_cause.DropCause.{DropCause}
use Rattle.net_base.specs.declared.trace.drop_cause.DropCause.TheVariants as cause
use Rattle.net_base.specs.plan.Paths.{mate, offer_of}
use Rattle.eth_encap.specs.declared.stack_entry.StackEntry.{StackEntry}
use Rattle.eth_encap.specs.Packet.{entry_of}
use Rattle.net_base.specs.plan.Places.{service_of, wire_row}
use Rattle.net_base.specs.trace.Isolated.{inner_at}
use Rattle.net_base.specs.trace.Frame.{dress}
use Rattle.hvpls_spokes.specs.declared.port.Port.{Port}
use Rattle.hvpls_spokes.specs.declared.port.Port.TheVariants as port
use Rattle.hvpls_spokes.specs.Port.{is_mesh_port, ports_of, wire_port}
use Rattle.pw_signalling.specs.declared.binding.Binding.{Binding}
use Rattle.pw_stitch.specs.Relabelling.{relabelled}
use Rattle.edge_model.specs.declared.effect.Effect.{Effect}
use Rattle.edge_model.specs.declared.effect.Effect.TheVariants.{Left, Sent, Dropped, Pong}
use Rattle.edge_model.specs.declared.end_place.EndPlace.{EndPlace}
use Rattle.edge_model.specs.Ends.{wire_end}
use Rattle.edge_model.specs.Frame.{hearing, port_at, port_forwards, tag_of, targets_of}
use Rattle.edge_model.specs.Local.{ComesBy, SentBack, ToldBehind}
use Rattle.edge_model.specs.Mend.{port_of_wire}
use Rattle.edge_model.specs.Packet.{advertiser, behind_entry, unpacked_at}
use Rattle.edge_model.specs.Role.{down_at}
use Rattle.edge_model.specs.Send.{packet_of}
use Rattle.edge_model.specs.State.{EdgeState, end_at}

-- ---- one copy

-- the port p of the service leads there, and is one to which the bridge sends a frame that it has heard by the port `from`: it
-- forwards, it is not the arrival, and it is no mesh wire where the arrival is one
pub record GoesOutBy (plan : Plan) (edge : EdgeState) (service : ServiceId) (frame : List ℕ) (from p : ℕ) (x : Port) : Type 0 where
  pub at : slice_get (ports_of plan service edge.me) p ≡ Some x
  pub target : targets_of plan (hearing service frame from edge) service (ports_of plan service edge.me) frame from p ≡ true
  pub forwards : port_forwards plan edge (ports_of plan service edge.me) p ≡ true
  pub other : (p == from) ≡ false
  pub apart : is_mesh_port (ports_of plan service edge.me) from && is_mesh_port (ports_of plan service edge.me) p ≡ false

-- a frame left at a circuit of the service, as its dress of the inner frame
pub record LeftCopy (plan : Plan) (edge : EdgeState) (service : ServiceId) (frame : List ℕ) (from : ℕ) (at : CircuitId) (bytes : List ℕ) : Type 0 where
  pub p : ℕ
  pub by : GoesOutBy plan edge service frame from p (port.Circuit at)
  pub same_service : service_of plan at ≡ Some service
  pub dressed : bytes ≡ dress (tag_of plan at) frame

-- a packet was sent by the edge's end of a wire of the service, which forwards, under the binding that the end holds
pub record SentCopy (plan : Plan) (edge : EdgeState) (came : Arrival) (service : ServiceId) (frame : List ℕ) (from : ℕ) (peer : EdgeId) (wire : WireId) (of_arrival : Arrival) (bytes : List ℕ) : Type 0 where
  pub same_arrival : of_arrival ≡ came
  pub place : EndPlace
  pub here : wire_end plan edge.me wire ≡ Some place
  pub same_wire : wire ≡ place.wire
  pub same_peer : peer ≡ place.peer
  pub terminal : place.terminal ≡ true
  pub forwards : down_at plan edge place ≡ None
  pub row : WirePlan
  pub is : wire_row plan wire ≡ Some row
  pub same_service : row.service ≡ service
  pub binding : Binding
  pub bound : (end_at edge place).remote ≡ Some binding
  pub packed : bytes ≡ packet_of (offer_of row edge.me.0) binding frame
  pub p : ℕ
  pub by : GoesOutBy plan edge service frame from p (wire_port wire.0 row)

-- a copy of a frame that the service has heard by the port `from`; one that the link does not take is dropped
abbrev pub IsCopy : Plan → EdgeState → Arrival → ServiceId → List ℕ → ℕ → Effect → Type 0
IsCopy plan edge came service frame from (Left at bytes) = LeftCopy plan edge service frame from at bytes
IsCopy plan edge came service frame from (Sent peer wire of_arrival bytes) = SentCopy plan edge came service frame from peer wire of_arrival bytes
IsCopy plan edge came service frame from (Dropped why) = why ≡ cause.LinkFault
IsCopy plan edge came service frame from effect = ⊥

-- each effect is one
abbrev pub AllAreCopies : Plan → EdgeState → Arrival → ServiceId → List ℕ → ℕ → List Effect → Type 0
AllAreCopies plan edge came service frame from [] = Unit {0}
AllAreCopies plan edge came service frame from (e ∷ es) = IsCopy plan edge came service frame from e × AllAreCopies plan edge came service frame from es

-- ---- what an edge gives out on a frame

-- copies of the inner frame, which came by the circuit's port
pub record FrameIsCopied (plan : Plan) (edge : EdgeState) (circuit : CircuitId) (octets : List ℕ) (row : CircuitPlan) (effects : List Effect) : Type 0 where
  pub frame : List ℕ
  pub formed : inner_at plan circuit octets ≡ Ok frame
  pub from : ℕ
  pub found : port_at plan edge circuit row ≡ Some from
  pub copies : AllAreCopies plan edge (arrival.Circuit circuit) row.service frame from effects

-- nothing, one drop of a frame that could not be read, or its copies
pub data FrameWork (plan : Plan) (edge : EdgeState) (circuit : CircuitId) (octets : List ℕ) (row : Option CircuitPlan) (effects : List Effect) : Type 0 where
  FrameIsIdle : effects ≡ [] → FrameWork plan edge circuit octets row effects
  FrameIsDropped : (why : DropCause) → inner_at plan circuit octets ≡ Err why → effects ≡ Dropped why ∷ [] → FrameWork plan edge circuit octets row effects
  FrameGoesOut : (own : CircuitPlan) → row ≡ Some own → FrameIsCopied plan edge circuit octets own effects → FrameWork plan edge circuit octets row effects

-- ---- what an edge gives out on a packet

-- copies of its inner frame, which came by the port of the wire
pub record PacketIsCopied (plan : Plan) (edge : EdgeState) (octets : List ℕ) (effects : List Effect) : Type 0 where
  pub place : EndPlace
  pub row : WirePlan
  pub comes : ComesBy plan edge octets place row
  pub binding : Binding
  pub bound : (end_at edge place).remote ≡ Some binding
  pub frame : List ℕ
  pub formed : unpacked_at plan row edge.me (behind_entry octets) ≡ Ok frame
  pub from : ℕ
  pub found : port_of_wire plan edge place.wire row ≡ Some from
  pub copies : AllAreCopies plan edge (arrival.Wire place.wire) row.service frame from effects

-- it went on along its wire, at a switching point of which the side towards the other neighbour is bound (RFC 6073 section 4)
pub record PacketIsSwitched (plan : Plan) (edge : EdgeState) (octets : List ℕ) (effects : List Effect) : Type 0 where
  pub place : EndPlace
  pub row : WirePlan
  pub entry : StackEntry
  pub read : entry_of octets ≡ Ok entry
  pub owner : advertiser plan edge entry.label ≡ Some place
  pub passing : place.terminal ≡ false
  pub is : wire_row plan place.wire ≡ Some row
  pub to : EdgeId
  pub mate_is : mate row edge.me.0 place.peer.0 ≡ Some to
  pub binding : Binding
  pub bound : (edge.ends place.wire.0 to.0).remote ≡ Some binding
  pub living : (entry.ttl == 1) ≡ false
  pub sent : effects ≡ Sent to place.wire (arrival.Wire place.wire) (relabelled binding.label (entry.ttl - 1) octets) ∷ []

-- nothing, one drop, the copies of its frame, the packet itself at a switching point, or what comes of an echo packet
pub data PacketWork (plan : Plan) (edge : EdgeState) (octets : List ℕ) (effects : List Effect) : Type 0 where
  PacketIsLost : effects ≡ [] → PacketWork plan edge octets effects
  PacketIsDropped : (why : DropCause) → effects ≡ Dropped why ∷ [] → PacketWork plan edge octets effects
  PacketGoesOut : PacketIsCopied plan edge octets effects → PacketWork plan edge octets effects
  PacketGoesOn : PacketIsSwitched plan edge octets effects → PacketWork plan edge octets effects
  PacketIsAnswered : (peer : EdgeId) (wire : WireId) (bytes : List ℕ) → SentBack plan edge octets peer wire arrival.Own bytes → effects ≡ Sent peer wire arrival.Own bytes ∷ [] → PacketWork plan edge octets effects
  PacketIsTold : (wire : WireId) (sequence : ℕ) → ToldBehind plan edge octets wire sequence → effects ≡ Pong wire sequence ∷ [] → PacketWork plan edge octets effects
