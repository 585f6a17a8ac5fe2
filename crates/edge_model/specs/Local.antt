-- Local isolation: what one edge gives out on a frame stays within the service of the frame's circuit, and what it gives out on a
-- packet within the service of the wire whose label the packet has. What comes in a control channel stays within its wire.
use Rattle.std.specs.Prelude.{◌≡◌, ◌⊎◌, ◌==◌, ◌&&◌, ℕ, Bool, true, false, List, [], ◌∷◌, Some, None, Result, Ok, Err}
use Rattle.net_base.specs.declared.outside.link_call.LinkCall.{LinkCall}
use Rattle.net_base.specs.declared.plan.Plan.{Plan}
use Rattle.net_base.specs.declared.plan.places.CircuitId.{CircuitId}
use Rattle.net_base.specs.declared.plan.places.EdgeId.{EdgeId}
use Rattle.net_base.specs.declared.plan.places.ServiceId.{ServiceId}
use Rattle.net_base.specs.declared.plan.places.WireId.{WireId}
use Rattle.net_base.specs.declared.plan.wire_plan.WirePlan.{WirePlan}
use Rattle.net_base.specs.declared.trace.arrival.Arrival.{Arrival}
use Rattle.net_base.specs.declared.trace.arrival.Arrival.TheVariants as arrival
use Rattle.net_base.specs.plan.Paths.{edge_address, mate}
use Rattle.net_base.specs.plan.Places.{circuit_row, is_mesh_class, service_of, wire_row}
use Rattle.net_base.specs.trace.Isolated.{inner_at}
use Rattle.net_base.specs.trace.Frame.{dress}
use Rattle.pw_messages.specs.LinkAnswers.{Answers}
use Rattle.eth_encap.specs.declared.stack_entry.StackEntry.{StackEntry}
use Rattle.eth_encap.specs.Packet.{entry_of}
use Rattle.net_base.specs.declared.trace.drop_cause.DropCause.{DropCause}
use Rattle.net_values.specs.declared.addr.Addr.{Addr}
use Rattle.pw_signalling.specs.declared.binding.Binding.{Binding}
use Rattle.pw_stitch.specs.Stitch.{has_told}
use Rattle.vccv_channel.specs.declared.cc.Cc.{Cc}
use Rattle.vccv_channel.specs.declared.cc.Cc.TheVariants.{Header, Alert, Expiry}
use Rattle.vccv_channel.specs.declared.echo.Echo.{Echo}
use Rattle.vccv_channel.specs.declared.echo.Echo.TheVariants.{Request, Answer}
use Rattle.vccv_channel.specs.declared.vccv_fault.VccvFault.{VccvFault}
use Rattle.vccv_channel.specs.Channel.{has_header}
use Rattle.vccv_channel.specs.Echo.{answer_packet, request_packet}
use Rattle.vccv_channel.specs.Reading.{ip_packet_of, reading}
use Rattle.edge_model.specs.declared.effect.Effect.{Effect}
use Rattle.edge_model.specs.declared.effect.Effect.TheVariants.{Left, Sent, Pong}
use Rattle.edge_model.specs.declared.end_place.EndPlace.{EndPlace}
use Rattle.edge_model.specs.Echo.{channel_octets, channel_under, ping_number}
use Rattle.edge_model.specs.Ends.{wire_end}
use Rattle.edge_model.specs.Frame.{frame_input, tag_of}
use Rattle.edge_model.specs.Packet.{advertiser, behind_entry, is_alert, is_channel, packet_input, unpacked_at}
use Rattle.edge_model.specs.Ping.{far_address, ping_between, ping_input}
use Rattle.edge_model.specs.Role.{down_at}
use Rattle.edge_model.specs.State.{EdgeState, end_at}
use Rattle.edge_model.specs.Work.{beginning}

-- a frame left at another circuit of the service, as its dress of the inner frame
pub record LeavesBeside (plan : Plan) (circuit : CircuitId) (octets : List ℕ) (at : CircuitId) (bytes : List ℕ) : Type 0 where
  pub other : (at.0 == circuit.0) ≡ false
  pub service : ServiceId
  pub of_service : service_of plan circuit ≡ Some service
  pub same_service : service_of plan at ≡ Some service
  pub frame : List ℕ
  pub formed : inner_at plan circuit octets ≡ Ok frame
  pub dressed : bytes ≡ dress (tag_of plan at) frame

-- a packet was sent on a wire of the service, for the frame that came by this circuit
pub record SentBeside (plan : Plan) (circuit : CircuitId) (wire : WireId) (came : Arrival) : Type 0 where
  pub from : came ≡ arrival.Circuit circuit
  pub row : WirePlan
  pub is : wire_row plan wire ≡ Some row
  pub of_service : service_of plan circuit ≡ Some row.service

-- what is given out on a frame leaves, or is sent, beside its circuit; no other effect carries it
abbrev pub StaysBeside : Plan → CircuitId → List ℕ → Effect → Type 0
StaysBeside plan circuit octets (Left at bytes) = LeavesBeside plan circuit octets at bytes
StaysBeside plan circuit octets (Sent peer wire came bytes) = SentBeside plan circuit wire came
StaysBeside plan circuit octets effect = Unit {0}

-- each effect does
abbrev pub AllStayBeside : Plan → CircuitId → List ℕ → List Effect → Type 0
AllStayBeside plan circuit octets [] = Unit {0}
AllStayBeside plan circuit octets (e ∷ es) = StaysBeside plan circuit octets e × AllStayBeside plan circuit octets es

-- ---- packets

-- the packet has the label of the edge's end of this wire, which is bound, and forwards
pub record ComesBy (plan : Plan) (edge : EdgeState) (octets : List ℕ) (place : EndPlace) (row : WirePlan) : Type 0 where
  pub entry : StackEntry
  pub read : entry_of octets ≡ Ok entry
  pub owner : advertiser plan edge entry.label ≡ Some place
  pub terminal : place.terminal ≡ true
  pub is : wire_row plan place.wire ≡ Some row
  pub forwards : down_at plan edge place ≡ None

-- a frame left at a circuit of the wire's service, as its dress of the inner frame of the packet
pub record LeavesBehind (plan : Plan) (edge : EdgeState) (octets : List ℕ) (at : CircuitId) (bytes : List ℕ) : Type 0 where
  pub place : EndPlace
  pub row : WirePlan
  pub came : ComesBy plan edge octets place row
  pub same_service : service_of plan at ≡ Some row.service
  pub frame : List ℕ
  pub formed : unpacked_at plan row edge.me (behind_entry octets) ≡ Ok frame
  pub dressed : bytes ≡ dress (tag_of plan at) frame

-- a packet was sent on another wire of the same service, and the two are not both mesh wires (RFC 4762 section 4.4)
pub record SentBehind (plan : Plan) (edge : EdgeState) (octets : List ℕ) (wire : WireId) (came : Arrival) : Type 0 where
  pub place : EndPlace
  pub row : WirePlan
  pub by : ComesBy plan edge octets place row
  pub from : came ≡ arrival.Wire place.wire
  pub other : (wire.0 == place.wire.0) ≡ false
  pub next : WirePlan
  pub is : wire_row plan wire ≡ Some next
  pub same_service : next.service ≡ row.service
  pub not_both_mesh : is_mesh_class row.class && is_mesh_class next.class ≡ false

-- it was sent on along its wire, at a switching point of it, to the neighbour on the other side (RFC 6073 section 4)
pub record SentOn (plan : Plan) (edge : EdgeState) (octets : List ℕ) (peer : EdgeId) (wire : WireId) (came : Arrival) : Type 0 where
  pub place : EndPlace
  pub row : WirePlan
  pub entry : StackEntry
  pub read : entry_of octets ≡ Ok entry
  pub owner : advertiser plan edge entry.label ≡ Some place
  pub passing : place.terminal ≡ false
  pub is : wire_row plan place.wire ≡ Some row
  pub mate_is : mate row edge.me.0 place.peer.0 ≡ Some peer
  pub same : wire ≡ place.wire
  pub from : came ≡ arrival.Wire place.wire

-- ---- echo packets

-- behind a router alert stands another entry; in each other channel the first entry is that of the pseudowire
abbrev pub from_label : Cc → List ℕ → List ℕ
from_label Header octets = octets
from_label Alert octets = behind_entry octets
from_label Expiry octets = octets

-- the first entry is a router alert
abbrev pub has_alert : Result StackEntry DropCause → Bool
has_alert (Err why) = false
has_alert (Ok entry) = is_alert entry

-- what tells the channel: an associated channel header behind the label, a router alert above it, or a TTL that ends here (RFC 5085
-- section 5.1)
abbrev pub is_in_channel : Cc → List ℕ → StackEntry → Bool
is_in_channel Header octets entry = is_channel (behind_entry octets)
is_in_channel Alert octets entry = has_alert (entry_of octets)
is_in_channel Expiry octets entry = entry.ttl == 1

-- the packet came by the edge's end of this wire, which is bound, in the control channel that the end has picked
pub record ComesInChannel (plan : Plan) (edge : EdgeState) (octets : List ℕ) (place : EndPlace) (row : WirePlan) (kind : Cc) (binding : Binding) : Type 0 where
  pub entry : StackEntry
  pub read : entry_of (from_label kind octets) ≡ Ok entry
  pub channel : is_in_channel kind octets entry ≡ true
  pub owner : advertiser plan edge entry.label ≡ Some place
  pub terminal : place.terminal ≡ true
  pub is : wire_row plan place.wire ≡ Some row
  pub bound : (end_at edge place).remote ≡ Some binding
  pub picked : channel_under row edge.me binding ≡ Some kind

-- what follows its label stack, and the echo message in it
abbrev pub channel_payload : Cc → List ℕ → List ℕ
channel_payload kind octets = behind_entry (from_label kind octets)

-- the echo message that the packet carries, or why it carries none
abbrev pub echo_of : WirePlan → Cc → List ℕ → Result Echo VccvFault
echo_of row kind octets = reading (has_header kind) (ping_number row) (channel_payload kind octets)

-- the answer to an echo request was sent by the edge itself, to the neighbour by which the request came and on its wire, in the same
-- channel
pub record SentBack (plan : Plan) (edge : EdgeState) (octets : List ℕ) (peer : EdgeId) (wire : WireId) (came : Arrival) (bytes : List ℕ) : Type 0 where
  pub kind : Cc
  pub place : EndPlace
  pub row : WirePlan
  pub binding : Binding
  pub by : ComesInChannel plan edge octets place row kind binding
  pub from : Addr
  pub to : Addr
  pub sequence : ℕ
  pub long : ℕ
  pub asked : echo_of row kind octets ≡ Ok (Request from to sequence long)
  pub same : wire ≡ place.wire
  pub back : peer ≡ place.peer
  pub own : came ≡ arrival.Own
  pub answered : bytes ≡ channel_octets kind binding (answer_packet (ip_packet_of (has_header kind) (channel_payload kind octets)))

-- the answer to a ping of the wire came by its end, with this sequence number
pub record ToldBehind (plan : Plan) (edge : EdgeState) (octets : List ℕ) (wire : WireId) (sequence : ℕ) : Type 0 where
  pub kind : Cc
  pub place : EndPlace
  pub row : WirePlan
  pub binding : Binding
  pub by : ComesInChannel plan edge octets place row kind binding
  pub said : echo_of row kind octets ≡ Ok (Answer sequence)
  pub same : wire ≡ place.wire

-- ---- whatever is given out on a packet

-- what leaves, is sent or is told as an answer belongs to the packet; no other effect carries it
abbrev pub StaysBehind : Plan → EdgeState → List ℕ → Effect → Type 0
StaysBehind plan edge octets (Left at bytes) = LeavesBehind plan edge octets at bytes
StaysBehind plan edge octets (Sent peer wire came bytes) = SentBehind plan edge octets wire came ⊎ (SentOn plan edge octets peer wire came ⊎ SentBack plan edge octets peer wire came bytes)
StaysBehind plan edge octets (Pong wire sequence) = ToldBehind plan edge octets wire sequence
StaysBehind plan edge octets effect = Unit {0}

-- each effect does
abbrev pub AllStayBehind : Plan → EdgeState → List ℕ → List Effect → Type 0
AllStayBehind plan edge octets [] = Unit {0}
AllStayBehind plan edge octets (e ∷ es) = StaysBehind plan edge octets e × AllStayBehind plan edge octets es

-- ---- pings

-- an echo request to the far terminal edge was sent on the wire by the edge's own end of it, which advertises its label and is bound, in
-- the control channel that it has picked, with the sequence number that comes next
pub record SentAsked (plan : Plan) (edge : EdgeState) (wire : WireId) (peer : EdgeId) (on : WireId) (came : Arrival) (bytes : List ℕ) : Type 0 where
  pub place : EndPlace
  pub here : wire_end plan edge.me wire ≡ Some place
  pub row : WirePlan
  pub is : wire_row plan place.wire ≡ Some row
  pub told : has_told (end_at edge place).local ≡ true
  pub binding : Binding
  pub bound : (end_at edge place).remote ≡ Some binding
  pub kind : Cc
  pub picked : channel_under row edge.me binding ≡ Some kind
  pub from : Addr
  pub near : edge_address plan edge.me ≡ Some from
  pub to : Addr
  pub far : far_address plan edge.me row ≡ Some to
  pub beside : peer ≡ place.peer
  pub same : on ≡ place.wire
  pub own : came ≡ arrival.Own
  pub asked : bytes ≡ channel_octets kind binding (request_packet (ping_between row from to (edge.next_ping place.wire.0)))

-- no frame leaves on a ping, and what is sent is its request
abbrev pub StaysAsked : Plan → EdgeState → WireId → Effect → Type 0
StaysAsked plan edge wire (Left at bytes) = ⊥
StaysAsked plan edge wire (Sent peer on came bytes) = SentAsked plan edge wire peer on came bytes
StaysAsked plan edge wire effect = Unit {0}

-- each effect does
abbrev pub AllStayAsked : Plan → EdgeState → WireId → List Effect → Type 0
AllStayAsked plan edge wire [] = Unit {0}
AllStayAsked plan edge wire (e ∷ es) = StaysAsked plan edge wire e × AllStayAsked plan edge wire es

-- ---- of every edge, whatever its link answers

abbrev pub PingsStayLocal : Type 0
PingsStayLocal = (plan : Plan) (told : Answers) (edge : EdgeState) (calls : List LinkCall) (wire : WireId)
    → AllStayAsked plan edge wire (ping_input plan told wire (beginning edge calls)).effects

abbrev pub PacketsStayLocal : Type 0
PacketsStayLocal = (plan : Plan) (told : Answers) (edge : EdgeState) (calls : List LinkCall) (octets : List ℕ)
    → AllStayBehind plan edge octets (packet_input plan told octets (beginning edge calls)).effects

abbrev pub FramesStayLocal : Type 0
FramesStayLocal = (plan : Plan) (told : Answers) (edge : EdgeState) (calls : List LinkCall) (circuit : CircuitId) (octets : List ℕ)
    → AllStayBeside plan circuit octets (frame_input plan told circuit octets (circuit_row plan circuit) (beginning edge calls)).effects
