-- What a ping and its answer are under way: an ICMP echo message of the wire in its control channel, under a label that the edge to which
-- it goes gave to its end of that wire (RFC 5085 section 5).
use Rattle.std.specs.Prelude.{◌≡◌, ◌<◌, ◌+◌, ◌++◌, true, false, length, option_and_then, option_map, ℕ, List, Option, Some, if◌then◌else◌}
use Rattle.net_base.specs.declared.plan.Plan.{Plan}
use Rattle.net_base.specs.declared.plan.offer.Offer.{Offer}
use Rattle.net_base.specs.declared.plan.places.EdgeId.{EdgeId}
use Rattle.net_base.specs.declared.plan.wire_plan.WirePlan.{WirePlan}
use Rattle.net_base.specs.plan.Paths.{edge_address, expected, first_edge, follows, joins, last_edge}
use Rattle.net_base.specs.plan.Places.{wire_row}
use Rattle.net_values.specs.Label.{IsLabel, router_alert}
use Rattle.net_values.specs.declared.addr.Addr.{Addr}
use Rattle.pw_messages.specs.Content.{icmp_ping}
use Rattle.vccv_channel.specs.declared.cc.Cc.{Cc}
use Rattle.vccv_channel.specs.declared.cc.Cc.TheVariants.{Header, Alert, Expiry}
use Rattle.vccv_channel.specs.Channel.{payload}
use Rattle.vccv_channel.specs.Echo.{answer_packet, request_packet}
use Rattle.vccv_channel.specs.LabelStack.{stack_entry}
use Rattle.vccv_channel.specs.Pick.{picked}
use Rattle.edge_model.specs.Ping.{ping_between}
use Rattle.flight_laws.specs.Rules.{MayCarry}
use Rattle.network_model.specs.declared.packet.Packet.{Packet}
use Rattle.network_model.specs.State.{NetworkState}

-- ---- the control channel

-- what an offer tells of control channels, and of pings in them
abbrev pub channels_told : Offer → Option (ℕ × ℕ)
channels_told offer = option_map (λ channels. (channels, icmp_ping)) offer.vccv

-- how many switching points the wire passes in all: those on the way to the segment between the two edges, from either side
abbrev pub points_in_all : Plan → WirePlan → ℕ → ℕ → ℕ
points_in_all plan row from to = length (expected plan row from to).points + length (expected plan row to from).points

-- the type that the terminal edge picks from which packets come to this segment: by the offers of both terminal edges, and by how many
-- switching points the wire passes
abbrev pub planned_channel : Plan → WirePlan → ℕ → ℕ → Option Cc
planned_channel plan row from to =
    picked (expected plan row from to).offer.vccv (channels_told (expected plan row to from).offer) (expected plan row from to).offer.cword (points_in_all plan row from to)

-- ---- the message

-- the terminal edge from which a packet comes that goes from the first edge to the second one
abbrev pub packet_source : List EdgeId → ℕ → ℕ → Option EdgeId
packet_source path from to = if follows path from to then first_edge path else last_edge path

-- the address of that edge
abbrev pub source_address : Plan → WirePlan → ℕ → ℕ → Option Addr
source_address plan row from to = option_and_then (edge_address plan) (packet_source row.path from to)

-- an echo request of the wire from one address to the other, or the answer to one that came from there (RFC 792)
pub data IsEchoMessage (row : WirePlan) (from to : Addr) (ip : List ℕ) : Type 0 where
  Asks : (sequence : ℕ) → sequence < 65536 → ip ≡ request_packet (ping_between row from to sequence) → IsEchoMessage row from to ip
  Answers : (sequence : ℕ) → sequence < 65536 → ip ≡ answer_packet (request_packet (ping_between row to from sequence)) → IsEchoMessage row from to ip

-- ---- its octets

-- the label stack of each type, with this TTL of the pseudowire's label
abbrev pub echo_stack : Cc → ℕ → ℕ → List ℕ
echo_stack Header label ttl = stack_entry label true ttl
echo_stack Alert label ttl = stack_entry router_alert false 255 ++ stack_entry label true ttl
echo_stack Expiry label ttl = stack_entry label true ttl

-- The TTL is 255 less the switching points that the packet has passed; for type 3 it is one more than those that it has still to pass, and
-- so ends at the far terminal edge (RFC 5085 section 5.1.3, RFC 6073 section 7.4).
abbrev pub CountsTtl : Plan → WirePlan → ℕ → ℕ → Cc → ℕ → Type 0
CountsTtl plan row from to Header ttl = ttl + length (expected plan row from to).points ≡ 255
CountsTtl plan row from to Alert ttl = ttl + length (expected plan row from to).points ≡ 255
CountsTtl plan row from to Expiry ttl = ttl ≡ length (expected plan row to from).points + 1

-- ---- the rule of one packet

-- a packet that carries no frame is a ping of its wire, or the answer to one
pub record IsEchoed (plan : Plan) (network : NetworkState) (packet : Packet) : Type 0 where
  -- it carries no frame
  pub unnumbered : packet.origin ≡ 0
  pub row : WirePlan
  pub is : wire_row plan packet.wire ≡ Some row
  pub joined : joins packet.from.0 packet.to.0 row.path ≡ true
  pub kind : Cc
  pub channel : planned_channel plan row packet.from.0 packet.to.0 ≡ Some kind
  -- from the terminal edge on its side to the one at the other end
  pub source : Addr
  pub comes_from : source_address plan row packet.from.0 packet.to.0 ≡ Some source
  pub target : Addr
  pub goes_to : source_address plan row packet.to.0 packet.from.0 ≡ Some target
  pub ip : List ℕ
  pub message : IsEchoMessage row source target ip
  pub label : ℕ
  pub is_label : IsLabel label
  pub ttl : ℕ
  pub left : CountsTtl plan row packet.from.0 packet.to.0 kind ttl
  pub bytes : packet.bytes ≡ echo_stack kind label ttl ++ payload kind ip
  -- the label was given before, whoever owns it is the end of that wire beside the sender, and it has not rested for longer than the packet is old
  pub named : MayCarry (network.edges packet.to.0) packet.wire.0 packet.from.0 packet.age label
