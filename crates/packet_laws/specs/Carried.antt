-- What a packet under way carries: the inner frame of a frame that entered in the service of its wire, as RFC 4448 section 4 packs
-- it, under a label that the edge to which it goes gave to its end of that wire.
use Rattle.std.specs.Prelude.{◌≡◌, ◌⊎◌, ◌==◌, ◌+◌, is_some, length, ℕ, true, false, List, Option, Some, Ok}
use Rattle.std.specs.List.{AllByRecursion}
use Rattle.net_base.specs.declared.plan.Plan.{Plan}
use Rattle.net_base.specs.declared.plan.places.CircuitId.{CircuitId}
use Rattle.net_base.specs.declared.plan.wire_plan.WirePlan.{WirePlan}
use Rattle.net_base.specs.declared.trace.entry.Entry.{Entry}
use Rattle.net_base.specs.declared.trace.entry.Entry.TheVariants.{In}
use Rattle.net_base.specs.plan.Paths.{expected, joins}
use Rattle.net_base.specs.plan.Places.{service_of, wire_row}
use Rattle.net_base.specs.trace.Isolated.{Among, inner_at}
use Rattle.net_values.specs.Label.{IsLabel}
use Rattle.eth_encap.specs.Packet.{IsVlan, packed}
use Rattle.edge_model.specs.Send.{pushed_vlan}
use Rattle.flight_laws.specs.Rules.{MayCarry}
use Rattle.network_model.specs.declared.packet.Packet.{Packet}
use Rattle.network_model.specs.State.{NetworkState}
use Rattle.packet_laws.specs.Echoed.{IsEchoed}

-- a frame with this number entered in the service, with this inner frame; 0 is no frame's number
pub record HasEnteredService (plan : Plan) (trace : List Entry) (row : WirePlan) (origin : ℕ) (frame : List ℕ) : Type 0 where
  pub numbered : (origin == 0) ≡ false
  pub sender : CircuitId
  pub octets : List ℕ
  pub told : Among (In sender origin octets) trace
  pub service : service_of plan sender ≡ Some row.service
  pub formed : inner_at plan sender octets ≡ Ok frame

-- The octets are those of the frame, in the mode of the terminal edge that it comes from, with a TTL of 255 less the switching
-- points that it has passed (RFC 3032 section 2.4); and the edge at the other end of the wire reads them in the same mode.
pub record IsPacked (plan : Plan) (row : WirePlan) (packet : Packet) (label : ℕ) (frame : List ℕ) : Type 0 where
  pub ttl : ℕ
  pub vlan : Option ℕ
  pub left : ttl + length (expected plan row packet.from.0 packet.to.0).points ≡ 255
  pub fits : IsVlan vlan
  pub mode : is_some vlan ≡ (expected plan row packet.from.0 packet.to.0).offer.tagged
  -- the tag is the one that the other terminal edge requests (RFC 4448 section 4.3)
  pub requested : vlan ≡ pushed_vlan (expected plan row packet.from.0 packet.to.0).offer.tagged (expected plan row packet.to.0 packet.from.0).offer.vlan
  pub bytes : packet.bytes ≡ packed label ttl (expected plan row packet.from.0 packet.to.0).offer.cword vlan frame
  pub same_word : (expected plan row packet.to.0 packet.from.0).offer.cword ≡ (expected plan row packet.from.0 packet.to.0).offer.cword
  pub same_mode : (expected plan row packet.to.0 packet.from.0).offer.tagged ≡ (expected plan row packet.from.0 packet.to.0).offer.tagged

-- the rule of one packet
pub record IsCarried (plan : Plan) (network : NetworkState) (trace : List Entry) (packet : Packet) : Type 0 where
  pub row : WirePlan
  pub is : wire_row plan packet.wire ≡ Some row
  pub joined : joins packet.from.0 packet.to.0 row.path ≡ true
  pub frame : List ℕ
  pub entered : HasEnteredService plan trace row packet.origin frame
  pub label : ℕ
  pub is_label : IsLabel label
  pub packed : IsPacked plan row packet label frame
  -- the label was given before, whoever owns it is the end of that wire beside the sender, and it has not rested for longer than the packet is old
  pub named : MayCarry (network.edges packet.to.0) packet.wire.0 packet.from.0 packet.age label

-- it carries a frame, or it is a ping or an answer
abbrev pub FollowsPacketRule : Plan → NetworkState → List Entry → Packet → Type 0
FollowsPacketRule plan network trace packet = IsCarried plan network trace packet ⊎ IsEchoed plan network packet

-- the packet rule: of every packet under way
abbrev pub KeepsPacketRule : Plan → NetworkState → List Entry → Type 0
KeepsPacketRule plan network trace = AllByRecursion (FollowsPacketRule plan network trace) network.under_way
