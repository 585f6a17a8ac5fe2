-- A copy of a frame under way in a window: what it carries, and where it came from, by the network as it was when the frame
-- entered.
use Rattle.std.specs.Prelude.{◌≡◌, ℕ, Bool, true, List, Option, Some, None, Ok}
use Rattle.net_base.specs.declared.plan.Plan.{Plan}
use Rattle.net_base.specs.declared.plan.wire_plan.WirePlan.{WirePlan}
use Rattle.net_base.specs.declared.plan.places.CircuitId.{CircuitId}
use Rattle.net_base.specs.declared.plan.places.EdgeId.{EdgeId}
use Rattle.net_base.specs.declared.plan.places.ServiceId.{ServiceId}
use Rattle.net_base.specs.plan.Paths.{joins}
use Rattle.net_base.specs.plan.Places.{wire_row}
use Rattle.net_base.specs.plan.Roles.{is_wire_of}
use Rattle.mac_table.specs.declared.mac_entry.MacEntry.{MacEntry}
use Rattle.eth_encap.specs.Packet.{entry_of}
use Rattle.eth_encap.specs.declared.stack_entry.StackEntry.{StackEntry}
use Rattle.pw_signalling.specs.End.{Advertised}
use Rattle.pw_signalling.specs.declared.told.Told.{Told}
use Rattle.edge_model.specs.Ends.{end_forwards}
use Rattle.edge_model.specs.State.{EdgeState, with_learned}
use Rattle.network_model.specs.declared.packet.Packet.{Packet}
use Rattle.network_model.specs.Goal.{goal, start}
use Rattle.network_model.specs.State.{NetworkState}
use Rattle.network_model.specs.Window.{carried}
use Rattle.flood_laws.specs.Due.{awaits}

-- of an edge nothing but its addresses has changed
pub record IsStillEdge (calm edge : EdgeState) : Type 0 where
  pub learned : ℕ → List MacEntry
  pub is : edge ≡ with_learned learned calm

-- of a network nothing but addresses and packets has changed
pub record IsStill (calm network : NetworkState) : Type 0 where
  pub edges : (k : ℕ) → IsStillEdge (calm.edges k) (network.edges k)

-- the packet has the label under which the edge that it goes to advertises its end of the wire
pub record IsLabelled (calm : NetworkState) (packet : Packet) : Type 0 where
  pub entry : StackEntry
  pub read : entry_of packet.bytes ≡ Ok entry
  pub label : ℕ
  pub same : entry.label ≡ label
  pub bottom : entry.bottom ≡ true
  pub told : Told
  pub advertised : ((calm.edges packet.to.0).ends packet.wire.0 packet.from.0).local ≡ Advertised label told

-- the terminal edge to which a packet travels, from an edge to its neighbour on the path of the wire
abbrev pub heading_on : Option WirePlan → EdgeId → EdgeId → EdgeId
heading_on None from to = to
heading_on (Some row) from to = goal row.path from to

-- the terminal edge to which a packet under way travels, by the row of its wire
abbrev pub heading : Plan → Packet → EdgeId
heading plan packet = heading_on (wire_row plan packet.wire) packet.from packet.to

-- a copy between switching points counts as one that arrives at the terminal edge to which it travels
abbrev pub copy_awaits : Plan → NetworkState → ServiceId → CircuitId → Packet → Bool
copy_awaits plan calm service circuit packet = awaits plan calm service circuit (heading plan packet) packet.wire

-- a copy of an inner frame, in a service: the end of the wire at the terminal edge from which it comes forwards
pub record CarriesCopy (plan : Plan) (calm : NetworkState) (service : ServiceId) (frame : List ℕ) (packet : Packet) : Type 0 where
  pub row : WirePlan
  pub is : wire_row plan packet.wire ≡ Some row
  pub of_service : is_wire_of service row ≡ true
  pub joined : joins packet.from.0 packet.to.0 row.path ≡ true
  pub sends : end_forwards plan (calm.edges (start row.path packet.from packet.to).0) packet.wire ≡ true
  pub carries : carried plan packet ≡ Ok frame
  pub labelled : IsLabelled calm packet
