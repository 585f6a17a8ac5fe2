-- Learned addresses point to where their stations are, and copies under way come from where they seem to come from.
use Rattle.std.specs.Prelude.{◌==◌, ◌≡◌, ℕ, true, false, List, Some, slice_get}
use Rattle.std.specs.List.{AllByRecursion}
use Rattle.net_base.specs.declared.plan.Plan.{Plan}
use Rattle.net_base.specs.declared.plan.places.CircuitId.{CircuitId}
use Rattle.net_base.specs.declared.plan.places.ServiceId.{ServiceId}
use Rattle.net_base.specs.declared.plan.wire_plan.WirePlan.{WirePlan}
use Rattle.net_base.specs.declared.trace.entry.Entry.{Entry}
use Rattle.net_base.specs.declared.trace.entry.Entry.TheVariants.{In}
use Rattle.net_base.specs.plan.Places.{service_of, wire_row}
use Rattle.net_base.specs.plan.Roles.{is_wire_of}
use Rattle.net_base.specs.trace.Isolated.{Among}
use Rattle.hvpls_spokes.specs.declared.port.Port.{Port}
use Rattle.hvpls_spokes.specs.Port.{ports_of, wire_port}
use Rattle.mac_table.specs.declared.mac_entry.MacEntry.{MacEntry}
use Rattle.edge_model.specs.Ends.{end_forwards}
use Rattle.network_model.specs.declared.packet.Packet.{Packet}
use Rattle.network_model.specs.Reach.{reach}
use Rattle.network_model.specs.State.{NetworkState}
use Rattle.network_model.specs.Goal.{goal}
use Rattle.address_laws.specs.Sites.{Sites}

-- the port of the entry leads to the site of its address
pub record PointsToSite (plan : Plan) (network : NetworkState) (service : ServiceId) (site : Sites) (edge : ℕ) (entry : MacEntry) : Type 0 where
  pub port : Port
  pub at : slice_get (ports_of plan service (record { 0 = edge })) entry.port ≡ Some port
  pub reaches : reach plan network service edge port (site entry.address.0) ≡ true

-- Points: each address that a bridge of the service has learned has its site behind its port
abbrev pub Points : Plan → NetworkState → ServiceId → Sites → Type 0
Points plan network service site = (edge : ℕ) → AllByRecursion (PointsToSite plan network service site edge) ((network.edges edge).learned service.0)

-- a packet on a wire of the service with this row: the circuit at which its frame entered is behind the port by which it will
-- arrive at the terminal edge to which it travels, where that port forwards. Where it does not, the packet is dropped and teaches
-- nothing
pub record ComesFromBehind (plan : Plan) (network : NetworkState) (service : ServiceId) (trace : List Entry) (packet : Packet) (row : WirePlan) : Type 0 where
  pub sender : CircuitId
  pub octets : List ℕ
  pub told : Among (In sender packet.origin octets) trace
  pub same_service : service_of plan sender ≡ Some service
  pub reaches : end_forwards plan (network.edges (goal row.path packet.from packet.to).0) packet.wire ≡ true
      → reach plan network service (goal row.path packet.from packet.to).0 (wire_port packet.wire.0 row) sender ≡ true

-- so it is with a packet under way that carries a frame, where it is on a wire of the service; a ping and its answer carry none
abbrev pub ComesFromItsSide : Plan → NetworkState → ServiceId → List Entry → Packet → Type 0
ComesFromItsSide plan network service trace packet = (packet.origin == 0) ≡ false → (row : WirePlan) → wire_row plan packet.wire ≡ Some row → is_wire_of service row ≡ true
    → ComesFromBehind plan network service trace packet row

-- and with each one
abbrev pub CopiesComeRight : Plan → NetworkState → ServiceId → List Entry → Type 0
CopiesComeRight plan network service trace = AllByRecursion (ComesFromItsSide plan network service trace) network.under_way
