-- The ports of a service at an edge.
use Rattle.std.specs.Prelude.{◌≡◌, ◌==◌, ◌+◌, ◌++◌, nat_lt, ℕ, Bool, true, false, List, [], ◌∷◌, Option, Some, None, AllPairs, slice_get, if◌then◌else◌}
use Rattle.net_base.specs.declared.plan.circuit_plan.CircuitPlan.{CircuitPlan}
use Rattle.net_base.specs.declared.plan.places.CircuitId.{CircuitId}
use Rattle.net_base.specs.declared.plan.places.EdgeId.{EdgeId}
use Rattle.net_base.specs.declared.plan.places.ServiceId.{ServiceId}
use Rattle.net_base.specs.declared.plan.places.WireId.{WireId}
use Rattle.net_base.specs.declared.plan.wire_plan.WirePlan.{WirePlan}
use Rattle.net_base.specs.declared.plan.Plan.{Plan}
use Rattle.net_base.specs.plan.Places.{is_mesh_class}
use Rattle.net_base.specs.plan.Roles.{is_circuit_at, wire_ends_at}
use Rattle.hvpls_spokes.specs.declared.port.Port.{Port}
use Rattle.hvpls_spokes.specs.declared.port.Port.TheVariants as port
use Rattle.hvpls_spokes.specs.declared.port_kind.PortKind.{PortKind}
use Rattle.hvpls_spokes.specs.declared.port_kind.PortKind.TheVariants as kind
use Rattle.hvpls_spokes.specs.declared.port_name.PortName.{PortName}
use Rattle.hvpls_spokes.specs.declared.port_name.PortName.TheVariants as name

-- the kind of a port: that of a circuit, of a mesh wire or of a spoke
abbrev pub port_kind_of : Port → PortKind
port_kind_of (port.Circuit circuit) = kind.Circuit
port_kind_of (port.Mesh wire) = kind.Mesh
port_kind_of (port.Spoke wire) = kind.Spoke

-- the port leads to the circuit
abbrev pub is_circuit_port : CircuitId → Port → Bool
is_circuit_port circuit (port.Circuit at) = at.0 == circuit.0
is_circuit_port circuit (port.Mesh wire) = false
is_circuit_port circuit (port.Spoke wire) = false

-- the port, where there is one, is that of a mesh wire
abbrev pub is_mesh : Option Port → Bool
is_mesh None = false
is_mesh (Some (port.Circuit circuit)) = false
is_mesh (Some (port.Mesh wire)) = true
is_mesh (Some (port.Spoke wire)) = false

-- the port with this number is a mesh wire
abbrev pub is_mesh_port : List Port → ℕ → Bool
is_mesh_port ports p = is_mesh (slice_get ports p)

-- a port of a wire, a mesh wire or a spoke
abbrev pub is_wire : Option Port → Bool
is_wire None = false
is_wire (Some (port.Circuit circuit)) = false
is_wire (Some (port.Mesh wire)) = true
is_wire (Some (port.Spoke wire)) = true

-- the port leads to the wire
abbrev pub is_wire_port : WireId → Port → Bool
is_wire_port wire (port.Circuit circuit) = false
is_wire_port wire (port.Mesh at) = at.0 == wire.0
is_wire_port wire (port.Spoke at) = at.0 == wire.0

-- the circuits of the service at the edge, of the rows from a place on
abbrev pub circuit_ports : ℕ → List CircuitPlan → ServiceId → EdgeId → List Port
circuit_ports place [] service edge = []
circuit_ports place (row ∷ rows) service edge =
    if is_circuit_at service edge.0 row
    then port.Circuit (record { 0 = place }) ∷ circuit_ports (place + 1) rows service edge
    else circuit_ports (place + 1) rows service edge

-- a wire as a port of a terminal edge
abbrev pub wire_port : ℕ → WirePlan → Port
wire_port place row = if is_mesh_class row.class then port.Mesh (record { 0 = place }) else port.Spoke (record { 0 = place })

-- the wires of the service of which the edge is a terminal edge, of the rows from a place on
abbrev pub wire_ports : ℕ → List WirePlan → ServiceId → EdgeId → List Port
wire_ports place [] service edge = []
wire_ports place (row ∷ rows) service edge =
    if wire_ends_at service edge.0 row
    then wire_port place row ∷ wire_ports (place + 1) rows service edge
    else wire_ports (place + 1) rows service edge

-- the ports of a service at an edge: its circuits in the order of the plan, and then its wires in the order of the plan (RFC
-- 4762 section 4)
abbrev pub ports_of : Plan → ServiceId → EdgeId → List Port
ports_of plan service edge = circuit_ports 0 plan.circuits service edge ++ wire_ports 0 plan.wires service edge

-- ---- ports by their names

-- what names the port
abbrev pub port_name_of : Port → PortName
port_name_of (port.Circuit circuit) = name.Circuit circuit
port_name_of (port.Mesh wire) = name.Wire wire
port_name_of (port.Spoke wire) = name.Wire wire

-- the port has this name
abbrev pub is_named_port : PortName → Port → Bool
is_named_port (name.Circuit circuit) at = is_circuit_port circuit at
is_named_port (name.Wire wire) at = is_wire_port wire at

-- the port comes before that of this name
abbrev pub precedes : PortName → Port → Bool
precedes (name.Circuit circuit) (port.Circuit at) = nat_lt at.0 circuit.0
precedes (name.Circuit circuit) (port.Mesh at) = false
precedes (name.Circuit circuit) (port.Spoke at) = false
precedes (name.Wire wire) (port.Circuit at) = true
precedes (name.Wire wire) (port.Mesh at) = nat_lt at.0 wire.0
precedes (name.Wire wire) (port.Spoke at) = nat_lt at.0 wire.0

-- circuits in the order of the plan, and then wires in the order of the plan
abbrev pub ArePortsInOrder : List Port → Type 0
ArePortsInOrder ports = AllPairs (λ first second. precedes (port_name_of second) first ≡ true) ports
