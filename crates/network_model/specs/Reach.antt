-- Which circuits are behind a port, and which a copy that arrives by it has still to serve, in a calm state.
use Rattle.std.specs.Prelude.{◌==◌, ◌&&◌, ◌||◌, ◌+◌, not, ℕ, Bool, true, false, List, [], ◌∷◌, Option, Some, None, option_map, if◌then◌else◌}
use Rattle.net_base.specs.declared.plan.Plan.{Plan}
use Rattle.net_base.specs.declared.plan.circuit_plan.CircuitPlan.{CircuitPlan}
use Rattle.net_base.specs.declared.plan.wire_plan.WirePlan.{WirePlan}
use Rattle.net_base.specs.declared.plan.places.CircuitId.{CircuitId}
use Rattle.net_base.specs.declared.plan.places.EdgeId.{EdgeId}
use Rattle.net_base.specs.declared.plan.places.ServiceId.{ServiceId}
use Rattle.net_base.specs.plan.Places.{circuit_row, wire_row}
use Rattle.hvpls_spokes.specs.declared.port.Port.{Port}
use Rattle.hvpls_spokes.specs.declared.port.Port.TheVariants as port
use Rattle.edge_model.specs.State.{is_on}
use Rattle.network_model.specs.State.{NetworkState, edge_at}
use Rattle.net_base.specs.plan.Paths.{last_edge}
use Rattle.net_base.specs.plan.Roles.{is_spoke_edge}
use Rattle.network_model.specs.Calm.{is_live_spoke}

-- the circuit with this row is one of the service
abbrev pub is_row_of : ServiceId → Option CircuitPlan → Bool
is_row_of service None = false
is_row_of service (Some row) = row.service.0 == service.0

-- the circuits of a service, those that are off too
abbrev pub is_circuit_of : Plan → ServiceId → CircuitId → Bool
is_circuit_of plan service circuit = is_row_of service (circuit_row plan circuit)

-- the circuit with this row is on, at its own edge
abbrev pub is_row_on : NetworkState → CircuitId → Option CircuitPlan → Bool
is_row_on network circuit None = false
is_row_on network circuit (Some row) = is_on (edge_at network row.edge) circuit

-- a circuit of the plan is on
abbrev pub is_circuit_on : Plan → NetworkState → CircuitId → Bool
is_circuit_on plan network circuit = is_row_on network circuit (circuit_row plan circuit)

-- Sites: the circuits of the service that are on
abbrev pub is_site : Plan → NetworkState → ServiceId → CircuitId → Bool
is_site plan network service circuit = is_circuit_of plan service circuit && is_circuit_on plan network circuit

-- the edge of a circuit
abbrev pub is_row_at : ℕ → Option CircuitPlan → Bool
is_row_at edge None = false
is_row_at edge (Some row) = row.edge.0 == edge

-- a circuit of the plan is one of this edge
abbrev pub circuit_is_at : Plan → ℕ → CircuitId → Bool
circuit_is_at plan edge circuit = is_row_at edge (circuit_row plan circuit)

-- the place of the last edge of a path
abbrev pub last_place : List EdgeId → Option ℕ
last_place path = option_map (λ edge. edge.0) (last_edge path)

-- the core edge of the first of these wires that is a live spoke of the edge
abbrev pub home_among : Plan → NetworkState → ServiceId → ℕ → ℕ → List WirePlan → Option ℕ
home_among plan network service edge place [] = None
home_among plan network service edge place (row ∷ rows) =
    if is_live_spoke plan network service edge place row then last_place row.path else home_among plan network service edge (place + 1) rows

-- the home of a spoke edge: the core edge of its spoke that carries frames
abbrev pub home_of : Plan → NetworkState → ServiceId → ℕ → Option ℕ
home_of plan network service edge = home_among plan network service edge 0 plan.wires

-- the core edge is this home, where there is one
abbrev pub is_home : ℕ → Option ℕ → Bool
is_home core None = false
is_home core (Some home) = home == core

-- a circuit at the core edge, or at a spoke edge whose home it is
abbrev pub is_row_beside : Plan → NetworkState → ServiceId → ℕ → Option CircuitPlan → Bool
is_row_beside plan network service core None = false
is_row_beside plan network service core (Some row) =
    row.edge.0 == core || (is_spoke_edge plan service row.edge.0 && is_home core (home_of plan network service row.edge.0))

-- Side: the circuits of the core edge, and of the spoke edges whose home it is
abbrev pub is_beside : Plan → NetworkState → ServiceId → ℕ → CircuitId → Bool
is_beside plan network service core circuit =
    is_circuit_of plan service circuit && is_row_beside plan network service core (circuit_row plan circuit)

-- the terminal edge of a wire that is not this one
abbrev pub far_of : ℕ → List EdgeId → Option ℕ
far_of edge [] = None
far_of edge (first ∷ rest) = if edge == first.0 then last_place (first ∷ rest) else Some first.0

-- the circuits of the service at an edge, and all others of the service
abbrev pub at_edge_of : Plan → ServiceId → ℕ → CircuitId → Bool
at_edge_of plan service edge circuit = is_circuit_of plan service circuit && circuit_is_at plan edge circuit

abbrev pub elsewhere_of : Plan → ServiceId → ℕ → CircuitId → Bool
elsewhere_of plan service edge circuit = is_circuit_of plan service circuit && not (circuit_is_at plan edge circuit)

-- the side of the core edge at the far end of a mesh wire, where it has one
abbrev pub beside_far : Plan → NetworkState → ServiceId → Option ℕ → CircuitId → Bool
beside_far plan network service None circuit = false
beside_far plan network service (Some core) circuit = is_beside plan network service core circuit

-- a spoke that carries frames: at its spoke edge, what is elsewhere; at its core edge, what is at its spoke edge
abbrev pub behind_spoke : Plan → ServiceId → ℕ → List EdgeId → CircuitId → Bool
behind_spoke plan service edge [] circuit = false
behind_spoke plan service edge (first ∷ rest) circuit =
    if edge == first.0 then elsewhere_of plan service edge circuit else at_edge_of plan service first.0 circuit

-- and what a copy has still to serve that arrives by it: at its spoke edge, what is there; at its core edge, what is not at its spoke edge
abbrev pub ahead_spoke : Plan → ServiceId → ℕ → List EdgeId → CircuitId → Bool
ahead_spoke plan service edge [] circuit = false
ahead_spoke plan service edge (first ∷ rest) circuit =
    if edge == first.0 then at_edge_of plan service edge circuit else elsewhere_of plan service first.0 circuit

-- a spoke carries frames at the edge at which it starts
abbrev pub is_live : Plan → NetworkState → ServiceId → ℕ → WirePlan → Bool
is_live plan network service place row = is_live_spoke plan network service (first_place row.path) place row where
  first_place : List EdgeId → ℕ
  first_place [] = 0
  first_place (first ∷ rest) = first.0

-- behind a mesh wire lies the side of its far end; behind a spoke, where it carries frames, what is behind a spoke
abbrev pub behind_wire : Plan → NetworkState → ServiceId → ℕ → ℕ → Bool → Option WirePlan → CircuitId → Bool
behind_wire plan network service edge place mesh None circuit = false
behind_wire plan network service edge place true (Some row) circuit = beside_far plan network service (far_of edge row.path) circuit
behind_wire plan network service edge place false (Some row) circuit = is_live plan network service place row && behind_spoke plan service edge row.path circuit

-- a copy that arrives by a mesh wire has the edge's own side to serve; one that arrives by a spoke, where it carries frames, what is ahead
-- of a spoke
abbrev pub ahead_wire : Plan → NetworkState → ServiceId → ℕ → ℕ → Bool → Option WirePlan → CircuitId → Bool
ahead_wire plan network service edge place mesh None circuit = false
ahead_wire plan network service edge place true (Some row) circuit = is_beside plan network service edge circuit
ahead_wire plan network service edge place false (Some row) circuit = is_live plan network service place row && ahead_spoke plan service edge row.path circuit

-- Reach: the circuits behind a port of the service at an edge
abbrev pub reach : Plan → NetworkState → ServiceId → ℕ → Port → CircuitId → Bool
reach plan network service edge (port.Circuit at) circuit = is_circuit_of plan service circuit && circuit.0 == at.0
reach plan network service edge (port.Mesh wire) circuit = behind_wire plan network service edge wire.0 true (wire_row plan wire) circuit
reach plan network service edge (port.Spoke wire) circuit = behind_wire plan network service edge wire.0 false (wire_row plan wire) circuit

-- Ahead: the circuits that a copy has still to serve that arrives at an edge by a port
abbrev pub ahead : Plan → NetworkState → ServiceId → ℕ → Port → CircuitId → Bool
ahead plan network service edge (port.Circuit at) circuit = is_circuit_of plan service circuit && not (circuit.0 == at.0)
ahead plan network service edge (port.Mesh wire) circuit = ahead_wire plan network service edge wire.0 true (wire_row plan wire) circuit
ahead plan network service edge (port.Spoke wire) circuit = ahead_wire plan network service edge wire.0 false (wire_row plan wire) circuit
