-- What is due to a circuit by the wires of a bridge that floods: one for each copy that it sends and that has still to serve the
-- circuit. Which wires carry frames is told by the network as it was when the frame entered.
use Rattle.std.specs.Prelude.{◌==◌, ◌&&◌, ◌+◌, not, ℕ, Bool, true, List, [], ◌∷◌, Option, Some, None, if◌then◌else◌}
use Rattle.net_base.specs.declared.plan.Plan.{Plan}
use Rattle.net_base.specs.declared.plan.wire_plan.WirePlan.{WirePlan}
use Rattle.net_base.specs.declared.plan.places.CircuitId.{CircuitId}
use Rattle.net_base.specs.declared.plan.places.EdgeId.{EdgeId}
use Rattle.net_base.specs.declared.plan.places.ServiceId.{ServiceId}
use Rattle.net_base.specs.declared.plan.places.WireId.{WireId}
use Rattle.net_base.specs.plan.Places.{is_mesh_class, is_mesh_wire, wire_row}
use Rattle.net_base.specs.plan.Roles.{wire_ends_at}
use Rattle.edge_model.specs.Ends.{end_forwards}
use Rattle.edge_model.specs.State.{EdgeState, is_on}
use Rattle.network_model.specs.Reach.{at_edge_of, far_of}
use Rattle.network_model.specs.State.{NetworkState}
use Rattle.flood_laws.specs.Reached.{left_wire}

-- a copy that arrives at an edge by a wire has still to serve the circuit
abbrev pub awaits : Plan → NetworkState → ServiceId → CircuitId → EdgeId → WireId → Bool
awaits plan calm service circuit to wire = left_wire plan calm service to.0 wire.0 (is_mesh_wire plan wire) (wire_row plan wire) circuit

-- a frame that came by an arrival, a wire or else a circuit, may be flooded to a wire: no other wire is the arrival, and not both
-- are mesh wires (RFC 4762 section 4.4)
abbrev pub may_flood : Plan → Option ℕ → ℕ → WirePlan → Bool
may_flood plan None place row = true
may_flood plan (Some came) place row = not (place == came) && not (is_mesh_wire plan (record { 0 = came }) && is_mesh_class row.class)

-- one where a copy that is sent on the wire with this place towards an edge has still to serve the circuit
abbrev pub due_towards : Plan → NetworkState → ServiceId → CircuitId → ℕ → Option ℕ → ℕ
due_towards plan calm service circuit place None = 0
due_towards plan calm service circuit place (Some far) = if awaits plan calm service circuit (record { 0 = far }) (record { 0 = place }) then 1 else 0

-- the same of a wire of the plan, for the bridge of the service at an edge
abbrev pub due_by : Plan → NetworkState → ServiceId → CircuitId → ℕ → Option ℕ → ℕ → WirePlan → ℕ
due_by plan calm service circuit edge came place row =
    if wire_ends_at service edge row && (end_forwards plan (calm.edges edge) (record { 0 = place }) && may_flood plan came place row)
    then due_towards plan calm service circuit place (far_of edge row.path)
    else 0

-- a sum over wires by their places and rows
abbrev pub sum_wires : (ℕ → WirePlan → ℕ) → ℕ → List WirePlan → ℕ
sum_wires count place [] = 0
sum_wires count place (row ∷ rows) = count place row + sum_wires count (place + 1) rows

-- what is due to the circuit by all wires of the bridge
abbrev pub wires_due : Plan → NetworkState → ServiceId → CircuitId → ℕ → Option ℕ → ℕ
wires_due plan calm service circuit edge came = sum_wires (due_by plan calm service circuit edge came) 0 plan.wires

-- the circuit is one of the service at the edge, and is on
abbrev pub serves_here : Plan → ServiceId → EdgeState → CircuitId → Bool
serves_here plan service edge circuit = at_edge_of plan service edge.me.0 circuit && is_on edge circuit
