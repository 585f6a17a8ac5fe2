-- Whom a flooded frame reaches, in whatever state the wires of its service are: the sites at the edges to which wires that carry frames
-- lead from the edge at which it enters, over a spoke, a mesh wire and a spoke at most (RFC 4762 sections 4.4 and 10).
use Rattle.std.specs.Prelude.{◌==◌, ◌&&◌, ◌||◌, not, ℕ, Bool, true, false, List, [], ◌∷◌, Option, Some, None, if◌then◌else◌}
use Rattle.net_base.specs.declared.plan.Plan.{Plan}
use Rattle.net_base.specs.declared.plan.circuit_plan.CircuitPlan.{CircuitPlan}
use Rattle.net_base.specs.declared.plan.wire_plan.WirePlan.{WirePlan}
use Rattle.net_base.specs.declared.plan.places.CircuitId.{CircuitId}
use Rattle.net_base.specs.declared.plan.places.EdgeId.{EdgeId}
use Rattle.net_base.specs.declared.plan.places.ServiceId.{ServiceId}
use Rattle.net_base.specs.plan.Places.{circuit_row}
use Rattle.net_base.specs.plan.Roles.{any_wire, is_spoke_edge}
use Rattle.network_model.specs.Calm.{carries, meshes}
use Rattle.network_model.specs.Reach.{at_edge_of, elsewhere_of, home_of, is_beside, is_live, is_site}
use Rattle.network_model.specs.State.{NetworkState}

-- the core edge of an edge: of a spoke edge the one to which its spoke that carries frames leads, if one does, and of every other edge
-- itself
abbrev pub core_of : Plan → NetworkState → ServiceId → ℕ → Option ℕ
core_of plan network service edge = if is_spoke_edge plan service edge then home_of plan network service edge else Some edge

-- two core edges are one, or a mesh wire between them carries frames
abbrev pub are_meshed : Plan → NetworkState → ServiceId → ℕ → ℕ → Bool
are_meshed plan network service a b = a == b || any_wire (meshes plan network service a b) 0 plan.wires

-- the same of a core edge and another one, which an edge may lack
abbrev pub is_meshed_with : Plan → NetworkState → ServiceId → ℕ → Option ℕ → Bool
is_meshed_with plan network service a None = false
is_meshed_with plan network service a (Some b) = are_meshed plan network service a b

-- and of two that may both be lacking
abbrev pub have_mesh : Plan → NetworkState → ServiceId → Option ℕ → Option ℕ → Bool
have_mesh plan network service None other = false
have_mesh plan network service (Some a) other = is_meshed_with plan network service a other

-- an edge reaches itself, and each other one whose core edge is its own, or is joined to its own by a mesh wire that carries frames
abbrev pub reaches : Plan → NetworkState → ServiceId → ℕ → ℕ → Bool
reaches plan network service from to = from == to || have_mesh plan network service (core_of plan network service from) (core_of plan network service to)

-- an edge reaches the edge of the circuit with this row, where there is such a circuit
abbrev pub reaches_row : Plan → NetworkState → ServiceId → ℕ → Option CircuitPlan → Bool
reaches_row plan network service from None = false
reaches_row plan network service from (Some row) = reaches plan network service from row.edge.0

-- the edge of the sender, which has such a row too, reaches it
abbrev pub sender_reaches : Plan → NetworkState → ServiceId → Option CircuitPlan → Option CircuitPlan → Bool
sender_reaches plan network service None other = false
sender_reaches plan network service (Some row) other = reaches_row plan network service row.edge.0 other

-- Reached: the sites of the service at the edges that the sender's edge reaches, but the sender
abbrev pub is_reached : Plan → NetworkState → ServiceId → CircuitId → CircuitId → Bool
is_reached plan network service sender circuit =
    (is_site plan network service circuit && sender_reaches plan network service (circuit_row plan sender) (circuit_row plan circuit)) && not (circuit.0 == sender.0)

-- ---- what a copy that arrives at an edge by a wire has still to serve; in a calm state this is Ahead

-- by a spoke: at its spoke edge what is there, and at its core edge what the core edge reaches elsewhere than at that spoke edge
abbrev pub left_spoke : Plan → NetworkState → ServiceId → ℕ → List EdgeId → CircuitId → Bool
left_spoke plan network service edge [] circuit = false
left_spoke plan network service edge (first ∷ rest) circuit =
    if edge == first.0 then at_edge_of plan service edge circuit
    else elsewhere_of plan service first.0 circuit && reaches_row plan network service edge (circuit_row plan circuit)

-- by a mesh wire that carries frames, the edge's own side; by a spoke that does, as above; and by a wire that does not, nothing
abbrev pub left_wire : Plan → NetworkState → ServiceId → ℕ → ℕ → Bool → Option WirePlan → CircuitId → Bool
left_wire plan network service edge place mesh None circuit = false
left_wire plan network service edge place true (Some row) circuit = carries plan network place row && is_beside plan network service edge circuit
left_wire plan network service edge place false (Some row) circuit = is_live plan network service place row && left_spoke plan network service edge row.path circuit
