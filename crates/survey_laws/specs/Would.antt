-- Whom a flooded frame would reach once faults have befallen a network and all has settled: by the plan, by the settings and the
-- connections of the state before them, and by the faults. Nothing that was or will be signalled is looked at.
use Rattle.std.specs.Prelude.{◌==◌, ◌&&◌, ◌||◌, not, map, ℕ, Bool, false, List, Option, Some, None, option_and_then, option_map, slice_get, if◌then◌else◌}
use Rattle.net_base.specs.declared.plan.Plan.{Plan}
use Rattle.net_base.specs.declared.plan.circuit_plan.CircuitPlan.{CircuitPlan}
use Rattle.net_base.specs.declared.plan.places.CircuitId.{CircuitId}
use Rattle.net_base.specs.declared.plan.places.ServiceId.{ServiceId}
use Rattle.net_base.specs.declared.plan.places.WireId.{WireId}
use Rattle.net_base.specs.declared.plan.wire_plan.WirePlan.{WirePlan}
use Rattle.net_base.specs.plan.Paths.{is_first, is_last}
use Rattle.net_base.specs.plan.Places.{circuit_row, wire_row}
use Rattle.net_base.specs.plan.Roles.{any_wire, is_mesh_of, is_spoke_edge}
use Rattle.spoke_redundancy.specs.declared.spoke.Spoke.{Spoke}
use Rattle.spoke_redundancy.specs.Choice.{chosen}
use Rattle.edge_model.specs.declared.end_place.EndPlace.{EndPlace}
use Rattle.edge_model.specs.Spokes.{spoke_places}
use Rattle.network_model.specs.Reach.{is_site, last_place}
use Rattle.network_model.specs.State.{NetworkState}
use Rattle.settle_laws.specs.Sound.{is_sound}
use Rattle.survey_laws.specs.declared.fault.Fault.{Fault}
use Rattle.survey_laws.specs.Faults.{is_circuit_taken, is_taken, number_after}

-- a wire would be sound: it is so before, and no fault takes it
abbrev pub would_sound : NetworkState → List Fault → ℕ → WirePlan → Bool
would_sound before faults wire row = is_sound before wire row && not (is_taken faults wire row)

-- the same of the row at a place
abbrev pub would_sound_row : NetworkState → List Fault → ℕ → Option WirePlan → Bool
would_sound_row before faults wire None = false
would_sound_row before faults wire (Some row) = would_sound before faults wire row

-- a spoke of an edge as its choice would see it
abbrev pub would_spoke_at : Plan → NetworkState → List Fault → ℕ → EndPlace → Spoke
would_spoke_at plan before faults edge place = record {
  priority = number_after place.wire.0 faults ((before.edges edge).priority place.wire.0);
  usable = would_sound_row before faults place.wire.0 (wire_row plan place.wire);
}

-- the wire of the spoke that a spoke edge would choose (RFC 6870)
abbrev pub would_choose : Plan → NetworkState → List Fault → ServiceId → ℕ → Option WireId
would_choose plan before faults service edge =
    option_map (λ place. place.wire)
    (option_and_then (slice_get (spoke_places plan (record { 0 = edge }) service)) (chosen (map (would_spoke_at plan before faults edge) (spoke_places plan (record { 0 = edge }) service))))

-- the last edge of a wire
abbrev pub last_of : Option WirePlan → Option ℕ
last_of None = None
last_of (Some row) = last_place row.path

-- the core edge that a spoke edge would have, and that of every other edge, which is itself
abbrev pub would_home : Plan → NetworkState → List Fault → ServiceId → ℕ → Option ℕ
would_home plan before faults service edge = option_and_then (λ wire. last_of (wire_row plan wire)) (would_choose plan before faults service edge)

abbrev pub would_core : Plan → NetworkState → List Fault → ServiceId → ℕ → Option ℕ
would_core plan before faults service edge = if is_spoke_edge plan service edge then would_home plan before faults service edge else Some edge

-- a mesh wire between two edges that would be sound
abbrev pub would_mesh : NetworkState → List Fault → ServiceId → ℕ → ℕ → ℕ → WirePlan → Bool
would_mesh before faults service a b wire row =
    (is_mesh_of service row && ((is_first a row.path && is_last b row.path) || (is_first b row.path && is_last a row.path))) && would_sound before faults wire row

-- two core edges are one, or would be joined by one
abbrev pub would_be_meshed : Plan → NetworkState → List Fault → ServiceId → ℕ → ℕ → Bool
would_be_meshed plan before faults service a b = a == b || any_wire (would_mesh before faults service a b) 0 plan.wires

-- so it is with two core edges, where there are both
abbrev pub would_meet : Plan → NetworkState → List Fault → ServiceId → Option ℕ → Option ℕ → Bool
would_meet plan before faults service None other = false
would_meet plan before faults service (Some a) None = false
would_meet plan before faults service (Some a) (Some b) = would_be_meshed plan before faults service a b

-- an edge would reach another one
abbrev pub would_reach : Plan → NetworkState → List Fault → ServiceId → ℕ → ℕ → Bool
would_reach plan before faults service from to =
    from == to || would_meet plan before faults service (would_core plan before faults service from) (would_core plan before faults service to)

-- the edges of two circuits, where there are both
abbrev pub would_reach_row : Plan → NetworkState → List Fault → ServiceId → Option CircuitPlan → Option CircuitPlan → Bool
would_reach_row plan before faults service None other = false
would_reach_row plan before faults service (Some from) None = false
would_reach_row plan before faults service (Some from) (Some to) = would_reach plan before faults service from.edge.0 to.edge.0

-- a flooded frame that enters at a circuit would leave at another one: a site of the state before that no fault takes
abbrev pub would_serve : Plan → NetworkState → List Fault → ServiceId → CircuitId → CircuitId → Bool
would_serve plan before faults service sender circuit =
    ((is_site plan before service circuit && not (is_circuit_taken faults circuit.0))
    && would_reach_row plan before faults service (circuit_row plan sender) (circuit_row plan circuit))
    && not (circuit.0 == sender.0)
