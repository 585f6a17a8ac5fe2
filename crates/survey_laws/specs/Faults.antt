-- Which events take something from a network, and what each takes. An event makes its fault in whatever state it comes, be it that it
-- applies or that it is idle since what it takes is gone already.
use Rattle.std.specs.Prelude.{◌==◌, ◌&&◌, ◌||◌, not, ℕ, Bool, true, false, List, [], ◌∷◌, Option, Some, None, if◌then◌else◌}
use Rattle.std.specs.List.{list_any}
use Rattle.net_base.specs.declared.plan.Plan.{Plan}
use Rattle.net_base.specs.declared.plan.places.EdgeId.{EdgeId}
use Rattle.net_base.specs.declared.plan.wire_plan.WirePlan.{WirePlan}
use Rattle.net_base.specs.declared.trace.event.Event.{Event}
use Rattle.net_base.specs.declared.trace.event.Event.TheVariants.{Connect, Deliver, Lose, Restart, Tick, Frame, Arrive, Discard, Again, Wire, Circuit, Status, Priority, Ping}
use Rattle.net_base.specs.plan.Paths.{is_first, is_last, joins}
use Rattle.net_base.specs.plan.Places.{is_mesh_class, wire_row}
use Rattle.survey_laws.specs.declared.fault.Fault.{Fault}
use Rattle.survey_laws.specs.declared.fault.Fault.TheVariants as fault

-- the edge stands on the path of a wire, at an end or between
abbrev pub is_on_path : ℕ → Option WirePlan → Bool
is_on_path edge None = false
is_on_path edge (Some row) = list_any (λ (step : EdgeId). edge == step.0) row.path

-- the edge is the first or the last one of it
abbrev pub is_end_of : ℕ → Option WirePlan → Bool
is_end_of edge None = false
is_end_of edge (Some row) = is_first edge row.path || is_last edge row.path

-- the edge is the spoke edge of it
abbrev pub is_spoke_end_of : ℕ → Option WirePlan → Bool
is_spoke_end_of edge None = false
is_spoke_end_of edge (Some row) = not (is_mesh_class row.class) && is_first edge row.path

-- a fault, where it comes to be
abbrev pub where_so : Bool → Fault → Option Fault
where_so true fault = Some fault
where_so false fault = None

-- what an event takes; a row for each
abbrev pub fault_by : Plan → Event → Option Fault
fault_by plan (Lose me peer) = Some (fault.Session me peer)
fault_by plan (Restart me) = Some (fault.Edge me)
fault_by plan (Wire me wire on) = where_so (not on && is_on_path me.0 (wire_row plan wire)) (fault.Wire wire)
fault_by plan (Status me wire bits) = where_so (not (bits == 0) && is_end_of me.0 (wire_row plan wire)) (fault.Wire wire)
fault_by plan (Priority me wire priority) = where_so (is_spoke_end_of me.0 (wire_row plan wire)) (fault.Priority wire priority)
fault_by plan (Circuit circuit on) = where_so (not on) (fault.Circuit circuit)
fault_by plan (Connect from to) = None
fault_by plan (Deliver from to count) = None
fault_by plan Tick = None
fault_by plan (Frame circuit octets) = None
fault_by plan (Arrive number) = None
fault_by plan (Discard number) = None
fault_by plan (Again number) = None
fault_by plan (Ping me wire) = None

-- an event takes something, or passes by: it neither brings back what was lost, nor lets time pass, by which sessions end
abbrev pub takes_or_passes : Event → Bool
takes_or_passes (Connect from to) = false
takes_or_passes (Deliver from to count) = true
takes_or_passes (Lose me peer) = true
takes_or_passes (Restart me) = true
takes_or_passes Tick = false
takes_or_passes (Frame circuit octets) = true
takes_or_passes (Arrive number) = true
takes_or_passes (Discard number) = true
takes_or_passes (Again number) = true
takes_or_passes (Wire me wire on) = not on
takes_or_passes (Circuit circuit on) = not on
takes_or_passes (Status me wire bits) = not (bits == 0)
takes_or_passes (Priority me wire priority) = true
takes_or_passes (Ping me wire) = true

-- so it is with each of these
abbrev pub all_take_or_pass : List Event → Bool
all_take_or_pass [] = true
all_take_or_pass (event ∷ events) = takes_or_passes event && all_take_or_pass events

-- the faults of events, in their order
abbrev pub with_fault : Option Fault → List Fault → List Fault
with_fault None faults = faults
with_fault (Some one) faults = one ∷ faults

abbrev pub faults_by : Plan → List Event → List Fault
faults_by plan [] = []
faults_by plan (event ∷ events) = with_fault (fault_by plan event) (faults_by plan events)

-- ---- what is left of a network with these faults

-- a fault takes the wire at this place, with this row
abbrev pub takes : ℕ → WirePlan → Fault → Bool
takes wire row (fault.Session one other) = joins one.0 other.0 row.path
takes wire row (fault.Edge edge) = is_on_path edge.0 (Some row)
takes wire row (fault.Wire lost) = wire == lost.0
takes wire row (fault.Priority lost priority) = false
takes wire row (fault.Circuit circuit) = false

-- some of them does
abbrev pub is_taken : List Fault → ℕ → WirePlan → Bool
is_taken faults wire row = list_any (takes wire row) faults

-- the priority number of a spoke: the last one that a fault has set, else the one that it had
abbrev pub number_by : ℕ → Fault → ℕ → ℕ
number_by wire (fault.Session one other) had = had
number_by wire (fault.Edge edge) had = had
number_by wire (fault.Wire lost) had = had
number_by wire (fault.Priority spoke priority) had = if wire == spoke.0 then priority else had
number_by wire (fault.Circuit circuit) had = had

abbrev pub number_after : ℕ → List Fault → ℕ → ℕ
number_after wire [] had = had
number_after wire (one ∷ faults) had = number_after wire faults (number_by wire one had)

-- a fault takes the circuit
abbrev pub takes_circuit : ℕ → Fault → Bool
takes_circuit circuit (fault.Session one other) = false
takes_circuit circuit (fault.Edge edge) = false
takes_circuit circuit (fault.Wire lost) = false
takes_circuit circuit (fault.Priority lost priority) = false
takes_circuit circuit (fault.Circuit lost) = circuit == lost.0

-- some of them does
abbrev pub is_circuit_taken : List Fault → ℕ → Bool
is_circuit_taken faults circuit = list_any (takes_circuit circuit) faults
