-- The words of names, and of what one of several words tells.
use Rattle.std.specs.Prelude.{ℕ, codes, Bool, List, [], Option, Some, None, slice_get, option_map}
use Rattle.net_base.specs.declared.trace.arrival.Arrival.{Arrival}
use Rattle.net_base.specs.declared.trace.arrival.Arrival.TheVariants as arrival
use Rattle.net_base.specs.declared.trace.down.Down.{Down}
use Rattle.net_base.specs.declared.trace.drop_cause.DropCause.{DropCause}
use Rattle.net_base.specs.declared.plan.places.CircuitId.{CircuitId}
use Rattle.net_base.specs.declared.plan.places.EdgeId.{EdgeId}
use Rattle.net_base.specs.declared.plan.places.WireId.{WireId}
use Rattle.net_base.specs.declared.plan.Plan.{Plan}
use Rattle.net_base.specs.declared.trace.state_name.StateName.{StateName}
use Rattle.line_shapes.specs.Choices.{cause_place, choice_word, wire_end_place, state_place, switch_place}
use Rattle.line_shapes.specs.declared.choice.Choice.TheVariants.{Switch, Cause, End, State}

-- a name, or the empty text where there is none
abbrev pub name_or_empty : Option (List ℕ) → List ℕ
name_or_empty None = []
name_or_empty (Some name) = name

-- the name of an edge; a place outside the plan has the empty text
abbrev pub edge_name : Plan → EdgeId → List ℕ
edge_name plan edge = name_or_empty (option_map (λ row. row.name) (slice_get plan.edges edge.0))

-- the name of a circuit, in the same way
abbrev pub circuit_name : Plan → CircuitId → List ℕ
circuit_name plan circuit = name_or_empty (option_map (λ row. row.name) (slice_get plan.circuits circuit.0))

-- the name of a wire, in the same way
abbrev pub wire_name : Plan → WireId → List ℕ
wire_name plan wire = name_or_empty (option_map (λ row. row.name) (slice_get plan.wires wire.0))

-- by what a frame came: the circuit or the wire, or a dash where the edge made the packet itself
abbrev pub arrival_name : Plan → Arrival → List ℕ
arrival_name plan (arrival.Circuit circuit) = circuit_name plan circuit
arrival_name plan (arrival.Wire wire) = wire_name plan wire
arrival_name plan arrival.Own = codes "-"

-- whether something is put on or off
abbrev pub switch_name : Bool → List ℕ
switch_name on = choice_word Switch (switch_place on)

-- why a frame or a packet was dropped
abbrev pub cause_name : DropCause → List ℕ
cause_name cause = choice_word Cause (cause_place cause)

-- a wire's end: up, or why it is down
abbrev pub wire_end_name : Option Down → List ℕ
wire_end_name end = choice_word End (wire_end_place end)

-- a session's state; one that ended tells why
abbrev pub state_name : StateName → List ℕ
state_name state = choice_word State (state_place state)
