-- The events that lines tell: a row for each, the event that its values make, the values of an event, and which places and numbers it may name.
use Rattle.std.specs.Prelude.{◌<◌, ◌≤◌, ◌^◌, ◌==◌, codes, ℕ, List, [], ◌∷◌, length, if◌then◌else◌}
use Rattle.std.specs.List.{All}
use Rattle.net_base.specs.declared.plan.Plan.{Plan}
use Rattle.net_base.specs.declared.plan.places.CircuitId.{CircuitId}
use Rattle.net_base.specs.declared.plan.places.EdgeId.{EdgeId}
use Rattle.net_base.specs.declared.plan.places.WireId.{WireId}
use Rattle.net_base.specs.declared.trace.event.Event.{Event}
use Rattle.net_base.specs.declared.trace.event.Event.TheVariants as event
use Rattle.net_base.specs.plan.Planned.{IsFrame}
use Rattle.line_shapes.specs.declared.choice.Choice.TheVariants.{Switch}
use Rattle.text_pieces.specs.Pieces.{hex}
use Rattle.line_shapes.specs.Choices.{switch_place}
use Rattle.line_shapes.specs.Shapes.{Form, form, form_at, nth_value, row_words}
use Rattle.line_shapes.specs.Words.{circuit_name}
use Rattle.line_shapes.specs.declared.kind.Kind.TheVariants.{Edge, Circuit, Wire, Number, OneOf}

-- the rows
abbrev pub event_forms : List Form
event_forms =
    form (codes "deliver") (Edge ∷ Edge ∷ Number 1 65535 ∷ [])
    ∷ form (codes "arrive") (Number 1 18446744073709551615 ∷ [])
    ∷ form (codes "drop") (Number 1 18446744073709551615 ∷ [])
    ∷ form (codes "again") (Number 1 18446744073709551615 ∷ [])
    ∷ form (codes "connect") (Edge ∷ Edge ∷ [])
    ∷ form (codes "lose") (Edge ∷ Edge ∷ [])
    ∷ form (codes "restart") (Edge ∷ [])
    ∷ form (codes "tick") []
    ∷ form (codes "wire") (Edge ∷ Wire ∷ OneOf Switch ∷ [])
    ∷ form (codes "circuit") (Circuit ∷ OneOf Switch ∷ [])
    ∷ form (codes "status") (Edge ∷ Wire ∷ Number 0 31 ∷ [])
    ∷ form (codes "priority") (Edge ∷ Wire ∷ Number 0 255 ∷ [])
    ∷ form (codes "ping") (Edge ∷ Wire ∷ [])
    ∷ []

-- the event of a row and its values
abbrev pub event_made : ℕ → List ℕ → Event
event_made row v =
    if row == 0 then event.Deliver (record { 0 = nth_value 0 v }) (record { 0 = nth_value 1 v }) (nth_value 2 v)
    else if row == 1 then event.Arrive (nth_value 0 v)
    else if row == 2 then event.Discard (nth_value 0 v)
    else if row == 3 then event.Again (nth_value 0 v)
    else if row == 4 then event.Connect (record { 0 = nth_value 0 v }) (record { 0 = nth_value 1 v })
    else if row == 5 then event.Lose (record { 0 = nth_value 0 v }) (record { 0 = nth_value 1 v })
    else if row == 6 then event.Restart (record { 0 = nth_value 0 v })
    else if row == 7 then event.Tick
    else if row == 8 then event.Wire (record { 0 = nth_value 0 v }) (record { 0 = nth_value 1 v }) (nth_value 2 v == 1)
    else if row == 9 then event.Circuit (record { 0 = nth_value 0 v }) (nth_value 1 v == 1)
    else if row == 10 then event.Status (record { 0 = nth_value 0 v }) (record { 0 = nth_value 1 v }) (nth_value 2 v)
    else if row == 11 then event.Priority (record { 0 = nth_value 0 v }) (record { 0 = nth_value 1 v }) (nth_value 2 v)
    else event.Ping (record { 0 = nth_value 0 v }) (record { 0 = nth_value 1 v })

-- the row of an event, and its values; a frame has no row, since its octets are no number
abbrev pub event_apart : Event → ℕ × List ℕ
event_apart (event.Deliver from to count) = (0, from.0 ∷ to.0 ∷ count ∷ [])
event_apart (event.Arrive packet) = (1, packet ∷ [])
event_apart (event.Discard packet) = (2, packet ∷ [])
event_apart (event.Again packet) = (3, packet ∷ [])
event_apart (event.Connect from to) = (4, from.0 ∷ to.0 ∷ [])
event_apart (event.Lose edge peer) = (5, edge.0 ∷ peer.0 ∷ [])
event_apart (event.Restart edge) = (6, edge.0 ∷ [])
event_apart event.Tick = (7, [])
event_apart (event.Wire edge wire on) = (8, edge.0 ∷ wire.0 ∷ switch_place on ∷ [])
event_apart (event.Circuit circuit on) = (9, circuit.0 ∷ switch_place on ∷ [])
event_apart (event.Status edge wire bits) = (10, edge.0 ∷ wire.0 ∷ bits ∷ [])
event_apart (event.Priority edge wire priority) = (11, edge.0 ∷ wire.0 ∷ priority ∷ [])
event_apart (event.Ping edge wire) = (12, edge.0 ∷ wire.0 ∷ [])
event_apart (event.Frame circuit octets) = (13, [])

-- the words of an event, as a scenario writes it and a report tells it
abbrev pub event_words : Plan → Event → List (List ℕ)
event_words plan (event.Frame circuit octets) = codes "frame" ∷ circuit_name plan circuit ∷ hex octets ∷ []
event_words plan event = row_words plan (form_at event_forms (event_apart event).0) (event_apart event).1

-- ---- the places and numbers of an event

-- a number of 64 bits
abbrev pub IsToldNumber : ℕ → Type 0
IsToldNumber n = n < 2 ^ 64

-- a number from one to another one
abbrev pub IsFromTo : ℕ → ℕ → ℕ → Type 0
IsFromTo low high n = (low ≤ n) × (n ≤ high)

-- the number of a packet that an event names
abbrev pub IsNamedPacket : ℕ → Type 0
IsNamedPacket n = IsFromTo 1 18446744073709551615 n

abbrev pub AreOctetsTold : List ℕ → Type 0
AreOctetsTold octets = All (λ octet. octet < 256) octets

abbrev pub IsNamedEdge : Plan → EdgeId → Type 0
IsNamedEdge plan edge = edge.0 < length plan.edges

abbrev pub IsCircuit : Plan → CircuitId → Type 0
IsCircuit plan circuit = circuit.0 < length plan.circuits

abbrev pub IsWire : Plan → WireId → Type 0
IsWire plan wire = wire.0 < length plan.wires

-- an event names places of the plan, and numbers in their ranges
abbrev pub IsNamedEvent : Plan → Event → Type 0
IsNamedEvent plan (event.Connect from to) = IsNamedEdge plan from × IsNamedEdge plan to
IsNamedEvent plan (event.Deliver from to count) = IsNamedEdge plan from × (IsNamedEdge plan to × IsFromTo 1 65535 count)
IsNamedEvent plan (event.Lose edge peer) = IsNamedEdge plan edge × IsNamedEdge plan peer
IsNamedEvent plan (event.Restart edge) = IsNamedEdge plan edge
IsNamedEvent plan event.Tick = Unit {0}
IsNamedEvent plan (event.Frame circuit octets) = IsCircuit plan circuit × (AreOctetsTold octets × IsFrame octets)
IsNamedEvent plan (event.Arrive packet) = IsNamedPacket packet
IsNamedEvent plan (event.Discard packet) = IsNamedPacket packet
IsNamedEvent plan (event.Again packet) = IsNamedPacket packet
IsNamedEvent plan (event.Wire edge wire on) = IsNamedEdge plan edge × IsWire plan wire
IsNamedEvent plan (event.Circuit circuit on) = IsCircuit plan circuit
IsNamedEvent plan (event.Status edge wire bits) = IsNamedEdge plan edge × (IsWire plan wire × IsFromTo 0 31 bits)
IsNamedEvent plan (event.Priority edge wire priority) = IsNamedEdge plan edge × (IsWire plan wire × IsFromTo 0 255 priority)
IsNamedEvent plan (event.Ping edge wire) = IsNamedEdge plan edge × IsWire plan wire
