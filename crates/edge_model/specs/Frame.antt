-- A customer's frame comes by a circuit: the bridge of its service learns its source, and copies of the inner frame go out
-- by ports of the service (RFC 4762 sections 4.1, 4.4 and 7.1).
use Rattle.std.specs.Prelude.{◌==◌, ◌&&◌, ◌+◌, ℕ, Bool, false, List, [], ◌∷◌, Option, Some, None, Result, Ok, Err, slice_get, position, option_and_then, if◌then◌else◌}
use Rattle.net_base.specs.declared.plan.Plan.{Plan}
use Rattle.net_base.specs.declared.plan.circuit_plan.CircuitPlan.{CircuitPlan}
use Rattle.net_base.specs.declared.plan.places.CircuitId.{CircuitId}
use Rattle.net_base.specs.declared.plan.places.ServiceId.{ServiceId}
use Rattle.net_base.specs.declared.trace.arrival.Arrival.{Arrival}
use Rattle.net_base.specs.declared.trace.arrival.Arrival.TheVariants as arrival
use Rattle.net_base.specs.declared.trace.drop_cause.DropCause.{DropCause}
use Rattle.net_values.specs.declared.mac.Mac.{Mac}
use Rattle.net_base.specs.plan.Places.{circuit_row}
use Rattle.net_base.specs.trace.Isolated.{inner_at}
use Rattle.net_base.specs.trace.Frame.{dress, destination_of, source_of}
use Rattle.pw_messages.specs.LinkAnswers.{Answers}
use Rattle.hvpls_spokes.specs.declared.port.Port.{Port}
use Rattle.hvpls_spokes.specs.declared.port.Port.TheVariants as port
use Rattle.hvpls_spokes.specs.Port.{ports_of, is_circuit_port}
use Rattle.vsi_bridge.specs.Targets.{heard, known_port, is_target}
use Rattle.edge_model.specs.declared.effect.Effect.TheVariants.{Left}
use Rattle.edge_model.specs.Ends.{end_forwards, wire_end}
use Rattle.edge_model.specs.Send.{drops, sends_copy}
use Rattle.edge_model.specs.State.{EdgeState, addresses_of, is_on, with_addresses}
use Rattle.edge_model.specs.Work.{Work, changes, gives, idles}

-- a port forwards: its circuit is on, or its wire's end here forwards
abbrev pub forwards : Plan → EdgeState → Option Port → Bool
forwards plan edge None = false
forwards plan edge (Some (port.Circuit circuit)) = is_on edge circuit
forwards plan edge (Some (port.Mesh wire)) = end_forwards plan edge wire
forwards plan edge (Some (port.Spoke wire)) = end_forwards plan edge wire

-- the port with this number forwards
abbrev pub port_forwards : Plan → EdgeState → List Port → ℕ → Bool
port_forwards plan edge ports p = forwards plan edge (slice_get ports p)

-- the tag of a circuit
abbrev pub tag_of : Plan → CircuitId → Option ℕ
tag_of plan circuit = option_and_then (λ row. row.tag) (circuit_row plan circuit)

-- the addresses of a frame
abbrev pub source : List ℕ → Mac
source frame = record { 0 = source_of frame }

abbrev pub destination : List ℕ → Mac
destination frame = record { 0 = destination_of frame }

-- the copy of an inner frame that goes out by a port: at a circuit it leaves with the circuit's tag, and on a wire it is sent
-- as a packet
abbrev pub copy_by : Plan → Answers → Arrival → List ℕ → Port → Work → Work
copy_by plan told came frame (port.Circuit circuit) work = gives (Left circuit (dress (tag_of plan circuit) frame)) work
copy_by plan told came frame (port.Mesh wire) work = sends_copy plan told came frame (wire_end plan work.edge.me wire) work
copy_by plan told came frame (port.Spoke wire) work = sends_copy plan told came frame (wire_end plan work.edge.me wire) work

-- the copies by those ports, numbered from p on, that are targets, in port order
abbrev pub copies : (ℕ → Bool) → (Port → Work → Work) → ℕ → List Port → Work → Work
copies targets copy p [] work = work
copies targets copy p (x ∷ xs) work = copies targets copy (p + 1) xs (if targets p then copy x work else work)

-- the bridge of a service has heard a frame by the port `arrival`
abbrev pub hearing : ServiceId → List ℕ → ℕ → EdgeState → EdgeState
hearing service frame arrival edge = with_addresses service (heard (addresses_of edge service) (source frame) arrival edge.ticks) edge

-- the ports to which the bridge, which has heard the frame, sends it
abbrev pub targets_of : Plan → EdgeState → ServiceId → List Port → List ℕ → ℕ → ℕ → Bool
targets_of plan edge service ports frame arrival =
    is_target ports (port_forwards plan edge ports) arrival (known_port (addresses_of edge service) (destination frame))

-- the bridge's copies of a frame that it has heard by a port
abbrev pub bridged : Plan → Answers → Arrival → ServiceId → List ℕ → ℕ → Work → Work
bridged plan told came service frame arrival work =
    copies (targets_of plan work.edge service (ports_of plan service work.edge.me) frame arrival) (copy_by plan told came frame) 0 (ports_of plan service work.edge.me) work

-- an inner frame is heard by a port, and then bridged
abbrev pub forwarded : Plan → Answers → Arrival → ServiceId → List ℕ → Option ℕ → Work → Work
forwarded plan told came service frame None work = work
forwarded plan told came service frame (Some arrival) work = bridged plan told came service frame arrival (changes (hearing service frame arrival) work)

-- what comes of a circuit or of a wire: what has a fault is dropped, and teaches nothing
abbrev pub received : Plan → Answers → Arrival → ServiceId → Option ℕ → Result (List ℕ) DropCause → Work → Work
received plan told came service arrival (Ok frame) work = forwarded plan told came service frame arrival work
received plan told came service arrival (Err cause) work = drops cause work

-- the port of a circuit of the edge
abbrev pub port_at : Plan → EdgeState → CircuitId → CircuitPlan → Option ℕ
port_at plan edge circuit row = position (is_circuit_port circuit) (ports_of plan row.service edge.me)

-- the circuit is one of the edge's own
abbrev pub is_own : EdgeState → CircuitPlan → Bool
is_own edge row = row.edge.0 == edge.me.0

-- the input `Frame`: it applies at a circuit of the edge that is on
abbrev pub frame_input : Plan → Answers → CircuitId → List ℕ → Option CircuitPlan → Work → Work
frame_input plan told circuit octets None work = idles work
frame_input plan told circuit octets (Some row) work =
    if is_own work.edge row && is_on work.edge circuit
    then received plan told (arrival.Circuit circuit) row.service (port_at plan work.edge circuit row) (inner_at plan circuit octets) work
    else idles work
