-- The window of a flooded frame: from its entry to its last arrival, while no copy of it is lost or repeated.
use Rattle.std.specs.Prelude.{◌≡◌, ◌==◌, ◌&&◌, ◌||◌, not, ℕ, Bool, true, false, List, [], ◌∷◌, Option, Some, None, Result, Ok, Err, length}
use Rattle.std.specs.List.{list_any}
use Rattle.std.specs.Str.{bytes_eq}
use Rattle.net_base.specs.declared.plan.Plan.{Plan}
use Rattle.net_base.specs.declared.trace.drop_cause.DropCause.{DropCause}
use Rattle.net_base.specs.declared.trace.drop_cause.DropCause.TheVariants.{Down}
use Rattle.net_base.specs.declared.plan.wire_plan.WirePlan.{WirePlan}
use Rattle.net_base.specs.declared.trace.event.Event.{Event}
use Rattle.net_base.specs.declared.trace.event.Event.TheVariants.{Connect, Deliver, Lose, Restart, Tick, Frame, Arrive, Discard, Again, Wire, Circuit, Status, Priority, Ping}
use Rattle.net_base.specs.declared.plan.places.CircuitId.{CircuitId}
use Rattle.net_base.specs.declared.plan.places.ServiceId.{ServiceId}
use Rattle.net_base.specs.trace.Frame.{destination_of, source_of, goes_to_group}
use Rattle.net_base.specs.trace.Isolated.{inner_at}
use Rattle.net_base.specs.plan.Places.{service_of, wire_row}
use Rattle.mac_table.specs.Addresses.{has_address}
use Rattle.edge_model.specs.Packet.{behind_entry, unpacked_at}
use Rattle.network_model.specs.declared.packet.Packet.{Packet}
use Rattle.network_model.specs.Frame.{next_origin}
use Rattle.network_model.specs.State.{NetworkState, empty_network}
use Rattle.network_model.specs.Step.{step}
use Rattle.network_model.specs.Run.{state_after}
use Rattle.net_base.specs.plan.Roles.{all_below, is_wire_of}
use Rattle.network_model.specs.Calm.{is_calm}
use Rattle.network_model.specs.Reach.{is_circuit_on, is_site}

-- a packet under way has this number, and carries a copy of the frame that entered as `origin`
abbrev pub is_copy : ℕ → ℕ → Packet → Bool
is_copy origin number packet = packet.origin == origin && packet.number == number

-- this number is that of a copy of the frame
abbrev pub names_copy : NetworkState → ℕ → ℕ → Bool
names_copy network origin number = list_any (is_copy origin number) network.under_way

-- some copy of the frame is under way
abbrev pub has_copies : NetworkState → ℕ → Bool
has_copies network origin = list_any (λ packet. packet.origin == origin) network.under_way

-- an event of a window: frames enter, packets arrive, and no copy of the frame is lost or repeated
abbrev pub spares : NetworkState → ℕ → Event → Bool
spares network origin (Frame circuit octets) = true
spares network origin (Arrive number) = true
spares network origin (Discard number) = not (names_copy network origin number)
spares network origin (Again number) = not (names_copy network origin number)
spares network origin (Connect from to) = false
spares network origin (Deliver from to count) = false
spares network origin (Lose me peer) = false
spares network origin (Restart me) = false
spares network origin Tick = false
spares network origin (Wire me wire on) = false
spares network origin (Circuit circuit on) = false
spares network origin (Status me wire bits) = false
spares network origin (Priority me wire priority) = false
spares network origin (Ping me wire) = false

-- each event of the window is such a one
abbrev pub all_spare : Plan → ℕ → NetworkState → List Event → Bool
all_spare plan origin network [] = true
all_spare plan origin network (e ∷ es) = spares network origin e && all_spare plan origin (step plan network e).state es

-- no bridge of the service has learned the address
abbrev pub is_unlearned : Plan → NetworkState → ServiceId → List ℕ → Bool
is_unlearned plan network service address =
    all_below (length plan.edges) (λ edge. not (has_address ((network.edges edge).learned service.0) (record { 0 = address })))

-- the address is the source of the inner frame
abbrev pub is_sourced : List ℕ → Result (List ℕ) DropCause → Bool
is_sourced address (Ok frame) = bytes_eq (source_of frame) address
is_sourced address (Err cause) = false

-- a frame that enters the service in this state, at a circuit that is on, has the address as its source
abbrev pub teaches : Plan → NetworkState → ServiceId → List ℕ → Event → Bool
teaches plan network service address (Frame circuit octets) =
    is_site plan network service circuit && is_sourced address (inner_at plan circuit octets)
teaches plan network service address event = false

-- some event teaches the address in the state in which it comes
abbrev pub some_teach : Plan → NetworkState → ServiceId → List ℕ → List Event → Bool
some_teach plan network service address [] = false
some_teach plan network service address (e ∷ es) =
    teaches plan network service address e || some_teach plan (step plan network e).state service address es

-- the inner frame that a packet carries, as the edge that it goes to reads it
abbrev pub carried_by : Plan → Packet → Option WirePlan → Result (List ℕ) DropCause
carried_by plan packet None = Err Down
carried_by plan packet (Some row) = unpacked_at plan row packet.to (behind_entry packet.bytes)

-- by the row of its wire
abbrev pub carried : Plan → Packet → Result (List ℕ) DropCause
carried plan packet = carried_by plan packet (wire_row plan packet.wire)

-- the wire with this row is one of the service
abbrev pub is_row_of_service : ServiceId → Option WirePlan → Bool
is_row_of_service service None = false
is_row_of_service service (Some row) = is_wire_of service row

-- a packet of the service that carries a frame, and no ping or answer, has the address as the source of that frame
abbrev pub packet_teaches : Plan → ServiceId → List ℕ → Packet → Bool
packet_teaches plan service address packet =
    not (packet.origin == 0) && (is_row_of_service service (wire_row plan packet.wire) && is_sourced address (carried plan packet))

-- the frame is flooded: it goes to a group, or to an address that no bridge of the service has learned and nothing
-- teaches in the window. The events begin with the frame itself, and the state is the one in which it comes
abbrev pub is_flooded_frame : Plan → NetworkState → ServiceId → List ℕ → List Event → Bool
is_flooded_frame plan network service frame events =
    goes_to_group frame
    || ((is_unlearned plan network service (destination_of frame) && not (list_any (packet_teaches plan service (destination_of frame)) network.under_way))
    && not (some_teach plan network service (destination_of frame) events))

-- the window of a frame that enters after the events `before`, up to the last event of `during`
pub record Window (plan : Plan) (before : List Event) (circuit : CircuitId) (octets : List ℕ) (during : List Event) (service : ServiceId) : Type 0 where
  pub sender : service_of plan circuit ≡ Some service
  pub on : is_circuit_on plan (state_after plan (empty_network plan) before) circuit ≡ true
  pub frame : List ℕ
  pub formed : inner_at plan circuit octets ≡ Ok frame
  pub calm : is_calm plan (state_after plan (empty_network plan) before) service ≡ true
  pub flooded : is_flooded_frame plan (state_after plan (empty_network plan) before) service frame (Frame circuit octets ∷ during) ≡ true
  pub spared : all_spare plan (next_origin (state_after plan (empty_network plan) before)) (step plan (state_after plan (empty_network plan) before) (Frame circuit octets)).state during ≡ true
  pub over : has_copies (state_after plan (step plan (state_after plan (empty_network plan) before) (Frame circuit octets)).state during) (next_origin (state_after plan (empty_network plan) before)) ≡ false
