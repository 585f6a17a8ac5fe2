-- What has become of a flooded frame at each moment of its window: each other site of the service was served, or is still ahead of
-- one copy under way, and not both. So a full mesh with split horizon and its spokes give it to each site once (RFC 4762 sections
-- 4.4 and 10).
use Rattle.std.specs.Prelude.{◌≡◌, ◌+◌, ◌++◌, ◌==◌, ◌&&◌, ◌⊎◌, ℕ, Bool, true, false, List, [], ◌∷◌, if◌then◌else◌}
use Rattle.net_base.specs.declared.plan.Plan.{Plan}
use Rattle.net_base.specs.declared.plan.places.CircuitId.{CircuitId}
use Rattle.net_base.specs.declared.plan.places.ServiceId.{ServiceId}
use Rattle.net_base.specs.declared.plan.places.WireId.{WireId}
use Rattle.net_base.specs.declared.trace.entry.Entry.{Entry}
use Rattle.net_base.specs.declared.trace.event.Event.{Event}
use Rattle.net_base.specs.declared.trace.event.Event.TheVariants.{Frame}
use Rattle.net_base.specs.plan.Places.{is_mesh_wire}
use Rattle.hvpls_spokes.specs.declared.port.Port.{Port}
use Rattle.hvpls_spokes.specs.declared.port.Port.TheVariants as port
use Rattle.network_model.specs.declared.packet.Packet.{Packet}
use Rattle.network_model.specs.Frame.{next_origin}
use Rattle.network_model.specs.OnceEach.{times_left}
use Rattle.network_model.specs.Reach.{ahead, is_site}
use Rattle.network_model.specs.Run.{run}
use Rattle.network_model.specs.State.{NetworkState}
use Rattle.network_model.specs.Window.{Window}
use Rattle.flight_laws.specs.Laws.{network_after}
use Rattle.flood_laws.specs.Copy.{heading}
use Rattle.flood_laws.specs.Hops.{HasPassed}

-- the port by which a packet arrives on a wire
abbrev pub arrival_port : Plan → WireId → Port
arrival_port plan wire = if is_mesh_wire plan wire then port.Mesh wire else port.Spoke wire

-- The packet is a copy of the frame, and has the circuit ahead, by the network as it was when the frame entered. Between switching
-- points it counts as one that arrives at the terminal edge to which it travels
abbrev pub has_ahead : Plan → NetworkState → ServiceId → ℕ → CircuitId → Packet → Bool
has_ahead plan calm service origin circuit packet = packet.origin == origin && ahead plan calm service (heading plan packet).0 (arrival_port plan packet.wire) circuit

-- how many copies of the frame under way have the circuit ahead
abbrev pub times_ahead : Plan → NetworkState → ServiceId → ℕ → CircuitId → List Packet → ℕ
times_ahead plan calm service origin circuit [] = 0
times_ahead plan calm service origin circuit (packet ∷ packets) =
    (if has_ahead plan calm service origin circuit packet then 1 else 0) + times_ahead plan calm service origin circuit packets

-- a circuit was served once and is ahead of no copy, or was not served and is ahead of one
abbrev pub IsSharedOut : (left ahead : ℕ) → Type 0
IsSharedOut left ahead = ((left ≡ 1) × (ahead ≡ 0)) ⊎ ((left ≡ 0) × (ahead ≡ 1))

-- it was not served, and is ahead of no copy
abbrev pub IsLeftOut : (left ahead : ℕ) → Type 0
IsLeftOut left ahead = (left ≡ 0) × (ahead ≡ 0)

-- each copy of the frame has passed no more segments than it may where it is
abbrev pub CopiesHavePassed : Plan → ℕ → List Packet → Type 0
CopiesHavePassed plan origin [] = Unit {0}
CopiesHavePassed plan origin (packet ∷ packets) = (packet.origin ≡ origin → HasPassed plan packet) × CopiesHavePassed plan origin packets

-- a frame that entered at a circuit of a service after the events `before`, in a state of its window: what the run has told up to
-- then, and what is under way
pub record SharesSites (plan : Plan) (before : List Event) (sender : CircuitId) (service : ServiceId) (network : NetworkState) (entries : List Entry) : Type 0 where
  pub others : (circuit : CircuitId) → is_site plan (network_after plan before) service circuit ≡ true → (circuit.0 == sender.0) ≡ false
      → IsSharedOut (times_left (next_origin (network_after plan before)) circuit entries) (times_ahead plan (network_after plan before) service (next_origin (network_after plan before)) circuit network.under_way)
  pub at_sender : IsLeftOut (times_left (next_origin (network_after plan before)) sender entries) (times_ahead plan (network_after plan before) service (next_origin (network_after plan before)) sender network.under_way)
  pub passed : CopiesHavePassed plan (next_origin (network_after plan before)) network.under_way

-- Every moment of every window of the run: the events are those before the frame, the frame, those of the window so far, and those
-- after them; and with the events `rest` the window would be over.
abbrev pub SharesEach : Plan → List Event → Type 0
SharesEach plan events = (before : List Event) (sender : CircuitId) (octets : List ℕ) (so_far rest after : List Event) (service : ServiceId)
    → events ≡ before ++ Frame sender octets ∷ (so_far ++ after)
    → Window plan before sender octets (so_far ++ rest) service
    → SharesSites plan before sender service (network_after plan (before ++ Frame sender octets ∷ so_far)) (run plan (before ++ Frame sender octets ∷ so_far)).entries
