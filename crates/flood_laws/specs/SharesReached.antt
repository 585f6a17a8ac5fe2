-- What has become of a flooded frame at each moment of its window in a quiet service: each site that it reaches was served, or has still
-- to be served by one copy under way, and not both; and no copy has still to serve any other site.
use Rattle.std.specs.Prelude.{◌≡◌, ◌+◌, ◌++◌, ◌==◌, ◌&&◌, ℕ, true, false, List, [], ◌∷◌, if◌then◌else◌}
use Rattle.net_base.specs.declared.plan.Plan.{Plan}
use Rattle.net_base.specs.declared.plan.places.CircuitId.{CircuitId}
use Rattle.net_base.specs.declared.plan.places.ServiceId.{ServiceId}
use Rattle.net_base.specs.declared.trace.entry.Entry.{Entry}
use Rattle.net_base.specs.declared.trace.event.Event.{Event}
use Rattle.net_base.specs.declared.trace.event.Event.TheVariants.{Frame}
use Rattle.network_model.specs.declared.packet.Packet.{Packet}
use Rattle.network_model.specs.Frame.{next_origin}
use Rattle.network_model.specs.OnceEach.{times_left}
use Rattle.network_model.specs.Reach.{is_site}
use Rattle.network_model.specs.Run.{run}
use Rattle.network_model.specs.State.{NetworkState}
use Rattle.flight_laws.specs.Laws.{network_after}
use Rattle.flood_laws.specs.Copy.{copy_awaits}
use Rattle.flood_laws.specs.Reached.{is_reached}
use Rattle.flood_laws.specs.ReachedEach.{QuietWindow}
use Rattle.flood_laws.specs.Shares.{CopiesHavePassed, IsLeftOut, IsSharedOut}

-- how many copies of the frame under way have still to serve the circuit, by the network as it was when the frame entered
abbrev pub times_awaited : Plan → NetworkState → ServiceId → ℕ → CircuitId → List Packet → ℕ
times_awaited plan start service origin circuit [] = 0
times_awaited plan start service origin circuit (packet ∷ packets) =
    (if packet.origin == origin && copy_awaits plan start service circuit packet then 1 else 0) + times_awaited plan start service origin circuit packets

-- a frame that entered at a circuit of a service after the events `before`, in a state of its window
pub record SharesReached (plan : Plan) (before : List Event) (sender : CircuitId) (service : ServiceId) (network : NetworkState) (entries : List Entry) : Type 0 where
  pub reached : (circuit : CircuitId) → is_reached plan (network_after plan before) service sender circuit ≡ true
      → IsSharedOut (times_left (next_origin (network_after plan before)) circuit entries) (times_awaited plan (network_after plan before) service (next_origin (network_after plan before)) circuit network.under_way)
  pub others : (circuit : CircuitId) → is_site plan (network_after plan before) service circuit ≡ true → is_reached plan (network_after plan before) service sender circuit ≡ false
      → IsLeftOut (times_left (next_origin (network_after plan before)) circuit entries) (times_awaited plan (network_after plan before) service (next_origin (network_after plan before)) circuit network.under_way)
  pub passed : CopiesHavePassed plan (next_origin (network_after plan before)) network.under_way

-- every moment of every such window of the run: with the events `rest` the window would be over
abbrev pub SharesReachedEach : Plan → List Event → Type 0
SharesReachedEach plan events = (before : List Event) (sender : CircuitId) (octets : List ℕ) (so_far rest after : List Event) (service : ServiceId)
    → events ≡ before ++ Frame sender octets ∷ (so_far ++ after)
    → QuietWindow plan before sender octets (so_far ++ rest) service
    → SharesReached plan before sender service (network_after plan (before ++ Frame sender octets ∷ so_far)) (run plan (before ++ Frame sender octets ∷ so_far)).entries
