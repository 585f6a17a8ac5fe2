-- What is known behind the events that are over.
use Rattle.std.specs.Prelude.{◌≡◌, ◌<◌, ◌+◌, ◌++◌, ◌==◌, ◌&&◌, ◌⊎◌, not, ℕ, Bool, true, false, List, [], ◌∷◌, Option, Some, None, Ok, length}
use Rattle.std.specs.List.{list_any}
use Rattle.net_base.specs.declared.plan.Plan.{Plan}
use Rattle.net_base.specs.declared.plan.places.CircuitId.{CircuitId}
use Rattle.net_base.specs.declared.plan.places.ServiceId.{ServiceId}
use Rattle.net_base.specs.declared.trace.entry.Entry.{Entry}
use Rattle.net_base.specs.declared.trace.entry.Entry.TheVariants.{Did}
use Rattle.net_base.specs.declared.trace.event.Event.{Event}
use Rattle.net_base.specs.declared.trace.event.Event.TheVariants.{Frame}
use Rattle.net_base.specs.plan.Places.{service_of}
use Rattle.net_base.specs.trace.Frame.{destination_of, goes_to_group}
use Rattle.net_base.specs.trace.Isolated.{inner_at}
use Rattle.net_values.specs.declared.mac.Mac.{Mac}
use Rattle.hvpls_spokes.specs.PortSet.{holds_port}
use Rattle.seen_network.specs.Calm.{is_seen_calm}
use Rattle.seen_network.specs.Once.{SeenWindow, all_spared, entered_as, has_seen, is_seen_site, is_sourced_by, spares_seen}
use Rattle.seen_network.specs.Seen.{BeginsEvent, Seen, is_idle_behind, seen_in}
use Rattle.seen_network.specs.EventEntries.{entered_place}
use Rattle.seen_network.specs.declared.window.Window.{Window}

-- a frame entered a calm service by an event behind the entries `before`; `during` are the entries behind the event
pub record HasOpened (plan : Plan) (before : List Entry) (circuit : CircuitId) (octets : List ℕ) (during : List Entry) (service : ServiceId) (origin : ℕ) : Type 0 where
  pub entered : entered_as circuit during ≡ Some origin
  pub sender : service_of plan circuit ≡ Some service
  pub on : (seen_in before).on circuit.0 ≡ true
  pub frame : List ℕ
  pub formed : inner_at plan circuit octets ≡ Ok frame
  pub calm : is_seen_calm plan (seen_in before) service ≡ true

-- where a frame goes; nowhere told for a frame to a group
abbrev pub GoesTo : List ℕ → Option Mac → Type 0
GoesTo octets None = goes_to_group octets ≡ true
GoesTo octets (Some address) = (goes_to_group octets ≡ false) × (destination_of octets ≡ address.0)

-- the window tells of such a frame
pub record Describes (plan : Plan) (before : List Entry) (circuit : CircuitId) (octets : List ℕ) (during : List Entry) (service : ServiceId) (origin : ℕ) (window : Window) : Type 0 where
  pub place : window.place ≡ length before + (1 + entered_place circuit during)
  pub sender : window.sender ≡ circuit
  pub service_is : window.service ≡ service
  pub origin_is : window.origin ≡ origin
  pub goes : (frame : List ℕ) → inner_at plan circuit octets ≡ Ok frame → GoesTo frame window.destination
  pub sites : (site : CircuitId) → site.0 < length plan.circuits → holds_port window.sites site.0 ≡ is_seen_site plan (seen_in before) service site && not (site.0 == circuit.0)

-- of the entries behind the event each event so far spares the window
pub record IsOpen (plan : Plan) (trace : List Entry) (window : Window) : Type 0 where
  pub before : List Entry
  pub circuit : CircuitId
  pub octets : List ℕ
  pub during : List Entry
  pub service : ServiceId
  pub origin : ℕ
  pub is : trace ≡ before ++ Did (Frame circuit octets) ∷ during
  pub opened : HasOpened plan before circuit octets during service origin
  pub describes : Describes plan before circuit octets during service origin window
  pub spared : all_spared origin (seen_in before) during ≡ true

-- it was over at some event, or at the end
pub record IsOwed (plan : Plan) (trace : List Entry) (window : Window) : Type 0 where
  pub before : List Entry
  pub circuit : CircuitId
  pub octets : List ℕ
  pub during : List Entry
  pub after : List Entry
  pub service : ServiceId
  pub origin : ℕ
  pub is : trace ≡ before ++ Did (Frame circuit octets) ∷ (during ++ after)
  pub begins : BeginsEvent after
  pub shown : SeenWindow plan before circuit octets during service origin
  pub describes : Describes plan before circuit octets during service origin window

-- the window was over at an event before the last of these entries
pub record WasOver (before : List Entry) (circuit : CircuitId) (octets : List ℕ) (during : List Entry) (origin : ℕ) : Type 0 where
  pub first : List Entry
  pub rest : List Entry
  pub is : during ≡ first ++ rest
  pub begins : BeginsEvent rest
  pub over : has_seen (seen_in (before ++ Did (Frame circuit octets) ∷ first)) origin ≡ false

-- the window is one of these
abbrev pub AmongWindows : Window → List Window → Type 0
AmongWindows window [] = ⊥
AmongWindows window (w ∷ ws) = (window ≡ w) ⊎ AmongWindows window ws

-- some window of the list is that of the frame
pub record Lists (plan : Plan) (before : List Entry) (circuit : CircuitId) (octets : List ℕ) (during : List Entry) (service : ServiceId) (origin : ℕ) (windows : List Window) : Type 0 where
  pub window : Window
  pub describes : Describes plan before circuit octets during service origin window
  pub listed : AmongWindows window windows

-- the windows that are open: each that opened and was spared, but for those that were over once
pub record AreWindowsOpen (plan : Plan) (trace : List Entry) (windows : List Window) : Type 0 where
  pub only : (window : Window) → AmongWindows window windows → IsOpen plan trace window
  pub each : (before : List Entry) (circuit : CircuitId) (octets : List ℕ) (during : List Entry) (service : ServiceId) (origin : ℕ)
      → trace ≡ before ++ Did (Frame circuit octets) ∷ during → HasOpened plan before circuit octets during service origin → all_spared origin (seen_in before) during ≡ true
      → Lists plan before circuit octets during service origin windows ⊎ WasOver before circuit octets during origin

-- the windows of frames that have to leave once at each site: each that the trace shows
pub record AreOwed (plan : Plan) (trace : List Entry) (windows : List Window) : Type 0 where
  pub only : (window : Window) → AmongWindows window windows → IsOwed plan trace window
  pub each : (before : List Entry) (circuit : CircuitId) (octets : List ℕ) (during after : List Entry) (service : ServiceId) (origin : ℕ)
      → trace ≡ before ++ Did (Frame circuit octets) ∷ (during ++ after) → BeginsEvent after → SeenWindow plan before circuit octets during service origin
      → Lists plan before circuit octets during service origin windows

-- ---- one event more

-- the window that an event opens, behind the entries before it and with the entries behind it
pub record Opens (plan : Plan) (before : List Entry) (event : Event) (during : List Entry) (window : Window) : Type 0 where
  pub circuit : CircuitId
  pub octets : List ℕ
  pub service : ServiceId
  pub origin : ℕ
  pub is : event ≡ Frame circuit octets
  pub opened : HasOpened plan before circuit octets during service origin
  pub describes : Describes plan before circuit octets during service origin window

-- a window is opened for this frame, and describes it
pub record OpensOne (plan : Plan) (before : List Entry) (circuit : CircuitId) (octets : List ℕ) (during : List Entry) (service : ServiceId) (origin : ℕ) (found : Option Window) : Type 0 where
  pub window : Window
  pub found_is : found ≡ Some window
  pub describes : Describes plan before circuit octets during service origin window

-- it is this one, where it opens one
pub record IsOpened (plan : Plan) (before : List Entry) (event : Event) (during : List Entry) (found : Option Window) : Type 0 where
  pub only : (window : Window) → found ≡ Some window → Opens plan before event during window
  pub each : (circuit : CircuitId) (octets : List ℕ) (service : ServiceId) (origin : ℕ) → event ≡ Frame circuit octets
      → HasOpened plan before circuit octets during service origin → OpensOne plan before circuit octets during service origin found

-- the frame goes to a group, or to an address from which no frame entered the service
abbrev pub flooded_to : Plan → ServiceId → Option Mac → List Entry → Bool
flooded_to plan service None entries = true
flooded_to plan service (Some address) entries = not (list_any (is_sourced_by plan service address.0) entries)

-- the window is open yet when the event and its entries are over, but for the copies of its frame
abbrev pub IsLeftOpen : Seen → (idle : Bool) → Event → List Window → Option Window → Window → Type 0
IsLeftOpen seen idle event lasting found window = (AmongWindows window lasting × (spares_seen seen window.origin idle event ≡ true)) ⊎ (found ≡ Some window)

-- no copy is under way any more, and it was flooded
pub record Closes (seen : Seen) (idle : Bool) (event : Event) (lasting : List Window) (found : Option Window) (now : Seen) (plan : Plan) (trace : List Entry) (window : Window) : Type 0 where
  pub left : IsLeftOpen seen idle event lasting found window
  pub over : has_seen now window.origin ≡ false
  pub flooded : flooded_to plan window.service window.destination trace ≡ true

-- the windows that are open behind an event, and those that it closed among those that are owed
pub record HasPassedWindows (plan : Plan) (before : List Entry) (event : Event) (during : List Entry) (found : Option Window) (lasting owed lasting2 owed2 : List Window) : Type 0 where
  pub stays : (window : Window) → IsLeftOpen (seen_in before) (is_idle_behind during) event lasting found window
      → has_seen (seen_in (before ++ Did event ∷ during)) window.origin ≡ true → AmongWindows window lasting2
  pub stayed : (window : Window) → AmongWindows window lasting2
      → IsLeftOpen (seen_in before) (is_idle_behind during) event lasting found window
  pub kept : (window : Window) → AmongWindows window owed → AmongWindows window owed2
  pub closes : (window : Window) → IsLeftOpen (seen_in before) (is_idle_behind during) event lasting found window
      → has_seen (seen_in (before ++ Did event ∷ during)) window.origin ≡ false
      → flooded_to plan window.service window.destination (before ++ Did event ∷ during) ≡ true → AmongWindows window owed2
  pub closed : (window : Window) → AmongWindows window owed2
      → AmongWindows window owed ⊎ Closes (seen_in before) (is_idle_behind during) event lasting found (seen_in (before ++ Did event ∷ during)) plan (before ++ Did event ∷ during) window
