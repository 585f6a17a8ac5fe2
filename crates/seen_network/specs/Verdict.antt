-- What is answered of a trace.
use Rattle.std.specs.Prelude.{◌≡◌, ◌≤◌, ◌+◌, ◌++◌, ◌&&◌, nat_lt, ℕ, List, ◌∷◌, Option, Some, None, length, if◌then◌else◌}
use Rattle.net_base.specs.declared.plan.Plan.{Plan}
use Rattle.net_base.specs.declared.plan.places.CircuitId.{CircuitId}
use Rattle.net_base.specs.declared.plan.places.ServiceId.{ServiceId}
use Rattle.net_base.specs.declared.trace.entry.Entry.{Entry}
use Rattle.net_base.specs.declared.trace.entry.Entry.TheVariants.{Did}
use Rattle.net_base.specs.declared.trace.event.Event.TheVariants.{Frame}
use Rattle.seen_network.specs.Once.{OnceSeen, SeenServed, SeenWindow, SeenWithin, times_seen}
use Rattle.seen_network.specs.Seen.{BeginsEvent, seen_in}
use Rattle.hvpls_spokes.specs.PortSet.{holds_port}
use Rattle.seen_network.specs.EventEntries.{entered_place}
use Rattle.seen_network.specs.Windows.{AmongWindows}
use Rattle.seen_network.specs.declared.window.Window.{Window}

-- a window whose frame did not leave once at each site and nowhere else; so many entries stand before the one by which it entered
pub record Unserved (plan : Plan) (trace : List Entry) (place : ℕ) : Type 0 where
  pub before : List Entry
  pub circuit : CircuitId
  pub octets : List ℕ
  pub during : List Entry
  pub after : List Entry
  pub service : ServiceId
  pub origin : ℕ
  pub is : trace ≡ before ++ Did (Frame circuit octets) ∷ (during ++ after)
  pub begins : BeginsEvent after
  pub shown : SeenWindow plan before circuit octets during service origin
  pub unserved : SeenServed 12 plan (seen_in before) circuit service origin trace → ⊥
  pub place_is : place ≡ length before + (1 + entered_place circuit during)

-- the first of them
pub record FirstUnserved (plan : Plan) (trace : List Entry) (place : ℕ) : Type 0 where
  pub unserved : Unserved plan trace place
  pub first : (other : ℕ) → Unserved plan trace other → place ≤ other

-- each flooded frame of a calm service was seen exactly once, within twelve segments, or this is the first place where one was not
abbrev pub OnceAnswers : Plan → List Entry → Option ℕ → Type 0
OnceAnswers plan trace None = OnceSeen 12 plan trace
OnceAnswers plan trace (Some place) = FirstUnserved plan trace place

-- ---- by the windows that are owed

-- the frame left once at each site and nowhere else, each copy within twelve segments
pub record IsServed (plan : Plan) (trace : List Entry) (window : Window) : Type 0 where
  pub once : (circuit : CircuitId) → times_seen window.origin circuit trace ≡ (if nat_lt circuit.0 (length plan.circuits) && holds_port window.sites circuit.0 then 1 else 0)
  pub within : SeenWithin 12 window.origin trace

-- the window of a frame that did not
pub record IsOwing (plan : Plan) (trace : List Entry) (owed : List Window) (place : ℕ) : Type 0 where
  pub window : Window
  pub owes : AmongWindows window owed
  pub place_is : window.place ≡ place
  pub unserved : IsServed plan trace window → ⊥

-- the first place of those that did not, where there is one
abbrev pub IsFirstOwed : Plan → List Entry → List Window → Option ℕ → Type 0
IsFirstOwed plan trace owed None = (window : Window) → AmongWindows window owed → IsServed plan trace window
IsFirstOwed plan trace owed (Some place) = IsOwing plan trace owed place × ((window : Window) → AmongWindows window owed → (IsServed plan trace window → ⊥) → place ≤ window.place)
