-- What is known behind the events that are over.
use Rattle.std.specs.Prelude.{◌≡◌, ◌≤◌, ◌+◌, ℕ, List, Option, Some, None}
use Rattle.net_base.specs.declared.plan.Plan.{Plan}
use Rattle.net_base.specs.declared.plan.places.CircuitId.{CircuitId}
use Rattle.net_base.specs.declared.plan.places.ServiceId.{ServiceId}
use Rattle.net_base.specs.declared.trace.entry.Entry.{Entry}
use Rattle.net_base.specs.declared.trace.event.Event.{Event}
use Rattle.net_base.specs.declared.trace.event.Event.TheVariants.{Frame}
use Rattle.seen_network.specs.Seen.{seen_in}
use Rattle.seen_state.specs.SeenState.{Knows}
use Rattle.seen_state.specs.SeenEdges.{sizes_of}
use Rattle.seen_network.specs.Windows.{AreOwed, Describes, HasOpened}
use Rattle.seen_network.specs.declared.window.Window.{Window}
use Rattle.window_audit.specs.CalmMemory.{Remembers}
use Rattle.window_audit.specs.During.{IsFirst}
use Rattle.window_audit.specs.OpenWindows.{AreLasting, windows_at}
use Rattle.window_audit.specs.declared.window_state.WindowState.{WindowState}

-- what is known of windows behind entries
pub record HasWindows (plan : Plan) (trace : List Entry) (known : WindowState) : Type 0 where
  pub state : Knows known.state (seen_in trace)
  pub calm : Remembers plan (seen_in trace) known.calm
  pub open_windows : AreLasting plan trace (windows_at known.open_windows)
  pub owed : AreOwed plan trace known.owed.items

-- it is of a plan, and no more packets came than entries were told
pub record IsWindowStateOf (plan : Plan) (known : WindowState) : Type 0 where
  pub sizes : known.state.seen_edges.sizes ≡ sizes_of plan
  pub few : known.state.copies.comings ≤ known.place

-- a frame that the event put at a circuit entered first so
abbrev pub IsFirstOf : Event → List Entry → Option (ℕ × ℕ) → Type 0
IsFirstOf event rest first = (circuit : CircuitId) (octets : List ℕ) → event ≡ Frame circuit octets → IsFirst circuit rest first

-- under which number a frame entered, and how many entries stand before that, of which so many stand before others
abbrev pub placed_behind : ℕ → ℕ × ℕ → ℕ × ℕ
placed_behind count first = (first.0, count + first.1)

-- the window of a frame that entered by an event
pub record OpensOf (plan : Plan) (before : List Entry) (circuit : CircuitId) (octets : List ℕ) (during : List Entry) (window : Window) : Type 0 where
  pub service : ServiceId
  pub origin : ℕ
  pub opened : HasOpened plan before circuit octets during service origin
  pub describes : Describes plan before circuit octets during service origin window

-- it is this one, where the frame has one
abbrev pub FrameOpens : Plan → List Entry → CircuitId → List ℕ → List Entry → Option Window → Type 0
FrameOpens plan before circuit octets during None = (service : ServiceId) (origin : ℕ) → HasOpened plan before circuit octets during service origin → ⊥
FrameOpens plan before circuit octets during (Some window) = OpensOf plan before circuit octets during window
