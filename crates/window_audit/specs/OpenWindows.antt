-- The windows that are open yet, by the numbers of their frames.
use Rattle.std.specs.Prelude.{◌≡◌, ◌==◌, ◌&&◌, ◌++◌, ◌⊎◌, not, ℕ, Bool, true, false, List, [], ◌∷◌, Option, Some, None, unwrap_or, if◌then◌else◌}
use Rattle.std.specs.BTreeMap.{is_at}
use Rattle.std.specs.List.{list_any}
use Rattle.std.specs.Map.{lookup}
use Rattle.std.specs.Ordering.{nat_cmp}
use Rattle.net_base.specs.declared.plan.Plan.{Plan}
use Rattle.net_base.specs.declared.trace.entry.Entry.{Entry}
use Rattle.seen_network.specs.Once.{has_seen}
use Rattle.seen_network.specs.Seen.{Seen, seen_in}
use Rattle.seen_state.specs.Numbered.{Values, value_at}
use Rattle.seen_network.specs.Windows.{AmongWindows, AreWindowsOpen, flooded_to}
use Rattle.seen_network.specs.declared.window.Window.{Window}

pub record WindowsByOrigin : Type 0 where
  -- the first window of each frame
  pub firsts : Values Window
  -- those behind it
  pub others : List (ℕ × List Window)

-- the windows of a frame behind its first one
abbrev pub others_at : List (ℕ × List Window) → ℕ → List Window
others_at others origin = unwrap_or (lookup (is_at (nat_cmp origin)) others) []

-- a first window, where there is one, and those behind it
abbrev pub with_first : Option Window → List Window → List Window
with_first None windows = windows
with_first (Some window) windows = window ∷ windows

-- those of a frame
abbrev pub windows_at : WindowsByOrigin → ℕ → List Window
windows_at windows origin = with_first (value_at windows.firsts origin) (others_at windows.others origin)

-- with one more, where one is found
abbrev pub with_found : Option Window → (ℕ → List Window) → ℕ → List Window
with_found None windows origin = windows origin
with_found (Some window) windows origin = if origin == window.origin then windows origin ++ window ∷ [] else windows origin

-- the number is one of these
abbrev pub is_one_of : List ℕ → ℕ → Bool
is_one_of numbers number = list_any (λ n. n == number) numbers

-- of these frames, no copy of it is under way
abbrev pub are_copies_over : Seen → List ℕ → ℕ → Bool
are_copies_over seen origins origin = is_one_of origins origin && not (has_seen seen origin)

-- a window of such a frame, which was flooded
pub record ClosesOne (gone : ℕ → Bool) (flooded : Window → Bool) (old : ℕ → List Window) (window : Window) : Type 0 where
  pub origin : ℕ
  pub over : gone origin ≡ true
  pub was : AmongWindows window (old origin)
  pub flooded_is : flooded window ≡ true

-- the windows of such frames last no more, and those that were flooded are owed
pub record HasClosed (gone : ℕ → Bool) (flooded : Window → Bool) (old new : ℕ → List Window) (owed owed2 : List Window) : Type 0 where
  pub left : (origin : ℕ) → new origin ≡ (if gone origin then [] else old origin)
  pub kept : (window : Window) → AmongWindows window owed → AmongWindows window owed2
  pub closes : (window : Window) → ClosesOne gone flooded old window → AmongWindows window owed2
  pub closed : (window : Window) → AmongWindows window owed2 → AmongWindows window owed ⊎ ClosesOne gone flooded old window

-- the window is of a frame that was flooded
abbrev pub was_flooded : Plan → List Entry → Window → Bool
was_flooded plan trace window = flooded_to plan window.service window.destination trace

-- these are the windows that are open behind entries, each with a copy under way
pub record AreLasting (plan : Plan) (trace : List Entry) (open_windows : ℕ → List Window) : Type 0 where
  pub windows : List Window
  pub are_open : AreWindowsOpen plan trace windows
  pub listed : (window : Window) → AmongWindows window windows → AmongWindows window (open_windows window.origin)
  pub lists : (origin : ℕ) (window : Window) → AmongWindows window (open_windows origin) → AmongWindows window windows
  pub home : (origin : ℕ) (window : Window) → AmongWindows window (open_windows origin) → window.origin ≡ origin
  pub under_way : (origin : ℕ) (window : Window) → AmongWindows window (open_windows origin) → has_seen (seen_in trace) origin ≡ true
