-- The frames that entered.
use Rattle.std.specs.Prelude.{◌≡◌, ◌≤◌, ◌<◌, ◌+◌, ◌==◌, ◌&&◌, ◌||◌, ◌++◌, ℕ, Bool, false, List, [], ◌∷◌, Option, Some, None, length, take, drop, option_map, slice_get, if◌then◌else◌}
use Rattle.std.specs.List.{list_any}
use Rattle.std.specs.Str.{bytes_eq}
use Rattle.seen_state.specs.Numbered.{Values, value_at}
use Rattle.trace_audit.specs.declared.arrivals.First.{First}
use Rattle.trace_audit.specs.declared.entered_frame.EnteredFrame.{EnteredFrame}
use Rattle.trace_audit.specs.declared.entered_frame.FrameParts.{FrameParts}

-- a frame without the tag of its circuit, with its number and its service
pub record Entered : Type 0 where
  pub number : ℕ
  pub service : ℕ
  pub frame : List ℕ

-- a frame as it is known in its service
abbrev pub entered_of : EnteredFrame → Entered
entered_of came = record { number = came.number; service = came.service; frame = came.frame.items }

abbrev pub parts_of : FrameParts → Entered
parts_of frame = record { number = frame.number; service = frame.service; frame = frame.front.now ++ frame.back.now }

-- both are one frame in one service under one number
abbrev pub is_entered : Entered → Entered → Bool
is_entered a b = a.number == b.number && (a.service == b.service && bytes_eq a.frame b.frame)

-- the frame entered under its number, in its service
abbrev pub has_come : List Entered → Entered → Bool
has_come came one = list_any (is_entered one) came

-- one more frame, where it is new
abbrev pub with_came : List Entered → Entered → List Entered
with_came came one = if has_come came one then came else came ++ one ∷ []

-- the frames that entered: the first ones of their numbers, by the places that their numbers tell, with their octets, and the others
pub record ArrivalLists : Type 0 where
  pub places : Values ℕ
  pub firsts : List First
  pub octets : List ℕ
  pub others : List EnteredFrame

-- each place is one of so many
abbrev pub ArePlaced : Values ℕ → ℕ → Type 0
ArePlaced places count = (number place : ℕ) → value_at places number ≡ Some place → place < count

-- each of these frames stands among so many octets
abbrev pub AreInside : List First → ℕ → Type 0
AreInside [] count = Unit {0}
AreInside (first ∷ firsts) count = (first.at + first.len ≤ count) × AreInside firsts count

-- each place is one of a frame, which stands among so many octets
pub record ArePlacedInside (places : Values ℕ) (firsts : List First) (count : ℕ) : Type 0 where
  pub placed : ArePlaced places (length firsts)
  pub inside : AreInside firsts count

-- the frame as it is known in its service, where its octets are among these
abbrev pub frame_in : List ℕ → First → Entered
frame_in octets first = record { number = first.number; service = first.service; frame = take first.len (drop first.at octets) }

-- the frame at a place, where one is told
abbrev pub first_at : List First → Option ℕ → Option First
first_at firsts None = None
first_at firsts (Some place) = slice_get firsts place

-- the first frame that entered under the number
abbrev pub first_under : ArrivalLists → ℕ → Option Entered
first_under arrivals number = option_map (frame_in arrivals.octets) (first_at arrivals.firsts (value_at arrivals.places number))

-- the frame is that one
abbrev pub is_first : Entered → Option Entered → Bool
is_first one None = false
is_first one (Some kept) = is_entered one kept

-- the frame is one of those that entered under numbers that others had
abbrev pub has_other : List EnteredFrame → Entered → Bool
has_other others one = list_any (λ kept. is_entered one (entered_of kept)) others

-- the frame entered under its number, in its service
abbrev pub has_arrived : ArrivalLists → Entered → Bool
has_arrived arrivals one = is_first one (first_under arrivals one.number) || has_other arrivals.others one

-- these are the frames that entered
abbrev pub TellsArrivals : ArrivalLists → List Entered → Type 0
TellsArrivals arrivals came = (one : Entered) → has_arrived arrivals one ≡ has_come came one
