-- Marks of an edge's ends: the slots that it visits as it mends.
use Rattle.std.specs.Prelude.{◌≡◌, ◌≢◌, ◌≤◌, ◌<◌, ◌||◌, nat_le, nat_lt, ℕ, Bool, false, length, slice_index_or, List, Option, Some, None}
use Rattle.edge_model.specs.declared.end_place.EndPlace.{EndPlace}
use Rattle.pw_ends.specs.Ends.{no_place}
use Rattle.provider_edge.specs.declared.end_marks.EndMarks.{EndMarks}

-- a slot has no mark
abbrev pub IsUnmarked : EndMarks → ℕ → Type 0
IsUnmarked marks slot = marks.first ≤ slot → marks.past ≤ slot

-- whether it has none
abbrev pub is_unmarked : EndMarks → ℕ → Bool
is_unmarked marks slot = nat_lt slot marks.first || nat_le marks.past slot

-- no mark is taken away
abbrev pub IsWider : EndMarks → EndMarks → Type 0
IsWider old new = (slot : ℕ) → IsUnmarked new slot → IsUnmarked old slot

-- the place of a slot
abbrev pub place_at : List EndPlace → ℕ → EndPlace
place_at places slot = slice_index_or places slot no_place

-- each end of a wire has a mark
abbrev pub MarksWire : List EndPlace → ℕ → EndMarks → Type 0
MarksWire places wire marks = (slot : ℕ) → slot < length places → IsUnmarked marks slot → (place_at places slot).wire.0 ≢ wire

-- each end of a wire has a mark that has an end beside a peer
abbrev pub MarksBeside : List EndPlace → ℕ → EndMarks → Type 0
MarksBeside places peer marks = (slot other : ℕ) → slot < length places → other < length places → IsUnmarked marks slot
    → (place_at places other).wire.0 ≡ (place_at places slot).wire.0 → (place_at places other).peer.0 ≢ peer

-- each end that passes a test has a mark
abbrev pub MarksEach : List EndPlace → (EndPlace → Bool) → EndMarks → Type 0
MarksEach places test marks = (slot : ℕ) → slot < length places → IsUnmarked marks slot → test (place_at places slot) ≡ false

-- where marks are known, these are known with none taken away, and something more holds of them
abbrev pub Marked : (EndMarks → Type 0) → Option EndMarks → Option EndMarks → Type 0
Marked holds None None = Unit {0}
Marked holds None (Some new) = ⊥
Marked holds (Some old) None = Unit {0}
Marked holds (Some old) (Some new) = IsWider old new × holds new
