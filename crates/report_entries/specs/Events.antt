-- The events that lines of a report tell. A frame has at most as many octets as a record of a capture, and may have none.
use Rattle.std.specs.Prelude.{nat_le, codes, ℕ, List, [], ◌∷◌, length, Option, Some, None, if◌then◌else◌}
use Rattle.std.specs.Str.{bytes_eq}
use Rattle.net_base.specs.declared.plan.Plan.{Plan}
use Rattle.net_base.specs.declared.trace.event.Event.{Event}
use Rattle.net_base.specs.declared.trace.event.Event.TheVariants as event
use Rattle.plan_names.specs.Planned.{names_of}
use Rattle.plan_names.specs.declared.plan_names.PlanNames.{PlanNames}
use Rattle.line_shapes.specs.Shapes.{line_said, told_by}
use Rattle.event_rows.specs.Rows.{event_forms, event_made}
use Rattle.report_entries.specs.Reading.{◌>>=◌, circuit_of_word, digits_told}

-- the event of words, by their row
unfoldable pub row_event : Plan → List (List ℕ) → Option Event
row_event plan words = told_by event_made (line_said plan event_forms words)

-- a frame of a capture has at most so many octets
abbrev pub of_record_size : List ℕ → Option (List ℕ)
of_record_size octets = if nat_le (length octets) 262144 then Some octets else None

unfoldable pub frame_told : PlanNames → List (List ℕ) → Option Event
frame_told names (circuit ∷ octets ∷ []) = do
  circuit ← circuit_of_word names circuit
  octets ← digits_told octets
  octets ← of_record_size octets
  Some (event.Frame circuit octets)
frame_told names words = None

-- the event that these words tell
abbrev pub event_told : Plan → List (List ℕ) → Option Event
event_told plan [] = None
event_told plan (kind ∷ words) = if bytes_eq kind (codes "frame") then frame_told (names_of plan) words else row_event plan (kind ∷ words)
