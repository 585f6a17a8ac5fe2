-- The entries that lines of a report tell: those without octets by their rows, those with octets by their words.
use Rattle.std.specs.Prelude.{◌++◌, codes, ℕ, List, [], ◌∷◌, Option, Some, None, if◌then◌else◌}
use Rattle.std.specs.Str.{bytes_eq}
use Rattle.net_base.specs.declared.plan.Plan.{Plan}
use Rattle.net_base.specs.declared.trace.entry.Entry.{Entry}
use Rattle.net_base.specs.declared.trace.entry.Entry.TheVariants as entry
use Rattle.plan_names.specs.Planned.{names_of}
use Rattle.plan_names.specs.declared.plan_names.PlanNames.{PlanNames}
use Rattle.line_shapes.specs.Shapes.{line_said, told_by}
use Rattle.report_text.specs.Report.{entry_line}
use Rattle.report_text.specs.Rows.{entry_forms, entry_made}
use Rattle.report_entries.specs.declared.passed.Carried.{Carried}
use Rattle.report_entries.specs.declared.passed.Passed.{Passed}
use Rattle.report_entries.specs.Events.{event_told}
use Rattle.report_entries.specs.Reading.{◌>>=◌, arrival_in, circuit_of_word, edge_of_word, line_words, number_in, digits_told, wire_of_word}

unfoldable pub said_in : PlanNames → List (List ℕ) → Option Entry
said_in names (from ∷ to ∷ octets ∷ []) = do
  from ← edge_of_word names from
  to ← edge_of_word names to
  octets ← digits_told octets
  Some (entry.Said from to octets)
said_in names words = None

unfoldable pub entered_in : PlanNames → List (List ℕ) → Option Entry
entered_in names (circuit ∷ number ∷ octets ∷ []) = do
  circuit ← circuit_of_word names circuit
  number ← number_in number
  octets ← digits_told octets
  Some (entry.In circuit number octets)
entered_in names words = None

-- what tells of a frame on its way: its number, the segments that it has passed, and its octets
unfoldable pub passed_in : List (List ℕ) → Option Passed
passed_in (origin ∷ hops ∷ octets ∷ []) = do
  origin ← number_in origin
  hops ← number_in hops
  octets ← digits_told octets
  Some (record { origin = origin; hops = hops; bytes = octets })
passed_in words = None

-- the wire that a packet was sent on, by what it came, and the frame
unfoldable pub carried_in : PlanNames → List (List ℕ) → Option Carried
carried_in names (wire ∷ came ∷ words) = do
  wire ← wire_of_word names wire
  came ← arrival_in names came
  passed ← passed_in words
  Some (record { wire = wire; arrival = came; passed = passed })
carried_in names words = None

unfoldable pub sent_in : PlanNames → List (List ℕ) → Option Entry
sent_in names (packet ∷ from ∷ to ∷ words) = do
  packet ← number_in packet
  from ← edge_of_word names from
  to ← edge_of_word names to
  carried ← carried_in names words
  Some (entry.Sent from to carried.wire carried.arrival packet carried.passed.origin carried.passed.hops carried.passed.bytes)
sent_in names words = None

unfoldable pub left_in : PlanNames → List (List ℕ) → Option Entry
left_in names (circuit ∷ words) = do
  circuit ← circuit_of_word names circuit
  passed ← passed_in words
  Some (entry.Left circuit passed.origin passed.hops passed.bytes)
left_in names words = None

-- the entry of words, by their row
unfoldable pub row_entry : Plan → List (List ℕ) → Option Entry
row_entry plan words = told_by entry_made (line_said plan entry_forms words)

-- an event that was done
abbrev pub did_in : Plan → List (List ℕ) → Option Entry
did_in plan words = event_told plan words >>= (λ event. Some (entry.Did event))

-- the entry of a first word
unfoldable pub told_entry_of : Plan → List ℕ → List (List ℕ) → Option Entry
told_entry_of plan kind words =
    if bytes_eq kind (codes ">") then did_in plan words
    else if bytes_eq kind (codes "in") then entered_in (names_of plan) words
    else if bytes_eq kind (codes "left") then left_in (names_of plan) words
    else if bytes_eq kind (codes "sent") then sent_in (names_of plan) words
    else if bytes_eq kind (codes "said") then said_in (names_of plan) words
    else row_entry plan (kind ∷ words)

-- the entry that these words tell
abbrev pub words_entry : Plan → List (List ℕ) → Option Entry
words_entry plan [] = None
words_entry plan (kind ∷ words) = told_entry_of plan kind words

-- the entry that the words of a line tell
unfoldable pub told_entry_in : Plan → List ℕ → Option Entry
told_entry_in plan line = words_entry plan (line_words line)

-- the entry, where this is its line
abbrev pub exact : Plan → List ℕ → Entry → Option Entry
exact plan line entry = if bytes_eq (entry_line plan entry) (line ++ codes "\n") then Some entry else None

-- the entry of which this is the line, without its line feed
unfoldable pub line_entry : Plan → List ℕ → Option Entry
line_entry plan line = told_entry_in plan line >>= exact plan line
