-- The report of a run: a first line, a line for each entry, and a last line.
use Rattle.std.specs.Prelude.{◌++◌, ℕ, codes, List, [], ◌∷◌}
use Rattle.std.specs.Fmt.{decimal}
use Rattle.net_base.specs.declared.trace.entry.Entry.{Entry}
use Rattle.net_base.specs.declared.trace.entry.Entry.TheVariants.{Did, Said, In, Sent, Left}
use Rattle.net_base.specs.declared.plan.Plan.{Plan}
use Rattle.text_lines.specs.Lines.{line_of}
use Rattle.text_pieces.specs.Pieces.{hex}
use Rattle.line_shapes.specs.Shapes.{form_at, row_words}
use Rattle.line_shapes.specs.Words.{edge_name, circuit_name, wire_name, arrival_name}
use Rattle.event_rows.specs.Rows.{event_words}
use Rattle.report_text.specs.declared.counts.Counts.{Counts}
use Rattle.report_text.specs.declared.ending.Ending.{Ending}
use Rattle.report_text.specs.declared.ending.Ending.TheVariants.{End, Crowded, TooMuch}
use Rattle.report_text.specs.Counted.{counts_behind, no_counts}
use Rattle.report_text.specs.Rows.{entry_apart, entry_forms}

-- the words of an entry's line
abbrev pub entry_words : Plan → Entry → List (List ℕ)
entry_words plan (Did event) = codes ">" ∷ event_words plan event
entry_words plan (Said from to octets) = codes "said" ∷ edge_name plan from ∷ edge_name plan to ∷ hex octets ∷ []
entry_words plan (In circuit number octets) = codes "in" ∷ circuit_name plan circuit ∷ decimal number ∷ hex octets ∷ []
entry_words plan (Sent from to wire arrival packet origin hops octets) =
    codes "sent" ∷ decimal packet ∷ edge_name plan from ∷ edge_name plan to ∷ wire_name plan wire ∷ arrival_name plan arrival ∷ decimal origin ∷ decimal hops ∷ hex octets ∷ []
entry_words plan (Left circuit origin hops octets) = codes "left" ∷ circuit_name plan circuit ∷ decimal origin ∷ decimal hops ∷ hex octets ∷ []
entry_words plan entry = row_words plan (form_at entry_forms (entry_apart entry).0) (entry_apart entry).1

-- the line of an entry
abbrev pub entry_line : Plan → Entry → List ℕ
entry_line plan entry = line_of (entry_words plan entry)

-- a line for each entry, in order
abbrev pub entry_lines : Plan → List Entry → List ℕ
entry_lines plan [] = []
entry_lines plan (entry ∷ entries) = entry_line plan entry ++ entry_lines plan entries

-- how many events were done, frames entered, frames left, packets were sent, and drops there were
abbrev pub counts_told : Counts → List (List ℕ)
counts_told counts =
    (codes "events=" ++ decimal counts.events)
    ∷ (codes "in=" ++ decimal counts.entered)
    ∷ (codes "left=" ++ decimal counts.left)
    ∷ (codes "sent=" ++ decimal counts.sent)
    ∷ (codes "dropped=" ++ decimal counts.dropped) ∷ []

abbrev pub told_words : List Entry → List (List ℕ)
told_words trace = codes "end" ∷ counts_told (counts_behind no_counts trace)

abbrev pub counts_line : List Entry → List ℕ
counts_line trace = line_of (told_words trace)

-- the counts of a run that came to its end, or the bound at which it stopped
abbrev pub last_words : List Entry → Ending → List (List ℕ)
last_words trace End = told_words trace
last_words trace (Crowded count) = codes "stop" ∷ codes "Crowded" ∷ decimal count ∷ []
last_words trace (TooMuch weight) = codes "stop" ∷ codes "TooMuch" ∷ decimal weight ∷ []

-- the last line
abbrev pub last_line : List Entry → Ending → List ℕ
last_line trace ending = line_of (last_words trace ending)

-- the whole report
unfoldable pub report : Plan → List Entry → Ending → List ℕ
report plan trace ending = (codes "vplsnet 1\n" ++ entry_lines plan trace) ++ last_line trace ending
