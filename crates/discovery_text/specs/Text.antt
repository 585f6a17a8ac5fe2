-- The report of a script: the lines of the network's report, and those of the notes between them.
use Rattle.std.specs.Prelude.{◌++◌, ◌-◌, ℕ, codes, List, [], ◌∷◌, take, drop}
use Rattle.std.specs.Fmt.{decimal}
use Rattle.net_base.specs.declared.plan.Plan.{Plan}
use Rattle.net_base.specs.declared.trace.entry.Entry.{Entry}
use Rattle.report_text.specs.declared.ending.Ending.{Ending}
use Rattle.report_text.specs.Report.{entry_lines, last_line}
use Rattle.line_shapes.specs.Words.{edge_name}
use Rattle.text_lines.specs.Lines.{line_of}
use Rattle.text_pieces.specs.Pieces.{hex}
use Rattle.discovery_script.specs.declared.note.Note.{Note}
use Rattle.discovery_script.specs.declared.note.Note.TheVariants.{Hello, Up, Down, Barred, Idle}
use Rattle.discovery_script.specs.declared.placed_note.PlacedNote.{PlacedNote}

-- the words of a note's line
abbrev pub note_words : Plan → Note → List (List ℕ)
note_words plan (Hello number from to bytes) = codes "hello" ∷ decimal number ∷ edge_name plan from ∷ edge_name plan to ∷ hex bytes ∷ []
note_words plan (Up edge peer) = codes "adjacency" ∷ edge_name plan edge ∷ edge_name plan peer ∷ codes "up" ∷ []
note_words plan (Down edge peer) = codes "adjacency" ∷ edge_name plan edge ∷ edge_name plan peer ∷ codes "down" ∷ []
note_words plan (Barred from to) = codes "barred" ∷ edge_name plan from ∷ edge_name plan to ∷ []
note_words plan Idle = codes "idle" ∷ []

abbrev pub note_line : Plan → Note → List ℕ
note_line plan note = line_of (note_words plan note)

-- each note stands behind as many entries as were told before it; so many were written already
abbrev pub noted_lines : Plan → ℕ → List Entry → List PlacedNote → List ℕ
noted_lines plan written trace [] = entry_lines plan trace
noted_lines plan written trace (placed ∷ notes) =
    (entry_lines plan (take (placed.entries - written) trace) ++ note_line plan placed.note) ++ noted_lines plan placed.entries (drop (placed.entries - written) trace) notes

-- the whole report
unfoldable pub discovery_report : Plan → List Entry → List PlacedNote → Ending → List ℕ
discovery_report plan trace notes ending = (codes "vplsnet 1\n" ++ noted_lines plan 0 trace notes) ++ last_line trace ending
