-- The report of a script of independent mode (RFC 6870 section 4).
use Rattle.std.specs.Prelude.{◌++◌, ℕ, codes, Bool, true, false, List, [], ◌∷◌, length}
use Rattle.std.specs.Fmt.{decimal}
use Rattle.line_shapes.specs.Shapes.{form_at, row_words}
use Rattle.net_base.specs.declared.plan.Plan.{Plan}
use Rattle.line_shapes.specs.Words.{edge_name, wire_name}
use Rattle.switchover_model.specs.Network.{first_network}
use Rattle.switchover_model.specs.Text.{script_entries}
use Rattle.switchover_model.specs.declared.switch_entry.SwitchEntry.{SwitchEntry}
use Rattle.switchover_model.specs.declared.switch_entry.SwitchEntry.TheVariants.{Said, Uses, Idle}
use Rattle.switchover_model.specs.declared.switch_line.SwitchLine.{SwitchLine}
use Rattle.switchover_script.specs.Lines.{switch_apart, switch_forms}
use Rattle.text_lines.specs.Lines.{line_of}
use Rattle.text_pieces.specs.Pieces.{hex}

-- ---- lines of the script

-- a line with the words of its row
abbrev pub done_line : Plan → SwitchLine → List ℕ
done_line plan line = line_of (codes ">" ∷ row_words plan (form_at switch_forms (switch_apart line).0) (switch_apart line).1)

-- ---- what is told of them

abbrev pub answer_word : Bool → List ℕ
answer_word true = codes "yes"
answer_word false = codes "no"

abbrev pub entry_words_told : Plan → SwitchEntry → List (List ℕ)
entry_words_told plan (Said edge peer octets) = codes "said" ∷ edge_name plan edge ∷ edge_name plan peer ∷ hex octets ∷ []
entry_words_told plan (Uses edge wire on) = codes "uses" ∷ edge_name plan edge ∷ wire_name plan wire ∷ answer_word on ∷ []
entry_words_told plan Idle = codes "idle" ∷ []

-- a line for each entry
abbrev pub told_lines : Plan → List SwitchEntry → List ℕ
told_lines plan [] = []
told_lines plan (entry ∷ entries) = line_of (entry_words_told plan entry) ++ told_lines plan entries

-- ---- the report

-- what is told of the first line, and of those behind it
abbrev pub first_told : List (List SwitchEntry) → List SwitchEntry
first_told [] = []
first_told (entries ∷ told) = entries

abbrev pub told_behind : List (List SwitchEntry) → List (List SwitchEntry)
told_behind [] = []
told_behind (entries ∷ told) = told

-- each line with what is told of it
abbrev pub lines_text : Plan → List SwitchLine → List (List SwitchEntry) → List ℕ
lines_text plan [] told = []
lines_text plan (line ∷ lines) told = (done_line plan line ++ told_lines plan (first_told told)) ++ lines_text plan lines (told_behind told)

-- how many lines there were
abbrev pub count_line : List SwitchLine → List ℕ
count_line lines = line_of (codes "end" ∷ (codes "lines=" ++ decimal (length lines)) ∷ [])

-- the text of lines and of what is told of each of them
unfoldable pub switchover_text : Plan → List SwitchLine → List (List SwitchEntry) → List ℕ
switchover_text plan lines told = (codes "switchover 1\n" ++ lines_text plan lines told) ++ count_line lines

-- the text of a script that a network does from the beginning
abbrev pub switchover_report : Plan → List SwitchLine → List ℕ
switchover_report plan lines = switchover_text plan lines (script_entries plan lines first_network)
