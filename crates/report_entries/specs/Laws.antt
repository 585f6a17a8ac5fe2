-- A text is read as the trace of which it is the report.
use Rattle.std.specs.Prelude.{◌≡◌, ◌++◌, ◌==◌, codes, true, false, ℕ, List, [], ◌∷◌, Some, Ok}
use Rattle.std.specs.List.{AllByRecursion}
use Rattle.net_base.specs.declared.plan.Plan.{Plan}
use Rattle.net_base.specs.declared.trace.entry.Entry.{Entry}
use Rattle.net_base.specs.plan.Accepted.{IsChecked}
use Rattle.plan_names.specs.Planned.{HasNames}
use Rattle.text_lines.specs.Lines.{line_of}
use Rattle.report_text.specs.Named.{IsEntryNamed}
use Rattle.report_text.specs.Read.{ReadReport}
use Rattle.report_text.specs.Report.{entry_line, entry_lines}
use Rattle.report_entries.specs.declared.tally.Tally.{Tally}
use Rattle.report_entries.specs.Counted.{tallied, first_counts}
use Rattle.report_entries.specs.Entries.{line_entry}
use Rattle.report_entries.specs.Report.{ends_report, told_of}

-- the counts behind entries
abbrev pub counted_all : Tally → List Entry → Tally
counted_all tally [] = tally
counted_all tally (e ∷ es) = counted_all (tallied e tally) es

-- the line of an entry that names places of the plan is read as this entry
abbrev pub LinesAreRead : Type 0
LinesAreRead = (plan : Plan) (entry : Entry) (line : List ℕ) → IsChecked plan → HasNames plan → IsEntryNamed plan entry → entry_line plan entry ≡ line ++ codes "\n" → line_entry plan line ≡ Some entry

-- what is read of a line is an entry of which it is the line
abbrev pub ReadsLines : Type 0
ReadsLines = (plan : Plan) (entry : Entry) (line : List ℕ) → line_entry plan line ≡ Some entry → entry_line plan entry ≡ line ++ codes "\n"

-- and names places of the plan
abbrev pub LinesNamePlaces : Type 0
LinesNamePlaces = (plan : Plan) (line : List ℕ) (entry : Entry) → line_entry plan line ≡ Some entry → IsEntryNamed plan entry

-- a text has the lines of a trace, and a right last line
pub record TellsTrace (plan : Plan) (text : List ℕ) (trace : List Entry) : Type 0 where
  pub line : List ℕ
  pub is : text ≡ (codes "vplsnet 1\n" ++ entry_lines plan trace) ++ (line ++ codes "\n")
  pub right : ends_report (counted_all first_counts trace) line ≡ true

-- the trace that is told is one of which the text is the report
abbrev pub TracesAreTold : Type 0
TracesAreTold = (plan : Plan) (text : List ℕ) (trace : List Entry) → told_of plan text ≡ Ok trace → TellsTrace plan text trace

-- octets without such a one
abbrev pub IsFreeOf : ℕ → List ℕ → Type 0
IsFreeOf mark octets = AllByRecursion (λ c. c == mark ≡ false) octets

-- a line of words without blanks and line feeds: there is a first one, which may be empty as each other one may
abbrev pub IsPlainLine : List (List ℕ) → Type 0
IsPlainLine [] = ⊥
IsPlainLine (word ∷ words) = AllByRecursion (λ w. IsFreeOf 32 w × IsFreeOf 10 w) (word ∷ words)

-- the text of lines
abbrev pub text_of_lines : List (List (List ℕ)) → List ℕ
text_of_lines [] = []
text_of_lines (words ∷ lines) = line_of words ++ text_of_lines lines

-- lists of lines have the same text only where they are the same
abbrev pub LinesAreToldApart : Type 0
LinesAreToldApart = (a b : List (List (List ℕ))) → AllByRecursion IsPlainLine a → AllByRecursion IsPlainLine b → text_of_lines a ≡ text_of_lines b → a ≡ b

-- the report of entries that name places of a checked plan is read as these, behind any right last line
abbrev pub ReportsAreRead : Type 0
ReportsAreRead = (plan : Plan) (trace : List Entry) (last : List ℕ) → IsChecked plan → HasNames plan → AllByRecursion (IsEntryNamed plan) trace → IsFreeOf 10 last → ends_report (counted_all first_counts trace) last ≡ true
    → told_of plan ((codes "vplsnet 1\n" ++ entry_lines plan trace) ++ (last ++ codes "\n")) ≡ Ok trace

-- a text that is the report of a trace tells this trace
abbrev pub ReportsAreTold : Type 0
ReportsAreTold = (plan : Plan) (text : List ℕ) (trace : List Entry) → IsChecked plan → HasNames plan → ReadReport plan text trace → told_of plan text ≡ Ok trace

-- entries that name places of one checked plan are the same where the lines of their reports are
abbrev pub ReportsAreToldApart : Type 0
ReportsAreToldApart = (plan : Plan) (text : List ℕ) (a b : List Entry) → IsChecked plan → HasNames plan → ReadReport plan text a → ReadReport plan text b → a ≡ b
