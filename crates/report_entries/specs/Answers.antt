-- What reading a report answers.
use Rattle.std.specs.Prelude.{◌≡◌, ◌≤◌, ℕ, suc, List, [], length, Option, Some, None, Result, Ok, Err}
use Rattle.net_base.specs.declared.plan.Plan.{Plan}
use Rattle.net_base.specs.declared.trace.entry.Entry.{Entry}
use Rattle.report_entries.specs.declared.report_fault.ReportFault.{ReportFault}
use Rattle.report_entries.specs.declared.report_fault.ReportFault.TheVariants.{Form, NoMemory}
use Rattle.report_entries.specs.Counted.{first_counts}
use Rattle.report_entries.specs.ReadSoFar.{ReadSoFar}
use Rattle.report_entries.specs.Report.{goes_on, told_of, with_entry}

-- the first line was read, and the rest tells the trace
pub record HasBegun (text : List ℕ) (reader : ReadSoFar) : Type 0 where
  pub tally : reader.tally ≡ first_counts
  pub ready : reader.waits ≡ []
  pub fewer : length reader.rest ≤ length text
  pub tells : (plan : Plan) → told_of plan text ≡ goes_on (length reader.rest) plan reader.tally reader.rest

-- a report is begun
abbrev pub Begins : List ℕ → Result ReadSoFar ReportFault → Type 0
Begins text (Ok reader) = HasBegun text reader
Begins text (Err (Form line)) = (plan : Plan) → told_of plan text ≡ Err line
Begins text (Err NoMemory) = Unit {0}

-- One line more, of any number that may be left: it tells an entry, and the rest those behind it; it was a right last one; or it
-- breaks the form.
abbrev pub ReportGoesOn : Plan → ReadSoFar → ReadSoFar → Result (Option Entry) ReportFault → Type 0
ReportGoesOn plan old new (Ok (Some entry)) = (most : ℕ) → goes_on (suc most) plan old.tally old.rest ≡ with_entry entry (goes_on most plan new.tally new.rest)
ReportGoesOn plan old new (Ok None) = (most : ℕ) → goes_on (suc most) plan old.tally old.rest ≡ Ok []
ReportGoesOn plan old new (Err (Form line)) = (most : ℕ) → goes_on (suc most) plan old.tally old.rest ≡ Err line
ReportGoesOn plan old new (Err NoMemory) = Unit {0}
