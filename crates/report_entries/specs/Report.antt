-- The lines of a report, read one by one.
use Rattle.std.specs.Prelude.{◌==◌, ◌&&◌, ◌||◌, ◌+◌, ◌++◌, codes, ℕ, zero, suc, Bool, false, List, [], ◌∷◌, length, Option, Some, None, Result, Ok, Err, if◌then◌else◌}
use Rattle.std.specs.Str.{bytes_eq}
use Rattle.net_base.specs.declared.plan.Plan.{Plan}
use Rattle.net_base.specs.declared.trace.entry.Entry.{Entry}
use Rattle.plan_names.specs.Decimal.{is_decimal}
use Rattle.report_text.specs.Report.{counts_told}
use Rattle.text_lines.specs.Lines.{line_of}
use Rattle.octet_text.specs.Cut.{before_mark, behind_mark}
use Rattle.report_entries.specs.Reading.{line_words}
use Rattle.script_text.specs.Script.{line_feed}
use Rattle.report_entries.specs.Entries.{line_entry}
use Rattle.report_entries.specs.declared.tally.Tally.{Tally}
use Rattle.report_entries.specs.Counted.{tallied, first_counts}

infixl 10 ◌>>=◌
abbrev pub ◌>>=◌ : {A B : Type 0} → Result A ℕ → (A → Result B ℕ) → Result B ℕ
(Ok x) >>= f = f x
(Err line) >>= f = Err line

-- what was found, and else the number of the line
abbrev pub found_on_line : {A : Type 0} → ℕ → Option A → Result A ℕ
found_on_line line None = Err line
found_on_line line (Some x) = Ok x

-- ---- the last line

-- the line of these counts
abbrev pub tally_line : Tally → List ℕ
tally_line tally = line_of (codes "end" ∷ counts_told tally.counts)

-- a bound at which a run stopped, at any number
abbrev pub is_stop : List (List ℕ) → Bool
is_stop (bound ∷ number ∷ []) = (bytes_eq bound (codes "Crowded") || bytes_eq bound (codes "TooMuch")) && is_decimal number
is_stop words = false

-- it tells the right counts, or a bound at which the run stopped
abbrev pub is_last_of : Tally → List ℕ → List (List ℕ) → Bool
is_last_of tally line [] = false
is_last_of tally line (kind ∷ words) = if bytes_eq kind (codes "end") then bytes_eq (tally_line tally) (line ++ codes "\n") else bytes_eq kind (codes "stop") && is_stop words

-- a line is the last one of a report with these counts
unfoldable pub ends_report : Tally → List ℕ → Bool
ends_report tally line = is_last_of tally line (line_words line)

-- ---- all lines

-- an entry in front of those that are told behind it
abbrev pub with_entry : Entry → Result (List Entry) ℕ → Result (List Entry) ℕ
with_entry entry told = told >>= (λ entries. Ok (entry ∷ entries))

-- the entries that the next lines tell, or the first line that breaks the form: lines of entries, of which there are no more than
-- octets, and behind them a right last line with nothing behind it
abbrev pub goes_on : ℕ → Plan → Tally → List ℕ → Result (List Entry) ℕ
goes_on zero plan tally text = Err (tally.lines + 1)
goes_on (suc most) plan tally text = found_on_line (tally.lines + 1) (behind_mark line_feed text) >>= (λ more.
    if ends_report tally (before_mark line_feed text) then (if length more == 0 then Ok [] else Err (tally.lines + 2))
    else found_on_line (tally.lines + 1) (line_entry plan (before_mark line_feed text)) >>= (λ entry. with_entry entry (goes_on most plan (tallied entry tally) more)))

-- the first line names the format
abbrev pub begins_report : List ℕ → Bool
begins_report line = bytes_eq line (codes "vplsnet 1")

-- the trace that a report tells, or the first line that breaks the form of a report
unfoldable pub told_of : Plan → List ℕ → Result (List Entry) ℕ
told_of plan text = found_on_line 1 (behind_mark line_feed text) >>= (λ more. if begins_report (before_mark line_feed text) then goes_on (length more) plan first_counts more else Err 1)
