-- The report of a trace tells this trace.
use Rattle.std.proofs.Common.{◌≡◌, ◌<◌, ◌≤◌, ◌^◌, ◌++◌, ◌&&◌, ◌∙◌, ℕ, codes, Bool, true, false, List, [], ◌∷◌, length, Some, None, Result, Ok, Err, cond, nat_le, refl, sym, ap, arith}
use Rattle.std.proofs.lemmas.List.Folds.{list_all-append}
use Rattle.std.proofs.lemmas.Slice.Eq.{bytes_eq-Decides}
use Rattle.std.specs.Fmt.{decimal}
use Rattle.std.specs.List.{list_all}
use Rattle.net_base.specs.declared.trace.entry.Entry.{Entry}
use Rattle.plan_names.specs.Decimal.{is_decimal, value_from}
use Rattle.plan_names.proofs.DecimalLemmas.{number_said}
use Rattle.script_text.specs.Script.{is_graphic, spaced_words}
use Rattle.text_lines.specs.Lines.{line_of}
use Rattle.event_rows.specs.Rows.{IsToldNumber}
use Rattle.event_laws.proofs.ValueLemmas.{AreGraphic, IsGraphic, decimal_graphic}
use Rattle.report_text.specs.declared.ending.Ending.{Ending}
use Rattle.report_text.specs.declared.ending.Ending.TheVariants.{End, Crowded, TooMuch}
use Rattle.report_text.specs.declared.counts.Counts.{Counts}
use Rattle.report_text.specs.Counted.{AreWithin, counts_behind, no_counts}
use Rattle.report_text.specs.Report.{counts_told, entry_lines, last_words, report, told_words}
use Rattle.report_text.specs.Read.{IsEnding}
use Rattle.report_text.proofs.CountLemmas.{counts_within}
use Rattle.report_entries.specs.declared.tally.Tally.{Tally}
use Rattle.report_entries.specs.Counted.{tallied, first_counts}
use Rattle.report_entries.specs.Laws.{ReportsAreTold, ReportsAreToldApart, counted_all}
use Rattle.report_entries.specs.Report.{ends_report, is_last_of, tally_line, told_of}
use Rattle.report_entries.proofs.CutLemmas.{IsLineOf, line_of_words}
use Rattle.report_entries.proofs.ReportFoundLemmas.{report_read}

-- ---- counts

counts_told_of : (tally : Tally) (trace : List Entry) → (counted_all tally trace).counts ≡ counts_behind tally.counts trace
counts_told_of tally [] = refl
counts_told_of tally (x ∷ xs) = counts_told_of (tallied x tally) xs

-- ---- the last line

is_number : (n : ℕ) → IsToldNumber n → is_decimal (decimal n) ≡ true
is_number n is = by (is_decimal (decimal n)) (nat_le 0 (value_from 0 (decimal n)) && nat_le (value_from 0 (decimal n)) 18446744073709551615) refl (number_said 0 18446744073709551615 n (omega arith) (omega (arith, is)) is) where
  by : (a b : Bool) → is_decimal (decimal n) ≡ a → cond (is_decimal (decimal n) && b) (Some (value_from 0 (decimal n))) None ≡ Some n → is_decimal (decimal n) ≡ true
  by true b first said = first
  by false b first said = absurd (cc (sym (ap (λ (c : Bool). cond (c && b) (Some (value_from 0 (decimal n))) None) first) ∙ said))

abbrev tally_of : Tally → List (List ℕ)
tally_of tally = codes "end" ∷ counts_told tally.counts

counts_same : (trace : List Entry) → tally_of (counted_all first_counts trace) ≡ told_words trace
counts_same trace = ap (λ (counts : Counts). codes "end" ∷ counts_told counts) (counts_told_of first_counts trace)

right_words : (trace : List Entry) (ending : Ending) (line : List ℕ) → IsEnding ending → line_of (last_words trace ending) ≡ line ++ codes "\n" → is_last_of (counted_all first_counts trace) line (last_words trace ending) ≡ true
right_words trace End line ends same = (bytes_eq-Decides (tally_line (counted_all first_counts trace)) (line ++ codes "\n")).1 (ap line_of (counts_same trace) ∙ same)
right_words trace (Crowded count) line ends same = is_number count ends
right_words trace (TooMuch weight) line ends same = is_number weight ends

few_last : (trace : List Entry) (ending : Ending) → (0 < length (last_words trace ending)) × (length (last_words trace ending) ≤ 10)
few_last trace End = (omega arith, omega arith)
few_last trace (Crowded count) = (omega arith, omega arith)
few_last trace (TooMuch weight) = (omega arith, omega arith)

counted_graphic : (label : List ℕ) (count most : ℕ) → list_all is_graphic label ≡ true → count ≤ most → most < 2 ^ 64 → IsGraphic (label ++ decimal count)
counted_graphic label count most graphic within few =
    list_all-append is_graphic label (decimal count) ∙ (ap (λ (b : Bool). b && list_all is_graphic (decimal count)) graphic ∙ decimal_graphic count (omega (arith, within, few)))

last_graphic : (trace : List Entry) (ending : Ending) → length trace < 2 ^ 64 → IsEnding ending → AreGraphic (last_words trace ending)
last_graphic trace End few is =
    let counts : Counts = counts_behind no_counts trace in
    let within : AreWithin (length trace) counts = counts_within trace in (
      refl,
      (
        counted_graphic (codes "events=") counts.events (length trace) refl within.events few,
        (
          counted_graphic (codes "in=") counts.entered (length trace) refl within.entered few,
          (
            counted_graphic (codes "left=") counts.left (length trace) refl within.left few,
            (counted_graphic (codes "sent=") counts.sent (length trace) refl within.sent few, (counted_graphic (codes "dropped=") counts.dropped (length trace) refl within.dropped few, tt)),
          ),
        ),
      ),
    )
last_graphic trace (Crowded count) few is = (refl, (refl, (decimal_graphic count is, tt)))
last_graphic trace (TooMuch weight) few is = (refl, (refl, (decimal_graphic weight is, tt)))

last_line_of : (trace : List Entry) (ending : Ending) → length trace < 2 ^ 64 → IsEnding ending → IsLineOf (last_words trace ending) (spaced_words (last_words trace ending))
last_line_of trace ending few ends = line_of_words (last_words trace ending) (few_last trace ending).0 (few_last trace ending).1 (last_graphic trace ending few ends)

-- the report of a trace tells it
pub report_told : ReportsAreTold
unfolding report ends_report
report_told plan text trace checked names is =
    let words : List (List ℕ) = last_words trace is.ending in
    let last : IsLineOf words (spaced_words words) = last_line_of trace is.ending is.reported.few is.reported.ends in
    let right : ends_report (counted_all first_counts trace) (spaced_words words) ≡ true =
    ap (is_last_of (counted_all first_counts trace) (spaced_words words)) last.cut ∙ right_words trace is.ending (spaced_words words) is.reported.ends last.is in
    ap (told_of plan) (sym is.is ∙ ap (λ (l : List ℕ). (codes "vplsnet 1\n" ++ entry_lines plan trace) ++ l) last.is) ∙ report_read plan trace (spaced_words words) checked names is.reported.named last.free right

entries_of : Result (List Entry) ℕ → List Entry
entries_of (Ok entries) = entries
entries_of (Err line) = []

-- a text is the report of one trace at most, since it tells it
pub told_apart : ReportsAreToldApart
unfolding entries_of
told_apart plan text a b checked names first next = ap entries_of (sym (report_told plan text a checked names first) ∙ report_told plan text b checked names next)
