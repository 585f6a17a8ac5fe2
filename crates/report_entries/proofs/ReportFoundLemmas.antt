-- The report of a trace is read.
use Rattle.std.proofs.Common.{◌≡◌, ◌<◌, ◌≤◌, ◌+◌, ◌++◌, ◌∙◌, ℕ, zero, suc, codes, true, false, List, [], ◌∷◌, Ok, length, refl, ap, arith, append_assoc, length-append}
use Rattle.std.specs.List.{AllByRecursion}
use Rattle.net_base.specs.declared.plan.Plan.{Plan}
use Rattle.net_base.specs.declared.trace.entry.Entry.{Entry}
use Rattle.net_base.specs.declared.trace.entry.Entry.TheVariants as entry
use Rattle.report_text.specs.Report.{entry_line, entry_lines, entry_words}
use Rattle.plan_names.specs.Planned.{HasNames}
use Rattle.report_text.specs.Named.{HasNamesApart, IsEntryNamed}
use Rattle.report_entries.proofs.ApartLemmas.{names_apart}
use Rattle.script_text.specs.Script.{spaced_words}
use Rattle.report_entries.specs.declared.tally.Tally.{Tally}
use Rattle.report_entries.specs.Reading.{line_words}
use Rattle.report_entries.specs.Counted.{tallied, first_counts}
use Rattle.report_entries.specs.Laws.{IsFreeOf, ReportsAreRead, counted_all}
use Rattle.report_entries.specs.Report.{goes_on, ends_report, is_last_of, told_of, with_entry}
use Rattle.report_entries.proofs.CutLemmas.{IsLineOf, before_one, behind_one}
use Rattle.report_entries.proofs.FoundLemmas.{has_line, line_found}

-- no entry has the first word of a last line
not_last : (plan : Plan) (tally : Tally) (line : List ℕ) (x : Entry) → is_last_of tally line (entry_words plan x) ≡ false
not_last plan tally line (entry.Did event) = refl
not_last plan tally line entry.Idle = refl
not_last plan tally line (entry.Said from to octets) = refl
not_last plan tally line (entry.In circuit number octets) = refl
not_last plan tally line (entry.Sent from to wire came packet origin hops octets) = refl
not_last plan tally line (entry.Copied packet of) = refl
not_last plan tally line (entry.Aged packet) = refl
not_last plan tally line (entry.Left circuit origin hops octets) = refl
not_last plan tally line (entry.Dropped edge origin cause) = refl
not_last plan tally line (entry.Session edge peer name) = refl
not_last plan tally line (entry.Wire edge wire down) = refl
not_last plan tally line (entry.Pong edge wire sequence) = refl

is_none : (plan : Plan) (line : List ℕ) (x : Entry) → line_words line ≡ entry_words plan x → (tally : Tally) → ends_report tally line ≡ false
unfolding ends_report
is_none plan line x words tally = ap (is_last_of tally line) words ∙ not_last plan tally line x

module _ (plan : Plan) (names : HasNames plan) (apart : HasNamesApart plan) where
  many_lines : (trace : List Entry) (rest : List ℕ) → AllByRecursion (IsEntryNamed plan) trace → length trace + length rest ≤ length (entry_lines plan trace ++ rest)
  many_lines [] rest named = omega arith
  many_lines (x ∷ xs) rest named =
      let line : List ℕ = spaced_words (entry_words plan x) in
      let own : IsLineOf (entry_words plan x) line = has_line plan names apart x named.0 in
      let more = many_lines xs rest named.1 in
      omega (arith, more, length-append (entry_lines plan xs) rest, length-append (entry_lines plan (x ∷ xs)) rest, length-append (entry_line plan x) (entry_lines plan xs), ap length own.is, length-append line (codes "\n"))

  lines_read : (trace : List Entry) (most : ℕ) (tally : Tally) (last : List ℕ) → AllByRecursion (IsEntryNamed plan) trace → length trace < most → IsFreeOf 10 last
      → ends_report (counted_all tally trace) last ≡ true
      → goes_on most plan tally (entry_lines plan trace ++ (last ++ codes "\n")) ≡ Ok trace
  lines_read trace zero tally last named few free right = absurd (omega (arith, few))
  lines_read [] (suc most) tally last named few free right = rw (behind_one 10 last [] free, before_one 10 last [] free, right) refl
  lines_read (x ∷ xs) (suc most) tally last named few free right =
      let line : List ℕ = spaced_words (entry_words plan x) in
      let own : IsLineOf (entry_words plan x) line = has_line plan names apart x named.0 in
      let rest : List ℕ = entry_lines plan xs ++ (last ++ codes "\n") in
      let text : entry_lines plan (x ∷ xs) ++ (last ++ codes "\n") ≡ line ++ 10 ∷ rest =
      append_assoc (entry_line plan x) (entry_lines plan xs) (last ++ codes "\n") ∙ (ap (λ (l : List ℕ). l ++ rest) own.is ∙ append_assoc line (codes "\n") rest) in
      ap (goes_on (suc most) plan tally) text
      ∙ rw (behind_one 10 line rest own.free, before_one 10 line rest own.free, is_none plan line x own.cut tally, line_found plan names apart x named.0 line own.is)
      (ap (with_entry x) (lines_read xs most (tallied x tally) last named.1 (omega (arith, few)) free right))

pub report_read : ReportsAreRead
unfolding told_of
report_read plan trace last checked names named free right =
    let rest : List ℕ = entry_lines plan trace ++ (last ++ codes "\n") in
    let many = many_lines plan names (names_apart plan checked names) trace (last ++ codes "\n") named in
    ap (told_of plan) (append_assoc (codes "vplsnet 1\n") (entry_lines plan trace) (last ++ codes "\n"))
    ∙ lines_read plan names (names_apart plan checked names) trace (length rest) first_counts last named (omega (arith, many, length-append last (codes "\n"))) free right
