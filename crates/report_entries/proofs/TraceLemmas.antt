-- A report that was read tells a trace.
use Rattle.std.proofs.Common.{◌≡◌, ◌+◌, ◌++◌, ◌∙◌, ℕ, zero, suc, codes, Bool, true, false, List, [], ◌∷◌, Option, Some, None, Result, Ok, Err, IfOk, cond, length, nat_eq, refl, sym, ap, append_assoc}
use Rattle.std.proofs.lemmas.Result.{IfOk-at_ok}
use Rattle.std.proofs.lemmas.Bool.{eqb-true}
use Rattle.std.proofs.lemmas.Slice.Eq.{bytes_eq-Decides}
use Rattle.std.specs.Str.{bytes_eq}
use Rattle.net_values.proofs.RowLemmas.{empty_of_test}
use Rattle.net_base.specs.declared.plan.Plan.{Plan}
use Rattle.net_base.specs.declared.trace.entry.Entry.{Entry}
use Rattle.report_text.specs.Report.{entry_line, entry_lines}
use Rattle.report_entries.specs.declared.tally.Tally.{Tally}
use Rattle.octet_text.specs.Cut.{before_mark, behind_mark}
use Rattle.report_entries.specs.Entries.{line_entry}
use Rattle.report_entries.specs.Counted.{tallied, first_counts}
use Rattle.report_entries.specs.Laws.{TellsTrace, TracesAreTold, counted_all}
use Rattle.report_entries.specs.Report.{found_on_line, goes_on, begins_report, ends_report, told_of, with_entry, ◌>>=◌}
use Rattle.report_entries.proofs.ReadLemmas.{reads_line}

pub cut_joined : (mark : ℕ) (text more : List ℕ) → behind_mark mark text ≡ Some more → text ≡ before_mark mark text ++ mark ∷ more
cut_joined mark [] more is = absurd (cc is)
cut_joined mark (c ∷ cs) more is = by (nat_eq c mark) refl is (cut_joined mark cs more) where
  by : (b : Bool) → nat_eq c mark ≡ b → cond b (Some cs) (behind_mark mark cs) ≡ Some more → (behind_mark mark cs ≡ Some more → cs ≡ before_mark mark cs ++ mark ∷ more) → c ∷ cs
      ≡ cond b [] (c ∷ before_mark mark cs) ++ mark ∷ more
  by true same at rest =
      let whole : cs ≡ more = cc at in
      ap (λ (n : ℕ). n ∷ cs) (eqb-true c mark same) ∙ ap (λ (l : List ℕ). mark ∷ l) whole
  by false other at rest = ap (λ (l : List ℕ). c ∷ l) (rest at)

-- the lines of entries, and a right last line behind them
record IsReadOn (plan : Plan) (tally : Tally) (text : List ℕ) (trace : List Entry) : Type 0 where
  line : List ℕ
  is : text ≡ entry_lines plan trace ++ (line ++ codes "\n")
  right : ends_report (counted_all tally trace) line ≡ true

one_more : (plan : Plan) (tally : Tally) (text more : List ℕ) (entry : Entry) (trace : List Entry) → behind_mark 10 text ≡ Some more → line_entry plan (before_mark 10 text)
    ≡ Some entry → IsReadOn plan (tallied entry tally) more trace → IsReadOn plan tally text (entry ∷ trace)
one_more plan tally text more entry trace cut reads rest = record {
  line = rest.line;
  is = cut_joined 10 text more cut
      ∙ (sym (append_assoc (before_mark 10 text) (codes "\n") more)
      ∙ (ap (λ (l : List ℕ). l ++ more) (sym (reads_line plan entry (before_mark 10 text) reads))
      ∙ (ap (λ (l : List ℕ). entry_line plan entry ++ l) rest.is ∙ sym (append_assoc (entry_line plan entry) (entry_lines plan trace) (rest.line ++ codes "\n")))));
  right = rest.right;
}

goes_read : (most : ℕ) (plan : Plan) (tally : Tally) (text : List ℕ) → IfOk (goes_on most plan tally text) (IsReadOn plan tally text)
goes_read zero plan tally text = tt
goes_read (suc most) plan tally text = behind (behind_mark 10 text) refl (λ more entry. goes_read most plan (tallied entry tally) more) where
  none_left : (more : List ℕ) → behind_mark 10 text ≡ Some more → ends_report tally (before_mark 10 text) ≡ true → (b : Bool) → nat_eq (length more) 0 ≡ b
      → IfOk (cond b (Ok []) (Err (tally.lines + 2))) (IsReadOn plan tally text)
  none_left more cut right true none = record {
    line = before_mark 10 text;
    is = cut_joined 10 text more cut ∙ ap (λ (l : List ℕ). before_mark 10 text ++ 10 ∷ l) (empty_of_test more none);
    right = right;
  }
  none_left more cut right false some = tt

  rest_by : (more : List ℕ) (entry : Entry) → behind_mark 10 text ≡ Some more → line_entry plan (before_mark 10 text) ≡ Some entry → (r : Result (List Entry) ℕ)
      → IfOk r (IsReadOn plan (tallied entry tally) more) → IfOk (with_entry entry r) (IsReadOn plan tally text)
  rest_by more entry cut reads (Ok es) rest = one_more plan tally text more entry es cut reads rest
  rest_by more entry cut reads (Err line) rest = tt

  entry_by : (more : List ℕ) → behind_mark 10 text ≡ Some more → ((entry : Entry) → IfOk (goes_on most plan (tallied entry tally) more) (IsReadOn plan (tallied entry tally) more))
      → (o : Option Entry) → line_entry plan (before_mark 10 text) ≡ o
      → IfOk (found_on_line (tally.lines + 1) o >>= (λ entry. with_entry entry (goes_on most plan (tallied entry tally) more))) (IsReadOn plan tally text)
  entry_by more cut rest None reads = tt
  entry_by more cut rest (Some entry) reads = rest_by more entry cut reads (goes_on most plan (tallied entry tally) more) (rest entry)

  last_by : (more : List ℕ) → behind_mark 10 text ≡ Some more → ((entry : Entry) → IfOk (goes_on most plan (tallied entry tally) more) (IsReadOn plan (tallied entry tally) more))
      → (b : Bool) → ends_report tally (before_mark 10 text) ≡ b
      → IfOk (cond b (cond (nat_eq (length more) 0) (Ok []) (Err (tally.lines + 2)))
      (found_on_line (tally.lines + 1) (line_entry plan (before_mark 10 text)) >>= (λ entry. with_entry entry (goes_on most plan (tallied entry tally) more)))) (IsReadOn plan tally text)
  last_by more cut rest true right = none_left more cut right (nat_eq (length more) 0) refl
  last_by more cut rest false other = entry_by more cut rest (line_entry plan (before_mark 10 text)) refl

  behind : (o : Option (List ℕ)) → behind_mark 10 text ≡ o
      → ((more : List ℕ) (entry : Entry) → IfOk (goes_on most plan (tallied entry tally) more) (IsReadOn plan (tallied entry tally) more))
      → IfOk (found_on_line (tally.lines + 1) o >>= (λ more. cond (ends_report tally (before_mark 10 text)) (cond (nat_eq (length more) 0) (Ok []) (Err (tally.lines + 2)))
      (found_on_line (tally.lines + 1) (line_entry plan (before_mark 10 text)) >>= (λ entry. with_entry entry (goes_on most plan (tallied entry tally) more))))) (IsReadOn plan tally text)
  behind None cut rest = tt
  behind (Some more) cut rest = last_by more cut (rest more) (ends_report tally (before_mark 10 text)) refl

pub read_tells : TracesAreTold
unfolding told_of
read_tells plan text trace is = IfOk-at_ok (TellsTrace plan text) is (behind (behind_mark 10 text) refl) where
  rest_by : (more : List ℕ) → behind_mark 10 text ≡ Some more → bytes_eq (before_mark 10 text) (codes "vplsnet 1") ≡ true → (r : Result (List Entry) ℕ) → IfOk r (IsReadOn plan first_counts more) → IfOk r (TellsTrace plan text)
  rest_by more cut first (Err line) rest = tt
  rest_by more cut first (Ok es) rest = record {
    line = rest.line;
    is = cut_joined 10 text more cut ∙ (ap (λ (l : List ℕ). l ++ 10 ∷ more) ((bytes_eq-Decides (before_mark 10 text) (codes "vplsnet 1")).0 first)
        ∙ (ap (λ (l : List ℕ). codes "vplsnet 1\n" ++ l) rest.is ∙ sym (append_assoc (codes "vplsnet 1\n") (entry_lines plan es) (rest.line ++ codes "\n"))));
    right = rest.right;
  }

  first_by : (more : List ℕ) → behind_mark 10 text ≡ Some more → (b : Bool) → begins_report (before_mark 10 text) ≡ b
      → IfOk (cond b (goes_on (length more) plan first_counts more) (Err 1)) (TellsTrace plan text)
  first_by more cut true first = rest_by more cut first (goes_on (length more) plan first_counts more) (goes_read (length more) plan first_counts more)
  first_by more cut false other = tt

  behind : (o : Option (List ℕ)) → behind_mark 10 text ≡ o
      → IfOk (found_on_line 1 o >>= (λ more. cond (begins_report (before_mark 10 text)) (goes_on (length more) plan first_counts more) (Err 1))) (TellsTrace plan text)
  behind None cut = tt
  behind (Some more) cut = first_by more cut (begins_report (before_mark 10 text)) refl
