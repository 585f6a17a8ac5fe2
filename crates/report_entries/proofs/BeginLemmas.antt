-- A report whose first line names the format is begun.
use denote.Ref.{Bor}
use Rattle.std.proofs.Common.{◌≡◌, ◌∙◌, ℕ, codes, true, List, [], ◌∷◌, length, Option, Some, option_map, sym, ap, arith, length-append}
use Rattle.std.specs.Str.{bytes_eq}
use Rattle.report_entries.specs.declared.tally.Tally.{Tally}
use Rattle.report_entries.specs.Answers.{HasBegun}
use Rattle.report_entries.specs.Counted.{first_counts}
use Rattle.octet_text.specs.Cut.{before_mark, behind_mark}
use Rattle.report_entries.specs.Report.{goes_on, told_of}
use Rattle.report_entries.proofs.TraceLemmas.{cut_joined}

pub has_begun : (text : List ℕ) (front rest : Bor (List ℕ)) (behind : Option (Bor (List ℕ))) (tally : Tally) (page : List ℕ) → front.now ≡ before_mark 10 text
    → option_map (λ r. r.now) behind ≡ behind_mark 10 text → behind ≡ Some rest
    → bytes_eq front.now (codes "vplsnet 1") ≡ true → tally ≡ first_counts → page ≡ [] → HasBegun text (record { tally = tally; rest = rest.now; waits = page })
unfolding told_of
has_begun text front rest behind tally page before back found first counts none =
    let cut : behind_mark 10 text ≡ Some rest.now = sym back ∙ ap (λ (o : Option (Bor (List ℕ))). option_map (λ r. r.now) o) found in
    let names : bytes_eq (before_mark 10 text) (codes "vplsnet 1") ≡ true = ap (λ (l : List ℕ). bytes_eq l (codes "vplsnet 1")) (sym before) ∙ first in
    record {
      tally = counts;
      ready = none;
      fewer = omega (arith, ap length (cut_joined 10 text rest.now cut), length-append (before_mark 10 text) (10 ∷ rest.now));
      tells = λ plan. rw (cut, names) (ap (λ (t : Tally). goes_on (length rest.now) plan t rest.now) (sym counts));
    }
