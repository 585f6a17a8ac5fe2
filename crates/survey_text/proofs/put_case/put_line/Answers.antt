-- The numbers and the faults are those of the case.
use Rattle.std.proofs.Common.{◌++◌, ℕ, List}
use Rattle.std.specs.Prelude.{codes}
use Rattle.std.specs.Fmt.{decimal}
use Rattle.survey_text.specs.Text.{case_end, count_head}
use Rattle.std.proofs.lemmas.Result.{err_from_is_err_and}
use Rattle.text_lines.proofs.WrittenLemmas.{cut_first, cut_later, puts_two}
use Rattle.survey_text.proofs.TextLemmas.{case_line_is, puts_same}
use Rattle.survey_text.proofs.put_case.put_line.Goals as goal

pub returns-in_err-put_count : goal.returns-in_err-put_count
returns-in_err-put_count g c =
    let p = err_from_is_err_and c.from_residual.result c.from_residual.ensures.1 in
    let worked = c.args.worked in
    let head : List ℕ = count_head (codes "case") worked.lost in
    let found : List ℕ = codes " " ++ decimal c.count_found-found.result in
    puts_same _ _ _ _ _ (case_line_is g.case worked c.count_found-found.result c.requires.1 c.count_found-found.ensures)
    (rw p.1 (cut_first _ _ head (found ++ case_end worked.over.plan.now worked.faults.now) c.in_err-put_count.ensures))

pub returns-in_err-put_next : goal.returns-in_err-put_next
returns-in_err-put_next g c =
    let p = err_from_is_err_and c.from_residual-in_err-put_next.result c.from_residual-in_err-put_next.ensures.1 in
    let worked = c.args.worked in
    let head : List ℕ = count_head (codes "case") worked.lost in
    let found : List ℕ = codes " " ++ decimal c.count_found-found.result in
    puts_same _ _ _ _ _ (case_line_is g.case worked c.count_found-found.result c.requires.1 c.count_found-found.ensures)
    (rw p.1 (cut_later _ _ _ head _ c.in_ok-put_count.ensures (cut_first _ _ found (case_end worked.over.plan.now worked.faults.now) c.in_err-put_next.ensures)))

pub returns : goal.returns
returns g c =
    let worked = c.args.worked in
    let head : List ℕ = count_head (codes "case") worked.lost in
    let found : List ℕ = codes " " ++ decimal c.count_found-found.result in
    puts_same _ _ _ _ _ (case_line_is g.case worked c.count_found-found.result c.requires.1 c.count_found-found.ensures)
    (puts_two _ _ _ _ head (found ++ case_end worked.over.plan.now worked.faults.now) c.in_ok-put_count.ensures
    (puts_two _ _ _ _ found (case_end worked.over.plan.now worked.faults.now) c.in_ok-put_next.ensures c.put_case_words.ensures))
