-- The case is told.
use Rattle.std.proofs.Common.{rules}
use Rattle.survey_text.specs.Text.{case_line, change_texts}
use Rattle.text_lines.proofs.WrittenLemmas.{cut_first, puts_two}
use Rattle.survey_text.proofs.TextLemmas.{case_told, cut_same, puts_same}
use Rattle.survey_text.proofs.put_case.put_case.Goals as goal

pub returns-in-Ok : goal.returns-in-Ok
returns-in-Ok g c =
    let worked = c.args.worked in
    puts_same _ _ _ _ _ (case_told g.case worked c.requires.1 (search rules))
    (puts_two _ _ _ _ (case_line worked.over.plan.now g.case.before g.case.faults) (change_texts worked.over.plan.now g.case.before g.case.faults 0 worked.over.plan.now.services) c.in-Ok.ensures
    c.put_changes.ensures)

pub returns-in-Err : goal.returns-in-Err
returns-in-Err g c =
    let worked = c.args.worked in
    cut_same _ _ _ _ (case_told g.case worked c.requires.1 (search rules))
    (cut_first _ _ (case_line worked.over.plan.now g.case.before g.case.faults) (change_texts worked.over.plan.now g.case.before g.case.faults 0 worked.over.plan.now.services) c.in-Err.ensures)
