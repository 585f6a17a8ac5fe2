use Rattle.std.specs.Prelude.{codes}
use Rattle.survey_text.specs.Text.{case_end, count_head}
use Rattle.text_lines.proofs.WrittenLemmas.{cut_first, puts_two}
use Rattle.survey_text.proofs.tally.put_worst_line.Goals as goal

pub returns-in-Ok : goal.returns-in-Ok
returns-in-Ok g c = puts_two _ _ _ _ (count_head (codes "worst") c.args.lost) (case_end c.args.plan.now c.args.faults.now) c.in-Ok.ensures c.put_case_words.ensures

pub returns-in-Err : goal.returns-in-Err
returns-in-Err g c = cut_first _ _ (count_head (codes "worst") c.args.lost) (case_end c.args.plan.now c.args.faults.now) c.in-Err.ensures
