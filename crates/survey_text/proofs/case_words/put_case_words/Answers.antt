use Rattle.std.specs.Prelude.{codes}
use Rattle.survey_text.specs.Text.{case_words}
use Rattle.text_pieces.specs.Pieces.{spaced}
use Rattle.text_lines.proofs.WrittenLemmas.{cut_first, puts_two}
use Rattle.survey_text.proofs.case_words.put_case_words.Goals as goal

pub returns-in-Ok : goal.returns-in-Ok
returns-in-Ok g c = puts_two _ _ _ _ (spaced (case_words c.args.plan.now c.args.faults.now)) (codes "\n") c.in-Ok.ensures c.put_end.ensures

pub returns-in-Err : goal.returns-in-Err
returns-in-Err g c = cut_first _ _ (spaced (case_words c.args.plan.now c.args.faults.now)) (codes "\n") c.in-Err.ensures
