use Rattle.survey_text.specs.Text.{fault_words, later_words}
use Rattle.text_pieces.specs.Pieces.{spaced}
use Rattle.text_lines.proofs.WrittenLemmas.{cut_first, puts_two}
use Rattle.survey_text.proofs.case_words.put_some.Goals as goal

pub returns-in-Ok : goal.returns-in-Ok
returns-in-Ok g c = puts_two _ _ _ _ (spaced (fault_words c.args.plan.now c.args.first)) (spaced (later_words c.args.plan.now c.args.later.now)) c.in-Ok.ensures c.put_later.ensures

pub returns-in-Err : goal.returns-in-Err
returns-in-Err g c = cut_first _ _ (spaced (fault_words c.args.plan.now c.args.first)) (spaced (later_words c.args.plan.now c.args.later.now)) c.in-Err.ensures
