use Rattle.std.specs.Prelude.{codes}
use Rattle.survey_text.specs.Text.{fault_words}
use Rattle.text_pieces.specs.Pieces.{spaced}
use Rattle.text_lines.proofs.WrittenLemmas.{cut_first, puts_two}
use Rattle.survey_text.proofs.case_words.put_plus.Goals as goal

pub returns-in-Ok : goal.returns-in-Ok
returns-in-Ok g c = puts_two _ _ _ _ (codes " +") (spaced (fault_words c.args.plan.now c.args.fault)) c.in-Ok.ensures c.put_event.ensures

pub returns-in-Err : goal.returns-in-Err
returns-in-Err g c = cut_first _ _ (codes " +") (spaced (fault_words c.args.plan.now c.args.fault)) c.in-Err.ensures
