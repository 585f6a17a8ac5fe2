use Rattle.survey_text.specs.Surveys.{tallied}
use Rattle.survey_text.specs.Text.{end_line, worst_line}
use Rattle.text_lines.proofs.WrittenLemmas.{cut_first, puts_two}
use Rattle.survey_text.proofs.tally.Tally.put.Goals as goal

pub returns-in-Ok : goal.returns-in-Ok
returns-in-Ok g c = puts_two _ _ _ _ (worst_line c.args.plan.now (tallied c.args.self.now)) (end_line c.args.faults (tallied c.args.self.now)) c.in-Ok.ensures c.put_end.ensures

pub returns-in-Err : goal.returns-in-Err
returns-in-Err g c = cut_first _ _ (worst_line c.args.plan.now (tallied c.args.self.now)) (end_line c.args.faults (tallied c.args.self.now)) c.in-Err.ensures
