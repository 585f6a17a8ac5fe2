-- The cases stand behind the ground.
use Rattle.survey_text.proofs.VisitLemmas.{survey_cut, surveyed}
use Rattle.survey_text.proofs.survey.Survey.put.Goals as goal

pub returns-in-Ok : goal.returns-in-Ok
returns-in-Ok g c =
    surveyed c.args.over.plan.now g.before c.args.most c.put_cases.result _ _ _ c.args.self.now.known.faults c.requires.1.1.known.faults c.in-Ok.ensures c.put_cases.ensures

pub returns-in-Err : goal.returns-in-Err
returns-in-Err g c = survey_cut c.args.over.plan.now g.before c.args.most _ _ c.in-Err.ensures
