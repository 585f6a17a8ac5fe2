use Rattle.survey_text.proofs.survey.Survey.put.Given as goal

abbrev pub ghost-put_ground : goal.ghost-put_ground
ghost-put_ground g a = g.before

abbrev pub ghost-put_cases : goal.ghost-put_cases
ghost-put_cases g a = g.before
