use Rattle.survey_text.proofs.survey.Survey.put_cases.Given as goal

abbrev pub ghost-visit_all : goal.ghost-visit_all
ghost-visit_all g a = g.before
