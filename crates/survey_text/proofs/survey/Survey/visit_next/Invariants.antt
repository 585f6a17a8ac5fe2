use Rattle.survey_text.proofs.survey.Survey.visit_next.Given as goal

abbrev pub ghost-visit : goal.ghost-visit
ghost-visit g a = g.before

abbrev pub ghost-keep : goal.ghost-keep
ghost-keep g a = g.before
