use Rattle.survey_text.proofs.survey.Survey.visit_more.Given as goal

abbrev pub ghost-visit_twos : goal.ghost-visit_twos
ghost-visit_twos g a = g.before

abbrev pub ghost-visit_threes : goal.ghost-visit_threes
ghost-visit_threes g a = g.before
