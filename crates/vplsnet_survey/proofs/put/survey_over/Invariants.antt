use Rattle.vplsnet_survey.proofs.put.survey_over.Given as goal

abbrev pub ghost-new : goal.ghost-new
ghost-new g a = g.before
