use Rattle.vplsnet_survey.proofs.put.write_few.Given as goal

abbrev pub ghost-write_survey : goal.ghost-write_survey
ghost-write_survey g a = g.before
