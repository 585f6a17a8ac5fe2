use Rattle.vplsnet_survey.proofs.put.write_survey.Given as goal

abbrev pub ghost-put : goal.ghost-put
ghost-put g a = g.before
