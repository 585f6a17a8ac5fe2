use Rattle.survey_text.proofs.put_ground.put_service.Given as goal

abbrev pub ghost-put : goal.ghost-put
ghost-put g a = g.before
