use Rattle.survey_text.proofs.service.Service.put_apart.Given as goal

abbrev pub ghost-put : goal.ghost-put
ghost-put g a = g.before
