use Rattle.survey_text.proofs.service.Service.put_lost.Given as goal

abbrev pub ghost-put : goal.ghost-put
ghost-put g a = g.case.before
