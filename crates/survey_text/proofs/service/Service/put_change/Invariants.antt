use Rattle.survey_text.proofs.service.Service.put_change.Given as goal

abbrev pub ghost-put_lost : goal.ghost-put_lost
ghost-put_lost g a = g.case

abbrev pub ghost-put : goal.ghost-put
ghost-put g a = g.case.before
