use Rattle.survey_text.proofs.service.Service.change.Given as goal

abbrev pub ghost-of : goal.ghost-of
ghost-of g a = g.before
