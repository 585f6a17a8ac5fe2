use Rattle.survey_text.proofs.service.Service.new.Given as goal

abbrev pub ghost-of : goal.ghost-of
ghost-of g a = g.before

abbrev pub ghost-of-2 : goal.ghost-of-2
ghost-of-2 g a = g.before
