use Rattle.survey_text.proofs.survey.Survey.new.Given as goal

abbrev pub ghost-new : goal.ghost-new
ghost-new g a = g.before
