use Rattle.survey_text.proofs.put_case.put_change.Given as goal

abbrev pub ghost-put_change : goal.ghost-put_change
ghost-put_change g a = g.case
