use Rattle.survey_text.proofs.off.put_line.Given as goal

abbrev pub ghost-put_names : goal.ghost-put_names
ghost-put_names g a = g.before
