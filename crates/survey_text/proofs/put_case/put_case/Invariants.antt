use Rattle.survey_text.proofs.put_case.put_case.Given as goal

abbrev pub ghost-put_line : goal.ghost-put_line
ghost-put_line g a = g.case

abbrev pub ghost-put_changes : goal.ghost-put_changes
ghost-put_changes g a = g.case
