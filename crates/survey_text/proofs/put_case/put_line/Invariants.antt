use Rattle.survey_text.proofs.put_case.put_line.Given as goal

abbrev pub ghost-count_found : goal.ghost-count_found
ghost-count_found g a = g.case
