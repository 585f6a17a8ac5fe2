use Rattle.survey_text.proofs.off.put_name.Given as goal

abbrev pub ghost-is_off : goal.ghost-is_off
ghost-is_off g a = g.before
