use Rattle.survey_text.proofs.known.Known.of_services.Given as goal

abbrev pub ghost-all_faults : goal.ghost-all_faults
ghost-all_faults g a = g.before
