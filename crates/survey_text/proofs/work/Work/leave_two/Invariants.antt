use Rattle.survey_text.proofs.work.Work.leave_two.Given as goal

abbrev pub ghost-fill_changes : goal.ghost-fill_changes
ghost-fill_changes g a = g.before
