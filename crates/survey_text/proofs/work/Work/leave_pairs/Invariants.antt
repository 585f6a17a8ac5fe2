use Rattle.survey_text.proofs.work.Work.leave_pairs.Given as goal

abbrev pub ghost-leave_two : goal.ghost-leave_two
ghost-leave_two g a = g.before
