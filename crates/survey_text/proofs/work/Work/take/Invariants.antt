use Rattle.survey_text.proofs.work.Work.take.Given as goal

abbrev pub ghost-fill : goal.ghost-fill
ghost-fill g a = g.before

abbrev pub ghost-leave_parts : goal.ghost-leave_parts
ghost-leave_parts g a = g.before
