use Rattle.survey_text.proofs.work.Work.leave_parts.Given as goal

abbrev pub ghost-leave_each : goal.ghost-leave_each
ghost-leave_each g a = g.before

abbrev pub ghost-leave_pairs : goal.ghost-leave_pairs
ghost-leave_pairs g a = g.before
