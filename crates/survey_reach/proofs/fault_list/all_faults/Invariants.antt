use Rattle.survey_reach.proofs.fault_list.all_faults.Given as goal

abbrev pub ghost-add_wires : goal.ghost-add_wires
ghost-add_wires g a = g.before

abbrev pub ghost-add_priorities : goal.ghost-add_priorities
ghost-add_priorities g a = g.before
