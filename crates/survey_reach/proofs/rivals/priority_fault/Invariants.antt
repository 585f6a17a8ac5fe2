use Rattle.survey_reach.proofs.rivals.priority_fault.Given as goal

abbrev pub ghost-least_rival : goal.ghost-least_rival
ghost-least_rival g a = g.before
