use Rattle.survey_reach.proofs.reach.Reaching.core.Given as goal

abbrev pub ghost-home : goal.ghost-home
ghost-home g a = g.before
