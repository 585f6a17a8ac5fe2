use Rattle.survey_reach.proofs.reach.Reaching.home.Given as goal

abbrev pub ghost-fill_spokes : goal.ghost-fill_spokes
ghost-fill_spokes g a = g.before
