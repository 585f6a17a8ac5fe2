use Rattle.survey_text.proofs.put_ground.put_ground.Given as goal

abbrev pub ghost-put_services : goal.ghost-put_services
ghost-put_services g a = g.before

abbrev pub ghost-put_labels : goal.ghost-put_labels
ghost-put_labels g a = g.before
