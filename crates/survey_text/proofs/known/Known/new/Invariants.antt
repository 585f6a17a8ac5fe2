use Rattle.survey_text.proofs.known.Known.new.Given as goal

abbrev pub ghost-befall : goal.ghost-befall
ghost-befall g a = g.before

abbrev pub ghost-services_of : goal.ghost-services_of
ghost-services_of g a = g.before

abbrev pub ghost-of_services : goal.ghost-of_services
ghost-of_services g a = g.before
