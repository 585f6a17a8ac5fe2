use Rattle.survey_text.proofs.relation.Relation.put_cut_line.Given as goal

abbrev pub ghost-put_sites : goal.ghost-put_sites
ghost-put_sites g a = g.before
