use Rattle.survey_text.proofs.relation.Relation.put_line.Given as goal

abbrev pub ghost-put_at : goal.ghost-put_at
ghost-put_at g a = g.before

abbrev pub ghost-put_sites : goal.ghost-put_sites
ghost-put_sites g a = g.before
