use Rattle.survey_text.proofs.relation.Relation.put.Given as goal

abbrev pub ghost-put_rows : goal.ghost-put_rows
ghost-put_rows g a = g.before

abbrev pub ghost-put_cut_line : goal.ghost-put_cut_line
ghost-put_cut_line g a = g.before
