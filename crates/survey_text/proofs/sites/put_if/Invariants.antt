use Rattle.survey_text.proofs.sites.put_if.Given as goal

abbrev pub ghost-put_at : goal.ghost-put_at
ghost-put_at g a = g.before
