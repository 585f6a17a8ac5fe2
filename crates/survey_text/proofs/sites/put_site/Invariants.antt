use Rattle.survey_text.proofs.sites.put_site.Given as goal

abbrev pub ghost-is_site_at : goal.ghost-is_site_at
ghost-is_site_at g a = g.before
