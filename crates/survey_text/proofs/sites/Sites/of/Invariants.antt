use Rattle.survey_text.proofs.SiteLemmas.{AreSitesTo}
use Rattle.survey_text.proofs.sites.Sites.of.Given as goal

abbrev pub ghost-count_at : goal.ghost-count_at
ghost-count_at g a = g.before

abbrev pub invariant-loop-edge : goal.invariant-loop-edge
invariant-loop-edge g l = AreSitesTo l.over.plan.now g.before l.service l.edge l.sites
