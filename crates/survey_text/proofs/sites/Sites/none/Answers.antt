use Rattle.survey_reach.proofs.WordLemmas.{none_in_zero}
use Rattle.survey_text.proofs.SiteLemmas.{zeros}
use Rattle.survey_text.proofs.sites.Sites.none.Goals as goal

pub returns-clause-counts : goal.returns-clause-counts
returns-clause-counts c = zeros 64

pub returns-clause-at : goal.returns-clause-at
returns-clause-at c = none_in_zero
