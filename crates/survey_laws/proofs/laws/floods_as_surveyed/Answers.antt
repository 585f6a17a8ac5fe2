use Rattle.survey_laws.proofs.laws.floods_as_surveyed.Goals as goal
use Rattle.survey_laws.proofs.FloodLemmas.{floods_as_surveyed}

pub returns : goal.returns
returns c = floods_as_surveyed
