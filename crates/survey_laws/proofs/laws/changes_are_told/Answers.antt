use Rattle.survey_laws.proofs.laws.changes_are_told.Goals as goal
use Rattle.survey_laws.proofs.CaseLemmas.{changes_are_told}

pub returns : goal.returns
returns c = changes_are_told
