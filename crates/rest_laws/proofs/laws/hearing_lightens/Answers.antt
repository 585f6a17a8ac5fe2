use Rattle.rest_laws.proofs.laws.hearing_lightens.Goals as goal
use Rattle.rest_laws.proofs.RiseLemmas.{hearing_lightens}

pub returns : goal.returns
returns c = hearing_lightens
