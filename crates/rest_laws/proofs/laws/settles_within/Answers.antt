use Rattle.rest_laws.proofs.laws.settles_within.Goals as goal
use Rattle.rest_laws.proofs.RestLemmas.{settles_within}

pub returns : goal.returns
returns c = settles_within
