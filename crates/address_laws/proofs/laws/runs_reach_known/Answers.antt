use Rattle.address_laws.proofs.laws.runs_reach_known.Goals as goal
use Rattle.address_laws.proofs.KnownLemmas.{runs_reach_known}

pub returns : goal.returns
returns c = runs_reach_known
