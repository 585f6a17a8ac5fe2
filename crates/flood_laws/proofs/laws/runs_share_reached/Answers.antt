use Rattle.flood_laws.proofs.laws.runs_share_reached.Goals as goal
use Rattle.flood_laws.proofs.ShareReachedLemmas.{runs_share_reached}

pub returns : goal.returns
returns c = runs_share_reached
