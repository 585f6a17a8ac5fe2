use Rattle.flood_laws.proofs.laws.runs_share_sites.Goals as goal
use Rattle.flood_laws.proofs.ShareLemmas.{runs_share_sites}

pub returns : goal.returns
returns c = runs_share_sites
