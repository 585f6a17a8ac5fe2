use Rattle.address_laws.proofs.laws.runs_keep_points.Goals as goal
use Rattle.address_laws.proofs.PointsLemmas.{runs_keep_points}

pub returns : goal.returns
returns c = runs_keep_points
