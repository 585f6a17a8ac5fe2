use Rattle.flood_laws.proofs.laws.runs_serve_once.Goals as goal
use Rattle.flood_laws.proofs.RunLemmas.{runs_serve_once}

pub returns : goal.returns
returns c = runs_serve_once
