use Rattle.network_model.proofs.KnownLemmas.{run_serves_known_once}
use Rattle.network_model.proofs.laws.runs_serve_known_once.Goals as goal

pub returns : goal.returns
returns c = run_serves_known_once
