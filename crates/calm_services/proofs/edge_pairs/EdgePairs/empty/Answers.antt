use Rattle.calm_services.proofs.PairLemmas.{none_held}
use Rattle.calm_services.proofs.edge_pairs.EdgePairs.empty.Goals as goal

pub returns : goal.returns
returns c n = none_held 64 n
