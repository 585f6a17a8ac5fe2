use Rattle.ldp_discovery.proofs.AdjacencyLemmas.{deeds_kept}
use Rattle.ldp_discovery.proofs.laws.deeds_are_kept.Goals as goal

pub returns : goal.returns
returns c = deeds_kept
