use Rattle.seen_network.proofs.VerdictLemmas.{answered}
use Rattle.seen_network.proofs.laws.windows_tell.Goals as goal

pub returns : goal.returns
returns c = answered
