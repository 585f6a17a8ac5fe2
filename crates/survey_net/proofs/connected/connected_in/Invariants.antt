use Rattle.psn_net.specs.Lists.{network_seen}
use Rattle.survey_reach.specs.Ground.{are_peers}
use Rattle.survey_net.proofs.PeerLemmas.{ArePairs}
use Rattle.survey_net.proofs.connected.connected_in.Given as goal

abbrev pub invariant-loop-a : goal.invariant-loop-a
invariant-loop-a l = ArePairs (are_peers l.network.plan (network_seen l.network)) l.a l.pairs
