use Rattle.psn_net.specs.Lists.{network_seen}
use Rattle.settle_laws.specs.Sound.{are_connected}
use Rattle.survey_net.proofs.PeerLemmas.{AreBits}
use Rattle.survey_net.proofs.connected.peers_of.Given as goal

abbrev pub invariant-loop-b : goal.invariant-loop-b
invariant-loop-b l = AreBits (are_connected (network_seen l.network) l.a) l.b l.word
