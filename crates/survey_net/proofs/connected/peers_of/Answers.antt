use Rattle.psn_net.specs.Lists.{network_seen}
use Rattle.settle_laws.specs.Sound.{are_connected}
use Rattle.survey_net.proofs.PeerLemmas.{bits_none}
use Rattle.survey_net.proofs.connected.peers_of.Goals as goal

pub loop-b-init : goal.loop-b-init
loop-b-init c = bits_none (are_connected (network_seen c.args.network.now) c.args.a)
