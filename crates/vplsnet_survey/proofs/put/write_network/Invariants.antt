use Rattle.psn_net.specs.Lists.{network_seen}
use Rattle.vplsnet_survey.proofs.put.write_network.Given as goal

abbrev pub ghost-write_over : goal.ghost-write_over
ghost-write_over g a = network_seen a.network.now
