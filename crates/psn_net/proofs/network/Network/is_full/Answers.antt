use Rattle.std.proofs.Common.{◌∙◌, ap}
use Rattle.network_model.specs.Calm.{is_full}
use Rattle.psn_net.specs.Lists.{NetLists, network_seen}
use Rattle.psn_net.proofs.network.Network.is_full.Goals as goal

pub returns : goal.returns
returns c = c.is_full.ensures ∙ ap (λ (n : NetLists). is_full n.plan (network_seen n) c.args.service) c.self.view_is
