use Rattle.std.proofs.Common.{◌∙◌, ap}
use Rattle.network_model.specs.Calm.{is_calm}
use Rattle.psn_net.specs.Lists.{NetLists, network_seen}
use Rattle.psn_net.proofs.network.Network.is_calm.Goals as goal

pub returns : goal.returns
returns c = c.is_calm.ensures ∙ ap (λ (n : NetLists). is_calm n.plan (network_seen n) c.args.service) c.self.view_is
