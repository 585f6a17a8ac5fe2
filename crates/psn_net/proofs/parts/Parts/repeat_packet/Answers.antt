use Rattle.std.proofs.Common.{◌≡◌, ◌+◌, IfOk, option_map, subst}
use Rattle.network_model.specs.Packet.{packet_at}
use Rattle.psn_net.specs.Lists.{NetLists, network_seen}
use Rattle.psn_net.proofs.parts.Parts.repeat_packet.Goals as goal

pub returns-clause-number : goal.returns-clause-number
unfolding network_seen
returns-clause-number c =
    subst (λ (n : NetLists). IfOk c.repeat.result (λ copy. copy ≡ option_map (λ packet. (network_seen n).sent + 1) (packet_at (network_seen n) c.args.number))) c.self.view_is c.repeat.ensures.number
