use Rattle.psn_net.proofs.PacketLemmas.{seen_ticked}
use Rattle.psn_net.proofs.packets.Packets.tick.Goals as goal

pub invariant_of-self : goal.invariant_of-self
invariant_of-self c =
    ((seen_ticked c.self.inside.ticks c.self.inside.by_number.last c.self.inside.by_number.entries c.args.self.now c.self.view_is c.self.invariant.0 c.requires.young).0, c.self.invariant.1)

pub returns : goal.returns
returns c = (seen_ticked c.self.inside.ticks c.self.inside.by_number.last c.self.inside.by_number.entries c.args.self.now c.self.view_is c.self.invariant.0 c.requires.young).1
