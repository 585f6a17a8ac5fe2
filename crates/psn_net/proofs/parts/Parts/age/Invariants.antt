use Rattle.std.proofs.Common.{◌≡◌, ◌<◌, ◌++◌, length}
use Rattle.network_model.specs.Age.{aged_entries}
use Rattle.network_model.specs.State.{with_older}
use Rattle.psn_net.specs.Lists.{HasRoom, KeepsNetwork, network_seen}
use Rattle.psn_net.proofs.parts.Parts.age.Given as goal

abbrev pub invariant-ageing : goal.invariant-ageing
invariant-ageing l = record {
  keeps : KeepsNetwork l.fn.self l.self;
  room : HasRoom l.self;
  time : l.self.packets.ticks < length l.self.trace;
  older : with_older (network_seen l.self) ≡ with_older (network_seen l.fn.self);
  told : l.self.trace ++ aged_entries (network_seen l.self).under_way ≡ l.fn.self.trace ++ aged_entries (network_seen l.fn.self).under_way;
}

abbrev pub decreases-ageing : goal.decreases-ageing
decreases-ageing l = length (network_seen l.self).under_way
