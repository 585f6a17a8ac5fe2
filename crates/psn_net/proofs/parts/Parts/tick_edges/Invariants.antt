use Rattle.std.proofs.Common.{◌≡◌, ◌++◌, ◌-◌, length}
use Rattle.network_model.specs.Tick.{ticks_from}
use Rattle.psn_net.specs.Lists.{HasRoom, KeepsNetwork, network_seen}
use Rattle.psn_net.proofs.parts.Parts.tick_edges.Given as goal

abbrev pub invariant-loop-place : goal.invariant-loop-place
invariant-loop-place l = record {
  keeps : KeepsNetwork l.fn.self l.self;
  room : HasRoom l.self;
  state : (ticks_from l.fn.self.plan l.place (l.count - l.place) (network_seen l.self)).state ≡ (ticks_from l.fn.self.plan 0 (length l.fn.self.plan.edges) (network_seen l.fn.self)).state;
  told : l.self.trace ++ (ticks_from l.fn.self.plan l.place (l.count - l.place) (network_seen l.self)).entries
      ≡ l.fn.self.trace ++ (ticks_from l.fn.self.plan 0 (length l.fn.self.plan.edges) (network_seen l.fn.self)).entries;
}
