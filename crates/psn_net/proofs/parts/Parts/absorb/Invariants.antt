use Rattle.std.proofs.Common.{◌≡◌, ◌≤◌, ◌++◌}
use Rattle.network_model.specs.Absorb.{absorb_all, all_entries_of}
use Rattle.provider_edge.specs.Said.{AllFit}
use Rattle.psn_net.specs.Lists.{HasRoom, KeepsNetwork, network_seen}
use Rattle.psn_net.proofs.parts.Parts.absorb.Given as goal

abbrev pub invariant-loop-effect : goal.invariant-loop-effect
invariant-loop-effect l =
    (goal.iterator-loop-effect).can_next l.effect-iterator
    × (goal.iterator-loop-effect).is_finite l.effect-iterator
    × record {
      keeps : KeepsNetwork l.fn.self l.self;
      room : HasRoom l.self;
      passed : l.trail.hops ≤ l.self.packets.last;
      fit : AllFit l.fn.self.plan l.effect-iterator.rest.items;
      state : absorb_all l.me l.trail.origin l.trail.hops l.effect-iterator.rest.items (network_seen l.self) ≡ absorb_all l.fn.me l.fn.trail.origin l.fn.trail.hops l.fn.effects (network_seen l.fn.self);
      told : l.self.trace ++ all_entries_of l.me l.trail.origin l.trail.hops l.effect-iterator.rest.items (network_seen l.self)
          ≡ l.fn.self.trace ++ all_entries_of l.fn.me l.fn.trail.origin l.fn.trail.hops l.fn.effects (network_seen l.fn.self);
    }
