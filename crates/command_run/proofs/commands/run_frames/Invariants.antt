use Rattle.std.proofs.Common.{◌≡◌, false}
use Rattle.std.specs.List.{All}
use Rattle.net_base.specs.plan.Planned.{IsFrame}
use Rattle.psn_net.specs.Lists.{network_seen}
use Rattle.psn_net.specs.Runs.{ran}
use Rattle.command_run.specs.Made.{frames_entering}
use Rattle.command_run.proofs.commands.run_frames.Given as goal

abbrev pub invariant-loop-frame : goal.invariant-loop-frame
invariant-loop-frame l =
    (goal.iterator-loop-frame).can_next l.frame-iterator
    × (goal.iterator-loop-frame).is_finite l.frame-iterator
    × record {
      plan : l.network.plan ≡ l.fn.network.plan;
      going : l.network.failed ≡ false;
      ran : ran l.fn.network.plan (network_seen l.network) l.network.trace (frames_entering l.circuit l.frame-iterator.rest.items)
          ≡ ran l.fn.network.plan (network_seen l.fn.network) l.fn.network.trace (frames_entering l.circuit l.fn.frames);
      short : All IsFrame l.frame-iterator.rest.items;
    }
