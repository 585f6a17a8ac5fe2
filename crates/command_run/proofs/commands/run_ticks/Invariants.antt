use Rattle.std.proofs.Common.{◌≡◌, ◌-◌, false}
use Rattle.psn_net.specs.Lists.{network_seen}
use Rattle.psn_net.specs.Runs.{ran}
use Rattle.command_run.specs.Made.{ticks}
use Rattle.command_run.proofs.commands.run_ticks.Given as goal

abbrev pub invariant-loop-done : goal.invariant-loop-done
invariant-loop-done l = record {
  plan : l.network.plan ≡ l.fn.network.plan;
  going : l.network.failed ≡ false;
  ran : ran l.fn.network.plan (network_seen l.network) l.network.trace (ticks (l.count - l._done)) ≡ ran l.fn.network.plan (network_seen l.fn.network) l.fn.network.trace (ticks l.count);
}
