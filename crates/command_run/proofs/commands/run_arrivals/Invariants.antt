use Rattle.std.proofs.Common.{◌≡◌, ◌-◌, false}
use Rattle.psn_net.specs.Lists.{network_seen}
use Rattle.psn_net.specs.Runs.{ran}
use Rattle.command_run.specs.Made.{arrivals}
use Rattle.command_run.proofs.commands.run_arrivals.Given as goal

abbrev pub invariant-loop-arrival : goal.invariant-loop-arrival
invariant-loop-arrival l = record {
  plan : l.network.plan ≡ l.fn.network.plan;
  going : l.network.failed ≡ false;
  ran : ran l.fn.network.plan (network_seen l.network) l.network.trace (arrivals l.fn.network.plan (l.count - l._arrival) (network_seen l.network))
      ≡ ran l.fn.network.plan (network_seen l.fn.network) l.fn.network.trace (arrivals l.fn.network.plan l.count (network_seen l.fn.network));
}
