use Rattle.std.proofs.Common.{◌≡◌, false}
use Rattle.std.specs.List.{All}
use Rattle.net_base.specs.plan.Planned.{IsFrame}
use Rattle.command_text.specs.Planned.{IsPlanned}
use Rattle.psn_net.specs.Lists.{network_seen}
use Rattle.psn_net.specs.Runs.{ran}
use Rattle.command_run.specs.Made.{made}
use Rattle.vplsnet.proofs.scenario_run.run_commands.Given as goal

abbrev pub invariant-loop-command : goal.invariant-loop-command
invariant-loop-command l =
    (goal.iterator-loop-command).can_next l.command-iterator
    × (goal.iterator-loop-command).is_finite l.command-iterator
    × record {
      plan : l.network.plan ≡ l.fn.network.plan;
      going : l.network.failed ≡ false;
      ran : ran l.fn.network.plan (network_seen l.network) l.network.trace (made l.fn.network.plan (network_seen l.network) l.captures l.command-iterator.rest.items)
          ≡ ran l.fn.network.plan (network_seen l.fn.network) l.fn.network.trace (made l.fn.network.plan (network_seen l.fn.network) l.fn.captures l.fn.commands);
      planned : All (IsPlanned l.fn.network.plan) l.command-iterator.rest.items;
      short : All (All IsFrame) l.captures;
    }
