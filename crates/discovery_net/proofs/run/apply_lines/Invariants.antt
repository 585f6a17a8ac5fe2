-- The lines so far are done.
use Rattle.std.proofs.Common.{◌≡◌, List, false}
use Rattle.std.specs.List.{All}
use Rattle.discovery_script.specs.declared.script_line.ScriptLine.{ScriptLine}
use Rattle.discovery_script.specs.Planned.{IsDiscoveryLineOf}
use Rattle.discovery_net.specs.Script.{IsUnderWay}
use Rattle.discovery_net.proofs.run.apply_lines.Given as goal

abbrev pub invariant-loop-line : goal.invariant-loop-line
invariant-loop-line l =
    (goal.iterator-loop-line).can_next l.line-iterator
    × (goal.iterator-loop-line).is_finite l.line-iterator
    × record {
      plan : l.net.network.plan ≡ l.fn.net.network.plan;
      going : l.net.network.failed ≡ false;
      lines : All (IsDiscoveryLineOf l.fn.net.network.plan) l.line-iterator.rest.items;
      way : (all : List ScriptLine) → IsUnderWay l.fn.net.network.plan all l.fn.lines l.fn.net → IsUnderWay l.fn.net.network.plan all l.line-iterator.rest.items l.net;
    }
