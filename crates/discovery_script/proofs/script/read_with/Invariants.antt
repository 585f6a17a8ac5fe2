-- The lines so far were read, and what they name stands in the plan.
use Rattle.std.proofs.Common.{◌≡◌, ◌+◌, drop}
use Rattle.std.specs.List.{All}
use Rattle.script_text.specs.Reading.{with_front_lines}
use Rattle.script_text.specs.Lines.{lines_said}
use Rattle.discovery_script.specs.Lines.{discovery_line_of}
use Rattle.discovery_script.specs.Planned.{IsDiscoveryLineOf}
use Rattle.discovery_script.proofs.script.read_with.Given as goal

abbrev pub invariant-loop-place : goal.invariant-loop-place
invariant-loop-place l = record {
  read : with_front_lines l.read (lines_said (discovery_line_of l.plan) (l.place + 1) (drop l.place l.line-items)) ≡ lines_said (discovery_line_of l.plan) 1 l.line-items;
  planned : All (IsDiscoveryLineOf l.plan) l.read;
}
