-- The lines so far, and then those of the other commands, are those of all.
use Rattle.std.proofs.Common.{◌≡◌, ◌++◌, drop, map}
use Rattle.toml.specs.View.{view}
use Rattle.migration.specs.Commands.{event_items}
use Rattle.migration.proofs.commands.command_lines.Given as goal

abbrev pub invariant-loop-command : goal.invariant-loop-command
invariant-loop-command l = map view l.lines.items ++ event_items l.plan (drop l.command-index l.commands) ≡ event_items l.plan l.commands
