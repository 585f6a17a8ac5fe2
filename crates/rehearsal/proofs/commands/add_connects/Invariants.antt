use Rattle.std.proofs.Common.{◌≡◌, ◌++◌, drop}
use Rattle.rehearsal.specs.Commands.{connect_commands}
use Rattle.rehearsal.proofs.commands.add_connects.Given as goal

abbrev pub invariant-loop-wire : goal.invariant-loop-wire
invariant-loop-wire l = l.commands ++ connect_commands (drop l.wire-index l.wires) ≡ l.fn.commands ++ connect_commands l.wires
