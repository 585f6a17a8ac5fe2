-- What is read so far, and then the rest, is what the definition reads.
use Rattle.std.proofs.Common.{◌≡◌, ◌+◌, length, drop}
use Rattle.command_text.specs.Reading.{with_front}
use Rattle.scenario_text.specs.References.{wires_in}
use Rattle.scenario_text.proofs.wires.wires.Given as goal

abbrev pub invariant-loop-i : goal.invariant-loop-i
invariant-loop-i l =
    (with_front l.wires (wires_in l.edges l.services.rows.now l.groups.rows.now (l.i + 1) (drop l.i l.rows)) ≡ wires_in l.edges l.services.rows.now l.groups.rows.now 1 l.rows)
    × (length l.wires ≡ l.i)
