-- What is read so far, and then the rest, is what the definition reads.
use Rattle.std.proofs.Common.{◌≡◌, ◌+◌, length, drop}
use Rattle.command_text.specs.Reading.{with_front}
use Rattle.scenario_text.specs.References.{circuit_plans}
use Rattle.scenario_text.proofs.circuits.circuits.Given as goal

abbrev pub invariant-loop-i : goal.invariant-loop-i
invariant-loop-i l =
    (with_front l.circuits (circuit_plans l.edges l.services (l.i + 1) (drop l.i l.rows)) ≡ circuit_plans l.edges l.services 1 l.rows)
    × (length l.circuits ≡ l.i)
