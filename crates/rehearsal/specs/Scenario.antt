-- The scenario of a rehearsal.
use Rattle.std.specs.Prelude.{ℕ}
use Rattle.scenario_text.specs.declared.scenario.Scenario.{Scenario}
use Rattle.rehearsal.specs.Commands.{commands}
use Rattle.rehearsal.specs.Rows.{plan, wires}

-- the scenario that a seed makes
unfoldable pub rehearsal : ℕ → Scenario
rehearsal seed = record { plan = plan; commands = commands wires seed }
