-- The scenario that a document is, or its first fault.
use Rattle.std.specs.Prelude.{ℕ, List, Option, Some, None, Result, Ok, Err, if◌then◌else◌}
use Rattle.std.specs.Str.{is_utf8}
use Rattle.toml.specs.Data.{Members}
use Rattle.toml.specs.Parse.{parse_document}
use Rattle.net_base.specs.declared.plan.Plan.{Plan}
use Rattle.net_base.specs.declared.plan.table.Table.TheVariants.{Edge, Service, Group, Circuit, Wire}
use Rattle.command_text.specs.declared.command.Command.{Command}
use Rattle.command_text.specs.declared.scenario_fault.ScenarioFault.{ScenarioFault}
use Rattle.command_text.specs.declared.scenario_fault.ScenarioFault.TheVariants.{NotToml}
use Rattle.command_text.specs.Reading.{◌>>=◌}
use Rattle.command_text.specs.Events.{commands_in}
use Rattle.scenario_text.specs.declared.scenario.Scenario.{Scenario}
use Rattle.scenario_text.specs.Rows.{edge_in, service_in, group_row_in, circuit_row_in, wire_row_in, rows_in}
use Rattle.scenario_text.specs.Top.{Arrays, arrays_in}
use Rattle.scenario_text.specs.References.{plan_of}

-- the plan of the arrays: the rows of all tables, then what they name, then the plan as a whole
unfoldable pub plan_in : Arrays → Result Plan ScenarioFault
plan_in arrays = do
  edges ← rows_in Edge (edge_in arrays.version) 1 arrays.edges
  services ← rows_in Service (service_in arrays.version) 1 arrays.services
  groups ← rows_in Group (group_row_in arrays.version) 1 arrays.groups
  circuit_rows ← rows_in Circuit (circuit_row_in arrays.version) 1 arrays.circuits
  wire_rows ← rows_in Wire (wire_row_in arrays.version) 1 arrays.wires
  plan_of edges services groups circuit_rows wire_rows

-- the plan with the commands that were read
abbrev pub scenario_with : Plan → Result (List Command) ScenarioFault → Result Scenario ScenarioFault
scenario_with plan read = read >>= (λ commands. Ok (record { plan = plan; commands = commands }))

-- the top of the document, the plan, and then the commands
unfoldable pub scenario_in : Members → Result Scenario ScenarioFault
scenario_in ms = do
  arrays ← arrays_in ms
  plan ← plan_in arrays
  scenario_with plan (commands_in plan 1 0 arrays.events)

-- the scenario of the table that a text is
abbrev pub scenario_or : Option Members → Result Scenario ScenarioFault
scenario_or None = Err NotToml
scenario_or (Some table) = scenario_in table

-- the scenario of a file: TOML is UTF-8 text
unfoldable pub document : List ℕ → Result Scenario ScenarioFault
document bytes = if is_utf8 bytes then scenario_or (parse_document bytes) else Err NotToml
