-- The top of a document: its version and its arrays.
use Rattle.std.specs.Prelude.{◌==◌, nat_le, codes, ℕ, ℤ, pos, negsuc, Bool, Option, None, Some, is_some, Result, Ok, if◌then◌else◌}
use Rattle.toml.specs.Data.{Data, Items, no_items, Members, as_table, as_integer}
use Rattle.net_base.specs.declared.plan.place.Place.{Place}
use Rattle.net_base.specs.declared.plan.table.Table.{Table}
use Rattle.net_base.specs.declared.plan.table.Table.TheVariants.{Top, Events, Edge, Service, Group, Circuit, Wire}
use Rattle.command_text.specs.declared.scenario_fault.ScenarioFault.{ScenarioFault}
use Rattle.command_text.specs.declared.scenario_fault.ScenarioFault.TheVariants.{WrongKind, TooMany, Version}
use Rattle.command_text.specs.Reading.{◌>>=◌, checked, found}
use Rattle.command_text.specs.Events.{most_events}
use Rattle.command_text.specs.Places.{top_row}
use Rattle.scenario_text.specs.declared.document_version.DocumentVersion.{DocumentVersion}
use Rattle.scenario_text.specs.declared.document_version.DocumentVersion.TheVariants.{One, Two}
use Rattle.scenario_text.specs.Keys.{only_known}
use Rattle.scenario_text.specs.Values.{an_array, is_string, needed, defaulted}
use Rattle.scenario_text.specs.Rows.{items_length}

abbrev pub version_of : ℤ → Option DocumentVersion
version_of (pos n) = if n == 1 then Some One else if n == 2 then Some Two else None
version_of (negsuc n) = None

-- the integer 1 or 2
abbrev pub a_version : Place → Data → Result DocumentVersion ScenarioFault
a_version place value = found (WrongKind place) (as_integer value) >>= (λ z. found Version (version_of z))

abbrev pub is_table : Data → Bool
is_table value = is_some (as_table value)

-- the arrays of a document
pub record Arrays : Type 0 where
  pub version : DocumentVersion
  pub events : Items
  pub edges : Items
  pub services : Items
  pub groups : Items
  pub circuits : Items
  pub wires : Items

-- the most edges, services, groups, circuits and wires of a document
abbrev pub most_edges : ℕ
most_edges = 64

abbrev pub most_services : ℕ
most_services = 64

abbrev pub most_groups : ℕ
most_groups = 2048

abbrev pub most_circuits : ℕ
most_circuits = 512

abbrev pub most_wires : ℕ
most_wires = 1024

-- the array has at most so many items
abbrev pub few : ℕ → Table → Items → Result Bool ScenarioFault
few limit table items = checked (TooMany table limit) (nat_le (items_length items) limit)

-- the groups, which version 2 alone has
abbrev pub groups_at : DocumentVersion → Members → Result Items ScenarioFault
groups_at One ms = Ok no_items
groups_at Two ms = defaulted no_items (an_array is_table) top_row (codes "group") ms

-- the arrays that stand at the keys of the top
unfoldable pub arrays_at : DocumentVersion → Members → Result Arrays ScenarioFault
arrays_at version ms = do
  events ← defaulted no_items (an_array is_string) top_row (codes "events") ms
  edges ← defaulted no_items (an_array is_table) top_row (codes "edge") ms
  services ← defaulted no_items (an_array is_table) top_row (codes "service") ms
  groups ← groups_at version ms
  circuits ← defaulted no_items (an_array is_table) top_row (codes "circuit") ms
  wires ← defaulted no_items (an_array is_table) top_row (codes "wire") ms
  Ok (record { version = version; events = events; edges = edges; services = services; groups = groups; circuits = circuits; wires = wires })

-- no array has too many items
unfoldable pub few_in : Arrays → Result Bool ScenarioFault
few_in arrays = do
  events ← few most_events Events arrays.events
  edges ← few most_edges Edge arrays.edges
  services ← few most_services Service arrays.services
  groups ← few most_groups Group arrays.groups
  circuits ← few most_circuits Circuit arrays.circuits
  few most_wires Wire arrays.wires

-- the arrays of a document of version 1 or 2
unfoldable pub arrays_in : Members → Result Arrays ScenarioFault
arrays_in ms = do
  version ← needed a_version top_row (codes "version") ms
  arrays ← arrays_at version ms
  known ← only_known version Top top_row ms
  few ← few_in arrays
  Ok arrays
