-- The arrays of a document as the code holds them.
use Rattle.std.specs.Prelude.{◌≤◌, length, codes, Bool, Result, Ok}
use Rattle.toml.specs.{Data.{Data, Members, no_items}, View.{items_view}}
use Rattle.command_text.specs.declared.scenario_fault.ScenarioFault.{ScenarioFault}
use Rattle.command_text.specs.{Events.{most_events}, Places.{top_row}, Reading.{◌>>=◌}}
use Rattle.scenario_text.specs.Values.{an_array, defaulted, is_string}
use Rattle.scenario_text.specs.declared.item_kind.ItemKind.{ItemKind}
use Rattle.scenario_text.specs.declared.item_kind.ItemKind.TheVariants.{Strings, Tables}
use Rattle.scenario_text.specs.Top.{Arrays as TopArrays, groups_at, is_table, most_edges, most_services, most_groups, most_circuits, most_wires}
use Rattle.scenario_text.specs.declared.arrays.Arrays.{Arrays}

-- the items of each array
abbrev pub arrays_of : Arrays → TopArrays
arrays_of arrays =
    record {
      version = arrays.version;
      events = items_view arrays.events.now;
      edges = items_view arrays.edges.now;
      services = items_view arrays.services.now;
      groups = items_view arrays.groups.now;
      circuits = items_view arrays.circuits.now;
      wires = items_view arrays.wires.now;
    }

-- no array has too many items
pub record HasLimits (arrays : Arrays) : Type 0 where
  pub events : length arrays.events.now ≤ most_events
  pub edges : length arrays.edges.now ≤ most_edges
  pub services : length arrays.services.now ≤ most_services
  pub groups : length arrays.groups.now ≤ most_groups
  pub circuits : length arrays.circuits.now ≤ most_circuits
  pub wires : length arrays.wires.now ≤ most_wires

-- what the items of an array of a kind are
abbrev pub has_kind : ItemKind → Data → Bool
has_kind Strings = is_string
has_kind Tables = is_table

-- the arrays with the groups, the circuits and the wires that stand at the keys of the top
unfoldable pub with_last_at : TopArrays → Members → Result TopArrays ScenarioFault
with_last_at arrays ms = do
  groups ← groups_at arrays.version ms
  circuits ← defaulted no_items (an_array is_table) top_row (codes "circuit") ms
  wires ← defaulted no_items (an_array is_table) top_row (codes "wire") ms
  Ok (record { version = arrays.version; events = arrays.events; edges = arrays.edges; services = arrays.services; groups = groups; circuits = circuits; wires = wires })
