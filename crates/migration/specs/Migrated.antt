-- The document of version 2 that a scenario is.
use Rattle.std.specs.Prelude.{codes, List, map}
use Rattle.toml.specs.Data.{Items, Members, no_members, array, table}
use Rattle.toml.specs.View.{items_of}
use Rattle.net_base.specs.declared.plan.Plan.{Plan}
use Rattle.command_text.specs.declared.command.Command.{Command}
use Rattle.migration.specs.Tables.{put, put_some}
use Rattle.migration.specs.Commands.{event_items}
use Rattle.migration.specs.Groups.{used_groups}
use Rattle.migration.specs.Rows.{number, edge_table, service_table, group_table, circuit_table, wire_table}

-- every key is written out, but for an array of tables without rows
unfoldable pub plan_table : Plan → Members
plan_table plan =
    put_some (codes "edge") (map (λ edge. table (edge_table edge)) plan.edges)
    (put_some (codes "service") (map (λ service. table (service_table service)) plan.services)
    (put_some (codes "group") (map (λ group. table (group_table group)) (used_groups plan.wires))
    (put_some (codes "circuit") (map (λ circuit. table (circuit_table plan circuit)) plan.circuits)
    (put_some (codes "wire") (map (λ wire. table (wire_table plan wire)) plan.wires) no_members))))

-- the document of a plan and these events
unfoldable pub top_table : Plan → Items → Members
top_table plan events = put (codes "version") (number 2) (put (codes "events") (array events) (plan_table plan))

abbrev pub migrated : Plan → List Command → Members
migrated plan commands = top_table plan (items_of (event_items plan commands))
