-- The top of a document is read.
use Rattle.std.proofs.Common.{◌≡◌, ◌≤◌, ℕ, suc, true, List, [], ◌∷◌, length, map, Option, Some, None, Ok, codes, le-leb, refl, ap, arith}
use Rattle.toml.specs.Data.{Data, Items, no_items, Members, no_members, array, table, get_member}
use Rattle.toml.specs.View.{items_of}
use Rattle.net_base.specs.declared.plan.Plan.{Plan}
use Rattle.net_base.specs.declared.plan.table.Table.{Table}
use Rattle.net_base.specs.declared.plan.table.Table.TheVariants as kind
use Rattle.command_text.specs.Events.{commands_in, most_events}
use Rattle.command_text.specs.Places.{top_row}
use Rattle.scenario_text.specs.declared.document_version.DocumentVersion.TheVariants.{Two}
use Rattle.scenario_text.specs.Keys.{is_known_key}
use Rattle.scenario_text.specs.Values.{all_items, an_array, is_string, defaulted}
use Rattle.scenario_text.specs.Rows.{items_length}
use Rattle.scenario_text.specs.Top.{Arrays, a_version, is_table, few, few_in, arrays_at, arrays_in, most_edges, most_services, most_groups, most_circuits, most_wires}
use Rattle.scenario_text.specs.Document.{plan_in, scenario_in, scenario_with}
use Rattle.migration.specs.Tables.{put_some}
use Rattle.migration.proofs.KeyLemmas.{put_same, put_keys, some_keys, all_keys}
use Rattle.migration.specs.Groups.{used_groups}
use Rattle.migration.specs.Rows.{number, edge_table, service_table, group_table, circuit_table, wire_table}
use Rattle.migration.specs.Migrated.{plan_table, top_table}
use Rattle.migration.specs.ReadPlan.{IsReadPlan}
use Rattle.migration.proofs.ReadLemmas.{skip, skip_some, needed_is, defaulted_is, defaulted_none, known}
use Rattle.migration.proofs.UseLemmas.{groups_are}
use Rattle.migration.proofs.PlanLemmas.{are_small, edges_read, services_read, groups_read, circuits_read, wires_read, plan_placed}

-- the value at the key of an array that may be absent
abbrev some_value : List Data → Option Data
some_value [] = None
some_value (value ∷ values) = Some (array (items_of (value ∷ values)))

some_at_key : (key : List ℕ) (values : List Data) (ms : Members) → get_member key ms ≡ None → get_member key (put_some key values ms) ≡ some_value values
some_at_key key [] ms none = none
some_at_key key (value ∷ values) ms none = put_same key (array (items_of (value ∷ values))) ms

module _ {A : Type 0} (f : A → Members) where
  are_tables : (rows : List A) → all_items is_table (items_of (map (λ row. table (f row)) rows)) ≡ true
  are_tables [] = refl
  are_tables (row ∷ rows) = are_tables rows

  rows_length : (rows : List A) → items_length (items_of (map (λ row. table (f row)) rows)) ≡ length rows
  rows_length [] = refl
  rows_length (row ∷ rows) = ap (λ n. suc n) (rows_length rows)

  array_read : (key : List ℕ) (ms : Members) (rows : List A) → get_member key ms ≡ some_value (map (λ row. table (f row)) rows)
      → defaulted no_items (an_array is_table) top_row key ms ≡ Ok (items_of (map (λ row. table (f row)) rows))
  array_read key ms [] at = defaulted_none (an_array is_table) top_row key ms no_items at
  array_read key ms (row ∷ rows) at =
      defaulted_is (an_array is_table) top_row key ms no_items (array (items_of (map (λ r. table (f r)) (row ∷ rows)))) (items_of (map (λ r. table (f r)) (row ∷ rows))) at
      (rw (are_tables (row ∷ rows)) refl)

  few_rows : (limit : ℕ) (kind : Table) (rows : List A) → length rows ≤ limit → few limit kind (items_of (map (λ row. table (f row)) rows)) ≡ Ok true
  few_rows limit kind rows within = rw (rows_length rows, le-leb (length rows) limit within) refl

-- the arrays of the document
abbrev pub arrays_of_plan : Plan → Items → Arrays
arrays_of_plan plan events =
    record {
      version = Two;
      events = events;
      edges = items_of (map (λ edge. table (edge_table edge)) plan.edges);
      services = items_of (map (λ service. table (service_table service)) plan.services);
      groups = items_of (map (λ group. table (group_table group)) (used_groups plan.wires));
      circuits = items_of (map (λ circuit. table (circuit_table plan circuit)) plan.circuits);
      wires = items_of (map (λ wire. table (wire_table plan wire)) plan.wires);
    }

module _ (plan : Plan) (events : Items) where
  version_at : get_member (codes "version") (top_table plan events) ≡ Some (number 2)
  unfolding top_table
  version_at = put_same (codes "version") _ _

  events_at : get_member (codes "events") (top_table plan events) ≡ Some (array events)
  unfolding top_table
  events_at = skip (codes "events") (codes "version") _ _ refl (put_same (codes "events") _ _)

  edges_at : get_member (codes "edge") (top_table plan events) ≡ some_value (map (λ edge. table (edge_table edge)) plan.edges)
  unfolding top_table plan_table
  edges_at =
      skip (codes "edge") (codes "version") _ _ refl (skip (codes "edge") (codes "events") _ _ refl (some_at_key (codes "edge") (map (λ edge. table (edge_table edge)) plan.edges) _
      (skip_some (codes "edge") (codes "service") (map (λ service. table (service_table service)) plan.services) _ refl
      (skip_some (codes "edge") (codes "group") (map (λ group. table (group_table group)) (used_groups plan.wires)) _ refl
      (skip_some (codes "edge") (codes "circuit") (map (λ circuit. table (circuit_table plan circuit)) plan.circuits) _ refl
      (skip_some (codes "edge") (codes "wire") (map (λ wire. table (wire_table plan wire)) plan.wires) no_members refl refl))))))

  services_at : get_member (codes "service") (top_table plan events) ≡ some_value (map (λ service. table (service_table service)) plan.services)
  unfolding top_table plan_table
  services_at =
      skip (codes "service") (codes "version") _ _ refl (skip (codes "service") (codes "events") _ _ refl
      (skip_some (codes "service") (codes "edge") (map (λ edge. table (edge_table edge)) plan.edges) _ refl
      (some_at_key (codes "service") (map (λ service. table (service_table service)) plan.services) _
      (skip_some (codes "service") (codes "group") (map (λ group. table (group_table group)) (used_groups plan.wires)) _ refl
      (skip_some (codes "service") (codes "circuit") (map (λ circuit. table (circuit_table plan circuit)) plan.circuits) _ refl
      (skip_some (codes "service") (codes "wire") (map (λ wire. table (wire_table plan wire)) plan.wires) no_members refl refl))))))

  groups_at_key : get_member (codes "group") (top_table plan events) ≡ some_value (map (λ group. table (group_table group)) (used_groups plan.wires))
  unfolding top_table plan_table
  groups_at_key =
      skip (codes "group") (codes "version") _ _ refl (skip (codes "group") (codes "events") _ _ refl
      (skip_some (codes "group") (codes "edge") (map (λ edge. table (edge_table edge)) plan.edges) _ refl
      (skip_some (codes "group") (codes "service") (map (λ service. table (service_table service)) plan.services) _ refl
      (some_at_key (codes "group") (map (λ group. table (group_table group)) (used_groups plan.wires)) _
      (skip_some (codes "group") (codes "circuit") (map (λ circuit. table (circuit_table plan circuit)) plan.circuits) _ refl
      (skip_some (codes "group") (codes "wire") (map (λ wire. table (wire_table plan wire)) plan.wires) no_members refl refl))))))

  circuits_at : get_member (codes "circuit") (top_table plan events) ≡ some_value (map (λ circuit. table (circuit_table plan circuit)) plan.circuits)
  unfolding top_table plan_table
  circuits_at =
      skip (codes "circuit") (codes "version") _ _ refl (skip (codes "circuit") (codes "events") _ _ refl
      (skip_some (codes "circuit") (codes "edge") (map (λ edge. table (edge_table edge)) plan.edges) _ refl
      (skip_some (codes "circuit") (codes "service") (map (λ service. table (service_table service)) plan.services) _ refl
      (skip_some (codes "circuit") (codes "group") (map (λ group. table (group_table group)) (used_groups plan.wires)) _ refl
      (some_at_key (codes "circuit") (map (λ circuit. table (circuit_table plan circuit)) plan.circuits) _
      (skip_some (codes "circuit") (codes "wire") (map (λ wire. table (wire_table plan wire)) plan.wires) no_members refl refl))))))

  wires_at : get_member (codes "wire") (top_table plan events) ≡ some_value (map (λ wire. table (wire_table plan wire)) plan.wires)
  unfolding top_table plan_table
  wires_at =
      skip (codes "wire") (codes "version") _ _ refl (skip (codes "wire") (codes "events") _ _ refl
      (skip_some (codes "wire") (codes "edge") (map (λ edge. table (edge_table edge)) plan.edges) _ refl
      (skip_some (codes "wire") (codes "service") (map (λ service. table (service_table service)) plan.services) _ refl
      (skip_some (codes "wire") (codes "group") (map (λ group. table (group_table group)) (used_groups plan.wires)) _ refl
      (skip_some (codes "wire") (codes "circuit") (map (λ circuit. table (circuit_table plan circuit)) plan.circuits) _ refl
      (some_at_key (codes "wire") (map (λ wire. table (wire_table plan wire)) plan.wires) no_members refl))))))

  top_known : all_keys (is_known_key Two kind.Top) (top_table plan events) ≡ true
  unfolding top_table plan_table
  top_known =
      put_keys _ (codes "version") _ _ refl (put_keys _ (codes "events") _ _ refl
      (some_keys _ (codes "edge") (map (λ edge. table (edge_table edge)) plan.edges) _ refl
      (some_keys _ (codes "service") (map (λ service. table (service_table service)) plan.services) _ refl
      (some_keys _ (codes "group") (map (λ group. table (group_table group)) (used_groups plan.wires)) _ refl
      (some_keys _ (codes "circuit") (map (λ circuit. table (circuit_table plan circuit)) plan.circuits) _ refl
      (some_keys _ (codes "wire") (map (λ wire. table (wire_table plan wire)) plan.wires) no_members refl refl))))))

  at_top : all_items is_string events ≡ true → arrays_at Two (top_table plan events) ≡ Ok (arrays_of_plan plan events)
  unfolding arrays_at
  at_top strings =
      rw (
        defaulted_is (an_array is_string) top_row (codes "events") (top_table plan events) no_items (array events) events events_at (rw strings refl),
        array_read edge_table (codes "edge") (top_table plan events) plan.edges edges_at,
        array_read service_table (codes "service") (top_table plan events) plan.services services_at,
        array_read group_table (codes "group") (top_table plan events) (used_groups plan.wires) groups_at_key,
        array_read (circuit_table plan) (codes "circuit") (top_table plan events) plan.circuits circuits_at,
        array_read (wire_table plan) (codes "wire") (top_table plan events) plan.wires wires_at,
      ) refl

  few_at_top : IsReadPlan plan → items_length events ≤ most_events → few_in (arrays_of_plan plan events) ≡ Ok true
  unfolding few_in
  few_at_top is many =
      let limits = is.checked.limits in
      let groups = groups_are plan.wires (are_small plan.wires is.near is.far) in
      rw (
        le-leb (items_length events) most_events many,
        few_rows edge_table most_edges kind.Edge plan.edges limits.edges,
        few_rows service_table most_services kind.Service plan.services limits.services,
        few_rows group_table most_groups kind.Group (used_groups plan.wires) (omega (arith, groups.few, limits.wires)),
        few_rows (circuit_table plan) most_circuits kind.Circuit plan.circuits limits.circuits,
        few_rows (wire_table plan) most_wires kind.Wire plan.wires limits.wires,
      ) refl

  arrays_read : IsReadPlan plan → all_items is_string events ≡ true → items_length events ≤ most_events → arrays_in (top_table plan events) ≡ Ok (arrays_of_plan plan events)
  unfolding arrays_in
  arrays_read is strings many =
      rw (
        needed_is a_version top_row (codes "version") (top_table plan events) (number 2) Two version_at refl,
        at_top strings,
        known Two kind.Top top_row (top_table plan events) top_known,
        few_at_top is many,
      ) refl

  rows_of_plan : IsReadPlan plan → plan_in (arrays_of_plan plan events) ≡ Ok plan
  unfolding plan_in
  rows_of_plan is =
      let groups = groups_are plan.wires (are_small plan.wires is.near is.far) in
      rw (
        edges_read 1 plan.edges is.edges is.checked.edges is.addresses,
        services_read 1 plan.services is.services is.checked.services,
        groups_read 1 (used_groups plan.wires) groups.numbers,
        circuits_read plan 1 plan.circuits is.edges is.services is.circuits is.checked.circuits,
        wires_read plan 1 plan.wires is.edges is.services is.wires is.checked.wires is.priorities is.near is.far,
        plan_placed plan is,
      ) refl

  -- the document is the plan with its events
  pub scenario_read : IsReadPlan plan → all_items is_string events ≡ true → items_length events ≤ most_events
      → scenario_in (top_table plan events) ≡ scenario_with plan (commands_in plan 1 0 events)
  unfolding scenario_in
  scenario_read is strings many = rw (arrays_read is strings many, rows_of_plan is) refl
