-- What holds of a scenario that was read.
use Rattle.std.proofs.Common.{◌≡◌, ◌≤◌, ◌+◌, ◌++◌, nat_le, ℕ, suc, Bool, true, false, List, [], ◌∷◌, codes, length, Option, Some, None, Result, Ok, Err, IfOk, leb-true, refl, sym, ap, subst, arith, if◌then◌else◌}
use Rattle.std.specs.Str.{is_utf8}
use Rattle.toml.specs.Data.{Items, no_items, item, Members}
use Rattle.toml.specs.Parse.{parse_document}
use Rattle.net_base.proofs.AcceptedLemmas.{checked as checked_plan}
use Rattle.net_base.specs.declared.plan.Plan.{Plan}
use Rattle.net_base.specs.declared.plan.edge_plan.EdgePlan.{EdgePlan}
use Rattle.net_base.specs.declared.plan.service_plan.ServicePlan.{ServicePlan}
use Rattle.net_base.specs.declared.plan.table.Table.{Table}
use Rattle.net_base.specs.declared.plan.table.Table.TheVariants as kind
use Rattle.net_base.specs.plan.Accepted.{IsWithinLimits}
use Rattle.net_base.specs.plan.NameFaults.{edge_names, service_names, circuit_names, wire_names}
use Rattle.command_text.specs.declared.row_place.RowPlace.{RowPlace}
use Rattle.command_text.specs.declared.scenario_fault.ScenarioFault.{ScenarioFault}
use Rattle.command_text.specs.declared.scenario_fault.ScenarioFault.TheVariants.{TooMany, NotToml}
use Rattle.command_text.specs.Events.{commands_in, event_in, plays_after, most_events}
use Rattle.command_text.specs.Places.{top_row}
use Rattle.plan_names.specs.Planned.{HasNames}
use Rattle.command_text.specs.Reading.{checked}
use Rattle.scenario_text.specs.declared.circuit_row.CircuitRow.{CircuitRow}
use Rattle.scenario_text.specs.declared.group_row.GroupRow.{GroupRow}
use Rattle.scenario_text.specs.declared.scenario.Scenario.{Scenario}
use Rattle.scenario_text.specs.declared.wire_row.WireRow.{WireRow}
use Rattle.scenario_text.specs.Document.{plan_in, scenario_in, scenario_or, document}
use Rattle.scenario_text.specs.Keys.{only_known}
use Rattle.scenario_text.specs.References.{circuit_in, circuit_plans, groups_differ, placed_rows, plan_of, sound, wire_in, wires_in}
use Rattle.scenario_text.specs.Rows.{circuit_row_in, edge_in, group_row_in, items_length, row_members, rows_in, service_in, wire_row_in}
use Rattle.scenario_text.specs.Top.{Arrays, a_version, arrays_at, arrays_in, few, few_in, most_circuits, most_edges, most_groups, most_services, most_wires}
use Rattle.scenario_text.specs.Values.{needed}
use Rattle.migration.proofs.SaidCommandLemmas.{commands_said}
use Rattle.migration.specs.CommandLaw.{AreSaidCommands}
use Rattle.migration.proofs.PlanLemmas.{pair_left, pair_right}
use Rattle.migration.proofs.ReadPlanLemmas.{read_plan}
use Rattle.migration.proofs.SaidLemmas.{if_ok, if_any, plan_in_ok, sound_ok}
use Rattle.migration.specs.ReadPlan.{IsReadPlan}

if_then : {A : Type 0} (P Q : A → Type 0) (r : Result A ScenarioFault) → IfOk r P → ((x : A) → P x → Q x) → IfOk r Q
if_then P Q (Ok x) p give = give x p
if_then P Q (Err e) p give = tt

if_both : {A : Type 0} (P Q : A → Type 0) (r : Result A ScenarioFault) → IfOk r P → IfOk r Q → IfOk r (λ x. P x × Q x)
if_both P Q (Ok x) p q = (p, q)
if_both P Q (Err e) p q = tt

-- how many items a document's arrays have
pub record AreFew (arrays : Arrays) : Type 0 where
  pub events : items_length arrays.events ≤ most_events
  pub edges : items_length arrays.edges ≤ 64
  pub services : items_length arrays.services ≤ 64
  pub circuits : items_length arrays.circuits ≤ 512
  pub wires : items_length arrays.wires ≤ 1024

few_ok : (limit : ℕ) (table : Table) (items : Items) → IfOk (few limit table items) (λ _. items_length items ≤ limit)
few_ok limit table items = of_test (nat_le (items_length items) limit) refl
  where
    of_test : (test : Bool) → nat_le (items_length items) limit ≡ test → IfOk (checked (TooMany table limit) test) (λ _. items_length items ≤ limit)
    of_test true is = leb-true (items_length items) limit is
    of_test false is = tt

few_in_ok : (arrays : Arrays) → IfOk (few_in arrays) (λ _. AreFew arrays)
unfolding few_in
few_in_ok arrays =
    if_ok _ (few most_events kind.Events arrays.events) _ (few_ok most_events kind.Events arrays.events) (λ a events.
    if_ok _ (few most_edges kind.Edge arrays.edges) _ (few_ok most_edges kind.Edge arrays.edges) (λ b edges.
    if_ok _ (few most_services kind.Service arrays.services) _ (few_ok most_services kind.Service arrays.services) (λ c services.
    if_any _ (few most_groups kind.Group arrays.groups) _ (λ d.
    if_ok _ (few most_circuits kind.Circuit arrays.circuits) _ (few_ok most_circuits kind.Circuit arrays.circuits) (λ e circuits.
    if_then _ _ (few most_wires kind.Wire arrays.wires) (few_ok most_wires kind.Wire arrays.wires) (λ f wires.
    record { events = events; edges = edges; services = services; circuits = circuits; wires = wires }))))))

arrays_few : (ms : Members) → IfOk (arrays_in ms) AreFew
unfolding arrays_in
arrays_few ms =
    if_any _ (needed a_version top_row (codes "version") ms) _ (λ version.
    if_any _ (arrays_at version ms) _ (λ arrays.
    if_any _ (only_known version kind.Top top_row ms) _ (λ known.
    if_ok _ (few_in arrays) _ (few_in_ok arrays) (λ few is. is))))

-- as many rows as items
rows_length : {A : Type 0} (table : Table) (read : RowPlace → Members → Result A ScenarioFault) (index : ℕ) (items : Items)
    → IfOk (rows_in table read index items) (λ xs. length xs ≡ items_length items)
rows_length table read index no_items = refl
rows_length table read index (item value rest) =
    if_any _ (row_members (record { table = table; index = index }) value) _ (λ ms.
    if_any _ (read (record { table = table; index = index }) ms) _ (λ x.
    if_ok _ (rows_in table read (index + 1) rest) _ (rows_length table read (index + 1) rest) (λ xs e. ap (λ n. suc n) e)))

circuits_length : (edges services : List (List ℕ)) (index : ℕ) (rows : List CircuitRow) → IfOk (circuit_plans edges services index rows) (λ xs. length xs ≡ length rows)
circuits_length edges services index [] = refl
circuits_length edges services index (row ∷ rows) =
    if_any _ (circuit_in edges services (record { table = kind.Circuit; index = index }) row) _ (λ x.
    if_ok _ (circuit_plans edges services (index + 1) rows) _ (circuits_length edges services (index + 1) rows) (λ xs e. ap (λ n. suc n) e))

wires_length : (edges : List (List ℕ)) (services : List ServicePlan) (groups : List GroupRow) (index : ℕ) (rows : List WireRow)
    → IfOk (wires_in edges services groups index rows) (λ xs. length xs ≡ length rows)
wires_length edges services groups index [] = refl
wires_length edges services groups index (row ∷ rows) =
    if_any _ (wire_in edges services groups (record { table = kind.Wire; index = index }) row) _ (λ x.
    if_ok _ (wires_in edges services groups (index + 1) rows) _ (wires_length edges services groups (index + 1) rows) (λ xs e. ap (λ n. suc n) e))

-- the plan of rows has as many
placed_length : (edges : List (List ℕ)) (services : List ServicePlan) (groups : List GroupRow) (circuits : List CircuitRow) (wires : List WireRow)
    → IfOk (placed_rows edges services groups circuits wires) (λ rows. (length rows.circuits ≡ length circuits) × (length rows.wires ≡ length wires))
unfolding placed_rows
placed_length edges services groups circuits wires =
    if_ok _ (circuit_plans edges (service_names services) 1 circuits) _ (circuits_length edges (service_names services) 1 circuits) (λ cs c.
    if_ok _ (wires_in edges services groups 1 wires) _ (wires_length edges services groups 1 wires) (λ ws w. (c, w)))

sound_within : (plan : Plan) → IsWithinLimits plan → IfOk (sound plan) IsWithinLimits
sound_within plan is = if_then _ _ (sound plan) (sound_ok plan) (λ p same. subst IsWithinLimits (sym same.0) is)

plan_within : (edges : List EdgePlan) (services : List ServicePlan) (groups : List GroupRow) (circuits : List CircuitRow) (wires : List WireRow)
    → length edges ≤ 64 → length services ≤ 64 → length circuits ≤ 512 → length wires ≤ 1024 → IfOk (plan_of edges services groups circuits wires) IsWithinLimits
unfolding plan_of
plan_within edges services groups circuits wires few_edges few_services few_circuits few_wires =
    if_ok _ (placed_rows (edge_names edges) services groups circuits wires) _ (placed_length (edge_names edges) services groups circuits wires) (λ rows are.
    if_any _ (groups_differ groups) _ (λ differ.
    sound_within (record { edges = edges; services = services; circuits = rows.circuits; wires = rows.wires })
    (record { edges = few_edges; services = few_services; circuits = omega (arith, are.0, few_circuits); wires = omega (arith, are.1, few_wires) })))

plan_limits : (arrays : Arrays) → AreFew arrays → IfOk (plan_in arrays) IsWithinLimits
unfolding plan_in
plan_limits arrays are =
    if_ok _ (rows_in kind.Edge (edge_in arrays.version) 1 arrays.edges) _ (rows_length kind.Edge (edge_in arrays.version) 1 arrays.edges) (λ edges e.
    if_ok _ (rows_in kind.Service (service_in arrays.version) 1 arrays.services) _ (rows_length kind.Service (service_in arrays.version) 1 arrays.services) (λ services s.
    if_any _ (rows_in kind.Group (group_row_in arrays.version) 1 arrays.groups) _ (λ groups.
    if_ok _ (rows_in kind.Circuit (circuit_row_in arrays.version) 1 arrays.circuits) _ (rows_length kind.Circuit (circuit_row_in arrays.version) 1 arrays.circuits) (λ circuits c.
    if_ok _ (rows_in kind.Wire (wire_row_in arrays.version) 1 arrays.wires) _ (rows_length kind.Wire (wire_row_in arrays.version) 1 arrays.wires) (λ wires w.
    plan_within edges services groups circuits wires (omega (arith, e, are.edges)) (omega (arith, s, are.services)) (omega (arith, c, are.circuits)) (omega (arith, w, are.wires)))))))

-- as many commands as events
commands_length : (plan : Plan) (number plays : ℕ) (items : Items) → IfOk (commands_in plan number plays items) (λ xs. length xs ≡ items_length items)
commands_length plan number plays no_items = refl
commands_length plan number plays (item value rest) =
    if_any _ (event_in plan number plays value) _ (λ command.
    if_ok _ (commands_in plan (number + 1) (plays_after plays command) rest) _ (commands_length plan (number + 1) (plays_after plays command) rest) (λ xs e. ap (λ n. suc n) e))

-- a plan that can be said, and commands that can be, at most so many
pub record IsReadScenario (scenario : Scenario) : Type 0 where
  pub plan : IsReadPlan scenario.plan
  pub commands : AreSaidCommands scenario.plan 0 scenario.commands
  pub few : length scenario.commands ≤ most_events

scenario_ok : (ms : Members) → IfOk (scenario_in ms) IsReadScenario
unfolding scenario_in
scenario_ok ms =
    if_ok _ (arrays_in ms) _ (arrays_few ms) (λ arrays are.
    if_ok _ (plan_in arrays) _ (if_both _ _ (plan_in arrays) (plan_in_ok arrays) (plan_limits arrays are)) (λ plan is.
    if_ok _ (commands_in plan 1 0 arrays.events) _
    (if_both _ _ (commands_in plan 1 0 arrays.events) (commands_said plan 1 0 arrays.events) (commands_length plan 1 0 arrays.events)) (λ commands said.
    record {
      plan = read_plan plan (checked_plan plan is.1 is.0.sound) is.0;
      commands = said.0;
      few = omega (arith, said.1, are.events);
    })))

document_ok : (bytes : List ℕ) → IfOk (document bytes) IsReadScenario
unfolding document
document_ok bytes = of_text (is_utf8 bytes) (parse_document bytes)
  where
    of_text : (test : Bool) (table : Option Members) → IfOk (if test then scenario_or table else Err NotToml) IsReadScenario
    of_text true None = tt
    of_text true (Some ms) = scenario_ok ms
    of_text false table = tt

-- the scenario of a document
pub read_scenario_is : (bytes : List ℕ) (scenario : Scenario) → document bytes ≡ Ok scenario → IsReadScenario scenario
read_scenario_is bytes scenario is = subst (λ r. IfOk r IsReadScenario) is (document_ok bytes)

-- its names
pub has_names : (plan : Plan) → IsReadPlan plan → HasNames plan
has_names plan is =
    let names = is.checked.names in
    let three = pair_left ((edge_names plan.edges ++ service_names plan.services) ++ circuit_names plan.circuits) (wire_names plan.wires) names in
    let two = pair_left (edge_names plan.edges ++ service_names plan.services) (circuit_names plan.circuits) three in
    record {
      edges = record { each = is.edges; once = pair_left (edge_names plan.edges) (service_names plan.services) two };
      circuits = record { each = is.circuits; once = pair_right (edge_names plan.edges ++ service_names plan.services) (circuit_names plan.circuits) three };
      wires = record { each = is.wires; once = pair_right ((edge_names plan.edges ++ service_names plan.services) ++ circuit_names plan.circuits) (wire_names plan.wires) names };
    }
