-- What the rows name: edges and services by their places.
use Rattle.std.specs.Prelude.{◌+◌, ◌==◌, codes, map, ℕ, Bool, true, List, [], ◌∷◌, Option, Some, None, Result, Ok, Err, slice_get, unwrap_or, if◌then◌else◌}
use Rattle.std.specs.Str.{bytes_eq}
use Rattle.net_base.specs.declared.plan.Plan.{Plan}
use Rattle.net_base.specs.declared.plan.places.EdgeId.{EdgeId}
use Rattle.net_base.specs.declared.plan.edge_plan.EdgePlan.{EdgePlan}
use Rattle.net_base.specs.declared.plan.service_plan.ServicePlan.{ServicePlan}
use Rattle.net_base.specs.declared.plan.circuit_plan.CircuitPlan.{CircuitPlan}
use Rattle.net_base.specs.declared.plan.wire_plan.WirePlan.{WirePlan}
use Rattle.net_base.specs.declared.plan.offer.Offer.{Offer}
use Rattle.net_base.specs.declared.plan.plan_fault.PlanFault.{PlanFault}
use Rattle.net_base.specs.declared.plan.plan_fault.PlanFault.TheVariants.{UnknownName, RepeatedName}
use Rattle.net_base.specs.declared.plan.table.Table.TheVariants.{Group, Circuit, Wire, Near, Far}
use Rattle.net_base.specs.plan.Faults.{first_clash}
use Rattle.net_base.specs.plan.NameFaults.{edge_names, service_names}
use Rattle.net_base.specs.plan.PlanFault.{plan_fault}
use Rattle.command_text.specs.declared.row_place.RowPlace.{RowPlace}
use Rattle.command_text.specs.declared.scenario_fault.ScenarioFault.{ScenarioFault}
use Rattle.command_text.specs.declared.scenario_fault.ScenarioFault.TheVariants as fault
use Rattle.command_text.specs.Reading.{◌>>=◌, found}
use Rattle.command_text.specs.Places.{place_of_key}
use Rattle.plan_names.specs.Names.{place_in}
use Rattle.scenario_text.specs.declared.plan.PlacedRows.{PlacedRows}
use Rattle.scenario_text.specs.declared.circuit_row.CircuitRow.{CircuitRow}
use Rattle.scenario_text.specs.declared.group_row.GroupRow.{GroupRow}
use Rattle.scenario_text.specs.declared.group_use.GroupUse.{GroupUse}
use Rattle.scenario_text.specs.declared.group_use.GroupUse.TheVariants.{Number, Named}
use Rattle.scenario_text.specs.declared.offer_row.OfferRow.{OfferRow}
use Rattle.scenario_text.specs.declared.wire_row.WireRow.{WireRow}

-- the place of a name that a row has at a key
abbrev pub named : RowPlace → List ℕ → List (List ℕ) → List ℕ → Result ℕ ScenarioFault
named row key names name = found (fault.Plan (UnknownName (place_of_key row key))) (place_in names name)

-- the circuit of a row
unfoldable pub circuit_in : List (List ℕ) → List (List ℕ) → RowPlace → CircuitRow → Result CircuitPlan ScenarioFault
circuit_in edges services row circuit = do
  edge ← named row (codes "edge") edges circuit.edge
  service ← named row (codes "service") services circuit.service
  Ok (record { name = circuit.name; edge = record { 0 = edge }; service = record { 0 = service }; tag = circuit.tag })

-- the circuits of rows, the first of which has this index
abbrev pub circuit_plans : List (List ℕ) → List (List ℕ) → ℕ → List CircuitRow → Result (List CircuitPlan) ScenarioFault
circuit_plans edges services index [] = Ok []
circuit_plans edges services index (row ∷ rows) =
    circuit_in edges services (record { table = Circuit; index = index }) row >>= (λ x. circuit_plans edges services (index + 1) rows >>= (λ xs. Ok (x ∷ xs)))

-- the edges of a path
abbrev pub path_in : List (List ℕ) → RowPlace → List (List ℕ) → Result (List EdgeId) ScenarioFault
path_in edges row [] = Ok []
path_in edges row (name ∷ rest) = named row (codes "path") edges name >>= (λ edge. path_in edges row rest >>= (λ xs. Ok (record { 0 = edge } ∷ xs)))

-- 0 stands for what is not told
abbrev pub told_unless_zero : ℕ → Option ℕ
told_unless_zero n = if n == 0 then None else Some n

-- the names of groups
abbrev pub group_names : List GroupRow → List (List ℕ)
group_names groups = map (λ row. row.name) groups

-- the number of a group, and 0 for none
abbrev pub number_or_none : Option GroupRow → ℕ
number_or_none None = 0
number_or_none (Some row) = row.number

-- the number of the group at a place
abbrev pub number_at : List GroupRow → ℕ → ℕ
number_at groups place = number_or_none (slice_get groups place)

-- the number of the group that an end has
abbrev pub group_in : List GroupRow → RowPlace → GroupUse → Result ℕ ScenarioFault
group_in groups row (Number number) = Ok number
group_in groups row (Named name) = named row (codes "group") (group_names groups) name >>= (λ place. Ok (number_at groups place))

-- the offer of an end, where the service has this MTU and the end this group
abbrev pub offer_from : ℕ → ℕ → OfferRow → Offer
offer_from mtu group offer =
    record {
      tagged = offer.tagged;
      cword = offer.cword;
      mtu = told_unless_zero (unwrap_or offer.mtu mtu);
      vlan = offer.vlan;
      vccv = told_unless_zero offer.vccv;
      status = offer.status;
      group = group;
      description = offer.description;
    }

-- the MTU of a service, and 0 for none
abbrev pub mtu_or_none : Option ServicePlan → ℕ
mtu_or_none None = 0
mtu_or_none (Some service) = service.mtu

-- the MTU of the service at a place
abbrev pub mtu_at : List ServicePlan → ℕ → ℕ
mtu_at services place = mtu_or_none (slice_get services place)

-- the wire of a row
unfoldable pub wire_in : List (List ℕ) → List ServicePlan → List GroupRow → RowPlace → WireRow → Result WirePlan ScenarioFault
wire_in edges services groups row wire = do
  service ← named row (codes "service") (service_names services) wire.service
  path ← path_in edges row wire.path
  near_group ← group_in groups (record { table = Near; index = row.index }) wire.near.group
  far_group ← group_in groups (record { table = Far; index = row.index }) wire.far.group
  Ok
      (record {
        name = wire.name;
        service = record { 0 = service };
        class = wire.class;
        path = path;
        pw_id = wire.pw_id;
        near = offer_from (mtu_at services service) near_group wire.near;
        far = offer_from (mtu_at services service) far_group wire.far;
        priority = wire.priority;
      })

-- the wires of rows, the first of which has this index
abbrev pub wires_in : List (List ℕ) → List ServicePlan → List GroupRow → ℕ → List WireRow → Result (List WirePlan) ScenarioFault
wires_in edges services groups index [] = Ok []
wires_in edges services groups index (row ∷ rows) =
    wire_in edges services groups (record { table = Wire; index = index }) row >>= (λ x. wires_in edges services groups (index + 1) rows >>= (λ xs. Ok (x ∷ xs)))

-- the plan, unless it has a fault
abbrev pub without_fault : Plan → Option PlanFault → Result Plan ScenarioFault
without_fault plan None = Ok plan
without_fault plan (Some found) = Err (fault.Plan found)

-- the plan, where it passed a test
abbrev pub passed : {A : Type 0} → Plan → Result A ScenarioFault → Result Plan ScenarioFault
passed plan test = test >>= (λ _. Ok plan)

-- the plan, where it has no fault
abbrev pub sound : Plan → Result Plan ScenarioFault
sound plan = without_fault plan (plan_fault plan)

-- no group has the name of an earlier one; else the place of the first that has
abbrev pub without_repeat : Option ℕ → Result Bool ScenarioFault
without_repeat None = Ok true
without_repeat (Some row) = Err (fault.Plan (RepeatedName (place_of_key (record { table = Group; index = row + 1 }) (codes "name"))))

-- no two groups have one name
abbrev pub groups_differ : List GroupRow → Result Bool ScenarioFault
groups_differ groups = without_repeat (first_clash bytes_eq (group_names groups))

-- the plan, where no group has the name of an earlier one and the plan has no fault
abbrev pub sound_with : List GroupRow → Plan → Result Plan ScenarioFault
sound_with groups plan = groups_differ groups >>= (λ differ. sound plan)

-- the circuits and the wires of these rows, which name edges, services and groups
unfoldable pub placed_rows : List (List ℕ) → List ServicePlan → List GroupRow → List CircuitRow → List WireRow → Result PlacedRows ScenarioFault
placed_rows edges services groups circuit_rows wire_rows = do
  circuits ← circuit_plans edges (service_names services) 1 circuit_rows
  wires ← wires_in edges services groups 1 wire_rows
  Ok (record { circuits = circuits; wires = wires })

-- the plan of these rows: first the references, then the groups' names, then the plan as a whole
unfoldable pub plan_of : List EdgePlan → List ServicePlan → List GroupRow → List CircuitRow → List WireRow → Result Plan ScenarioFault
plan_of edges services groups circuit_rows wire_rows = do
  rows ← placed_rows (edge_names edges) services groups circuit_rows wire_rows
  sound_with groups (record { edges = edges; services = services; circuits = rows.circuits; wires = rows.wires })
