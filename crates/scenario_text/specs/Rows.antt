-- The rows of the document's tables: each key with its kind, its range and its default.
use Rattle.std.specs.Prelude.{◌+◌, codes, suc, ℕ, true, false, List, [], ◌∷◌, Option, None, Some, Result, Ok}
use Rattle.toml.specs.Data.{Data, Items, no_items, item, Members, as_table}
use Rattle.net_base.specs.declared.plan.place.Place.{Place}
use Rattle.net_base.specs.declared.plan.edge_plan.EdgePlan.{EdgePlan}
use Rattle.net_base.specs.declared.plan.service_plan.ServicePlan.{ServicePlan}
use Rattle.net_base.specs.declared.plan.table.Table.{Table}
use Rattle.net_base.specs.declared.plan.table.Table.TheVariants.{Edge, Service, Group, Circuit, Wire, Near, Far}
use Rattle.command_text.specs.declared.row_place.RowPlace.{RowPlace}
use Rattle.command_text.specs.declared.scenario_fault.ScenarioFault.{ScenarioFault}
use Rattle.command_text.specs.declared.scenario_fault.ScenarioFault.TheVariants.{WrongKind}
use Rattle.command_text.specs.Reading.{◌>>=◌, found}
use Rattle.command_text.specs.Places.{place_of_key}
use Rattle.scenario_text.specs.declared.circuit_row.CircuitRow.{CircuitRow}
use Rattle.scenario_text.specs.declared.document_version.DocumentVersion.{DocumentVersion}
use Rattle.scenario_text.specs.declared.document_version.DocumentVersion.TheVariants.{One, Two}
use Rattle.scenario_text.specs.declared.end_rows.EndRows.{EndRows}
use Rattle.scenario_text.specs.declared.group_row.GroupRow.{GroupRow}
use Rattle.scenario_text.specs.declared.group_use.GroupUse.{GroupUse}
use Rattle.scenario_text.specs.declared.group_use.GroupUse.TheVariants.{Number, Named}
use Rattle.scenario_text.specs.declared.offer_row.OfferRow.{OfferRow}
use Rattle.scenario_text.specs.declared.wire_row.WireRow.{WireRow}
use Rattle.scenario_text.specs.Keys.{only_known}
use Rattle.scenario_text.specs.Values.{a_name, an_address, a_number, a_boolean, a_class, a_mode, a_description, a_path, needed, defaulted, optional}

-- a row of `edge`
unfoldable pub edge_in : DocumentVersion → RowPlace → Members → Result EdgePlan ScenarioFault
edge_in version row ms = do
  name ← needed a_name row (codes "name") ms
  address ← needed an_address row (codes "address") ms
  first_label ← defaulted 16 (a_number 16 1048575) row (codes "first_label") ms
  keepalive ← defaulted 180 (a_number 3 65535) row (codes "keepalive") ms
  max_pdu ← defaulted 4096 (a_number 256 4096) row (codes "max_pdu") ms
  known ← only_known version Edge row ms
  Ok (record { name = name; address = address; first_label = first_label; keepalive = keepalive; max_pdu = max_pdu })

-- a row of `service`
unfoldable pub service_in : DocumentVersion → RowPlace → Members → Result ServicePlan ScenarioFault
service_in version row ms = do
  name ← needed a_name row (codes "name") ms
  mtu ← defaulted 1500 (a_number 64 9198) row (codes "mtu") ms
  age ← defaulted 300 (a_number 1 1000000) row (codes "age") ms
  known ← only_known version Service row ms
  Ok (record { name = name; mtu = mtu; age = age })

-- a row of `circuit`
unfoldable pub circuit_row_in : DocumentVersion → RowPlace → Members → Result CircuitRow ScenarioFault
circuit_row_in version row ms = do
  name ← needed a_name row (codes "name") ms
  edge ← needed a_name row (codes "edge") ms
  service ← needed a_name row (codes "service") ms
  tag ← optional None (a_number 1 4094) row (codes "tag") ms
  known ← only_known version Circuit row ms
  Ok (record { name = name; edge = edge; service = service; tag = tag })

-- a row of `group`
unfoldable pub group_row_in : DocumentVersion → RowPlace → Members → Result GroupRow ScenarioFault
group_row_in version row ms = do
  name ← needed a_name row (codes "name") ms
  number ← needed (a_number 1 4294967295) row (codes "number") ms
  known ← only_known version Group row ms
  Ok (record { name = name; number = number })

-- the group of an end: a number in version 1, and the name of a group in version 2
abbrev pub a_group : DocumentVersion → Place → Data → Result GroupUse ScenarioFault
a_group One place value = a_number 0 4294967295 place value >>= (λ number. Ok (Number number))
a_group Two place value = a_name place value >>= (λ name. Ok (Named name))

-- what the near end of a wire offers; no MTU stands for the service's
unfoldable pub near_in : DocumentVersion → RowPlace → Members → Result OfferRow ScenarioFault
near_in version row ms = do
  tagged ← defaulted false a_mode row (codes "mode") ms
  cword ← defaulted true a_boolean row (codes "control_word") ms
  mtu ← optional None (a_number 0 65535) row (codes "mtu") ms
  vlan ← optional None (a_number 0 4095) row (codes "vlan") ms
  vccv ← defaulted 0 (a_number 0 7) row (codes "vccv") ms
  status ← defaulted true a_boolean row (codes "status") ms
  group ← defaulted (Number 0) (a_group version) row (codes "group") ms
  description ← defaulted [] a_description row (codes "description") ms
  Ok (record { tagged = tagged; cword = cword; mtu = mtu; vlan = vlan; vccv = vccv; status = status; group = group; description = description })

-- what the far end offers; where a key is absent, the same as the near end
unfoldable pub far_in : OfferRow → RowPlace → Members → Result OfferRow ScenarioFault
far_in near row ms = do
  tagged ← defaulted near.tagged a_mode row (codes "far_mode") ms
  cword ← defaulted near.cword a_boolean row (codes "far_control_word") ms
  mtu ← optional near.mtu (a_number 0 65535) row (codes "far_mtu") ms
  vlan ← optional near.vlan (a_number 0 4095) row (codes "far_vlan") ms
  vccv ← defaulted near.vccv (a_number 0 7) row (codes "far_vccv") ms
  status ← defaulted near.status a_boolean row (codes "far_status") ms
  group ← defaulted near.group (a_group One) row (codes "far_group") ms
  description ← defaulted near.description a_description row (codes "far_description") ms
  Ok (record { tagged = tagged; cword = cword; mtu = mtu; vlan = vlan; vccv = vccv; status = status; group = group; description = description })

-- the ends of a wire by its own keys
unfoldable pub ends_by_keys : RowPlace → Members → Result EndRows ScenarioFault
ends_by_keys row ms = do
  near ← near_in One row ms
  far ← far_in near row ms
  known ← only_known One Wire row ms
  Ok (record { near = near; far = far })

-- a table
abbrev pub a_table : Place → Data → Result Members ScenarioFault
a_table place value = found (WrongKind place) (as_table value)

-- what an end offers by a table of its own, at the wire's index
unfoldable pub offer_table_in : Table → ℕ → Members → Result OfferRow ScenarioFault
offer_table_in table index ms = do
  offer ← near_in Two (record { table = table; index = index }) ms
  known ← only_known Two table (record { table = table; index = index }) ms
  Ok offer

-- what an end offers of which nothing is said
abbrev pub plain_offer : OfferRow
plain_offer = record { tagged = false; cword = true; mtu = None; vlan = None; vccv = 0; status = true; group = Number 0; description = [] }

-- what an end offers by its table, and without it this
abbrev pub end_or : OfferRow → Table → ℕ → Option Members → Result OfferRow ScenarioFault
end_or other table index None = Ok other
end_or other table index (Some ms) = offer_table_in table index ms

-- the ends of a wire by tables of their own; without its table, the far end offers the same as the near one
unfoldable pub ends_by_tables : RowPlace → Members → Result EndRows ScenarioFault
ends_by_tables row ms = do
  near_table ← optional None a_table row (codes "near") ms
  far_table ← optional None a_table row (codes "far") ms
  known ← only_known Two Wire row ms
  near ← end_or plain_offer Near row.index near_table
  far ← end_or near Far row.index far_table
  Ok (record { near = near; far = far })

-- the ends of a wire, and the keys that a wire lacks
abbrev pub ends_in : DocumentVersion → RowPlace → Members → Result EndRows ScenarioFault
ends_in One row ms = ends_by_keys row ms
ends_in Two row ms = ends_by_tables row ms

-- a row of `wire`
unfoldable pub wire_row_in : DocumentVersion → RowPlace → Members → Result WireRow ScenarioFault
wire_row_in version row ms = do
  name ← needed a_name row (codes "name") ms
  service ← needed a_name row (codes "service") ms
  class ← needed a_class row (codes "class") ms
  path ← needed a_path row (codes "path") ms
  pw_id ← needed (a_number 1 4294967295) row (codes "pw_id") ms
  priority ← defaulted 100 (a_number 0 255) row (codes "priority") ms
  ends ← ends_in version row ms
  Ok (record { name = name; service = service; class = class; path = path; pw_id = pw_id; priority = priority; near = ends.near; far = ends.far })

-- the members of a row, which is a table
abbrev pub row_members : RowPlace → Data → Result Members ScenarioFault
row_members row value = found (WrongKind (place_of_key row [])) (as_table value)

-- the row that a value is
abbrev pub row_in : {A : Type 0} → (RowPlace → Members → Result A ScenarioFault) → RowPlace → Data → Result A ScenarioFault
row_in read row value = row_members row value >>= read row

-- the rows of a table, the first of which has this index
abbrev pub rows_in : {A : Type 0} → Table → (RowPlace → Members → Result A ScenarioFault) → ℕ → Items → Result (List A) ScenarioFault
rows_in table read index no_items = Ok []
rows_in table read index (item value rest) =
    row_members (record { table = table; index = index }) value
    >>= (λ ms. read (record { table = table; index = index }) ms >>= (λ x. rows_in table read (index + 1) rest >>= (λ xs. Ok (x ∷ xs))))

-- how many items there are
abbrev pub items_length : Items → ℕ
items_length no_items = 0
items_length (item value rest) = suc (items_length rest)
