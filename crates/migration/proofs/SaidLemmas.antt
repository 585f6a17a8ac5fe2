-- What was read can be said.
use Rattle.std.proofs.Common.{◌≡◌, ◌<◌, ◌≤◌, ◌==◌, ◌&&◌, ◌+◌, ◌^◌, not, nat_le, ℕ, zero, suc, ℤ, pos, negsuc, Bool, true, false, List, [], ◌∷◌, length, Option, Some, None, unwrap_or, Result, Ok, Err, IfOk, IfSome, codes, leb-true, refl, sym, subst, arith, if◌then◌else◌}
use Rattle.std.proofs.NetLemmas.Ipv4.{read_ipv4_sound}
use Rattle.std.proofs.lemmas.Bool.{and_parts}
use Rattle.std.proofs.lemmas.Bool.Decides.{nat_tests}
use Rattle.std.proofs.lemmas.Str.{IsUtf8-from_is_utf8, IsUtf8-nil}
use Rattle.std.specs.List.{AllByRecursion}
use Rattle.std.specs.Str.{is_utf8}
use Rattle.std.specs.Net.Reader.{read_ipv4}
use Rattle.toml.specs.Data.{Data, Items, no_items, item, Members, as_integer, get_member}
use Rattle.net_values.specs.Name.{IsName, is_name_text}
use Rattle.net_base.specs.declared.plan.place.Place.{Place}
use Rattle.net_base.specs.declared.plan.edge_plan.EdgePlan.{EdgePlan}
use Rattle.net_base.specs.declared.plan.service_plan.ServicePlan.{ServicePlan}
use Rattle.net_base.specs.declared.plan.table.Table.{Table}
use Rattle.net_base.specs.declared.plan.table.Table.TheVariants as kind
use Rattle.command_text.specs.declared.row_place.RowPlace.{RowPlace}
use Rattle.command_text.specs.declared.scenario_fault.ScenarioFault.{ScenarioFault}
use Rattle.command_text.specs.Reading.{◌>>=◌, found}
use Rattle.command_text.specs.Places.{place_of_key}
use Rattle.scenario_text.specs.declared.document_version.DocumentVersion.{DocumentVersion}
use Rattle.scenario_text.specs.declared.document_version.DocumentVersion.TheVariants.{One, Two}
use Rattle.scenario_text.specs.declared.circuit_row.CircuitRow.{CircuitRow}
use Rattle.scenario_text.specs.declared.end_rows.EndRows.{EndRows}
use Rattle.scenario_text.specs.declared.group_row.GroupRow.{GroupRow}
use Rattle.scenario_text.specs.declared.group_use.GroupUse.{GroupUse}
use Rattle.scenario_text.specs.declared.group_use.GroupUse.TheVariants.{Number, Named}
use Rattle.scenario_text.specs.declared.offer_row.OfferRow.{OfferRow}
use Rattle.scenario_text.specs.declared.wire_row.WireRow.{WireRow}
use Rattle.scenario_text.specs.Keys.{only_known}
use Rattle.scenario_text.specs.Values.{in_range, meant, a_text, a_name, whole_of, quad_of, is_unspecified_quad, address_in, an_address, number_from, a_number, a_boolean, a_mode, a_class, a_path, a_description, needed, read_or, defaulted, optional}
use Rattle.scenario_text.specs.Rows.{edge_in, service_in, group_row_in, circuit_row_in, a_group, near_in, far_in, ends_by_keys, a_table, offer_table_in, plain_offer, end_or, ends_by_tables, ends_in, wire_row_in, row_members, rows_in}
use Rattle.net_base.specs.declared.plan.Plan.{Plan}
use Rattle.net_base.specs.declared.plan.circuit_plan.CircuitPlan.{CircuitPlan}
use Rattle.net_base.specs.declared.plan.wire_plan.WirePlan.{WirePlan}
use Rattle.net_base.specs.declared.plan.plan_fault.PlanFault.{PlanFault}
use Rattle.net_base.specs.plan.NameFaults.{edge_names, service_names}
use Rattle.net_base.specs.plan.PlanFault.{plan_fault}
use Rattle.scenario_text.specs.Top.{Arrays}
use Rattle.scenario_text.specs.Document.{plan_in}
use Rattle.scenario_text.specs.References.{named, circuit_in, circuit_plans, path_in, told_unless_zero, offer_from, mtu_at, number_at, group_names, group_in, groups_differ, wire_in, wires_in, without_fault, sound, sound_with, placed_rows, plan_of}
use Rattle.migration.specs.ReadPlan.{IsDescription, IsQuad, IsSaid, IsTold}

-- reading in steps
pub if_ok : {A B : Type 0} {Q : A → Type 0} (P : B → Type 0) (r : Result A ScenarioFault) (f : A → Result B ScenarioFault) → IfOk r Q → ((x : A) → Q x → IfOk (f x) P) → IfOk (r >>= f) P
if_ok P (Ok x) f q g = g x q
if_ok P (Err e) f q g = tt

pub if_any : {A B : Type 0} (P : B → Type 0) (r : Result A ScenarioFault) (f : A → Result B ScenarioFault) → ((x : A) → IfOk (f x) P) → IfOk (r >>= f) P
if_any P (Ok x) f g = g x
if_any P (Err e) f g = tt

if_in : {A : Type 0} (P : A → Type 0) (place : Place) (test : Bool) (x : A) → (test ≡ true → P x) → IfOk (in_range place test x) P
if_in P place true x p = p refl
if_in P place false x p = tt

module _ {A : Type 0} (P : A → Type 0) (kind : Place → Data → Result A ScenarioFault) (each : (place : Place) (value : Data) → IfOk (kind place value) P) (row : RowPlace) (key : List ℕ) (ms : Members) where
  needed_ok : IfOk (needed kind row key ms) P
  needed_ok = if_any _ (found _ (get_member key ms)) (kind (place_of_key row key)) (each (place_of_key row key))

  defaulted_ok : (default : A) → P default → IfOk (defaulted default kind row key ms) P
  defaulted_ok default is = of_value (get_member key ms)
    where
      of_value : (value : Option Data) → IfOk (read_or default (kind (place_of_key row key)) value) P
      of_value None = is
      of_value (Some value) = each (place_of_key row key) value

  optional_ok : (default : Option A) → IfSome default P → IfOk (optional default kind row key ms) (λ o. IfSome o P)
  optional_ok default is = of_value (get_member key ms)
    where
      of_value : (value : Option Data) → IfOk (read_or default (λ v. kind (place_of_key row key) v >>= (λ x. Ok (Some x))) value) (λ o. IfSome o P)
      of_value None = is
      of_value (Some value) = if_ok _ (kind (place_of_key row key) value) (λ x. Ok (Some x)) (each (place_of_key row key) value) (λ x p. p)

-- kinds
name_ok : (place : Place) (value : Data) → IfOk (a_name place value) IsName
name_ok place value = if_any _ (a_text place value) (λ text. in_range place (is_name_text text) text) (λ text. if_in _ place (is_name_text text) text (λ is. is))

abbrev IsFrom : ℕ → ℕ → ℕ → Type 0
IsFrom low high n = (low ≤ n) × (n ≤ high)

number_ok : (low high : ℕ) (place : Place) (value : Data) → IfOk (a_number low high place value) (IsFrom low high)
number_ok low high place value = if_any _ (found _ (as_integer value)) (number_from low high place) of_integer
  where
    of_integer : (z : ℤ) → IfOk (number_from low high place z) (IsFrom low high)
    of_integer (pos n) = if_in _ place (nat_le low n && nat_le n high) n (λ is.
        let both = and_parts (nat_le low n) (nat_le n high) is in
        (leb-true low n both.0, leb-true n high both.1))
    of_integer (negsuc n) = tt

description_ok : (place : Place) (value : Data) → IfOk (a_description place value) IsDescription
description_ok place value = if_any _ (a_text place value) (λ text. in_range place (is_utf8 text && nat_le (length text) 80) text)
    (λ text. if_in _ place (is_utf8 text && nat_le (length text) 80) text (λ is.
    let both = and_parts (is_utf8 text) (nat_le (length text) 80) is in
    (leb-true (length text) 80 both.1, IsUtf8-from_is_utf8 text both.0)))

quad_ok : (text : List ℕ) → IfSome (quad_of text) IsQuad
quad_ok text = of_read (read_ipv4 text) refl
  where
    of_read : (r : Option (List ℕ × List ℕ)) → read_ipv4 text ≡ r → IfSome (whole_of r) IsQuad
    of_read None e = tt
    of_read (Some (octets, b ∷ bs)) e = tt
    of_read (Some (octets, [])) e =
        let (front, split, dotted) = read_ipv4_sound text octets [] e in
        record { a = dotted.a; b = dotted.b; c = dotted.c; d = dotted.d; is = dotted.value; fit = dotted.fit }

address_ok : (place : Place) (value : Data) → IfOk (an_address place value) (λ address. IsQuad address.0)
address_ok place value = if_any _ (a_text place value) (address_in place)
    (λ text. if_ok _ (meant place (quad_of text)) _ (of_meant (quad_of text) (quad_ok text)) (λ octets quad. if_in _ place (not (is_unspecified_quad octets)) _ (λ told. quad)))
  where
    of_meant : (o : Option (List ℕ)) → IfSome o IsQuad → IfOk (meant place o) IsQuad
    of_meant None is = tt
    of_meant (Some octets) is = is

-- rows
pub record IsEdgeSaid (edge : EdgePlan) : Type 0 where
  pub name : IsName edge.name
  pub address : IsQuad edge.address.0

edge_ok : (version : DocumentVersion) (row : RowPlace) (ms : Members) → IfOk (edge_in version row ms) IsEdgeSaid
unfolding edge_in
edge_ok version row ms =
    if_ok _ (needed a_name row (codes "name") ms) _ (needed_ok _ a_name name_ok row (codes "name") ms) (λ name is.
    if_ok _ (needed an_address row (codes "address") ms) _ (needed_ok _ an_address address_ok row (codes "address") ms) (λ address quad.
    if_any _ (defaulted 16 (a_number 16 1048575) row (codes "first_label") ms) _ (λ first_label.
    if_any _ (defaulted 180 (a_number 3 65535) row (codes "keepalive") ms) _ (λ keepalive.
    if_any _ (defaulted 4096 (a_number 256 4096) row (codes "max_pdu") ms) _ (λ max_pdu.
    if_any _ (only_known version kind.Edge row ms) _ (λ known. record { name = is; address = quad }))))))

pub record IsServiceSaid (service : ServicePlan) : Type 0 where
  pub name : IsName service.name
  pub mtu : service.mtu ≤ 65535

service_ok : (version : DocumentVersion) (row : RowPlace) (ms : Members) → IfOk (service_in version row ms) IsServiceSaid
unfolding service_in
service_ok version row ms =
    if_ok _ (needed a_name row (codes "name") ms) _ (needed_ok _ a_name name_ok row (codes "name") ms) (λ name is.
    if_ok _ (defaulted 1500 (a_number 64 9198) row (codes "mtu") ms) _ (defaulted_ok _ (a_number 64 9198) (number_ok 64 9198) row (codes "mtu") ms 1500 (omega arith, omega arith)) (λ mtu is_mtu.
    if_any _ (defaulted 300 (a_number 1 1000000) row (codes "age") ms) _ (λ age.
    if_any _ (only_known version kind.Service row ms) _ (λ known. record { name = is; mtu = omega (arith, is_mtu.1) }))))

group_ok : (version : DocumentVersion) (row : RowPlace) (ms : Members) → IfOk (group_row_in version row ms) (λ (group : GroupRow). IsFrom 1 4294967295 group.number)
unfolding group_row_in
group_ok version row ms =
    if_any _ (needed a_name row (codes "name") ms) _ (λ name.
    if_ok _ (needed (a_number 1 4294967295) row (codes "number") ms) _ (needed_ok _ (a_number 1 4294967295) (number_ok 1 4294967295) row (codes "number") ms) (λ number is.
    if_any _ (only_known version kind.Group row ms) _ (λ known. is)))

circuit_ok : (version : DocumentVersion) (row : RowPlace) (ms : Members) → IfOk (circuit_row_in version row ms) (λ (circuit : CircuitRow). IsName circuit.name)
unfolding circuit_row_in
circuit_ok version row ms =
    if_ok _ (needed a_name row (codes "name") ms) _ (needed_ok _ a_name name_ok row (codes "name") ms) (λ name is.
    if_any _ (needed a_name row (codes "edge") ms) _ (λ edge.
    if_any _ (needed a_name row (codes "service") ms) _ (λ service.
    if_any _ (optional None (a_number 1 4094) row (codes "tag") ms) _ (λ tag.
    if_any _ (only_known version kind.Circuit row ms) _ (λ known. is)))))

abbrev IsUseSaid : GroupUse → Type 0
IsUseSaid (Number number) = number ≤ 4294967295
IsUseSaid (Named name) = Unit {0}

pub record IsRowSaid (offer : OfferRow) : Type 0 where
  pub mtu : IfSome offer.mtu (IsFrom 0 65535)
  pub vccv : offer.vccv ≤ 7
  pub group : IsUseSaid offer.group
  pub description : IsDescription offer.description

use_ok : (version : DocumentVersion) (place : Place) (value : Data) → IfOk (a_group version place value) IsUseSaid
use_ok One place value = if_ok _ (a_number 0 4294967295 place value) _ (number_ok 0 4294967295 place value) (λ n is. is.1)
use_ok Two place value = if_any _ (a_name place value) _ (λ name. tt)

near_ok : (version : DocumentVersion) (row : RowPlace) (ms : Members) → IfOk (near_in version row ms) IsRowSaid
unfolding near_in
near_ok version row ms =
    if_any _ (defaulted false a_mode row (codes "mode") ms) _ (λ tagged.
    if_any _ (defaulted true a_boolean row (codes "control_word") ms) _ (λ cword.
    if_ok _ (optional None (a_number 0 65535) row (codes "mtu") ms) _ (optional_ok _ (a_number 0 65535) (number_ok 0 65535) row (codes "mtu") ms None tt) (λ mtu is_mtu.
    if_any _ (optional None (a_number 0 4095) row (codes "vlan") ms) _ (λ vlan.
    if_ok _ (defaulted 0 (a_number 0 7) row (codes "vccv") ms) _ (defaulted_ok _ (a_number 0 7) (number_ok 0 7) row (codes "vccv") ms 0 (omega arith, omega arith)) (λ vccv is_vccv.
    if_any _ (defaulted true a_boolean row (codes "status") ms) _ (λ status.
    if_ok _ (defaulted (Number 0) (a_group version) row (codes "group") ms) _ (defaulted_ok _ (a_group version) (use_ok version) row (codes "group") ms (Number 0) (omega arith)) (λ group is_group.
    if_ok _ (defaulted [] a_description row (codes "description") ms) _ (defaulted_ok _ a_description description_ok row (codes "description") ms [] (omega arith, IsUtf8-nil)) (λ description is_description.
    record { mtu = is_mtu; vccv = is_vccv.1; group = is_group; description = is_description }))))))))

far_ok : (near : OfferRow) → IsRowSaid near → (row : RowPlace) (ms : Members) → IfOk (far_in near row ms) IsRowSaid
unfolding far_in
far_ok near said row ms =
    if_any _ (defaulted near.tagged a_mode row (codes "far_mode") ms) _ (λ tagged.
    if_any _ (defaulted near.cword a_boolean row (codes "far_control_word") ms) _ (λ cword.
    if_ok _ (optional near.mtu (a_number 0 65535) row (codes "far_mtu") ms) _ (optional_ok _ (a_number 0 65535) (number_ok 0 65535) row (codes "far_mtu") ms near.mtu said.mtu) (λ mtu is_mtu.
    if_any _ (optional near.vlan (a_number 0 4095) row (codes "far_vlan") ms) _ (λ vlan.
    if_ok _ (defaulted near.vccv (a_number 0 7) row (codes "far_vccv") ms) _ (defaulted_ok _ (a_number 0 7) (number_ok 0 7) row (codes "far_vccv") ms near.vccv (omega arith, said.vccv)) (λ vccv is_vccv.
    if_any _ (defaulted near.status a_boolean row (codes "far_status") ms) _ (λ status.
    if_ok _ (defaulted near.group (a_group One) row (codes "far_group") ms) _ (defaulted_ok _ (a_group One) (use_ok One) row (codes "far_group") ms near.group said.group) (λ group is_group.
    if_ok _ (defaulted near.description a_description row (codes "far_description") ms) _ (defaulted_ok _ a_description description_ok row (codes "far_description") ms near.description said.description) (λ description is_description.
    record { mtu = is_mtu; vccv = is_vccv.1; group = is_group; description = is_description }))))))))

abbrev AreEndsSaid : EndRows → Type 0
AreEndsSaid ends = IsRowSaid ends.near × IsRowSaid ends.far

ends_one : (row : RowPlace) (ms : Members) → IfOk (ends_by_keys row ms) AreEndsSaid
unfolding ends_by_keys
ends_one row ms =
    if_ok _ (near_in One row ms) _ (near_ok One row ms) (λ near is_near.
    if_ok _ (far_in near row ms) _ (far_ok near is_near row ms) (λ far is_far.
    if_any _ (only_known One kind.Wire row ms) _ (λ known. (is_near, is_far))))

end_ok : (table : Table) (index : ℕ) (ms : Members) → IfOk (offer_table_in table index ms) IsRowSaid
unfolding offer_table_in
end_ok table index ms =
    if_ok _ (near_in Two (record { table = table; index = index }) ms) _ (near_ok Two (record { table = table; index = index }) ms) (λ offer is.
    if_any _ (only_known Two table (record { table = table; index = index }) ms) _ (λ known. is))

or_ok : (other : OfferRow) → IsRowSaid other → (table : Table) (index : ℕ) (ms : Option Members) → IfOk (end_or other table index ms) IsRowSaid
or_ok other said table index None = said
or_ok other said table index (Some ms) = end_ok table index ms

plain_said : IsRowSaid plain_offer
plain_said = record { mtu = tt; vccv = omega arith; group = omega arith; description = (omega arith, IsUtf8-nil) }

ends_two : (row : RowPlace) (ms : Members) → IfOk (ends_by_tables row ms) AreEndsSaid
unfolding ends_by_tables
ends_two row ms =
    if_any _ (optional None a_table row (codes "near") ms) _ (λ near_table.
    if_any _ (optional None a_table row (codes "far") ms) _ (λ far_table.
    if_any _ (only_known Two kind.Wire row ms) _ (λ known.
    if_ok _ (end_or plain_offer kind.Near row.index near_table) _ (or_ok plain_offer plain_said kind.Near row.index near_table) (λ near is_near.
    if_ok _ (end_or near kind.Far row.index far_table) _ (or_ok near is_near kind.Far row.index far_table) (λ far is_far. (is_near, is_far))))))

ends_ok : (version : DocumentVersion) (row : RowPlace) (ms : Members) → IfOk (ends_in version row ms) AreEndsSaid
ends_ok One row ms = ends_one row ms
ends_ok Two row ms = ends_two row ms

pub record IsWireSaid (wire : WireRow) : Type 0 where
  pub name : IsName wire.name
  pub priority : wire.priority ≤ 255
  pub near : IsRowSaid wire.near
  pub far : IsRowSaid wire.far

wire_ok : (version : DocumentVersion) (row : RowPlace) (ms : Members) → IfOk (wire_row_in version row ms) IsWireSaid
unfolding wire_row_in
wire_ok version row ms =
    if_ok _ (needed a_name row (codes "name") ms) _ (needed_ok _ a_name name_ok row (codes "name") ms) (λ name is.
    if_any _ (needed a_name row (codes "service") ms) _ (λ service.
    if_any _ (needed a_class row (codes "class") ms) _ (λ class.
    if_any _ (needed a_path row (codes "path") ms) _ (λ path.
    if_any _ (needed (a_number 1 4294967295) row (codes "pw_id") ms) _ (λ pw_id.
    if_ok _ (defaulted 100 (a_number 0 255) row (codes "priority") ms) _ (defaulted_ok _ (a_number 0 255) (number_ok 0 255) row (codes "priority") ms 100 (omega arith, omega arith)) (λ priority is_priority.
    if_ok _ (ends_in version row ms) _ (ends_ok version row ms) (λ ends are. record { name = is; priority = is_priority.1; near = are.0; far = are.1 })))))))

pub rows_ok : {A : Type 0} (P : A → Type 0) (table : Table) (read : RowPlace → Members → Result A ScenarioFault) → ((row : RowPlace) (ms : Members) → IfOk (read row ms) P)
    → (index : ℕ) (items : Items)
    → IfOk (rows_in table read index items) (AllByRecursion P)
rows_ok P table read each index no_items = tt
rows_ok P table read each index (item value rest) =
    if_any _ (row_members (record { table = table; index = index }) value) _ (λ ms.
    if_ok _ (read (record { table = table; index = index }) ms) _ (each (record { table = table; index = index }) ms) (λ x p.
    if_ok _ (rows_in table read (index + 1) rest) _ (rows_ok P table read each (index + 1) rest) (λ xs ps. (p, ps))))

-- the plan of the rows
pub record IsPlanWireSaid (wire : WirePlan) : Type 0 where
  pub name : IsName wire.name
  pub priority : wire.priority ≤ 255
  pub near : IsSaid wire.near
  pub far : IsSaid wire.far

told_ok : (most n : ℕ) → n ≤ most → IsTold most (told_unless_zero n)
told_ok most n fits = of_test (n == 0) refl
  where
    of_test : (test : Bool) → (n == 0) ≡ test → IsTold most (if test then None else Some n)
    of_test true is = tt
    of_test false is = (grind (arith, nat_tests, is), fits)

mtu_fits : (told : Option ℕ) (mtu : ℕ) → mtu ≤ 65535 → IfSome told (IsFrom 0 65535) → unwrap_or told mtu ≤ 65535
mtu_fits None mtu fits is = fits
mtu_fits (Some n) mtu fits is = is.1

offer_said : (mtu group : ℕ) (row : OfferRow) → mtu ≤ 65535 → group < 2 ^ 32 → IsRowSaid row → IsSaid (offer_from mtu group row)
offer_said mtu group row fits small said = record {
  mtu = told_ok 65535 (unwrap_or row.mtu mtu) (mtu_fits row.mtu mtu fits said.mtu);
  vccv = told_ok 7 row.vccv said.vccv;
  group = small;
  description = said.description;
}

number_fits : (groups : List GroupRow) → AllByRecursion (λ (group : GroupRow). IsFrom 1 4294967295 group.number) groups → (place : ℕ) → number_at groups place < 2 ^ 32
number_fits [] each place = omega arith
number_fits (group ∷ groups) each zero = omega (arith, each.0.1)
number_fits (group ∷ groups) each (suc place) = number_fits groups each.1 place

use_fits : (groups : List GroupRow) → AllByRecursion (λ (group : GroupRow). IsFrom 1 4294967295 group.number) groups → (row : RowPlace) (use_ : GroupUse) → IsUseSaid use_
    → IfOk (group_in groups row use_) (λ group. group < 2 ^ 32)
use_fits groups each row (Number number) said = omega (arith, said)
use_fits groups each row (Named name) said = if_any _ (named row (codes "group") (group_names groups) name) _ (λ place. number_fits groups each place)

mtu_small : (services : List ServicePlan) → AllByRecursion IsServiceSaid services → (place : ℕ) → mtu_at services place ≤ 65535
mtu_small [] each place = omega arith
mtu_small (service ∷ services) each zero = each.0.mtu
mtu_small (service ∷ services) each (suc place) = mtu_small services each.1 place

plan_wire_ok : (edges : List (List ℕ)) (services : List ServicePlan) (groups : List GroupRow) → AllByRecursion IsServiceSaid services
    → AllByRecursion (λ (group : GroupRow). IsFrom 1 4294967295 group.number) groups
    → (row : RowPlace) (wire : WireRow) → IsWireSaid wire → IfOk (wire_in edges services groups row wire) IsPlanWireSaid
unfolding wire_in
plan_wire_ok edges services groups are_services are_groups row wire said =
    if_any _ (named row (codes "service") (service_names services) wire.service) _ (λ service.
    if_any _ (path_in edges row wire.path) _ (λ path.
    if_ok _ (group_in groups (record { table = kind.Near; index = row.index }) wire.near.group) _
    (use_fits groups are_groups (record { table = kind.Near; index = row.index }) wire.near.group said.near.group) (λ near_group is_near.
    if_ok _ (group_in groups (record { table = kind.Far; index = row.index }) wire.far.group) _
    (use_fits groups are_groups (record { table = kind.Far; index = row.index }) wire.far.group said.far.group) (λ far_group is_far.
    record {
      name = said.name;
      priority = said.priority;
      near = offer_said (mtu_at services service) near_group wire.near (mtu_small services are_services service) is_near said.near;
      far = offer_said (mtu_at services service) far_group wire.far (mtu_small services are_services service) is_far said.far;
    }))))

plan_wires_ok : (edges : List (List ℕ)) (services : List ServicePlan) (groups : List GroupRow) → AllByRecursion IsServiceSaid services
    → AllByRecursion (λ (group : GroupRow). IsFrom 1 4294967295 group.number) groups
    → (index : ℕ) (rows : List WireRow) → AllByRecursion IsWireSaid rows → IfOk (wires_in edges services groups index rows) (AllByRecursion IsPlanWireSaid)
plan_wires_ok edges services groups are_services are_groups index [] each = tt
plan_wires_ok edges services groups are_services are_groups index (row ∷ rows) each =
    if_ok _ (wire_in edges services groups (record { table = kind.Wire; index = index }) row) _
    (plan_wire_ok edges services groups are_services are_groups (record { table = kind.Wire; index = index }) row each.0) (λ x p.
    if_ok _ (wires_in edges services groups (index + 1) rows) _ (plan_wires_ok edges services groups are_services are_groups (index + 1) rows each.1) (λ xs ps. (p, ps)))

plan_circuit_ok : (edges services : List (List ℕ)) (row : RowPlace) (circuit : CircuitRow) → IsName circuit.name → IfOk (circuit_in edges services row circuit) (λ (c : CircuitPlan). IsName c.name)
unfolding circuit_in
plan_circuit_ok edges services row circuit is = if_any _ (named row (codes "edge") edges circuit.edge) _ (λ edge. if_any _ (named row (codes "service") services circuit.service) _ (λ service. is))

plan_circuits_ok : (edges services : List (List ℕ)) (index : ℕ) (rows : List CircuitRow) → AllByRecursion (λ (c : CircuitRow). IsName c.name) rows
    → IfOk (circuit_plans edges services index rows) (AllByRecursion (λ (c : CircuitPlan). IsName c.name))
plan_circuits_ok edges services index [] each = tt
plan_circuits_ok edges services index (row ∷ rows) each =
    if_ok _ (circuit_in edges services (record { table = kind.Circuit; index = index }) row) _ (plan_circuit_ok edges services (record { table = kind.Circuit; index = index }) row each.0) (λ x p.
    if_ok _ (circuit_plans edges services (index + 1) rows) _ (plan_circuits_ok edges services (index + 1) rows each.1) (λ xs ps. (p, ps)))

-- what holds of a plan that was read
pub record IsSaidPlan (plan : Plan) : Type 0 where
  pub sound : plan_fault plan ≡ None
  pub edges : AllByRecursion IsEdgeSaid plan.edges
  pub services : AllByRecursion IsServiceSaid plan.services
  pub circuits : AllByRecursion (λ (c : CircuitPlan). IsName c.name) plan.circuits
  pub wires : AllByRecursion IsPlanWireSaid plan.wires

pub sound_ok : (plan : Plan) → IfOk (sound plan) (λ (p : Plan). (p ≡ plan) × (plan_fault plan ≡ None))
sound_ok plan = of_fault (plan_fault plan) refl
  where
    of_fault : (found : Option PlanFault) → plan_fault plan ≡ found → IfOk (without_fault plan found) (λ (p : Plan). (p ≡ plan) × (plan_fault plan ≡ None))
    of_fault None is = (refl, is)
    of_fault (Some fault) is = tt

placed_ok : (edges : List (List ℕ)) (services : List ServicePlan) (groups : List GroupRow) (circuits : List CircuitRow) (wires : List WireRow)
    → AllByRecursion IsServiceSaid services → AllByRecursion (λ (group : GroupRow). IsFrom 1 4294967295 group.number) groups → AllByRecursion (λ (c : CircuitRow). IsName c.name) circuits
    → AllByRecursion IsWireSaid wires
    → IfOk (placed_rows edges services groups circuits wires) (λ rows. AllByRecursion (λ (c : CircuitPlan). IsName c.name) rows.circuits × AllByRecursion IsPlanWireSaid rows.wires)
unfolding placed_rows
placed_ok edges services groups circuits wires are_services are_groups are_circuits are_wires =
    if_ok _ (circuit_plans edges (service_names services) 1 circuits) _ (plan_circuits_ok edges (service_names services) 1 circuits are_circuits) (λ cs p.
    if_ok _ (wires_in edges services groups 1 wires) _ (plan_wires_ok edges services groups are_services are_groups 1 wires are_wires) (λ ws q. (p, q)))

of_plan : (plan : Plan) (r : Result Plan ScenarioFault) → IfOk r (λ (p : Plan). (p ≡ plan) × (plan_fault plan ≡ None)) → (plan_fault plan ≡ None → IsSaidPlan plan) → IfOk r IsSaidPlan
of_plan plan (Ok p) is said = subst IsSaidPlan (sym is.0) (said is.1)
of_plan plan (Err e) is said = tt

plan_of_ok : (edges : List EdgePlan) (services : List ServicePlan) (groups : List GroupRow) (circuits : List CircuitRow) (wires : List WireRow)
    → AllByRecursion IsEdgeSaid edges → AllByRecursion IsServiceSaid services → AllByRecursion (λ (group : GroupRow). IsFrom 1 4294967295 group.number) groups
    → AllByRecursion (λ (c : CircuitRow). IsName c.name) circuits
    → AllByRecursion IsWireSaid wires
    → IfOk (plan_of edges services groups circuits wires) IsSaidPlan
unfolding plan_of
plan_of_ok edges services groups circuits wires are_edges are_services are_groups are_circuits are_wires =
    if_ok _ (placed_rows (edge_names edges) services groups circuits wires) _ (placed_ok (edge_names edges) services groups circuits wires are_services are_groups are_circuits are_wires) (λ rows are.
    of_sound rows.circuits rows.wires are.0 are.1)
  where
    of_sound : (cs : List CircuitPlan) (ws : List WirePlan) → AllByRecursion (λ (c : CircuitPlan). IsName c.name) cs → AllByRecursion IsPlanWireSaid ws
        → IfOk (sound_with groups (record { edges = edges; services = services; circuits = cs; wires = ws })) IsSaidPlan
    of_sound cs ws p q =
        let plan : Plan = record { edges = edges; services = services; circuits = cs; wires = ws } in
        if_any _ (groups_differ groups) _ (λ differ. of_plan plan (sound plan) (sound_ok plan) (λ clean. record { sound = clean; edges = are_edges; services = are_services; circuits = p; wires = q }))

-- the plan of a document's arrays
pub plan_in_ok : (arrays : Arrays) → IfOk (plan_in arrays) IsSaidPlan
unfolding plan_in
plan_in_ok arrays =
    if_ok _ (rows_in kind.Edge (edge_in arrays.version) 1 arrays.edges) _ (rows_ok _ kind.Edge (edge_in arrays.version) (edge_ok arrays.version) 1 arrays.edges) (λ edges are_edges.
    if_ok _ (rows_in kind.Service (service_in arrays.version) 1 arrays.services) _ (rows_ok _ kind.Service (service_in arrays.version) (service_ok arrays.version) 1 arrays.services)
    (λ services are_services.
    if_ok _ (rows_in kind.Group (group_row_in arrays.version) 1 arrays.groups) _ (rows_ok _ kind.Group (group_row_in arrays.version) (group_ok arrays.version) 1 arrays.groups) (λ groups are_groups.
    if_ok _ (rows_in kind.Circuit (circuit_row_in arrays.version) 1 arrays.circuits) _
    (rows_ok _ kind.Circuit (circuit_row_in arrays.version) (circuit_ok arrays.version) 1 arrays.circuits) (λ circuits are_circuits.
    if_ok _ (rows_in kind.Wire (wire_row_in arrays.version) 1 arrays.wires) _ (rows_ok _ kind.Wire (wire_row_in arrays.version) (wire_ok arrays.version) 1 arrays.wires) (λ wires are_wires.
    plan_of_ok edges services groups circuits wires are_edges are_services are_groups are_circuits are_wires)))))
