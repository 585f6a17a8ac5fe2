-- What is read from keys that were put.
use Rattle.std.proofs.Common.{◌≡◌, ◌<◌, ◌≤◌, ◌∙◌, ℕ, Bool, true, false, List, [], ◌∷◌, length, Option, Some, None, Result, Ok, pos, le-leb, refl, ap, if◌then◌else◌}
use Rattle.std.specs.Net.Text.{dotted_text, ipv4_text}
use Rattle.std.proofs.lemmas.Bool.{and_parts}
use Rattle.std.proofs.lemmas.Str.{is_utf8-from_IsUtf8}
use Rattle.toml.specs.Data.{Data, Members, no_members, member, string, integer, get_member, same_key}
use Rattle.net_values.specs.Name.{IsName}
use Rattle.net_values.specs.declared.addr.Addr.{Addr}
use Rattle.net_base.specs.declared.plan.place.Place.{Place}
use Rattle.net_base.specs.declared.plan.table.Table.{Table}
use Rattle.net_base.specs.declared.plan.wire_plan.Class.{Class}
use Rattle.net_base.specs.declared.plan.wire_plan.Class.TheVariants.{Mesh, Spoke}
use Rattle.net_base.specs.plan.RowFaults.{is_unspecified}
use Rattle.command_text.specs.declared.row_place.RowPlace.{RowPlace}
use Rattle.command_text.specs.declared.scenario_fault.ScenarioFault.{ScenarioFault}
use Rattle.command_text.specs.Places.{place_of_key}
use Rattle.scenario_text.specs.declared.document_version.DocumentVersion.{DocumentVersion}
use Rattle.scenario_text.specs.Keys.{is_known_key, unknown_keys, least, none_unknown, only_known}
use Rattle.scenario_text.specs.Values.{a_name, an_address, a_number, a_mode, a_class, a_description, quad_of, needed, defaulted, optional}
use Rattle.scenario_text.proofs.QuadLemmas.{quad_read}
use Rattle.migration.specs.Tables.{put, put_told, put_some}
use Rattle.migration.proofs.KeyLemmas.{put_other, told_other, some_other, all_keys}
use Rattle.migration.specs.Rows.{class_name, mode_name}
use Rattle.migration.specs.ReadPlan.{IsDescription, IsQuad}

-- a key behind others
pub skip : {x : Option Data} (key other : List ℕ) (value : Data) (ms : Members) → same_key key other ≡ false → get_member key ms ≡ x → get_member key (put other value ms) ≡ x
skip key other value ms apart at = put_other key other value ms apart ∙ at

pub skip_told : {x : Option Data} (key other : List ℕ) (number : Option ℕ) (ms : Members) → same_key key other ≡ false → get_member key ms ≡ x → get_member key (put_told other number ms) ≡ x
skip_told key other number ms apart at = told_other key other number ms apart ∙ at

pub skip_some : {x : Option Data} (key other : List ℕ) (values : List Data) (ms : Members) → same_key key other ≡ false → get_member key ms ≡ x → get_member key (put_some other values ms) ≡ x
skip_some key other values ms apart at = some_other key other values ms apart ∙ at

module _ {A : Type 0} (kind : Place → Data → Result A ScenarioFault) (row : RowPlace) (key : List ℕ) (ms : Members) where
  pub needed_is : (value : Data) (x : A) → get_member key ms ≡ Some value → kind (place_of_key row key) value ≡ Ok x → needed kind row key ms ≡ Ok x
  needed_is value x at is = rw at is

  pub defaulted_is : (default : A) (value : Data) (x : A) → get_member key ms ≡ Some value → kind (place_of_key row key) value ≡ Ok x → defaulted default kind row key ms ≡ Ok x
  defaulted_is default value x at is = rw at is

  pub defaulted_none : (default : A) → get_member key ms ≡ None → defaulted default kind row key ms ≡ Ok default
  defaulted_none default at = rw at refl

  pub optional_is : (default : Option A) (value : Data) (x : A) → get_member key ms ≡ Some value → kind (place_of_key row key) value ≡ Ok x → optional default kind row key ms ≡ Ok (Some x)
  optional_is default value x at is = rw (at, is) refl

  pub optional_none : (default : Option A) → get_member key ms ≡ None → optional default kind row key ms ≡ Ok default
  optional_none default at = rw at refl

-- values
pub name_is : (place : Place) (text : List ℕ) → IsName text → a_name place (string text) ≡ Ok text
name_is place text is = rw is refl

pub number_is : (low high n : ℕ) (place : Place) → low ≤ n → n ≤ high → a_number low high place (integer (pos n)) ≡ Ok n
number_is low high n place least most = rw (le-leb low n least, le-leb n high most) refl

pub mode_is : (place : Place) (tagged : Bool) → a_mode place (string (mode_name tagged)) ≡ Ok tagged
mode_is place true = refl
mode_is place false = refl

pub class_is : (place : Place) (class : Class) → a_class place (string (class_name class)) ≡ Ok class
class_is place Mesh = refl
class_is place Spoke = refl

pub description_is : (place : Place) (text : List ℕ) → IsDescription text → a_description place (string text) ≡ Ok text
description_is place text is = rw (is_utf8-from_IsUtf8 text is.1, le-leb (length text) 80 is.0) refl

quad_is : (place : Place) (a b c d : ℕ) → (a < 256) × (b < 256) × (c < 256) × (d < 256) → is_unspecified (record { 0 = a ∷ b ∷ c ∷ d ∷ [] }) ≡ false
    → an_address place (string (ipv4_text (a ∷ b ∷ c ∷ d ∷ []))) ≡ Ok (record { 0 = a ∷ b ∷ c ∷ d ∷ [] })
quad_is place a b c d fit told =
    let read : Some (a ∷ b ∷ c ∷ d ∷ []) ≡ quad_of (dotted_text a b c d) =
    quad_read (dotted_text a b c d) (a ∷ b ∷ c ∷ d ∷ []) (record { a = a; b = b; c = c; d = d; fit = fit; value = refl; spelled = refl }) in
    rw (← read) (rw told refl)

pub address_is : (place : Place) (address : Addr) → IsQuad address.0 → is_unspecified address ≡ false → an_address place (string (ipv4_text address.0)) ≡ Ok address
address_is place address quad told =
    let same : address ≡ record { 0 = quad.a ∷ quad.b ∷ quad.c ∷ quad.d ∷ [] } = ap (λ (octets : List ℕ). let x : Addr = record { 0 = octets } in x) quad.is in
    rw same (quad_is place quad.a quad.b quad.c quad.d quad.fit (rw same at told))

-- no key is unknown
none_of : (version : DocumentVersion) (table : Table) (ms : Members) → all_keys (is_known_key version table) ms ≡ true → unknown_keys version table ms ≡ []
none_of version table no_members all = refl
none_of version table (member key value ms) all =
    let both = and_parts (is_known_key version table key) (all_keys (is_known_key version table) ms) all in
    rw both.0 (none_of version table ms both.1)

pub known : (version : DocumentVersion) (table : Table) (row : RowPlace) (ms : Members) → all_keys (is_known_key version table) ms ≡ true → only_known version table row ms ≡ Ok true
known version table row ms all = ap (λ keys. none_unknown row (least keys)) (none_of version table ms all)
