-- The kinds of values that stand at keys, and keys that are needed or have a default.
use Rattle.std.specs.Prelude.{◌&&◌, nat_le, not, codes, length, ℕ, ℤ, pos, negsuc, Bool, true, false, List, [], ◌∷◌, Option, Some, None, is_some, Result, Ok, Err, if◌then◌else◌}
use Rattle.std.specs.Str.{bytes_eq, is_utf8}
use Rattle.std.specs.Net.Reader.{read_ipv4}
use Rattle.toml.specs.Data.{Data, Items, no_items, item, Members, as_str, as_integer, as_bool, as_array, get_member}
use Rattle.net_values.specs.Name.{is_name_text}
use Rattle.net_values.specs.declared.addr.Addr.{Addr}
use Rattle.net_base.specs.declared.plan.place.Place.{Place}
use Rattle.net_base.specs.declared.plan.plan_fault.PlanFault.TheVariants.{OutOfRange}
use Rattle.net_base.specs.declared.plan.wire_plan.Class.{Class}
use Rattle.net_base.specs.declared.plan.wire_plan.Class.TheVariants.{Mesh, Spoke}
use Rattle.command_text.specs.declared.row_place.RowPlace.{RowPlace}
use Rattle.command_text.specs.declared.scenario_fault.ScenarioFault.{ScenarioFault}
use Rattle.command_text.specs.declared.scenario_fault.ScenarioFault.TheVariants.{Missing, WrongKind, Plan}
use Rattle.command_text.specs.Places.{place_of_key}
use Rattle.command_text.specs.Reading.{◌>>=◌, checked, found}

-- the value where it is in its range
abbrev pub in_range : {A : Type 0} → Place → Bool → A → Result A ScenarioFault
in_range place test x = if test then Ok x else Err (Plan (OutOfRange place))

-- the value that is meant, where it is one
abbrev pub meant : {A : Type 0} → Place → Option A → Result A ScenarioFault
meant place x = found (Plan (OutOfRange place)) x

-- a string
abbrev pub a_text : Place → Data → Result (List ℕ) ScenarioFault
a_text place value = found (WrongKind place) (as_str value)

-- a string that is a name
abbrev pub a_name : Place → Data → Result (List ℕ) ScenarioFault
a_name place value = a_text place value >>= (λ text. in_range place (is_name_text text) text)

-- the octets of a dotted quad, where nothing follows it
abbrev pub whole_of : Option (List ℕ × List ℕ) → Option (List ℕ)
whole_of None = None
whole_of (Some (octets, [])) = Some octets
whole_of (Some (octets, b ∷ bs)) = None

-- the same of a whole text
abbrev pub quad_of : List ℕ → Option (List ℕ)
quad_of text = whole_of (read_ipv4 text)

-- the octets are those of 0.0.0.0
abbrev pub is_unspecified_quad : List ℕ → Bool
is_unspecified_quad octets = bytes_eq octets (0 ∷ 0 ∷ 0 ∷ 0 ∷ [])

-- the address that a dotted quad is
abbrev pub address_in : Place → List ℕ → Result Addr ScenarioFault
address_in place text = meant place (quad_of text) >>= (λ octets. in_range place (not (is_unspecified_quad octets)) (record { 0 = octets }))

-- a string that is a dotted quad without leading zeros, not 0.0.0.0
abbrev pub an_address : Place → Data → Result Addr ScenarioFault
an_address place value = a_text place value >>= address_in place

-- a number from low to high
abbrev pub number_from : ℕ → ℕ → Place → ℤ → Result ℕ ScenarioFault
number_from low high place (pos n) = in_range place (nat_le low n && nat_le n high) n
number_from low high place (negsuc n) = Err (Plan (OutOfRange place))

-- an integer from low to high
abbrev pub a_number : ℕ → ℕ → Place → Data → Result ℕ ScenarioFault
a_number low high place value = found (WrongKind place) (as_integer value) >>= number_from low high place

-- a boolean
abbrev pub a_boolean : Place → Data → Result Bool ScenarioFault
a_boolean place value = found (WrongKind place) (as_bool value)

-- the class by its word
abbrev pub class_of : List ℕ → Option Class
class_of text = if bytes_eq text (codes "mesh") then Some Mesh else if bytes_eq text (codes "spoke") then Some Spoke else None

-- the string `mesh` or `spoke`
abbrev pub a_class : Place → Data → Result Class ScenarioFault
a_class place value = a_text place value >>= (λ text. meant place (class_of text))

-- tagged mode in place of raw mode
abbrev pub mode_of : List ℕ → Option Bool
mode_of text = if bytes_eq text (codes "raw") then Some false else if bytes_eq text (codes "tagged") then Some true else None

-- the string `raw` or `tagged`
abbrev pub a_mode : Place → Data → Result Bool ScenarioFault
a_mode place value = a_text place value >>= (λ text. meant place (mode_of text))

-- a string of at most 80 octets, which is UTF-8 as each string of TOML
abbrev pub a_description : Place → Data → Result (List ℕ) ScenarioFault
a_description place value = a_text place value >>= (λ text. in_range place (is_utf8 text && nat_le (length text) 80) text)

-- every item passes the test
abbrev pub all_items : (Data → Bool) → Items → Bool
all_items test no_items = true
all_items test (item value rest) = test value && all_items test rest

abbrev pub is_string : Data → Bool
is_string value = is_some (as_str value)

-- an array of items that pass the test
abbrev pub an_array : (Data → Bool) → Place → Data → Result Items ScenarioFault
an_array test place value = found (WrongKind place) (as_array value) >>= (λ items. checked (WrongKind place) (all_items test items) >>= (λ all. Ok items))

-- the items are names
abbrev pub names_in : Place → Items → Result (List (List ℕ)) ScenarioFault
names_in place no_items = Ok []
names_in place (item value rest) = a_name place value >>= (λ x. names_in place rest >>= (λ xs. Ok (x ∷ xs)))

-- an array of strings that are names
abbrev pub a_path : Place → Data → Result (List (List ℕ)) ScenarioFault
a_path place value = an_array is_string place value >>= names_in place

-- the value at a key that a row has to have
abbrev pub needed : {A : Type 0} → (Place → Data → Result A ScenarioFault) → RowPlace → List ℕ → Members → Result A ScenarioFault
needed kind row key ms = found (Missing (place_of_key row key)) (get_member key ms) >>= kind (place_of_key row key)

-- what is read where a value stands, and else the default
abbrev pub read_or : {A : Type 0} → A → (Data → Result A ScenarioFault) → Option Data → Result A ScenarioFault
read_or default read None = Ok default
read_or default read (Some value) = read value

-- the value at a key, which has a default
abbrev pub defaulted : {A : Type 0} → A → (Place → Data → Result A ScenarioFault) → RowPlace → List ℕ → Members → Result A ScenarioFault
defaulted default kind row key ms = read_or default (kind (place_of_key row key)) (get_member key ms)

-- the value at a key that may be left out, whose default may be none
abbrev pub optional : {A : Type 0} → Option A → (Place → Data → Result A ScenarioFault) → RowPlace → List ℕ → Members → Result (Option A) ScenarioFault
optional default kind row key ms = read_or default (λ value. kind (place_of_key row key) value >>= (λ x. Ok (Some x))) (get_member key ms)
