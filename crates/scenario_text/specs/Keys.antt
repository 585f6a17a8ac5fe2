-- The keys that a table of the document may have.
use Rattle.std.specs.Prelude.{◌||◌, not, codes, ℕ, Bool, true, false, List, [], ◌∷◌, Result, Ok, Err, Option, Some, None, if◌then◌else◌}
use Rattle.std.specs.Cmp.Lexicographic.{slice_cmp}
use Rattle.std.specs.List.{list_any}
use Rattle.std.specs.Ordering.{nat_cmp, is_le}
use Rattle.std.specs.Str.{bytes_eq}
use Rattle.toml.specs.Data.{Members, no_members, member}
use Rattle.net_base.specs.declared.plan.table.Table.{Table}
use Rattle.net_base.specs.declared.plan.table.Table.TheVariants.{Top, Events, Edge, Service, Group, Circuit, Wire, Near, Far}
use Rattle.command_text.specs.declared.row_place.RowPlace.{RowPlace}
use Rattle.command_text.specs.declared.scenario_fault.ScenarioFault.{ScenarioFault}
use Rattle.command_text.specs.declared.scenario_fault.ScenarioFault.TheVariants.{UnknownKey}
use Rattle.command_text.specs.Places.{place_of_key}
use Rattle.scenario_text.specs.declared.document_version.DocumentVersion.{DocumentVersion}
use Rattle.scenario_text.specs.declared.document_version.DocumentVersion.TheVariants.{One, Two}

-- the keys of what an end of a wire offers
abbrev pub offer_keys : List (List ℕ)
offer_keys =
    codes "mode" ∷ codes "control_word" ∷ codes "mtu" ∷ codes "vlan" ∷ codes "vccv"
    ∷ codes "status" ∷ codes "group" ∷ codes "description" ∷ []

-- the same for the far end alone
abbrev pub far_keys : List (List ℕ)
far_keys =
    codes "far_mode" ∷ codes "far_control_word" ∷ codes "far_mtu" ∷ codes "far_vlan" ∷ codes "far_vccv"
    ∷ codes "far_status" ∷ codes "far_group" ∷ codes "far_description" ∷ []

-- the keys of a row of this table in both versions: those of a wire as a whole, and those of what an end of one offers
abbrev pub table_keys : Table → List (List ℕ)
table_keys Top = codes "version" ∷ codes "events" ∷ codes "edge" ∷ codes "service" ∷ codes "circuit" ∷ codes "wire" ∷ []
table_keys Events = []
table_keys Edge = codes "name" ∷ codes "address" ∷ codes "first_label" ∷ codes "keepalive" ∷ codes "max_pdu" ∷ []
table_keys Service = codes "name" ∷ codes "mtu" ∷ codes "age" ∷ []
table_keys Group = codes "name" ∷ codes "number" ∷ []
table_keys Circuit = codes "name" ∷ codes "edge" ∷ codes "service" ∷ codes "tag" ∷ []
table_keys Wire = codes "name" ∷ codes "service" ∷ codes "class" ∷ codes "path" ∷ codes "pw_id" ∷ codes "priority" ∷ []
table_keys Near = offer_keys
table_keys Far = offer_keys

-- the key is one of these
abbrev pub is_among : List (List ℕ) → List ℕ → Bool
is_among keys key = list_any (bytes_eq key) keys

-- the key is one of what an end of a wire offers
abbrev pub is_offer_key : List ℕ → Bool
is_offer_key key = is_among offer_keys key

-- the key of the groups, which version 2 alone has
abbrev pub is_groups_key : DocumentVersion → List ℕ → Bool
is_groups_key One key = false
is_groups_key Two key = bytes_eq key (codes "group")

-- what the ends of a wire offer: by keys of the wire in version 1, and by two tables of their own in version 2
abbrev pub is_ends_key : DocumentVersion → List ℕ → Bool
is_ends_key One key = is_offer_key key || is_among far_keys key
is_ends_key Two key = bytes_eq key (codes "near") || bytes_eq key (codes "far")

-- a row of this table may have the key
abbrev pub is_known_key : DocumentVersion → Table → List ℕ → Bool
is_known_key version Top key = is_among (table_keys Top) key || is_groups_key version key
is_known_key version Events key = is_among (table_keys Events) key
is_known_key version Edge key = is_among (table_keys Edge) key
is_known_key version Service key = is_among (table_keys Service) key
is_known_key version Group key = is_among (table_keys Group) key
is_known_key version Circuit key = is_among (table_keys Circuit) key
is_known_key version Wire key = is_among (table_keys Wire) key || is_ends_key version key
is_known_key version Near key = is_offer_key key
is_known_key version Far key = is_offer_key key

-- the keys that rows of this table lack
abbrev pub unknown_keys : DocumentVersion → Table → Members → List (List ℕ)
unknown_keys version table no_members = []
unknown_keys version table (member key value rest) =
    if not (is_known_key version table key) then key ∷ unknown_keys version table rest else unknown_keys version table rest

-- the one of two keys that comes first in byte order
abbrev pub lesser : List ℕ → Option (List ℕ) → List ℕ
lesser key None = key
lesser key (Some other) = if is_le (slice_cmp nat_cmp key other) then key else other

-- the least of these keys in byte order
abbrev pub least : List (List ℕ) → Option (List ℕ)
least [] = None
least (key ∷ keys) = Some (lesser key (least keys))

-- the least key in byte order that rows of this table lack
abbrev pub unknown_key : DocumentVersion → Table → Members → Option (List ℕ)
unknown_key version table ms = least (unknown_keys version table ms)

-- a row has no key that its table lacks
abbrev pub none_unknown : RowPlace → Option (List ℕ) → Result Bool ScenarioFault
none_unknown row None = Ok true
none_unknown row (Some key) = Err (UnknownKey (place_of_key row key))

-- the row has known keys alone
abbrev pub only_known : DocumentVersion → Table → RowPlace → Members → Result Bool ScenarioFault
only_known version table row ms = none_unknown row (unknown_key version table ms)
