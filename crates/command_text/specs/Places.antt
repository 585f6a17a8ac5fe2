-- The place of a fault in a document.
use Rattle.std.specs.Prelude.{◌||◌, nat_lt, ℕ, List, map, min, length, take, if◌then◌else◌}
use Rattle.net_base.specs.declared.plan.place.Place.{Place}
use Rattle.net_base.specs.declared.plan.table.Table.TheVariants.{Top}
use Rattle.command_text.specs.declared.row_place.RowPlace.{RowPlace}

-- a graphic octet, or a question mark in its place
abbrev pub masked : ℕ → ℕ
masked octet = if nat_lt octet 33 || nat_lt 126 octet then 63 else octet

-- how a place shows a key: its first 32 octets
unfoldable pub shown : List ℕ → List ℕ
shown key = map masked (take (min (length key) 32) key)

-- the place of a key of a row
abbrev pub place_of_key : RowPlace → List ℕ → Place
place_of_key row key = record { table = row.table; index = row.index; key = shown key }

-- the top of the document
abbrev pub top_row : RowPlace
top_row = record { table = Top; index = 0 }
