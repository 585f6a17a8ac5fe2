-- The map beside the entries of a table.
use Rattle.std.specs.Prelude.{◌≡◌, ◌⊎◌, ℕ, List, [], map}
use Rattle.net_values.specs.declared.mac.Mac.{Mac}
use Rattle.mac_table.specs.declared.mac_entry.MacEntry.{MacEntry}

-- the pair by which an entry stands in the map: its address, with its port and tick
abbrev pub address_pair : MacEntry → Mac × (ℕ × ℕ)
address_pair e = (e.address, (e.port, e.tick))

-- the entries as pairs, in order
abbrev pub address_pairs : List MacEntry → List (Mac × (ℕ × ℕ))
address_pairs entries = map address_pair entries

-- the pairs of the map are those of the entries, in order, or it is empty
abbrev pub IsAddressIndex : List (Mac × (ℕ × ℕ)) → List MacEntry → Type 0
IsAddressIndex found entries = (found ≡ address_pairs entries) ⊎ (found ≡ [])
