-- The entries that a table stores: those that it holds, and some that have aged out and are not taken out yet.
use Rattle.std.specs.Prelude.{◌≡◌, ◌+◌, ◌-◌, ℕ, Bool, false, List, filter, length, nat_le, nat_lt}
use Rattle.net_values.specs.declared.mac.Mac.{Mac}
use Rattle.mac_table.specs.declared.mac_entry.MacEntry.{MacEntry}
use Rattle.mac_table.specs.Addresses.{AddressTable, has_address}

-- a frame came from the address at this tick or later
abbrev pub is_held : ℕ → MacEntry → Bool
is_held since entry = nat_le since entry.tick

-- the entries that are held: those with this tick or a later one
abbrev pub held : ℕ → List MacEntry → List MacEntry
held since stored = filter (is_held since) stored

-- the table of what is held
abbrev pub held_table : ℕ → AddressTable → AddressTable
held_table since stored = record { entries = held since stored.entries; capacity = stored.capacity }

-- the tick since which entries are young
abbrev pub young_since : (now limit : ℕ) → ℕ
young_since now limit = now + 1 - limit

-- an address may come to what is stored as it comes to what is held: where it is stored it is held, and where it is not there is room as
-- there is among those that are held
pub record IsReady (since capacity : ℕ) (address : Mac) (stored : List MacEntry) : Type 0 where
  pub known : has_address stored address ≡ has_address (held since stored) address
  pub room : has_address stored address ≡ false → nat_lt (length stored) capacity ≡ nat_lt (length (held since stored)) capacity
