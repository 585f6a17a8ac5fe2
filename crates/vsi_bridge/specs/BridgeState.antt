-- A bridge as contracts see it.
use Rattle.std.specs.Prelude.{ℕ, List}
use Rattle.hvpls_spokes.specs.declared.port.Port.{Port}
use Rattle.mac_table.specs.Addresses.{AddressTable}
use Rattle.mac_table.specs.declared.mac_entry.MacEntry.{MacEntry}

-- the most addresses of a bridge
abbrev pub most_addresses : ℕ
most_addresses = 4096

-- the table of a bridge with these entries
abbrev pub table_of : List MacEntry → AddressTable
table_of entries = record { entries = entries; capacity = most_addresses }

-- its ports, after how many ticks it forgets an address, and the addresses that it has learned
pub record BridgeState : Type 0 where
  pub ports : List Port
  pub age : ℕ
  pub entries : List MacEntry
