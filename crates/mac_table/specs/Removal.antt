-- What takes addresses out of a table.
use Rattle.std.specs.Prelude.{◌==◌, not, nat_le, Bool}
use Rattle.mac_table.specs.declared.mac_entry.MacEntry.{MacEntry}
use Rattle.mac_table.specs.declared.removal.Removal.{Removal}
use Rattle.mac_table.specs.declared.removal.Removal.TheVariants.{Before, Port, Withdraw}
use Rattle.mac_table.specs.Addresses.{entry_stays}

-- the entry stays
abbrev pub keeps_entry : Removal → MacEntry → Bool
keeps_entry (Before since) entry = nat_le since entry.tick
keeps_entry (Port port) entry = not (entry.port == port)
keeps_entry (Withdraw from addresses) entry = entry_stays from addresses.now entry
