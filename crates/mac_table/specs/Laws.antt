-- How long an address is held that no more frames come from (RFC 4762 section 9.1).
use Rattle.std.specs.Prelude.{◌≡◌, ◌<◌, ◌≤◌, ◌+◌, ◌||◌, filter, zero, suc, ℕ, true, List, Some, None}
use Rattle.mac_table.specs.declared.mac_entry.MacEntry.{MacEntry}
use Rattle.mac_table.specs.Addresses.{AddressTable, AreDistinctAddresses, has_address, has_room, is_young, learned, mac_entry_of}

-- so many ticks pass after a tick: at each of them what is not young is forgotten, and no frame comes
abbrev pub aging : (limit now : ℕ) → ℕ → List MacEntry → List MacEntry
aging limit now zero entries = entries
aging limit now (suc n) entries = aging limit (now + 1) n (filter (is_young (now + 1) limit) entries)

-- An address that a table learned at a tick, or that it renewed then, is held with that entry until as many ticks have passed as the
-- limit says, and is gone from then on.
pub record LastsItsAge : Type 0 where
  pub stands : (table : AddressTable) (entry : MacEntry) (limit n : ℕ) → AreDistinctAddresses table.entries → has_address table.entries entry.address || has_room table ≡ true → n < limit
      → mac_entry_of (aging limit entry.tick n (learned table entry)) entry.address ≡ Some entry
  pub goes : (table : AddressTable) (entry : MacEntry) (limit n : ℕ) → AreDistinctAddresses table.entries → has_address table.entries entry.address || has_room table ≡ true → 0 < limit → limit ≤ n
      → mac_entry_of (aging limit entry.tick n (learned table entry)) entry.address ≡ None
