use Rattle.std.proofs.Common.{◌≡◌, ◌+◌, drop}
use Rattle.mac_table.specs.Addresses.{entry_place}
use Rattle.mac_table.proofs.search.walk_to_place.Given as goal

abbrev pub invariant-loop-i : goal.invariant-loop-i
invariant-loop-i l = entry_place (drop l.i l.entries) l.address + l.i ≡ entry_place l.entries l.address
