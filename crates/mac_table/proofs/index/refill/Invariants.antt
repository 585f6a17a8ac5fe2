-- The map has the entries before the place, and no room is lost.
use Rattle.std.proofs.Common.{◌≡◌, ◌≤◌, ◌+◌, take}
use Rattle.indexmap.specs.IndexMap.{index_map_len, spare}
use Rattle.mac_table.specs.Index.{address_pairs}
use Rattle.mac_table.proofs.index.refill.Given as goal

abbrev pub invariant-loop-entry : goal.invariant-loop-entry
invariant-loop-entry l =
    (l.index.entries ≡ address_pairs (take l.entry-index l.entries))
    × (index_map_len l.index ≡ l.entry-index)
    × (index_map_len l.fn.index + spare l.fn.index ≤ index_map_len l.index + spare l.index)
