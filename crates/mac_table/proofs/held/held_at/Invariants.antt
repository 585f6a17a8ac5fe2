-- The one that is sought is as far behind as is left.
use Rattle.std.proofs.Common.{◌≡◌, drop, slice_get}
use Rattle.mac_table.specs.Stored.{held}
use Rattle.mac_table.proofs.held.held_at.Given as goal

abbrev pub invariant-loop-entry : goal.invariant-loop-entry
invariant-loop-entry l = slice_get (held l.since (drop l.entry-index l.entries)) l.left ≡ slice_get (held l.since l.entries) l.index
