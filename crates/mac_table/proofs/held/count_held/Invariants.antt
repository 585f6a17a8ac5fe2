-- What was counted, and what is left to count.
use Rattle.std.proofs.Common.{◌≡◌, ◌≤◌, ◌+◌, drop, length}
use Rattle.mac_table.specs.Stored.{held}
use Rattle.mac_table.proofs.held.count_held.Given as goal

abbrev pub invariant-loop-entry : goal.invariant-loop-entry
invariant-loop-entry l = (length (held l.since (drop l.entry-index l.entries)) + l.count ≡ length (held l.since l.entries)) × (l.count ≤ l.entry-index)
