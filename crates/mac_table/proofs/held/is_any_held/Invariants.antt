-- None before is held.
use Rattle.std.proofs.Common.{◌≡◌, drop}
use Rattle.mac_table.specs.Stored.{held}
use Rattle.mac_table.proofs.held.is_any_held.Given as goal

abbrev pub invariant-loop-entry : goal.invariant-loop-entry
invariant-loop-entry l = held l.since (drop l.entry-index l.entries) ≡ held l.since l.entries
