-- What was added, and what is left to add, is all that is held; the room stays.
use Rattle.std.proofs.Common.{◌≡◌, ◌++◌, drop, vec_capacity}
use Rattle.mac_table.specs.Stored.{held}
use Rattle.mac_table.proofs.held.add_held.Given as goal

abbrev pub invariant-loop-entry : goal.invariant-loop-entry
invariant-loop-entry l =
    (l.out.items ++ held l.since (drop l.entry-index l.entries) ≡ l.fn.out.items ++ held l.since l.entries) × (vec_capacity l.out ≡ vec_capacity l.fn.out)
