-- None before is older.
use Rattle.std.proofs.Common.{◌≤◌, take}
use Rattle.std.specs.Prelude.{All}
use Rattle.mac_table.proofs.way.oldest_of.Given as goal

abbrev pub invariant-loop-entry : goal.invariant-loop-entry
invariant-loop-entry l = All (λ e. l.oldest ≤ e.tick) (take l.entry-index l.entries)
