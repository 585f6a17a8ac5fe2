-- What is read so far, and then the rest, is what the definition reads.
use Rattle.std.proofs.Common.{◌≡◌, ◌+◌, length, drop}
use Rattle.toml.specs.View.{items_view}
use Rattle.command_text.specs.Reading.{with_front}
use Rattle.scenario_text.specs.Rows.{rows_in}
use Rattle.scenario_text.proofs.rows.rows.Given as goal

abbrev pub invariant-loop-i : goal.invariant-loop-i
invariant-loop-i g l =
    (with_front l.rows (rows_in l.table (g.T.Row.row_of l.version) (l.i + 1) (items_view (drop l.i l.array))) ≡ rows_in l.table (g.T.Row.row_of l.version) 1 (items_view l.array))
    × (length l.rows ≡ l.i)
