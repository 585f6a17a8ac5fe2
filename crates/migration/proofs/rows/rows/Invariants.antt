-- The rows so far, and then the others, are all.
use Rattle.std.proofs.Common.{◌≡◌, ◌++◌, drop, map}
use Rattle.toml.specs.Data.{table}
use Rattle.toml.specs.View.{view}
use Rattle.migration.proofs.rows.rows.Given as goal

abbrev pub invariant-loop-item : goal.invariant-loop-item
invariant-loop-item g l =
    map view l.rows.items ++ map (λ item. table (g.T.PlanRow.table_of l.plan item)) (drop l.item-index l.items) ≡ map (λ item. table (g.T.PlanRow.table_of l.plan item)) l.items
