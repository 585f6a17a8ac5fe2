-- The names so far, and then the others, are all.
use Rattle.std.proofs.Common.{◌≡◌, ◌++◌, drop, map}
use Rattle.toml.specs.Data.{string}
use Rattle.toml.specs.View.{view}
use Rattle.line_shapes.specs.Words.{edge_name}
use Rattle.migration.proofs.rows.path_items.Given as goal

abbrev pub invariant-loop-edge : goal.invariant-loop-edge
invariant-loop-edge l = map view l.items.items ++ map (λ edge. string (edge_name l.plan edge)) (drop l.edge-index l.path) ≡ map (λ edge. string (edge_name l.plan edge)) l.path
