use Rattle.switchover_net.specs.Rows.{AreFresh}
use Rattle.switchover_net.proofs.edge_row.open_edges.Given as goal

abbrev pub invariant-loop-place : goal.invariant-loop-place
invariant-loop-place l = AreFresh l.plan.value l.place l.edges.items
