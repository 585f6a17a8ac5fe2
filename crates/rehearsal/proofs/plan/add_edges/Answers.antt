use Rattle.rehearsal.proofs.RowLemmas.{edge_named, edges_more}
use Rattle.rehearsal.proofs.plan.add_edges.Goals as goal

pub loop-number-preserved : goal.loop-number-preserved
loop-number-preserved c = edges_more _ _ _ _ _ c.loop-number-test.true (edge_named _ _ c.in_ok-numbered.ensures) c.in_ok-push.ensures.ok c.loop-number.invariant
