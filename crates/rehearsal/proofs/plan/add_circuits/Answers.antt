use Rattle.rehearsal.proofs.RowLemmas.{circuits_more}
use Rattle.rehearsal.proofs.plan.add_circuits.Goals as goal

pub loop-number-preserved : goal.loop-number-preserved
loop-number-preserved c = circuits_more _ _ _ _ _ c.loop-number-test.true c.in_ok-circuit.ensures c.in_ok-push.ensures.ok c.loop-number.invariant
