use Rattle.std.proofs.Common.{refl, arith}
use Rattle.rehearsal.proofs.RowLemmas.{among_more}
use Rattle.rehearsal.proofs.wires.add_mesh_wires.Goals as goal

pub loop-from-preserved : goal.loop-from-preserved
loop-from-preserved c = record {
  few = omega (arith, c.loop-from.invariant.few, c.loop-from.auto.from);
  made = among_more _ _ _ c.loop-from.from c.loop-from.number _ c.loop-from-test.true refl c.in_ok-add_mesh.ensures c.loop-from.invariant.made;
}
