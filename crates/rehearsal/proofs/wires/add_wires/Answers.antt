use Rattle.std.proofs.Common.{append_assoc}
use Rattle.rehearsal.specs.Rows.{mesh_among, spokes_from}
use Rattle.rehearsal.proofs.RowLemmas.{spokes_more}
use Rattle.rehearsal.proofs.wires.add_wires.Goals as goal

pub loop-place-init : goal.loop-place-init
loop-place-init c = rw c.in_ok-add_mesh_wires.ensures (append_assoc c.args.rows.now (mesh_among 8 1 1) (spokes_from 8 0))

pub loop-place-preserved : goal.loop-place-preserved
loop-place-preserved c = spokes_more _ _ _ c.loop-place.place c.loop-place-test.true c.in_ok-add_spokes.ensures c.loop-place.invariant
