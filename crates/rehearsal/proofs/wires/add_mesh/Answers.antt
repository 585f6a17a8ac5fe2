use Rattle.std.proofs.Common.{◌≡◌, ◌≤◌, ◌+◌, ◌-◌, arith}
use Rattle.rehearsal.proofs.RowLemmas.{mesh_more}
use Rattle.rehearsal.proofs.wires.add_mesh.Goals as goal

pub loop-to-preserved : goal.loop-to-preserved
loop-to-preserved c =
    let from = c.args.from in
    let to = c.loop-to.to in
    let behind : from + 1 ≤ to = c.loop-to.auto.to in
    let follows : c.args.number + (to + 1 - from - 1) ≡ c.args.number + (to - from - 1) + 1 = omega (arith, behind) in
    mesh_more _ _ _ _ from to _ _ c.loop-to-test.true follows c.in_ok-mesh.ensures c.in_ok-push.ensures.ok c.loop-to.invariant
