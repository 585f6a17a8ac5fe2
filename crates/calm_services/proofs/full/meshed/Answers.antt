use Rattle.net_base.specs.plan.Roles.{any_wire}
use Rattle.calm_services.specs.Calm.{meshes_where}
use Rattle.calm_services.specs.EdgePairs.{has_pair}
use Rattle.calm_services.proofs.PairLemmas.{any_step}
use Rattle.calm_services.proofs.full.meshed.Goals as goal

pub loop-place-preserved : goal.loop-place-preserved
loop-place-preserved g c = λ x y low under.
    let test = meshes_where (g.N.PlannedNetwork.carries c.args.network.now) c.args.service x y in
    any_step test c.loop-place.place c.as_slice-wires.result.now c.index-wires-place.result (has_pair c.loop-place.pairs x y) (has_pair c.mesh_wire.new.pairs x y)
    (any_wire test 0 c.as_slice-wires.result.now) c.loop-place-test.true c.index-wires-place.is (c.loop-place.invariant x y low under) (c.mesh_wire.ensures x y low under)
