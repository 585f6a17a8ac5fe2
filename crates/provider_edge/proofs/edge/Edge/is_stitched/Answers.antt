use Rattle.provider_edge.specs.contracts.edge.Edge.{the_view}
use Rattle.provider_edge.proofs.StitchLemmas.{stitched_is}
use Rattle.provider_edge.proofs.edge.Edge.is_stitched.Goals as goal

pub loop-slot-init : goal.loop-slot-init
loop-slot-init c = stitched_is (the_view c.self.inside) c.args.self.now c.args.wire c.self.view_is c.self.invariant
