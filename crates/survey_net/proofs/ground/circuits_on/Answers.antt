use Rattle.std.proofs.Common.{false}
use Rattle.psn_net.specs.Lists.{network_seen}
use Rattle.survey_reach.specs.Ground.{on_at}
use Rattle.survey_reach.proofs.RowLemmas.{filled_more}
use Rattle.survey_net.proofs.ground.circuits_on.Goals as goal

pub loop-circuit-preserved : goal.loop-circuit-preserved
loop-circuit-preserved c =
    filled_more (on_at c.args.network.now.plan (network_seen c.args.network.now)) false c.loop-circuit.circuit c.loop-circuit.on.items c.push.new.self.items c.is_on.result c.loop-circuit.invariant
    c.is_on.ensures c.in_ok-push.ensures.items
