use Rattle.psn_net.specs.Lists.{network_seen}
use Rattle.survey_reach.specs.Ground.{number_of}
use Rattle.survey_reach.proofs.RowLemmas.{filled_more}
use Rattle.survey_net.proofs.ground.numbers.Goals as goal

pub loop-wire-preserved : goal.loop-wire-preserved
loop-wire-preserved c =
    filled_more (number_of c.args.network.now.plan (network_seen c.args.network.now)) 0 c.loop-wire.wire c.loop-wire.numbers.items c.push.new.self.items c.number_of.result c.loop-wire.invariant
    c.number_of.ensures c.in_ok-push.ensures.items
