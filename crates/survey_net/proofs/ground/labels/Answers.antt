use Rattle.std.proofs.Common.{false}
use Rattle.psn_net.specs.Lists.{network_seen}
use Rattle.survey_reach.specs.Ground.{has_label}
use Rattle.survey_reach.proofs.RowLemmas.{filled_more}
use Rattle.survey_net.proofs.ground.labels.Goals as goal

pub loop-edge-preserved : goal.loop-edge-preserved
loop-edge-preserved c =
    filled_more (has_label (network_seen c.args.network.now)) false c.loop-edge.edge c.loop-edge.labels.items c.push.new.self.items c.has_label.result c.loop-edge.invariant
    c.has_label.ensures c.in_ok-push.ensures.items
