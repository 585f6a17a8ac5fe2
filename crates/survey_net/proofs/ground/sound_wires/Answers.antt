use Rattle.std.proofs.Common.{false}
use Rattle.psn_net.specs.Lists.{network_seen}
use Rattle.survey_reach.specs.Ground.{sound_at}
use Rattle.survey_reach.proofs.RowLemmas.{filled_more}
use Rattle.survey_net.proofs.ground.sound_wires.Goals as goal

pub loop-wire-preserved : goal.loop-wire-preserved
loop-wire-preserved c =
    filled_more (sound_at c.args.network.now.plan (network_seen c.args.network.now)) false c.loop-wire.wire c.loop-wire.sound.items c.push.new.self.items c.is_sound_at.result c.loop-wire.invariant
    c.is_sound_at.ensures c.in_ok-push.ensures.items
