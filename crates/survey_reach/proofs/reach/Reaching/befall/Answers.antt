use Rattle.std.proofs.Common.{false}
use Rattle.survey_reach.specs.Reach.{would_be_sound}
use Rattle.survey_reach.proofs.RowLemmas.{filled_more}
use Rattle.survey_reach.proofs.reach.Reaching.befall.Goals as goal

pub loop-wire-preserved : goal.loop-wire-preserved
loop-wire-preserved g c =
    filled_more (would_be_sound c.args.failed.plan.now g.before c.args.failed.faults.now) false c.loop-wire.wire c.loop-wire.self.sound.items c.push.new.self.items c.would_be_sound.result c.loop-wire.invariant
    c.would_be_sound.ensures c.in_ok-push.ensures.items
