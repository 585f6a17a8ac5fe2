use Rattle.std.proofs.Common.{false}
use Rattle.survey_reach.specs.Reach.{would_be_sound}
use Rattle.survey_reach.specs.Rows.{IsFilled}
use Rattle.survey_reach.proofs.reach.Reaching.befall.Given as goal

abbrev pub ghost-would_be_sound : goal.ghost-would_be_sound
ghost-would_be_sound g a = g.before

abbrev pub invariant-loop-wire : goal.invariant-loop-wire
invariant-loop-wire g l = IsFilled (would_be_sound l.failed.plan.now g.before l.failed.faults.now) false l.wire l.self.sound.items
