use Rattle.std.proofs.Common.{◌≡◌}
use Rattle.survey_reach.specs.Reach.{AreCores}
use Rattle.survey_reach.proofs.reach.Reaching.fill_cores.Given as goal

abbrev pub ghost-core : goal.ghost-core
ghost-core g a = g.before

abbrev pub invariant-loop-edge : goal.invariant-loop-edge
invariant-loop-edge g l = record {
  cores : AreCores l.failed.plan.now g.before l.failed.faults.now l.shape.service l.edge l.self.cores.items;
  sound : l.self.sound.items ≡ l.fn.self.sound.items;
}
