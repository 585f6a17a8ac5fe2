use Rattle.std.proofs.Common.{◌≡◌, ◌++◌, drop, map}
use Rattle.survey_reach.specs.Reach.{spoke_by}
use Rattle.survey_reach.proofs.reach.fill_spokes.Given as goal

abbrev pub ghost-spoke_at : goal.ghost-spoke_at
ghost-spoke_at g a = g.before

abbrev pub invariant-loop-place : goal.invariant-loop-place
invariant-loop-place g l = l.spokes.items ++ map (spoke_by l.failed.plan.now g.before l.failed.faults.now) (drop l.place-index l.places) ≡ map (spoke_by l.failed.plan.now g.before l.failed.faults.now) l.places
