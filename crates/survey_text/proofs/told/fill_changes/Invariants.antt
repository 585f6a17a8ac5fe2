use Rattle.std.proofs.Common.{[]}
use Rattle.survey_reach.specs.Reach.{HasBefallen}
use Rattle.survey_text.specs.Surveys.{IsLeft}
use Rattle.survey_text.proofs.LeftLemmas.{ArePlaced}
use Rattle.survey_text.proofs.told.fill_changes.Given as goal

abbrev pub ghost-befall : goal.ghost-befall
ghost-befall g a = g.before

abbrev pub ghost-change : goal.ghost-change
ghost-change g a = g.before

abbrev pub invariant-loop-service : goal.invariant-loop-service
invariant-loop-service g l = record {
  made : ArePlaced (λ service. IsLeft l.over.plan.now g.before (record { 0 = service }) l.faults []) l.service-index l.changes.items;
  befallen : HasBefallen l.over.plan.now g.before l.faults l.reaching;
}
