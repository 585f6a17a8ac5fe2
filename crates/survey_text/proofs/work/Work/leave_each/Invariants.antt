use Rattle.std.proofs.Common.{◌≡◌, drop}
use Rattle.survey_text.specs.Surveys.{faults_at}
use Rattle.survey_text.proofs.PartLemmas.{AreLeftOut}
use Rattle.survey_text.proofs.work.Work.leave_each.Given as goal

abbrev pub ghost-leave_one : goal.ghost-leave_one
ghost-leave_one g a = g.before

abbrev pub invariant-loop-place : goal.invariant-loop-place
invariant-loop-place g l = record {
  left : AreLeftOut l.over.plan.now g.before l.fn.self.left.items l.self.left.items (faults_at l.known.faults (drop l.place-index l.places)) (faults_at l.known.faults l.places);
  changes : l.self.changes.items ≡ l.fn.self.changes.items;
  faults : l.self.faults.items ≡ l.fn.self.faults.items;
}
