use Rattle.std.proofs.Common.{◌≡◌, ◌++◌, drop}
use Rattle.survey_text.specs.Surveys.{faults_at}
use Rattle.survey_text.proofs.work.Work.take_faults.Given as goal

abbrev pub invariant-loop-place : goal.invariant-loop-place
invariant-loop-place l = l.self.faults.items ++ faults_at l.known.faults (drop l.place-index l.places) ≡ faults_at l.known.faults l.places
