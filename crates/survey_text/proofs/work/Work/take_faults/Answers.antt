-- One more fault is taken.
use Rattle.std.proofs.Common.{rules}
use Rattle.survey_text.specs.Surveys.{faults_at}
use Rattle.survey_text.proofs.PartLemmas.{faults_end, faults_more}
use Rattle.survey_text.proofs.work.Work.take_faults.Goals as goal

pub loop-place-preserved : goal.loop-place-preserved
loop-place-preserved c = faults_more _ _ _ _ _ _ _ _ c.loop-place-test.true c.fault_at.ensures c.loop-place.invariant c.in_ok-push.ensures.items

pub returns : goal.returns
returns c = faults_end c.args.known.now.faults c.args.places.now c.loop-place.place-index c.loop-place.self.faults.items (faults_at c.args.known.now.faults c.args.places.now) (search rules) c.loop-place.invariant
