-- What one more fault changes alone is left out.
use Rattle.std.proofs.Common.{◌∙◌, refl, rules}
use Rattle.std.proofs.lemmas.List.{at_drop_all, at_drop_more}
use Rattle.survey_text.specs.Surveys.{faults_at}
use Rattle.survey_text.proofs.PartLemmas.{out_all, out_more, out_none}
use Rattle.survey_text.proofs.work.Work.leave_each.Goals as goal

pub loop-place-init : goal.loop-place-init
loop-place-init g c = record { left = out_none _ _ _ _; changes = refl; faults = refl }

pub loop-place-preserved : goal.loop-place-preserved
loop-place-preserved g c = record {
  left = out_more _ _ _ _ _ _ _ _ _ (at_drop_more (faults_at c.args.known.now.faults) c.args.places.now c.loop-place.place-index _ c.loop-place-test.true) c.loop-place.invariant.left
      c.leave_one.ensures.left;
  changes = c.leave_one.ensures.changes ∙ c.loop-place.invariant.changes;
  faults = c.leave_one.ensures.faults ∙ c.loop-place.invariant.faults;
}

pub returns-clause-left : goal.returns-clause-left
returns-clause-left g c =
    out_all _ _ _ _ _ _ (at_drop_all (faults_at c.args.known.now.faults) c.args.places.now c.loop-place.place-index (search rules)) c.loop-place.invariant.left
