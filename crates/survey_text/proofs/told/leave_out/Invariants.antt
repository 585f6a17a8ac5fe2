use Rattle.survey_text.proofs.LeftLemmas.{AreLessTo}
use Rattle.survey_text.proofs.told.leave_out.Given as goal

abbrev pub invariant-loop-service : goal.invariant-loop-service
invariant-loop-service l = AreLessTo l.count l.services l.fn.left l.part l.left l.service
