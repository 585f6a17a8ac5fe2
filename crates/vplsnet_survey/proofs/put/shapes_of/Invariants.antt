use Rattle.vplsnet_survey.specs.Ended.{AreShapesOf}
use Rattle.vplsnet_survey.proofs.put.shapes_of.Given as goal

abbrev pub invariant-loop-service : goal.invariant-loop-service
invariant-loop-service l = AreShapesOf l.network.plan l.service l.shapes.items
