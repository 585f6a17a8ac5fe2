use Rattle.std.proofs.Common.{[]}
use Rattle.survey_reach.specs.Reach.{spokes_at}
use Rattle.survey_reach.specs.Rows.{IsFilled}
use Rattle.survey_net.proofs.shape.all_spokes.Given as goal

abbrev pub invariant-loop-edge : goal.invariant-loop-edge
invariant-loop-edge l = IsFilled (spokes_at l.network.plan l.service) [] l.edge l.spokes
