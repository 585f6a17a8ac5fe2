use Rattle.std.proofs.Common.{false}
use Rattle.net_base.specs.plan.Roles.{is_spoke_edge}
use Rattle.survey_reach.specs.Rows.{IsFilled}
use Rattle.survey_net.proofs.shape.all_starts.Given as goal

abbrev pub invariant-loop-edge : goal.invariant-loop-edge
invariant-loop-edge l = IsFilled (is_spoke_edge l.network.plan l.service) false l.edge l.starts
