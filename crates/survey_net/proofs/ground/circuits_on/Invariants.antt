use Rattle.std.proofs.Common.{false}
use Rattle.psn_net.specs.Lists.{network_seen}
use Rattle.survey_reach.specs.Ground.{on_at}
use Rattle.survey_reach.specs.Rows.{IsFilled}
use Rattle.survey_net.proofs.ground.circuits_on.Given as goal

abbrev pub invariant-loop-circuit : goal.invariant-loop-circuit
invariant-loop-circuit l = IsFilled (on_at l.network.plan (network_seen l.network)) false l.circuit l.on.items
