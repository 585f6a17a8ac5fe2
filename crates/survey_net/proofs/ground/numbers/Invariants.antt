use Rattle.psn_net.specs.Lists.{network_seen}
use Rattle.survey_reach.specs.Ground.{number_of}
use Rattle.survey_reach.specs.Rows.{IsFilled}
use Rattle.survey_net.proofs.ground.numbers.Given as goal

abbrev pub invariant-loop-wire : goal.invariant-loop-wire
invariant-loop-wire l = IsFilled (number_of l.network.plan (network_seen l.network)) 0 l.wire l.numbers.items
