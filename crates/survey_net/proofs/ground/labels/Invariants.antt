use Rattle.std.proofs.Common.{false}
use Rattle.psn_net.specs.Lists.{network_seen}
use Rattle.survey_reach.specs.Ground.{has_label}
use Rattle.survey_reach.specs.Rows.{IsFilled}
use Rattle.survey_net.proofs.ground.labels.Given as goal

abbrev pub invariant-loop-edge : goal.invariant-loop-edge
invariant-loop-edge l = IsFilled (has_label (network_seen l.network)) false l.edge l.labels.items
