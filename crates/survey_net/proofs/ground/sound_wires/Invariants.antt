use Rattle.std.proofs.Common.{false}
use Rattle.psn_net.specs.Lists.{network_seen}
use Rattle.survey_reach.specs.Ground.{sound_at}
use Rattle.survey_reach.specs.Rows.{IsFilled}
use Rattle.survey_net.proofs.ground.sound_wires.Given as goal

abbrev pub invariant-loop-wire : goal.invariant-loop-wire
invariant-loop-wire l = IsFilled (sound_at l.network.plan (network_seen l.network)) false l.wire l.sound.items
