use Rattle.std.proofs.Common.{rules}
use Rattle.survey_net.proofs.SoundLemmas.{first_within, last_within}
use Rattle.survey_net.proofs.sound.is_sound.Goals as goal

pub is_clear-requires-clause-edge : goal.is_clear-requires-clause-edge
is_clear-requires-clause-edge c = first_within c.args.network.now.plan c.as_slice-path.result.now c.first_of.result c.first_of.ensures (search rules)

pub is_clear-requires-then-is_clear-clause-edge : goal.is_clear-requires-then-is_clear-clause-edge
is_clear-requires-then-is_clear-clause-edge c = last_within c.args.network.now.plan c.as_slice-path.result.now c.last_of.result c.last_of.ensures (search rules)
