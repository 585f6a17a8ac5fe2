use Rattle.std.proofs.Common.{◌≡◌, true, length}
use Rattle.std.specs.List.{list_all}
use Rattle.survey_reach.specs.Words.{has_pair}
use Rattle.survey_net.specs.Along.{are_pairs, is_one}
use Rattle.survey_net.proofs.sound.is_connected.Given as goal

abbrev pub invariant-edges : goal.invariant-edges
invariant-edges l = (list_all is_one l.rest ≡ true) × (are_pairs (has_pair l.connected) l.rest ≡ are_pairs (has_pair l.connected) l.path)

abbrev pub decreases-edges : goal.decreases-edges
decreases-edges l = length l.rest
