use Rattle.std.proofs.Common.{◌≡◌, drop}
use Rattle.survey_reach.specs.Words.{has_pair}
use Rattle.survey_reach.specs.FaultList.{has_peer}
use Rattle.survey_reach.proofs.fault_list.has_peer.Given as goal

abbrev pub invariant-loop-other : goal.invariant-loop-other
invariant-loop-other l = has_peer (has_pair l.connected) l.edge l.other (drop l.other l.edges) ≡ has_peer (has_pair l.connected) l.edge 0 l.edges
