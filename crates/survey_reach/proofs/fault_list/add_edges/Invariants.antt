use Rattle.std.proofs.Common.{◌≡◌, ◌++◌, drop}
use Rattle.survey_reach.specs.FaultList.{edges_from}
use Rattle.survey_reach.specs.Words.{has_pair}
use Rattle.survey_reach.proofs.fault_list.add_edges.Given as goal

abbrev pub invariant-loop-edge : goal.invariant-loop-edge
invariant-loop-edge l = l.list ++ edges_from (has_pair l.connected) l.edges l.edge (drop l.edge l.edges) ≡ l.fn.list ++ edges_from (has_pair l.connected) l.edges 0 l.edges
