use Rattle.std.proofs.Common.{◌≡◌, ◌+◌, ◌++◌, drop}
use Rattle.survey_reach.specs.FaultList.{sessions_from, sessions_with}
use Rattle.survey_reach.specs.Words.{has_pair}
use Rattle.survey_reach.proofs.fault_list.add_sessions.Given as goal

abbrev pub invariant-loop-a : goal.invariant-loop-a
invariant-loop-a l = l.list ++ sessions_from (has_pair l.connected) l.a (drop l.a l.edges) ≡ l.fn.list ++ sessions_from (has_pair l.connected) 0 l.edges

abbrev pub invariant-loop-b : goal.invariant-loop-b
invariant-loop-b l = l.list ++ (sessions_with (has_pair l.connected) l.a l.b (drop l.b l.edges) ++ sessions_from (has_pair l.connected) (l.a + 1) (drop (l.a + 1) l.edges))
    ≡ l.fn.list ++ sessions_from (has_pair l.connected) 0 l.edges
