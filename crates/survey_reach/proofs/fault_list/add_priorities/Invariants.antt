use Rattle.std.proofs.Common.{◌≡◌, ◌++◌, drop}
use Rattle.survey_reach.specs.FaultList.{priorities_from}
use Rattle.survey_reach.specs.Ground.{number_of}
use Rattle.survey_reach.proofs.fault_list.add_priorities.Given as goal

abbrev pub ghost-priority_fault : goal.ghost-priority_fault
ghost-priority_fault g a = g.before

abbrev pub invariant-loop-wire : goal.invariant-loop-wire
invariant-loop-wire g l =
    l.list ++ priorities_from l.plan (number_of l.plan g.before) l.wire (drop l.wire l.plan.wires) ≡ l.fn.list ++ priorities_from l.plan (number_of l.plan g.before) 0 l.plan.wires
