use Rattle.std.proofs.Common.{◌≡◌, ◌++◌, drop}
use Rattle.survey_reach.specs.FaultList.{wires_from}
use Rattle.survey_reach.specs.Ground.{sound_at}
use Rattle.survey_reach.proofs.fault_list.add_wires.Given as goal

abbrev pub invariant-loop-wire : goal.invariant-loop-wire
invariant-loop-wire g l = l.list ++ wires_from (sound_at l.plan g.before) l.wire (drop l.wire l.plan.wires) ≡ l.fn.list ++ wires_from (sound_at l.plan g.before) 0 l.plan.wires
