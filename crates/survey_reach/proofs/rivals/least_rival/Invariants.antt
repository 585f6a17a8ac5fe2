use Rattle.std.proofs.Common.{◌≡◌, None, drop}
use Rattle.survey_reach.specs.FaultList.{least_rival}
use Rattle.survey_reach.specs.Ground.{number_of}
use Rattle.survey_reach.proofs.rivals.least_rival.Given as goal

abbrev pub invariant-loop-other : goal.invariant-loop-other
invariant-loop-other g l = least_rival (number_of l.plan g.before) l.wire l.row l.least l.other (drop l.other l.wires) ≡ least_rival (number_of l.plan g.before) l.wire l.row None 0 l.wires
