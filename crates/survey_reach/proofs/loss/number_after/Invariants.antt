use Rattle.std.proofs.Common.{◌≡◌, drop}
use Rattle.survey_laws.specs.Faults.{number_after}
use Rattle.survey_reach.proofs.loss.number_after.Given as goal

abbrev pub invariant-loop-fault : goal.invariant-loop-fault
invariant-loop-fault l = number_after l.wire (drop l.fault-index l.faults) l.number ≡ number_after l.wire l.faults l.had
