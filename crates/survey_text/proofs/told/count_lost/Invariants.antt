use Rattle.std.proofs.Common.{◌≡◌, ◌≤◌, ◌+◌, ◌*◌, drop}
use Rattle.survey_text.specs.Cases.{lost_at, sum_over}
use Rattle.survey_text.proofs.told.count_lost.Given as goal

abbrev pub invariant-loop-service : goal.invariant-loop-service
invariant-loop-service g l = record {
  sum : l.sum + sum_over (lost_at l.over.plan.now g.case.before g.case.faults) l.service (drop l.service l.over.plan.now.services)
      ≡ sum_over (lost_at l.over.plan.now g.case.before g.case.faults) 0 l.over.plan.now.services;
  most : l.sum ≤ l.service * 17591649177600;
}
