use Rattle.std.proofs.Common.{◌≡◌, drop}
use Rattle.net_base.specs.plan.Faults.{first_fault}
use Rattle.net_base.proofs.plan.row_faults.fault_of_rows.Given as goal

abbrev pub invariant-loop-place : goal.invariant-loop-place
invariant-loop-place g l = first_fault (g.R.PlanRow.fault_of l.plan) l.place (drop l.place l.rows) ≡ first_fault (g.R.PlanRow.fault_of l.plan) 0 l.rows
