-- A good report gets a yes.
use Rattle.std.specs.Prelude.{ℕ, List, Result, Ok, Err}
use Rattle.net_base.specs.declared.plan.Plan.{Plan}
use Rattle.trace_audit.specs.declared.audit_stop.AuditStop.{AuditStop}
use Rattle.trace_audit.specs.declared.audit_stop.AuditStop.TheVariants as stop
use Rattle.trace_audit.specs.Audited.{IsAudited, IsGoodReport}

-- a report is good, or memory was refused
abbrev pub IsYes : Result (Unit {0}) AuditStop → Type 0
IsYes (Ok done) = Unit {0}
IsYes (Err (stop.Form line)) = ⊥
IsYes (Err (stop.Isolated line)) = ⊥
IsYes (Err (stop.Split line)) = ⊥
IsYes (Err (stop.Once line)) = ⊥
IsYes (Err stop.NoMemory) = Unit {0}

-- no rule is told of a report that meets all
abbrev pub GoodReportsGetYes : Type 0
GoodReportsGetYes = (plan : Plan) (text : List ℕ) (answer : Result (Unit {0}) AuditStop) → IsGoodReport plan text → IsAudited plan text answer → IsYes answer
