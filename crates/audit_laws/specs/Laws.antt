-- The report of a run is good.
use Rattle.std.specs.Prelude.{◌≡◌, ℕ, List, Result, Ok}
use Rattle.net_base.specs.declared.plan.Plan.{Plan}
use Rattle.net_base.specs.declared.trace.event.Event.{Event}
use Rattle.plan_names.specs.Planned.{HasNames}
use Rattle.network_model.specs.Run.{run}
use Rattle.flight_laws.specs.Laws.{IsRun}
use Rattle.report_text.specs.Read.{ReadReport}
use Rattle.report_entries.specs.Report.{told_of}
use Rattle.trace_audit.specs.declared.audit_stop.AuditStop.{AuditStop}
use Rattle.trace_audit.specs.Audited.{IsAudited, IsGoodTrace}
use Rattle.trace_audit.specs.Yes.{IsYes}

-- the report of a run tells its trace
abbrev pub ReportsOfRunsTellThem : Type 0
ReportsOfRunsTellThem = (plan : Plan) (events : List Event) (text : List ℕ) → IsRun plan events → HasNames plan → ReadReport plan text (run plan events).entries → told_of plan text ≡ Ok (run plan events).entries

-- and meets all rules
abbrev pub RunsMeetRules : Type 0
RunsMeetRules = (plan : Plan) (events : List Event) → IsRun plan events → IsGoodTrace plan (run plan events).entries

-- so it gets a yes, or memory was refused
abbrev pub ReportsOfRunsGetYes : Type 0
ReportsOfRunsGetYes = (plan : Plan) (events : List Event) (text : List ℕ) (answer : Result (Unit {0}) AuditStop) → IsRun plan events → HasNames plan → ReadReport plan text (run plan events).entries → IsAudited plan text answer → IsYes answer
