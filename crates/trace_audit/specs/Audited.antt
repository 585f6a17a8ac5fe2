-- What is answered of a report: it meets all rules, or the first rule that fails is told at the first line where it fails.
use Rattle.std.specs.Prelude.{◌≡◌, ◌+◌, ◌++◌, ℕ, List, ◌∷◌, length, Result, Ok, Err}
use Rattle.net_base.specs.declared.plan.Plan.{Plan}
use Rattle.net_base.specs.declared.trace.entry.Entry.{Entry}
use Rattle.net_base.specs.trace.Isolated.{Isolated, IsolatedEntry}
use Rattle.net_base.specs.trace.Split.{Split, SplitEntry}
use Rattle.report_entries.specs.Report.{told_of}
use Rattle.seen_network.specs.Once.{OnceSeen}
use Rattle.seen_network.specs.Verdict.{FirstUnserved}
use Rattle.trace_audit.specs.declared.audit_stop.AuditStop.{AuditStop}
use Rattle.trace_audit.specs.declared.audit_stop.AuditStop.TheVariants as stop

-- The first entry that left as no frame that had entered. One line stands before all entries, and one for each of those before it.
pub record FirstStray (plan : Plan) (trace : List Entry) (line : ℕ) : Type 0 where
  pub before : List Entry
  pub entry : Entry
  pub after : List Entry
  pub is : trace ≡ before ++ entry ∷ after
  pub isolated : Isolated plan before
  pub strays : IsolatedEntry plan before entry → ⊥
  pub line_is : line ≡ length before + 2

-- the first packet that was sent from one mesh wire to another one
pub record FirstCrossing (plan : Plan) (trace : List Entry) (line : ℕ) : Type 0 where
  pub before : List Entry
  pub entry : Entry
  pub after : List Entry
  pub is : trace ≡ before ++ entry ∷ after
  pub split : Split plan before
  pub crosses : SplitEntry plan entry → ⊥
  pub line_is : line ≡ length before + 2

-- of a trace that is isolated
pub record FirstOfSplit (plan : Plan) (trace : List Entry) (line : ℕ) : Type 0 where
  pub isolated : Isolated plan trace
  pub crossing : FirstCrossing plan trace line

-- the first `in` line of a frame that was not seen exactly once, of a trace in which the other rules hold
pub record FirstOfOnce (plan : Plan) (trace : List Entry) (line : ℕ) : Type 0 where
  pub isolated : Isolated plan trace
  pub split : Split plan trace
  pub place : ℕ
  pub unserved : FirstUnserved plan trace place
  pub line_is : line ≡ place + 2

-- the trace meets the three rules
pub record IsGoodTrace (plan : Plan) (trace : List Entry) : Type 0 where
  pub isolated : Isolated plan trace
  pub split : Split plan trace
  pub once : OnceSeen 12 plan trace

-- the report tells a trace of which this holds
pub record TellsTraceHolding (plan : Plan) (text : List ℕ) (holds : List Entry → Type 0) : Type 0 where
  pub trace : List Entry
  pub told : told_of plan text ≡ Ok trace
  pub is : holds trace

-- the report is good
abbrev pub IsGoodReport : Plan → List ℕ → Type 0
IsGoodReport plan text = TellsTraceHolding plan text (IsGoodTrace plan)

-- a report is good, its form is broken first at a line, or the first rule that fails of its trace is told at the first line where it does
abbrev pub IsAudited : Plan → List ℕ → Result (Unit {0}) AuditStop → Type 0
IsAudited plan text (Ok done) = IsGoodReport plan text
IsAudited plan text (Err (stop.Form line)) = told_of plan text ≡ Err line
IsAudited plan text (Err (stop.Isolated line)) = TellsTraceHolding plan text (λ trace. FirstStray plan trace line)
IsAudited plan text (Err (stop.Split line)) = TellsTraceHolding plan text (λ trace. FirstOfSplit plan trace line)
IsAudited plan text (Err (stop.Once line)) = TellsTraceHolding plan text (λ trace. FirstOfOnce plan trace line)
IsAudited plan text (Err stop.NoMemory) = Unit {0}
