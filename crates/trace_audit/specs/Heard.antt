-- What was heard of a report line by line.
use Rattle.std.specs.Prelude.{◌≡◌, ◌+◌, ◌++◌, ℕ, suc, Bool, true, false, List, Option, Some, None, Result, Ok, Err}
use Rattle.net_base.specs.declared.plan.Plan.{Plan}
use Rattle.net_base.specs.declared.trace.entry.Entry.{Entry}
use Rattle.report_entries.specs.declared.report_fault.ReportFault.{ReportFault}
use Rattle.report_entries.specs.declared.report_fault.ReportFault.TheVariants as fault
use Rattle.report_entries.specs.ReadSoFar.{ReadSoFar}
use Rattle.report_entries.specs.Report.{goes_on, told_of, ◌>>=◌}
use Rattle.window_audit.specs.Windows.{AreOf, HasHeard, told_count}
use Rattle.trace_audit.specs.declared.audit_stop.AuditStop.{AuditStop}
use Rattle.trace_audit.specs.declared.audit_stop.AuditStop.TheVariants.{Form, Isolated, Split, Once, NoMemory}
use Rattle.trace_audit.specs.declared.rule_audit.RuleAudit.{RuleAudit}
use Rattle.trace_audit.specs.Audited.{FirstOfOnce, FirstOfSplit, FirstStray, IsGoodTrace}
use Rattle.trace_audit.specs.Judged.{KnowsJudged, begun, judges_all}

-- the stop that tells a report's fault
abbrev pub fault_stop : ReportFault → AuditStop
fault_stop (fault.Form line) = Form line
fault_stop fault.NoMemory = NoMemory

-- the first of the rules of paths that fails, by the first lines at which they do
abbrev pub broken_at : Option ℕ → Option ℕ → Option AuditStop
broken_at (Some line) crossed = Some (Isolated line)
broken_at None (Some line) = Some (Split line)
broken_at None None = None

-- entries in front of those that are told behind them
abbrev pub with_front_entries : List Entry → Result (List Entry) ℕ → Result (List Entry) ℕ
with_front_entries front told = told >>= (λ entries. Ok (front ++ entries))

-- they were begun for the plan, and the line that names the format and one for each entry were read
pub record IsAuditOf (plan : Plan) (rule_audit : RuleAudit) : Type 0 where
  pub windows : AreOf plan rule_audit.windows
  pub lines : rule_audit.path_audit.line ≡ told_count rule_audit.windows + 1

-- these entries were heard
pub record HasHeardAll (plan : Plan) (trace : List Entry) (rule_audit : RuleAudit) : Type 0 where
  pub judged : KnowsJudged rule_audit.path_audit (judges_all plan begun trace)
  pub windows : HasHeard plan trace rule_audit.windows

-- some entries were heard
pub record WereHeard (plan : Plan) (rule_audit : RuleAudit) : Type 0 where
  pub trace : List Entry
  pub heard : HasHeardAll plan trace rule_audit

-- the entries of a front of the lines were heard, and the rest tells those behind it, by so many lines at most
pub record IsBehind (plan : Plan) (text : List ℕ) (left : ℕ) (reader : ReadSoFar) (rule_audit : RuleAudit) : Type 0 where
  pub front : List Entry
  pub told : told_of plan text ≡ with_front_entries front (goes_on left plan reader.tally reader.rest)
  pub heard : HasHeardAll plan front rule_audit

-- the entries of all lines were heard
pub record IsHeard (plan : Plan) (text : List ℕ) (rule_audit : RuleAudit) : Type 0 where
  pub trace : List Entry
  pub told : told_of plan text ≡ Ok trace
  pub heard : HasHeardAll plan trace rule_audit

-- a line more: it tells an entry, it was the last one, or it breaks the form
abbrev pub HearsLine : Plan → ReadSoFar → RuleAudit → ReadSoFar → RuleAudit → Result Bool AuditStop → Type 0
HearsLine plan old rule_audit new heard (Ok true) = (text : List ℕ) (left : ℕ) → IsBehind plan text (suc left) old rule_audit → IsBehind plan text left new heard
HearsLine plan old rule_audit new heard (Ok false) = (text : List ℕ) (left : ℕ) → IsBehind plan text (suc left) old rule_audit → IsHeard plan text heard
HearsLine plan old rule_audit new heard (Err (Form line)) = (text : List ℕ) (left : ℕ) → IsBehind plan text (suc left) old rule_audit → told_of plan text ≡ Err line
HearsLine plan old rule_audit new heard (Err (Isolated line)) = ⊥
HearsLine plan old rule_audit new heard (Err (Split line)) = ⊥
HearsLine plan old rule_audit new heard (Err (Once line)) = ⊥
HearsLine plan old rule_audit new heard (Err NoMemory) = Unit {0}

-- the lines of a whole report are heard
abbrev pub HearsReport : Plan → List ℕ → RuleAudit → Result (Unit {0}) AuditStop → Type 0
HearsReport plan text rule_audit (Ok done) = IsAuditOf plan rule_audit × IsHeard plan text rule_audit
HearsReport plan text rule_audit (Err (Form line)) = told_of plan text ≡ Err line
HearsReport plan text rule_audit (Err (Isolated line)) = ⊥
HearsReport plan text rule_audit (Err (Split line)) = ⊥
HearsReport plan text rule_audit (Err (Once line)) = ⊥
HearsReport plan text rule_audit (Err NoMemory) = Unit {0}

-- the first rule of a trace that fails
abbrev pub AnswersRule : Plan → List Entry → Result (Unit {0}) AuditStop → Type 0
AnswersRule plan trace (Ok done) = IsGoodTrace plan trace
AnswersRule plan trace (Err (Form line)) = ⊥
AnswersRule plan trace (Err (Isolated line)) = FirstStray plan trace line
AnswersRule plan trace (Err (Split line)) = FirstOfSplit plan trace line
AnswersRule plan trace (Err (Once line)) = FirstOfOnce plan trace line
AnswersRule plan trace (Err NoMemory) = Unit {0}
