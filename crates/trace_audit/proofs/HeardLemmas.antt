-- What was heard of the lines of a report is what was judged of its trace.
use Rattle.std.proofs.Common.{◌≡◌, ◌<◌, ◌-◌, ◌++◌, ◌+◌, ◌∙◌, ℕ, suc, Bool, true, false, List, [], ◌∷◌, length, Result, Ok, Err, refl, sym, ap, subst, arith, append_assoc, append-nil}
use Rattle.net_base.specs.declared.plan.Plan.{Plan}
use Rattle.net_base.specs.declared.trace.entry.Entry.{Entry}
use Rattle.report_entries.specs.declared.report_fault.ReportFault.{ReportFault}
use Rattle.report_entries.specs.declared.report_fault.ReportFault.TheVariants as fault
use Rattle.report_entries.specs.Answers.{Begins, HasBegun}
use Rattle.report_entries.specs.ReadSoFar.{ReadSoFar}
use Rattle.report_entries.specs.Report.{goes_on, told_of, with_entry}
use Rattle.trace_audit.specs.declared.audit_stop.AuditStop.{AuditStop}
use Rattle.trace_audit.specs.declared.audit_stop.AuditStop.TheVariants as stop
use Rattle.trace_audit.specs.declared.rule_audit.RuleAudit.{RuleAudit}
use Rattle.trace_audit.specs.Audited.{IsAudited}
use Rattle.trace_audit.specs.Heard.{AnswersRule, HasHeardAll, HearsReport, HearsLine, IsBehind, IsHeard, WereHeard, fault_stop, with_front_entries}

entry_behind : (front : List Entry) (entry : Entry) (told : Result (List Entry) ℕ) → with_front_entries front (with_entry entry told) ≡ with_front_entries (front ++ entry ∷ []) told
entry_behind front entry (Ok entries) = ap Ok (sym (append_assoc front (entry ∷ []) entries))
entry_behind front entry (Err line) = refl

-- an entry more
pub hears_entry : (plan : Plan) (old new : ReadSoFar) (rule_audit heard : RuleAudit) (entry : Entry)
    → ((most : ℕ) → goes_on (suc most) plan old.tally old.rest ≡ with_entry entry (goes_on most plan new.tally new.rest))
    → ((trace : List Entry) → HasHeardAll plan trace rule_audit → HasHeardAll plan (trace ++ entry ∷ []) heard) → (text : List ℕ) (left : ℕ) → IsBehind plan text (suc left) old rule_audit
    → IsBehind plan text left new heard
hears_entry plan old new rule_audit heard entry goes hears text left is = record {
  front = is.front ++ entry ∷ [];
  told = is.told ∙ (ap (with_front_entries is.front) (goes left) ∙ entry_behind is.front entry (goes_on left plan new.tally new.rest));
  heard = hears is.front is.heard;
}

-- the last line
pub hears_last : (plan : Plan) (old : ReadSoFar) (rule_audit : RuleAudit) → ((most : ℕ) → goes_on (suc most) plan old.tally old.rest ≡ Ok []) → (text : List ℕ) (left : ℕ)
    → IsBehind plan text (suc left) old rule_audit → IsHeard plan text rule_audit
hears_last plan old rule_audit goes text left is = record { trace = is.front; told = is.told ∙ (ap (with_front_entries is.front) (goes left) ∙ ap Ok (append-nil is.front)); heard = is.heard }

-- a line that breaks the form
pub hears_break : (plan : Plan) (old : ReadSoFar) (rule_audit : RuleAudit) (line : ℕ) → ((most : ℕ) → goes_on (suc most) plan old.tally old.rest ≡ Err line) → (text : List ℕ) (left : ℕ)
    → IsBehind plan text (suc left) old rule_audit → told_of plan text ≡ Err line
hears_break plan old rule_audit line goes text left is = is.told ∙ ap (with_front_entries is.front) (goes left)

front_none : (told : Result (List Entry) ℕ) → told ≡ with_front_entries [] told
front_none (Ok entries) = refl
front_none (Err line) = refl

-- before the first entry
pub begins_heard : (plan : Plan) (text : List ℕ) (reader : ReadSoFar) (rule_audit : RuleAudit) → HasBegun text reader → HasHeardAll plan [] rule_audit → IsBehind plan text (length reader.rest) reader rule_audit
begins_heard plan text reader rule_audit begun is = record { front = []; told = begun.tells plan ∙ front_none (goes_on (length reader.rest) plan reader.tally reader.rest); heard = is }

-- one line less is left
pub one_less : (plan : Plan) (text : List ℕ) (left : ℕ) (reader : ReadSoFar) (rule_audit : RuleAudit) → 0 < left → IsBehind plan text left reader rule_audit → IsBehind plan text (suc (left - 1)) reader rule_audit
one_less plan text left reader rule_audit some is = subst (λ (n : ℕ). IsBehind plan text n reader rule_audit) (omega (arith, some)) is

-- none is left
pub no_line : (plan : Plan) (text : List ℕ) (left : ℕ) (reader : ReadSoFar) (rule_audit : RuleAudit) → left ≡ 0 → IsBehind plan text left reader rule_audit → told_of plan text ≡ Err (reader.tally.lines + 1)
no_line plan text left reader rule_audit none is = is.told ∙ ap (λ (n : ℕ). with_front_entries is.front (goes_on n plan reader.tally reader.rest)) none

-- the last line was heard
pub heard_on : (plan : Plan) (text : List ℕ) (left : ℕ) (old : ReadSoFar) (rule_audit : RuleAudit) (new : ReadSoFar) (heard : RuleAudit) (result : Result Bool AuditStop)
    → HearsLine plan old rule_audit new heard result → result ≡ Ok true → 0 < left
    → IsBehind plan text left old rule_audit → IsBehind plan text (left - 1) new heard
heard_on plan text left old rule_audit new heard result hears is some behind = subst (HearsLine plan old rule_audit new heard) is hears text (left - 1) (one_less plan text left old rule_audit some behind)

pub heard_last : (plan : Plan) (text : List ℕ) (left : ℕ) (old : ReadSoFar) (rule_audit : RuleAudit) (new : ReadSoFar) (heard : RuleAudit) (result : Result Bool AuditStop)
    → HearsLine plan old rule_audit new heard result → result ≡ Ok false → 0 < left → IsBehind plan text left old rule_audit
    → IsHeard plan text heard
heard_last plan text left old rule_audit new heard result hears is some behind = subst (HearsLine plan old rule_audit new heard) is hears text (left - 1) (one_less plan text left old rule_audit some behind)

-- a line could not be heard
heard_stop : (plan : Plan) (text : List ℕ) (left : ℕ) (old : ReadSoFar) (rule_audit : RuleAudit) (new : ReadSoFar) (heard : RuleAudit) (why : AuditStop) → HearsLine plan old rule_audit new heard (Err why)
    → IsBehind plan text (suc left) old rule_audit → HearsReport plan text heard (Err why)
heard_stop plan text left old rule_audit new heard (stop.Form line) hears behind = hears text left behind
heard_stop plan text left old rule_audit new heard (stop.Isolated line) hears behind = absurd hears
heard_stop plan text left old rule_audit new heard (stop.Split line) hears behind = absurd hears
heard_stop plan text left old rule_audit new heard (stop.Once line) hears behind = absurd hears
heard_stop plan text left old rule_audit new heard stop.NoMemory hears behind = tt

pub heard_err : (plan : Plan) (text : List ℕ) (left : ℕ) (old : ReadSoFar) (rule_audit : RuleAudit) (new : ReadSoFar) (heard : RuleAudit) (result : Result Bool AuditStop) (why : AuditStop)
    → HearsLine plan old rule_audit new heard result → result ≡ Err why → 0 < left → IsBehind plan text left old rule_audit
    → HearsReport plan text heard (Err why)
heard_err plan text left old rule_audit new heard result why hears is some behind =
    heard_stop plan text (left - 1) old rule_audit new heard why (subst (HearsLine plan old rule_audit new heard) is hears) (one_less plan text left old rule_audit some behind)

-- the report that was begun
pub begun_of : (text report : List ℕ) (reader : ReadSoFar) → text ≡ report → HasBegun text reader → HasBegun report reader
begun_of text report reader whole begun = subst (λ (octets : List ℕ). HasBegun octets reader) whole begun

pub fault_of : (plan : Plan) (text report : List ℕ) (why : ReportFault) → text ≡ report → Begins text (Err why) → IsAudited plan report (Err (fault_stop why))
fault_of plan text report (fault.Form line) whole begins = sym (ap (told_of plan) whole) ∙ begins plan
fault_of plan text report fault.NoMemory whole begins = tt

-- what was heard was some trace
pub was_told : (plan : Plan) (text : List ℕ) (rule_audit : RuleAudit) → IsHeard plan text rule_audit → WereHeard plan rule_audit
was_told plan text rule_audit is = record { trace = is.trace; heard = is.heard }

-- the first rule that fails is told
pub audited : (plan : Plan) (text : List ℕ) (rule_audit : RuleAudit) (result : Result (Unit {0}) AuditStop) → IsHeard plan text rule_audit
    → ((trace : List Entry) → HasHeardAll plan trace rule_audit → AnswersRule plan trace result) → IsAudited plan text result
audited plan text rule_audit (Ok done) is answers = record { trace = is.trace; told = is.told; is = answers is.trace is.heard }
audited plan text rule_audit (Err (stop.Form line)) is answers = absurd (answers is.trace is.heard)
audited plan text rule_audit (Err (stop.Isolated line)) is answers = record { trace = is.trace; told = is.told; is = answers is.trace is.heard }
audited plan text rule_audit (Err (stop.Split line)) is answers = record { trace = is.trace; told = is.told; is = answers is.trace is.heard }
audited plan text rule_audit (Err (stop.Once line)) is answers = record { trace = is.trace; told = is.told; is = answers is.trace is.heard }
audited plan text rule_audit (Err stop.NoMemory) is answers = tt
