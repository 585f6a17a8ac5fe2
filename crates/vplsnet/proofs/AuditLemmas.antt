-- What `audit` answers by what its stages say.
use Rattle.std.proofs.Common.{◌≡◌, ℕ, List, [], ◌∷◌, Option, None, Ok, Err, inl, inr, refl, sym, subst}
use Rattle.net_base.specs.declared.plan.Plan.{Plan}
use Rattle.net_base.specs.outside.Outside.{ReadCall, Rose}
use Rattle.psn_net.specs.Lists.{NetLists}
use Rattle.scenario_text.specs.declared.scenario.Scenario.{Scenario}
use Rattle.text_lines.specs.Written.{Written, AppendsFront, Writes, lines_written}
use Rattle.trace_audit.specs.declared.audit_stop.AuditStop.{AuditStop}
use Rattle.trace_audit.specs.declared.audit_stop.AuditStop.TheVariants as stop
use Rattle.trace_audit.specs.Audited.{IsAudited, IsGoodReport}
use Rattle.vplsnet.specs.declared.audit_rule.AuditRule.TheVariants as rule
use Rattle.vplsnet.specs.declared.outcome.Outcome.{Outcome}
use Rattle.vplsnet.specs.declared.outcome.Outcome.TheVariants.{Done, WriteFault, ScenarioRefused}
use Rattle.vplsnet.specs.Answers.{SaysOutcome}
use Rattle.vplsnet.specs.Around.{Around, Files, Has, IsUntouched}
use Rattle.vplsnet.specs.Asked.{Audit}
use Rattle.vplsnet.specs.Audit.{outcome_of_stop, yes}
use Rattle.vplsnet.specs.Inputs.{ComesTo, IsNextBehind, IsNextReport, Refuses, Report, Wanted, Works, report_file, report_limit}
use Rattle.vplsnet.specs.PlanFile.{HasBoth, IsReadOfTwo, LacksOne, ReadsSecond}
use Rattle.vplsnet.specs.Reads.{GainsReads, IsReadOfNext}
use Rattle.vplsnet.specs.Writing.{EndsAudit}
use Rattle.vplsnet.proofs.AnswerLemmas.{none_answers, now_of, old_of, refused_answers, text_answers}
use Rattle.vplsnet.proofs.PlanFileLemmas.{comes_behind_both, next_after, two_read, two_refused}
use Rattle.vplsnet.proofs.WritingLemmas.{ends_front, ends_whole}

-- ---- the judgement

pub yes_whole : (plan : Plan) (octets text : List ℕ) (old now : Written) (outcome : Outcome) → IsGoodReport plan octets → text ≡ yes → outcome ≡ Done → Writes old.taken now.taken text
    → EndsAudit plan octets old now None outcome
yes_whole plan octets text old now outcome good same ends taken =
    inl (record { good = good; ends = ends_whole yes None Done old now None outcome ends refl (subst (λ (l : List ℕ). Writes old.taken now.taken l) same taken) })

pub yes_front : (plan : Plan) (octets text : List ℕ) (old now : Written) (outcome : Outcome) → IsGoodReport plan octets → text ≡ yes → outcome ≡ WriteFault
    → AppendsFront old.taken now.taken text → Rose old.faults now.faults
    → EndsAudit plan octets old now None outcome
yes_front plan octets text old now outcome good same ends taken cause =
    inl (record { good = good; ends = ends_front yes None Done old now None outcome ends refl (subst (λ (l : List ℕ). AppendsFront old.taken now.taken l) same taken) cause })

pub no_audit : (plan : Plan) (octets : List ℕ) (why : AuditStop) (old : Written) (outcome : Outcome) → IsAudited plan octets (Err why) → outcome ≡ outcome_of_stop why
    → EndsAudit plan octets old old None outcome
no_audit plan octets (stop.Form line) old outcome judged is = inr (inl (record { line = line; rule = rule.Form; judged = judged; outcome_is = is; taken = refl; no_run = refl }))
no_audit plan octets (stop.Isolated line) old outcome judged is = inr (inl (record { line = line; rule = rule.Isolated; judged = judged; outcome_is = is; taken = refl; no_run = refl }))
no_audit plan octets (stop.Split line) old outcome judged is = inr (inl (record { line = line; rule = rule.Split; judged = judged; outcome_is = is; taken = refl; no_run = refl }))
no_audit plan octets (stop.Once line) old outcome judged is = inr (inl (record { line = line; rule = rule.Once; judged = judged; outcome_is = is; taken = refl; no_run = refl }))
no_audit plan octets stop.NoMemory old outcome judged is = inr (inr (record { outcome_is = is; no_run = refl; taken = refl }))

pub ruleset judge_steps = (yes_whole, yes_front, no_audit)

-- ---- answers

abbrev report_wanted : List ℕ → Wanted
report_wanted report = record { name = report; limit = report_limit }

-- a report is read behind the scenario
reads_report : (file report : List ℕ) → ReadsSecond (Audit file report) file (report_wanted report)
reads_report file report = record {
  first = refl;
  refuses = λ octets fault is. next_after (λ scenario it. IsNextBehind (report_file report) (IsNextReport scenario) [] it) octets (Err fault) (Refuses (ScenarioRefused fault)) is refl;
  next = λ octets scenario is. next_after (λ scenario it. IsNextBehind (report_file report) (IsNextReport scenario) [] it) octets (Ok scenario) (report_file report) is refl;
}

report_comes : (files : Files) (file report octets : List ℕ) (scenario : Scenario) → HasBoth files file (report_wanted report) scenario octets
    → ComesTo (Has files) (Audit file report) (Works (Report scenario.plan octets))
report_comes files file report octets scenario both =
    comes_behind_both files (Audit file report) file octets (report_wanted report) scenario (Works (Report scenario.plan octets)) (reads_report file report) both
    (λ text is. next_after (λ s it. IsNextBehind (report_file report) (IsNextReport s) (octets ∷ []) it) text (Ok scenario) (Works (Report scenario.plan octets)) is refl)

-- one of the files was not had
pub audit_lacks : (around : Around) (file report : List ℕ) (network : Option NetLists) (outcome : Outcome)
    → LacksOne around.files around.shelf_before around.shelf_after file (report_wanted report) outcome → IsUntouched around network
    → SaysOutcome around (Audit file report) network outcome
audit_lacks around file report network outcome lacks untouched =
    refused_answers around (Audit file report) network outcome
    (two_refused around.files around.shelf_before around.shelf_after (Audit file report) file (report_wanted report) outcome (reads_report file report) lacks) untouched

pub audit_reads : (files : Files) (file report : List ℕ) (before after : List ReadCall) → GainsReads (IsReadOfTwo files file (report_wanted report)) before after
    → GainsReads (IsReadOfNext (Has files) (Audit file report)) before after
audit_reads files file report before after gains = two_read files (Audit file report) file (report_wanted report) before after (reads_report file report) gains

-- the report was judged
audit_answers : (around : Around) (file report octets : List ℕ) (scenario : Scenario) (network : Option NetLists) (outcome : Outcome) → HasBoth around.files file (report_wanted report) scenario octets
    → EndsAudit scenario.plan octets (old_of around) (now_of around) network outcome → SaysOutcome around (Audit file report) network outcome
audit_answers around file report octets scenario network outcome both (inl told) =
    text_answers around (Audit file report) yes None Done network outcome refl
    (record {
      work = Report scenario.plan octets;
      come = report_comes around.files file report octets scenario both;
      makes = record { good = told.good; text_is = refl; ends = refl; no_run = refl };
    }) told.ends
audit_answers around file report octets scenario network outcome both (inr (inl told)) =
    subst (λ (o : Outcome). SaysOutcome around (Audit file report) network o) (sym told.outcome_is)
    (record { plan = scenario.plan; octets = octets; come = report_comes around.files file report octets scenario both; judged = told.judged }, record { taken = told.taken; no_run = told.no_run })
audit_answers around file report octets scenario network outcome both (inr (inr none)) = none_answers around (Audit file report) network outcome none

pub audit_ended : (around : Around) (file report octets lent : List ℕ) (scenario : Scenario) (network : Option NetLists) (made outcome : Outcome) → lent ≡ octets → network ≡ None → outcome ≡ made
    → HasBoth around.files file (report_wanted report) scenario octets
    → EndsAudit scenario.plan lent (lines_written around.taken_before around.sink_before []) (lines_written around.taken_after around.sink_after []) None made
    → SaysOutcome around (Audit file report) network outcome
audit_ended around file report octets lent scenario network made outcome same none is both ends =
    subst (λ (n : Option NetLists). SaysOutcome around (Audit file report) n outcome) (sym none)
    (subst (λ (o : Outcome). SaysOutcome around (Audit file report) None o) (sym is)
    (audit_answers around file report octets scenario None made both (subst (λ (o : List ℕ). EndsAudit scenario.plan o (old_of around) (now_of around) None made) same ends)))

pub ruleset file_steps = (audit_lacks, audit_reads, audit_ended)
