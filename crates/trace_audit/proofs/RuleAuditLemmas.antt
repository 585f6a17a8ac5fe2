-- What was heard of entries answers for their trace.
use Rattle.std.proofs.Common.{◌≡◌, ◌<◌, ◌≤◌, ◌^◌, ◌++◌, ◌+◌, ◌∙◌, ℕ, List, [], ◌∷◌, length, length-append, Option, Some, None, Result, Ok, Err, IfOk, refl, sym, ap, arith, subst}
use Rattle.net_base.specs.declared.plan.Plan.{Plan}
use Rattle.net_base.specs.declared.trace.entry.Entry.{Entry}
use Rattle.net_base.specs.declared.trace.entry.Entry.TheVariants as kind
use Rattle.net_base.specs.declared.trace.event.Event.TheVariants.{Frame}
use Rattle.net_values.specs.declared.no_memory.NoMemory.{NoMemory}
use Rattle.seen_network.specs.Verdict.{OnceAnswers, Unserved}
use Rattle.window_audit.specs.declared.windows.Windows.{Windows}
use Rattle.window_audit.specs.Windows.{HasHeard}
use Rattle.window_audit.proofs.OpenedLemmas.{place_within as place_most}
use Rattle.trace_audit.specs.declared.rule_audit.RuleAudit.{RuleAudit}
use Rattle.trace_audit.specs.declared.path_audit.PathAudit.{PathAudit}
use Rattle.trace_audit.specs.Audited.{FirstOfOnce, FirstOfSplit, FirstStray, IsGoodTrace}
use Rattle.trace_audit.specs.declared.audit_stop.AuditStop.{AuditStop}
use Rattle.trace_audit.specs.declared.audit_stop.AuditStop.TheVariants as stop
use Rattle.trace_audit.specs.Heard.{AnswersRule, IsAuditOf, HasHeardAll, broken_at}
use Rattle.trace_audit.specs.Judged.{Judged, KnowsJudged, begun, judges, judges_all}
use Rattle.trace_audit.proofs.FirstLemmas.{crossing_first, stray_first}
use Rattle.trace_audit.proofs.PathLemmas.{crossings_told, strays_told}

judged_behind : (plan : Plan) (path_audit : Judged) (front : List Entry) (entry : Entry) → judges_all plan path_audit (front ++ entry ∷ []) ≡ judges plan entry (judges_all plan path_audit front)
judged_behind plan path_audit [] entry = refl
judged_behind plan path_audit (e ∷ es) entry = judged_behind plan (judges plan e path_audit) es entry

-- before the first entry
pub none_heard : (plan : Plan) (path_audit : PathAudit) (windows : Windows) → KnowsJudged path_audit begun → HasHeard plan [] windows → HasHeardAll plan [] (record { path_audit = path_audit; windows = windows })
none_heard plan path_audit windows is heard = record { judged = is; windows = heard }

-- an entry more
pub one_heard : (plan : Plan) (entry : Entry) (rule_audit : RuleAudit) (judged : PathAudit) (windows : Windows)
    → ((known : Judged) → KnowsJudged rule_audit.path_audit known → KnowsJudged judged (judges plan entry known))
    → ((trace : List Entry) → HasHeard plan trace rule_audit.windows → HasHeard plan (trace ++ entry ∷ []) windows)
    → (trace : List Entry) → HasHeardAll plan trace rule_audit → HasHeardAll plan (trace ++ entry ∷ []) (record { path_audit = judged; windows = windows })
one_heard plan entry rule_audit judged windows hears heard trace is =
    record { judged = subst (KnowsJudged judged) (sym (judged_behind plan begun trace entry)) (hears (judges_all plan begun trace) is.judged); windows = heard trace is.windows }

-- so many lines were read
judged_lines : (plan : Plan) (path_audit : Judged) (trace : List Entry) → (judges_all plan path_audit trace).line ≡ path_audit.line + length trace
unfolding judges
judged_lines plan path_audit [] = omega arith
judged_lines plan path_audit (e ∷ es) = omega (arith, judged_lines plan (judges plan e path_audit) es)

place_within : (plan : Plan) (trace : List Entry) (place : ℕ) → Unserved plan trace place → place ≤ length trace
place_within plan trace place one = omega (
  arith,
  one.place_is,
  place_most one.circuit one.during,
  ap length one.is,
  length-append one.before (kind.Did (Frame one.circuit one.octets) ∷ (one.during ++ one.after)),
  length-append one.during one.after,
)

-- the place of an entry is counted
pub place_counts : (plan : Plan) (trace : List Entry) (rule_audit : RuleAudit) (place : ℕ) → IsAuditOf plan rule_audit → HasHeardAll plan trace rule_audit → OnceAnswers plan trace (Some place) → place + 2 < 2 ^ 64
place_counts plan trace rule_audit place are is once = omega
    (arith, place_within plan trace place once.unserved, are.lines, are.windows.few, is.judged.line, judged_lines plan begun trace)

-- what the windows answer
pub verdict_is : (plan : Plan) (trace : List Entry) (windows : Windows) (result : Result (Option ℕ) NoMemory) (place : Option ℕ)
    → ((trace : List Entry) → HasHeard plan trace windows → IfOk result (OnceAnswers plan trace)) → result ≡ Ok place
    → HasHeard plan trace windows → OnceAnswers plan trace place
verdict_is plan trace windows result place once is heard = subst (λ (r : Result (Option ℕ) NoMemory). IfOk r (OnceAnswers plan trace)) is (once trace heard)

-- the lines that are known are those of the trace
stray_known : (plan : Plan) (trace : List Entry) (path_audit : PathAudit) (line : Option ℕ) → KnowsJudged path_audit (judges_all plan begun trace) → path_audit.stray ≡ line → (judges_all plan begun trace).stray ≡ line
stray_known plan trace path_audit line is known = sym is.stray ∙ known

crossed_known : (plan : Plan) (trace : List Entry) (path_audit : PathAudit) (line : Option ℕ) → KnowsJudged path_audit (judges_all plan begun trace) → path_audit.crossed ≡ line → (judges_all plan begun trace).crossed ≡ line
crossed_known plan trace path_audit line is known = sym is.crossed ∙ known

pub answered_stray : (plan : Plan) (trace : List Entry) (rule_audit : RuleAudit) (line : ℕ) → HasHeardAll plan trace rule_audit → rule_audit.path_audit.stray ≡ Some line → FirstStray plan trace line
answered_stray plan trace rule_audit line is stray = stray_first plan trace line (stray_known plan trace rule_audit.path_audit (Some line) is.judged stray)

pub answered_crossed : (plan : Plan) (trace : List Entry) (rule_audit : RuleAudit) (line : ℕ) → HasHeardAll plan trace rule_audit → rule_audit.path_audit.stray ≡ None → rule_audit.path_audit.crossed ≡ Some line
    → FirstOfSplit plan trace line
answered_crossed plan trace rule_audit line is stray crossed = record {
  isolated = (strays_told plan trace).0 (stray_known plan trace rule_audit.path_audit None is.judged stray);
  crossing = crossing_first plan trace line (crossed_known plan trace rule_audit.path_audit (Some line) is.judged crossed);
}

-- the first rule of paths that fails is told
broken_told : (plan : Plan) (trace : List Entry) (rule_audit : RuleAudit) (stray crossed : Option ℕ) (why : AuditStop) → HasHeardAll plan trace rule_audit → rule_audit.path_audit.stray ≡ stray
    → rule_audit.path_audit.crossed ≡ crossed → broken_at stray crossed ≡ Some why → AnswersRule plan trace (Err why)
broken_told plan trace rule_audit (Some line) crossed why heard stray_is crossed_is is =
    let same : stop.Isolated line ≡ why = cc (is) in
    subst (λ (w : AuditStop). AnswersRule plan trace (Err w)) same (answered_stray plan trace rule_audit line heard stray_is)
broken_told plan trace rule_audit None (Some line) why heard stray_is crossed_is is =
    let same : stop.Split line ≡ why = cc (is) in
    subst (λ (w : AuditStop). AnswersRule plan trace (Err w)) same (answered_crossed plan trace rule_audit line heard stray_is crossed_is)
broken_told plan trace rule_audit None None why heard stray_is crossed_is is = absurd (cc (is))

pub answered_path : (plan : Plan) (trace : List Entry) (rule_audit : RuleAudit) (why : AuditStop) → HasHeardAll plan trace rule_audit
    → broken_at rule_audit.path_audit.stray rule_audit.path_audit.crossed ≡ Some why → AnswersRule plan trace (Err why)
answered_path plan trace rule_audit why heard is = broken_told plan trace rule_audit rule_audit.path_audit.stray rule_audit.path_audit.crossed why heard refl refl is

-- or none of them fails
pub none_stray : (stray crossed : Option ℕ) → broken_at stray crossed ≡ None → stray ≡ None
none_stray (Some line) crossed is = absurd (cc (is))
none_stray None crossed is = refl

pub none_crossed : (stray crossed : Option ℕ) → broken_at stray crossed ≡ None → crossed ≡ None
none_crossed (Some line) crossed is = absurd (cc (is))
none_crossed None (Some line) is = absurd (cc (is))
none_crossed None None is = refl

pub answered_once : (plan : Plan) (trace : List Entry) (rule_audit : RuleAudit) (place : ℕ) → HasHeardAll plan trace rule_audit → rule_audit.path_audit.stray ≡ None → rule_audit.path_audit.crossed ≡ None
    → OnceAnswers plan trace (Some place) → FirstOfOnce plan trace (place + 2)
answered_once plan trace rule_audit place is stray crossed unserved = record {
  isolated = (strays_told plan trace).0 (stray_known plan trace rule_audit.path_audit None is.judged stray);
  split = (crossings_told plan trace).0 (crossed_known plan trace rule_audit.path_audit None is.judged crossed);
  place = place;
  unserved = unserved;
  line_is = refl;
}

pub answered_good : (plan : Plan) (trace : List Entry) (rule_audit : RuleAudit) → HasHeardAll plan trace rule_audit → rule_audit.path_audit.stray ≡ None → rule_audit.path_audit.crossed ≡ None → OnceAnswers plan trace None
    → IsGoodTrace plan trace
answered_good plan trace rule_audit is stray crossed once = record {
  isolated = (strays_told plan trace).0 (stray_known plan trace rule_audit.path_audit None is.judged stray);
  split = (crossings_told plan trace).0 (crossed_known plan trace rule_audit.path_audit None is.judged crossed);
  once = once;
}
