-- A report that meets the rules is refused by none.
use Rattle.std.proofs.Common.{◌≡◌, ◌++◌, ◌∙◌, ℕ, List, [], ◌∷◌, Result, Ok, Err, sym, subst, append_assoc, append-nil}
use Rattle.net_base.specs.declared.plan.Plan.{Plan}
use Rattle.net_base.specs.declared.trace.entry.Entry.{Entry}
use Rattle.net_base.specs.trace.Isolated.{Isolated, IsolatedAfter, IsolatedEntry}
use Rattle.net_base.specs.trace.Split.{Split, SplitEntry}
use Rattle.report_entries.specs.Report.{told_of}
use Rattle.seen_network.specs.Once.{OnceSeen}
use Rattle.seen_network.specs.Verdict.{Unserved}
use Rattle.trace_audit.specs.declared.audit_stop.AuditStop.TheVariants as stop
use Rattle.trace_audit.specs.Audited.{FirstCrossing, FirstStray, IsGoodTrace}
use Rattle.trace_audit.specs.Yes.{GoodReportsGetYes}

-- what holds of all entries holds of one
isolated_at : (plan : Plan) (earlier before after : List Entry) (entry : Entry) → IsolatedAfter plan earlier (before ++ entry ∷ after) → IsolatedEntry plan (earlier ++ before) entry
isolated_at plan earlier [] after entry is = subst (λ (l : List Entry). IsolatedEntry plan l entry) (sym (append-nil earlier)) is.0
isolated_at plan earlier (e ∷ before) after entry is =
    subst (λ (l : List Entry). IsolatedEntry plan l entry) (append_assoc earlier (e ∷ []) before) (isolated_at plan (earlier ++ e ∷ []) before after entry is.1)

split_at : (plan : Plan) (before after : List Entry) (entry : Entry) → Split plan (before ++ entry ∷ after) → SplitEntry plan entry
split_at plan [] after entry is = is.0
split_at plan (e ∷ before) after entry is = split_at plan before after entry is.1

no_stray : (plan : Plan) (trace : List Entry) (line : ℕ) → Isolated plan trace → FirstStray plan trace line → ⊥
no_stray plan trace line isolated first = first.strays (isolated_at plan [] first.before first.after first.entry (subst (Isolated plan) first.is isolated))

no_crossing : (plan : Plan) (trace : List Entry) (line : ℕ) → Split plan trace → FirstCrossing plan trace line → ⊥
no_crossing plan trace line split first = first.crosses (split_at plan first.before first.after first.entry (subst (Split plan) first.is split))

none_unserved : (plan : Plan) (trace : List Entry) (place : ℕ) → OnceSeen 12 plan trace → Unserved plan trace place → ⊥
none_unserved plan trace place once one = one.unserved (once one.before one.circuit one.octets one.during one.after one.service one.origin one.is one.begins one.shown)

abbrev tells : List Entry → Result (List Entry) ℕ
tells trace = Ok trace

told_once : (told : Result (List Entry) ℕ) (a b : List Entry) → told ≡ Ok a → told ≡ Ok b → a ≡ b
told_once told a b first next = same (sym first ∙ next) where
  same : tells a ≡ tells b → a ≡ b
  same e = cc e

no_fault : {P : Type 0} (told : Result (List Entry) ℕ) (a : List Entry) (line : ℕ) → told ≡ Ok a → told ≡ Err line → P
no_fault told a line first next = absurd (cc (sym first ∙ next))

-- the trace that is told is a good one
good_told : (plan : Plan) (told : Result (List Entry) ℕ) (a b : List Entry) → told ≡ Ok a → told ≡ Ok b → IsGoodTrace plan a → IsGoodTrace plan b
good_told plan told a b first next good = subst (IsGoodTrace plan) (told_once told a b first next) good

pub good_yes : GoodReportsGetYes
good_yes plan text (Ok done) good is = tt
good_yes plan text (Err (stop.Form line)) good is = no_fault (told_of plan text) good.trace line good.told is
good_yes plan text (Err (stop.Isolated line)) good is = no_stray plan is.trace line (good_told plan (told_of plan text) good.trace is.trace good.told is.told good.is).isolated is.is
good_yes plan text (Err (stop.Split line)) good is = no_crossing plan is.trace line (good_told plan (told_of plan text) good.trace is.trace good.told is.told good.is).split is.is.crossing
good_yes plan text (Err (stop.Once line)) good is =
    none_unserved plan is.trace is.is.place (good_told plan (told_of plan text) good.trace is.trace good.told is.told good.is).once is.is.unserved.unserved
good_yes plan text (Err stop.NoMemory) good is = tt
