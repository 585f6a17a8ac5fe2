-- The line that is known is the first one at which a rule fails.
use Rattle.std.proofs.Common.{◌≡◌, ◌++◌, ◌+◌, ◌∙◌, ℕ, Bool, true, false, List, [], ◌∷◌, length, Some, None, refl, sym, ap, subst, arith, append_assoc, append-nil, length-append}
use Rattle.net_values.proofs.BoolLemmas.{clash}
use Rattle.net_base.specs.declared.plan.Plan.{Plan}
use Rattle.net_base.specs.declared.trace.entry.Entry.{Entry}
use Rattle.net_base.specs.trace.Isolated.{IsolatedAfter, IsolatedEntry}
use Rattle.net_base.specs.trace.Split.{Split, SplitEntry}
use Rattle.trace_audit.specs.Audited.{FirstCrossing, FirstStray}
use Rattle.trace_audit.specs.Judged.{Judged, begun, is_crossing, is_stray, judges, judges_all}
use Rattle.trace_audit.proofs.PathLemmas.{Knows, begun_knows, crossed_stays, entry_isolated, entry_split, isolated_entry, knows_more, none_some, split_entry, stray_same, stray_stays}

some_same : {a b : ℕ} → Some a ≡ Some b → a ≡ b
some_same e = cc e

-- the first stray among entries behind others
record StrayBehind (plan : Plan) (earlier es : List Entry) (line : ℕ) : Type 0 where
  before : List Entry
  entry : Entry
  after : List Entry
  is : es ≡ before ++ entry ∷ after
  isolated : IsolatedAfter plan earlier before
  strays : IsolatedEntry plan (earlier ++ before) entry → ⊥
  line_is : line ≡ (length earlier + length before) + 2

stray_behind : (plan : Plan) (earlier es : List Entry) (path_audit : Judged) (line : ℕ) → Knows plan earlier path_audit → path_audit.stray ≡ None → path_audit.line ≡ length earlier + 1
    → (judges_all plan path_audit es).stray ≡ Some line → StrayBehind plan earlier es line
unfolding judges
stray_behind plan earlier [] path_audit line knows none at last = none_some line (sym none ∙ last)
stray_behind plan earlier (e ∷ es) path_audit line knows none at last = by (is_stray plan path_audit.came e) refl (λ next. stray_behind plan (earlier ++ e ∷ []) es (judges plan e path_audit) line (knows_more plan earlier path_audit e knows) next (omega (arith, at, length-append earlier (e ∷ []))) last) where
  by : (b : Bool) → is_stray plan path_audit.came e ≡ b → ((judges plan e path_audit).stray ≡ None → StrayBehind plan (earlier ++ e ∷ []) es line) → StrayBehind plan earlier (e ∷ es) line
  by true strays rest =
      let here : Some (path_audit.line + 1) ≡ Some line = sym (stray_stays plan es (judges plan e path_audit) (path_audit.line + 1) (rw (none, strays) refl)) ∙ last in
      record {
        before = [];
        entry = e;
        after = es;
        is = refl;
        isolated = tt;
        strays = λ isolated. clash (sym (isolated_entry plan earlier e (subst (λ (l : List Entry). IsolatedEntry plan l e) (append-nil earlier) isolated))
            ∙ (sym (stray_same plan earlier path_audit e knows) ∙ strays));
        line_is = omega (arith, at, some_same here);
      }
  by false stays rest =
      let found = rest (rw (none, stays) refl) in
      record {
        before = e ∷ found.before;
        entry = found.entry;
        after = found.after;
        is = ap (λ (l : List Entry). e ∷ l) found.is;
        isolated = (entry_isolated plan earlier e (sym (stray_same plan earlier path_audit e knows) ∙ stays), found.isolated);
        strays = λ isolated. found.strays (subst (λ (l : List Entry). IsolatedEntry plan l found.entry) (sym (append_assoc earlier (e ∷ []) found.before)) isolated);
        line_is = omega (arith, found.line_is, length-append earlier (e ∷ []));
      }

pub stray_first : (plan : Plan) (trace : List Entry) (line : ℕ) → (judges_all plan begun trace).stray ≡ Some line → FirstStray plan trace line
stray_first plan trace line is =
    let found = stray_behind plan [] trace begun line (begun_knows plan) refl refl is in
    record { before = found.before; entry = found.entry; after = found.after; is = found.is; isolated = found.isolated; strays = found.strays; line_is = omega (arith, found.line_is) }

-- the first crossing among entries behind so many others
record CrossingBehind (plan : Plan) (earlier : ℕ) (es : List Entry) (line : ℕ) : Type 0 where
  before : List Entry
  entry : Entry
  after : List Entry
  is : es ≡ before ++ entry ∷ after
  split : Split plan before
  crosses : SplitEntry plan entry → ⊥
  line_is : line ≡ (earlier + length before) + 2

crossing_behind : (plan : Plan) (earlier : ℕ) (es : List Entry) (path_audit : Judged) (line : ℕ) → path_audit.crossed ≡ None → path_audit.line ≡ earlier + 1 → (judges_all plan path_audit es).crossed
    ≡ Some line → CrossingBehind plan earlier es line
unfolding judges
crossing_behind plan earlier [] path_audit line none at last = none_some line (sym none ∙ last)
crossing_behind plan earlier (e ∷ es) path_audit line none at last = by (is_crossing plan e) refl (λ next. crossing_behind plan (earlier + 1) es (judges plan e path_audit) line next (omega (arith, at)) last) where
  by : (b : Bool) → is_crossing plan e ≡ b → ((judges plan e path_audit).crossed ≡ None → CrossingBehind plan (earlier + 1) es line) → CrossingBehind plan earlier (e ∷ es) line
  by true crosses rest =
      let here : Some (path_audit.line + 1) ≡ Some line = sym (crossed_stays plan es (judges plan e path_audit) (path_audit.line + 1) (rw (none, crosses) refl)) ∙ last in
      record { before = []; entry = e; after = es; is = refl; split = tt; crosses = λ split. clash (sym (split_entry plan e split) ∙ crosses); line_is = omega (arith, at, some_same here) }
  by false stays rest =
      let found = rest (rw (none, stays) refl) in
      record {
        before = e ∷ found.before;
        entry = found.entry;
        after = found.after;
        is = ap (λ (l : List Entry). e ∷ l) found.is;
        split = (entry_split plan e stays, found.split);
        crosses = found.crosses;
        line_is = omega (arith, found.line_is);
      }

pub crossing_first : (plan : Plan) (trace : List Entry) (line : ℕ) → (judges_all plan begun trace).crossed ≡ Some line → FirstCrossing plan trace line
crossing_first plan trace line is =
    let found = crossing_behind plan 0 trace begun line refl refl is in
    record { before = found.before; entry = found.entry; after = found.after; is = found.is; split = found.split; crosses = found.crosses; line_is = omega (arith, found.line_is) }
