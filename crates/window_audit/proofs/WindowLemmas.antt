-- What is known of a report, entry by entry.
use Rattle.std.proofs.Common.{◌≡◌, ◌<◌, ◌+◌, ◌^◌, ◌++◌, ◌∷◌, ◌∙◌, [], ℕ, List, Option, Some, None, length, refl, ap, sym, subst, arith}
use Rattle.std.proofs.lemmas.List.{append_assoc, length-append}
use Rattle.net_base.specs.declared.plan.Plan.{Plan}
use Rattle.net_base.specs.declared.trace.entry.Entry.{Entry}
use Rattle.net_base.specs.declared.trace.entry.Entry.TheVariants as entry
use Rattle.net_base.specs.declared.trace.event.Event.{Event}
use Rattle.seen_network.specs.Windows.{AreOwed}
use Rattle.seen_network.specs.Verdict.{IsFirstOwed, OnceAnswers}
use Rattle.seen_network.proofs.VerdictLemmas.{answered}
use Rattle.window_audit.specs.During.{AreKept, AreTold, with_event}
use Rattle.window_audit.specs.Exits.{ExitLists, HasExits}
use Rattle.window_audit.specs.WindowState.{HasWindows, IsWindowStateOf}
use Rattle.window_audit.specs.Sources.{HasSources}
use Rattle.window_audit.specs.Windows.{AreOf, HasHeard, HasPassed, told_count}
use Rattle.window_audit.specs.declared.during.During.{During}
use Rattle.window_audit.specs.declared.window_state.WindowState.{WindowState}
use Rattle.window_audit.specs.declared.source.Source.{Source}
use Rattle.window_audit.specs.declared.windows.Windows.{Windows}
use Rattle.window_audit.proofs.ExitLemmas.{told_other as same_exits}
use Rattle.window_audit.proofs.SourceLemmas.{told_other as same_sources}

-- the first place of those that are owed is the answer
pub told : (plan : Plan) (known : WindowState) (exits : ExitLists) (answer : Option ℕ) → ((trace : List Entry) → HasExits exits trace → IsFirstOwed plan trace known.owed.items answer)
    → (trace : List Entry) → AreOwed plan trace known.owed.items → HasExits exits trace → OnceAnswers plan trace answer
told plan known exits answer first trace owed left = answered plan trace known.owed.items answer owed (first trace left)

-- ---- nothing was told

pub begun : (plan : Plan) (windows : Windows) → windows.known.place ≡ 0 → windows.during.event ≡ None → HasWindows plan [] windows.known → AreTold [] windows.during → HasSources plan windows.sources []
    → HasExits windows.exits [] → HasHeard plan [] windows
begun plan windows place none known told sources exits = record {
  done = [];
  rest = [];
  is = sym (ap (λ (o : Option Event). with_event o []) none);
  place = place;
  none = λ h. refl;
  known = known;
  told = told;
  sources = sources;
  exits = exits;
}

pub begun_of : (plan : Plan) (windows : Windows) → windows.known.place ≡ 0 → windows.during.count ≡ 0 → IsWindowStateOf plan windows.known → AreKept plan windows.during → AreOf plan windows
begun_of plan windows place count known kept = record { known = known; kept = kept; few = omega (arith, place, count) }

-- ---- the last event is over

pub passed : (plan : Plan) (trace : List Entry) (old : Windows) (known : WindowState) → known.place ≡ told_count old
    → ((done rest : List Entry) → AreTold rest old.during → (old.during.event ≡ None → done ≡ []) → old.known.place ≡ length done → HasWindows plan done old.known
    → HasSources plan old.sources (done ++ with_event old.during.event rest) → HasWindows plan (done ++ with_event old.during.event rest) known)
    → HasHeard plan trace old → HasPassed plan trace (record { known = known; during = old.during; sources = old.sources; exits = old.exits })
passed plan trace old known place windows heard = record {
  place = omega (arith, place, heard.place, heard.told.count, ap (λ (es : List Entry). length es) heard.is, length-append heard.done (with_event old.during.event heard.rest));
  known = subst (λ (t : List Entry). HasWindows plan t known) (sym heard.is)
      (windows heard.done heard.rest heard.told heard.none heard.place heard.known (subst (HasSources plan old.sources) heard.is heard.sources));
  sources = heard.sources;
  exits = heard.exits;
}

-- and one begins
pub event_heard : (plan : Plan) (trace : List Entry) (event : Event) (old : Windows) (during : During) → during.event ≡ Some event → AreTold [] during → HasPassed plan trace old
    → HasHeard plan (trace ++ entry.Did event ∷ []) (record { known = old.known; during = during; sources = old.sources; exits = old.exits })
event_heard plan trace event old during is told passed = record {
  done = trace;
  rest = [];
  is = ap (λ (o : Option Event). trace ++ with_event o []) (sym is);
  place = passed.place;
  none = λ h. absurd (cc (sym is ∙ h));
  known = passed.known;
  told = told;
  sources = same_sources plan (entry.Did event) old.sources trace (λ service address. refl) passed.sources;
  exits = same_exits (entry.Did event) old.exits trace (λ origin circuit. refl) (λ origin. refl) passed.exits;
}

pub event_of : (plan : Plan) (old passed : Windows) (during : During) → IsWindowStateOf plan passed.known → passed.known.place ≡ told_count old → during.count ≡ 1 → AreKept plan during
    → told_count old + 1 < 2 ^ 63 → AreOf plan (record { known = passed.known; during = during; sources = passed.sources; exits = passed.exits })
event_of plan old passed during known place count kept few = record { known = known; kept = kept; few = omega (arith, place, count, few) }

-- ---- an entry comes that tells of no event

behind : (done rest : List Entry) (event : Option Event) (e : Entry) → (done ++ with_event event rest) ++ e ∷ [] ≡ done ++ with_event event (rest ++ e ∷ [])
behind done rest None e = append_assoc done rest (e ∷ [])
behind done rest (Some event) e = append_assoc done (entry.Did event ∷ rest) (e ∷ [])

pub entry_heard : (plan : Plan) (trace : List Entry) (e : Entry) (old : Windows) (during : During) (sources : List Source) (exits : ExitLists) → during.event ≡ old.during.event
    → ((rest : List Entry) → AreTold rest old.during → AreTold (rest ++ e ∷ []) during)
    → ((before : List Entry) → HasSources plan old.sources before → HasSources plan sources (before ++ e ∷ []))
    → ((before : List Entry) → HasExits old.exits before → HasExits exits (before ++ e ∷ []))
    → HasHeard plan trace old → HasHeard plan (trace ++ e ∷ []) (record { known = old.known; during = during; sources = sources; exits = exits })
entry_heard plan trace e old during sources exits same told comes leaves heard = record {
  done = heard.done;
  rest = heard.rest ++ e ∷ [];
  is = ap (λ (es : List Entry). es ++ e ∷ []) heard.is
      ∙ (behind heard.done heard.rest old.during.event e ∙ ap (λ (o : Option Event). heard.done ++ with_event o (heard.rest ++ e ∷ [])) (sym same));
  place = heard.place;
  none = λ h. heard.none (sym same ∙ h);
  known = heard.known;
  told = told heard.rest heard.told;
  sources = comes trace heard.sources;
  exits = leaves trace heard.exits;
}

pub entry_of : (plan : Plan) (old : Windows) (during : During) (sources : List Source) (exits : ExitLists) → during.count ≡ old.during.count + 1 → AreKept plan during → AreOf plan old
    → told_count old + 1 < 2 ^ 63 → AreOf plan (record { known = old.known; during = during; sources = sources; exits = exits })
entry_of plan old during sources exits count kept of few = record { known = of.known; kept = kept; few = omega (arith, count, few) }
