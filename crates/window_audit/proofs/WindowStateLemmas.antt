-- What is known behind one event more.
use Rattle.std.proofs.Common.{◌≡◌, ◌++◌, ◌∷◌, ◌∙◌, [], ℕ, Bool, true, false, List, Option, Some, None, cond, refl, ap, sym, subst}
use Rattle.net_base.specs.declared.plan.Plan.{Plan}
use Rattle.net_base.specs.declared.trace.entry.Entry.{Entry}
use Rattle.net_base.specs.declared.trace.entry.Entry.TheVariants as entry
use Rattle.net_base.specs.declared.trace.event.Event.{Event}
use Rattle.net_base.specs.declared.trace.event.Event.TheVariants.{Frame}
use Rattle.seen_network.specs.Once.{has_seen, spares_seen}
use Rattle.seen_network.specs.Seen.{Seen, happened_or, is_idle_behind, nothing_seen, seen_from, seen_in}
use Rattle.seen_network.proofs.ReadLemmas.{seen_on}
use Rattle.seen_state.specs.SeenState.{Knows}
use Rattle.seen_state.specs.declared.seen_state.SeenState.{SeenState}
use Rattle.seen_network.specs.EventEntries.{HasNoEvent, tells_idle}
use Rattle.seen_network.specs.Windows.{AmongWindows, AreOwed, IsOpen, IsOpened, IsOwed}
use Rattle.seen_network.specs.declared.window.Window.{Window}
use Rattle.seen_network.proofs.EventLemmas.{idle_told, no_event_in}
use Rattle.seen_network.proofs.WindowLemmas.{still_open, still_owed}
use Rattle.window_audit.specs.CalmMemory.{Remembers}
use Rattle.window_audit.specs.During.{AreTold, with_event}
use Rattle.window_audit.specs.OpenWindows.{WindowsByOrigin, AreLasting, HasClosed, is_one_of, are_copies_over, was_flooded, windows_at, with_found}
use Rattle.window_audit.specs.Losses.{Follows}
use Rattle.window_audit.specs.WindowState.{HasWindows}
use Rattle.window_audit.specs.Sources.{HasSources}
use Rattle.window_audit.specs.declared.calm_memory.CalmMemory.{CalmMemory}
use Rattle.window_audit.specs.declared.during.During.{During}
use Rattle.window_audit.specs.declared.window_state.WindowState.{WindowState}
use Rattle.window_audit.specs.declared.source.Source.{Source}
use Rattle.window_audit.proofs.OpenWindowsLemmas.{goes_on}

-- ---- an event

seen_is : (done : List Entry) (event : Event) (rest : List Entry) (idle : Bool) → HasNoEvent rest → idle ≡ tells_idle rest
    → seen_from (happened_or idle event (seen_in done)) rest ≡ seen_in (done ++ entry.Did event ∷ rest)
seen_is done event rest idle bare is =
    ap (λ (b : Bool). seen_from (happened_or b event (seen_in done)) rest) (is ∙ sym (idle_told rest bare)) ∙ sym (seen_on done (entry.Did event ∷ rest) nothing_seen tt)

pub passed_on : (plan : Plan) (done : List Entry) (event : Event) (rest : List Entry) (found : Option Window) (idle : Bool) (state1 state2 : SeenState) (calm2 : CalmMemory) (losses0 losses1
    losses2 losses3 : List ℕ)
    (m0 m1 m2 m3 : WindowsByOrigin) (owed owed2 : List Window)
    → HasNoEvent rest → idle ≡ tells_idle rest
    → AreLasting plan done (windows_at m0) → AreOwed plan done owed
    → IsOpened plan done event rest found
    → ((origin : ℕ) → windows_at m1 origin ≡ cond (spares_seen (seen_in done) origin idle event) (windows_at m0 origin) [])
    → Follows (seen_in done) (happened_or idle event (seen_in done)) state1 losses0 losses1
    → Follows (happened_or idle event (seen_in done)) (seen_from (happened_or idle event (seen_in done)) rest) state2 losses1 losses2
    → Remembers plan (seen_from (happened_or idle event (seen_in done)) rest) calm2
    → ((origin : ℕ) → windows_at m2 origin ≡ with_found found (windows_at m1) origin)
    → ((origin : ℕ) → is_one_of losses2 origin ≡ true → is_one_of losses3 origin ≡ true)
    → ((window : Window) → found ≡ Some window → is_one_of losses3 window.origin ≡ true)
    → ((seen : Seen) → Knows state2 seen → HasClosed (are_copies_over seen losses3) (was_flooded plan (done ++ entry.Did event ∷ rest)) (windows_at m2) (windows_at m3) owed owed2)
    → Knows state2 (seen_in (done ++ entry.Did event ∷ rest)) × Remembers plan (seen_in (done ++ entry.Did event ∷ rest)) calm2 × AreLasting plan (done ++ entry.Did event ∷ rest) (windows_at m3)
    × AreOwed plan (done ++ entry.Did event ∷ rest) owed2
passed_on plan done event rest found idle state1 state2 calm2 losses0 losses1 losses2 losses3 m0 m1 m2 m3 owed owed2 bare idle_is open_windows are_owed is_opened spared happened told calm opened kept
    noted closed = (knows, remembers, both.0, both.1) where
      is_now : seen_from (happened_or idle event (seen_in done)) rest ≡ seen_in (done ++ entry.Did event ∷ rest)
      is_now = seen_is done event rest idle bare idle_is

      follows : Follows (happened_or idle event (seen_in done)) (seen_in (done ++ entry.Did event ∷ rest)) state2 losses1 losses2
      follows = subst (λ (s : Seen). Follows (happened_or idle event (seen_in done)) s state2 losses1 losses2) is_now told

      knows : Knows state2 (seen_in (done ++ entry.Did event ∷ rest))
      knows = follows.knows

      remembers : Remembers plan (seen_in (done ++ entry.Did event ∷ rest)) calm2
      remembers = subst (λ (s : Seen). Remembers plan s calm2) is_now calm

      lost : (origin : ℕ) → has_seen (seen_in done) origin ≡ true → has_seen (seen_in (done ++ entry.Did event ∷ rest)) origin ≡ false → is_one_of losses3 origin ≡ true
      lost origin had none = kept origin (by (has_seen (happened_or idle event (seen_in done)) origin) refl) where
        by : (b : Bool) → has_seen (happened_or idle event (seen_in done)) origin ≡ b → is_one_of losses2 origin ≡ true
        by true at = follows.losses.lost origin at none
        by false at = follows.losses.kept origin (happened.losses.lost origin had at)

      spares : (origin : ℕ) → windows_at m1 origin ≡ cond (spares_seen (seen_in done) origin (is_idle_behind rest) event) (windows_at m0 origin) []
      spares origin = spared origin ∙ ap (λ (b : Bool). cond (spares_seen (seen_in done) origin b event) (windows_at m0 origin) []) (idle_is ∙ sym (idle_told rest bare))

      both : AreLasting plan (done ++ entry.Did event ∷ rest) (windows_at m3) × AreOwed plan (done ++ entry.Did event ∷ rest) owed2
      both = goes_on plan done event rest found losses3 (windows_at m0) (windows_at m1) (windows_at m2) (windows_at m3) owed owed2 open_windows spares opened (closed (seen_in (done ++ entry.Did event ∷
          rest)) knows) lost noted
          (λ are_open passed. (
            still_open plan done event rest bare found open_windows.windows owed _ owed2 are_open are_owed is_opened passed,
            still_owed plan done event rest bare found open_windows.windows
                owed _ owed2 are_open are_owed is_opened passed,
          ))

-- ---- before the first event

not_open : (plan : Plan) (trace : List Entry) (w : Window) → HasNoEvent trace → IsOpen plan trace w → ⊥
not_open plan trace w bare o = no_event_in o.before (Frame o.circuit o.octets) o.during (subst HasNoEvent o.is bare)

not_owed : (plan : Plan) (trace : List Entry) (w : Window) → HasNoEvent trace → IsOwed plan trace w → ⊥
not_owed plan trace w bare o = no_event_in o.before (Frame o.circuit o.octets) (o.during ++ o.after) (subst HasNoEvent o.is bare)

pub lasting_none : (plan : Plan) (trace : List Entry) (f : ℕ → List Window) → HasNoEvent trace → ((origin : ℕ) (w : Window) → AmongWindows w (f origin) → ⊥) → AreLasting plan trace f
lasting_none plan trace f bare none = record {
  windows = [];
  are_open = record {
    only = λ w h. absurd h;
    each = λ before circuit octets during service origin is opened spared. absurd (no_event_in before (Frame circuit octets) during (subst HasNoEvent is bare));
  };
  listed = λ w h. absurd h;
  lists = λ origin w h. none origin w h;
  home = λ origin w h. absurd (none origin w h);
  under_way = λ origin w h. absurd (none origin w h);
}

pub owed_none : (plan : Plan) (trace : List Entry) (owed : List Window) → HasNoEvent trace → ((w : Window) → AmongWindows w owed → ⊥) → AreOwed plan trace owed
owed_none plan trace owed bare none = record {
  only = λ w h. absurd (none w h);
  each = λ before circuit octets during after service origin is begins shown. absurd (no_event_in before (Frame circuit octets) (during ++ after) (subst HasNoEvent is bare));
}

still_none : (plan : Plan) (trace : List Entry) (f : ℕ → List Window) → HasNoEvent trace → AreLasting plan [] f → AreLasting plan trace f
still_none plan trace f bare open_windows = lasting_none plan trace f bare (λ origin w h. not_open plan [] w tt (open_windows.are_open.only w (open_windows.lists origin w h)))

owes_none : (plan : Plan) (trace : List Entry) (owed : List Window) → HasNoEvent trace → AreOwed plan [] owed → AreOwed plan trace owed
owes_none plan trace owed bare are = owed_none plan trace owed bare (λ w h. not_owed plan [] w tt (are.only w h))

-- ---- the whole

pub seen_first : (plan : Plan) (rest kept : List Entry) (old new : WindowState) → HasNoEvent rest → ((seen : Seen) → seen_from seen kept ≡ seen_from seen rest)
    → ((seen : Seen) → Knows old.state seen → Knows new.state (seen_from seen kept))
    → ((seen : Seen) → Remembers plan seen old.calm → Remembers plan (seen_from seen kept) new.calm)
    → new.open_windows ≡ old.open_windows → new.owed.items ≡ old.owed.items
    → HasWindows plan [] old → HasWindows plan rest new
seen_first plan rest kept old new bare shows knows calm open_windows owed has = record {
  state = subst (Knows new.state) (shows nothing_seen) (knows nothing_seen has.state);
  calm = subst (λ (s : Seen). Remembers plan s new.calm) (shows nothing_seen) (calm nothing_seen has.calm);
  open_windows = subst (λ (m : WindowsByOrigin). AreLasting plan rest (windows_at m)) (sym open_windows) (still_none plan rest (windows_at old.open_windows) bare has.open_windows);
  owed = subst (AreOwed plan rest) (sym owed) (owes_none plan rest old.owed.items bare has.owed);
}

-- those before the first event
pub passed_first : (plan : Plan) (done rest : List Entry) (old new : WindowState) (during : During) → during.event ≡ None → AreTold rest during → (during.event ≡ None → done ≡ [])
    → ((seen : Seen) → Knows old.state seen → Knows new.state (seen_from seen during.kept.items))
    → ((seen : Seen) → Remembers plan seen old.calm → Remembers plan (seen_from seen during.kept.items) new.calm)
    → new.open_windows ≡ old.open_windows → new.owed.items ≡ old.owed.items
    → HasWindows plan done old → HasWindows plan (done ++ with_event during.event rest) new
passed_first plan done rest old new during none told first knows calm open_windows owed has =
    subst (λ (o : Option Event). HasWindows plan (done ++ with_event o rest) new) (sym none)
    (subst (λ (d : List Entry). HasWindows plan (d ++ rest) new) (sym (first none))
    (seen_first plan rest during.kept.items old new told.bare told.shows knows calm open_windows owed (subst (λ (d : List Entry). HasWindows plan d old) (first none) has)))

-- those of an event
pub passed_event : (plan : Plan) (done rest : List Entry) (event : Event) (new : WindowState) (sources : List Source) (during : During) → during.event ≡ Some event
    → (HasSources plan sources (done ++ entry.Did event ∷ rest) → HasWindows plan (done ++ entry.Did event ∷ rest) new)
    → HasSources plan sources (done ++ with_event during.event rest) → HasWindows plan (done ++ with_event during.event rest) new
passed_event plan done rest event new sources during is windows has =
    subst (λ (o : Option Event). HasWindows plan (done ++ with_event o rest) new) (sym is) (windows (subst (λ (o : Option Event). HasSources plan sources (done ++ with_event o rest)) is has))

pub nothing : (plan : Plan) (known : WindowState) → Knows known.state nothing_seen → Remembers plan nothing_seen known.calm → ((origin : ℕ) → windows_at known.open_windows origin ≡ []) → known.owed.items ≡ []
    → HasWindows plan [] known
nothing plan known knows calm open_windows owed = record {
  state = knows;
  calm = calm;
  open_windows = lasting_none plan [] (windows_at known.open_windows) tt (λ origin w h. subst (AmongWindows w) (open_windows origin) h);
  owed = owed_none plan [] known.owed.items tt (λ w h. subst (AmongWindows w) owed h);
}
