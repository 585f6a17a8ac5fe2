-- The windows that are open yet, behind one event more.
use Rattle.std.proofs.Common.{◌≡◌, ◌==◌, ◌&&◌, ◌++◌, ◌∷◌, ◌∙◌, ◌⊎◌, inl, inr, [], ℕ, Bool, true, false, not, List, Option, Some, None, cond, refl, ap, sym, subst}
use Rattle.std.proofs.lemmas.Bool.{eqb-true}
use Rattle.std.specs.List.{filter}
use Rattle.net_values.proofs.NumberLemmas.{same_number}
use Rattle.net_base.specs.declared.plan.Plan.{Plan}
use Rattle.net_base.specs.declared.trace.entry.Entry.{Entry}
use Rattle.net_base.specs.declared.trace.entry.Entry.TheVariants.{Did}
use Rattle.net_base.specs.declared.trace.event.Event.{Event}
use Rattle.seen_network.specs.Once.{has_seen, spares_seen}
use Rattle.seen_network.specs.Seen.{Seen, is_idle_behind, seen_in}
use Rattle.seen_network.specs.Windows.{AmongWindows, AreWindowsOpen, AreOwed, Closes, HasPassedWindows, IsLeftOpen}
use Rattle.seen_network.specs.declared.window.Window.{Window}
use Rattle.window_audit.specs.OpenWindows.{AreLasting, ClosesOne, HasClosed, is_one_of, are_copies_over, was_flooded, with_found}

-- ---- members of lists

pub among_left : (w : Window) (xs ys : List Window) → AmongWindows w xs → AmongWindows w (xs ++ ys)
among_left w [] ys h = absurd h
among_left w (x ∷ xs) ys (inl is) = inl is
among_left w (x ∷ xs) ys (inr rest) = inr (among_left w xs ys rest)

pub among_right : (w : Window) (xs ys : List Window) → AmongWindows w ys → AmongWindows w (xs ++ ys)
among_right w [] ys h = h
among_right w (x ∷ xs) ys h = inr (among_right w xs ys h)

pub among_either : (w : Window) (xs ys : List Window) → AmongWindows w (xs ++ ys) → AmongWindows w xs ⊎ AmongWindows w ys
among_either w [] ys h = inr h
among_either w (x ∷ xs) ys (inl is) = inl (inl is)
among_either w (x ∷ xs) ys (inr rest) = turn (among_either w xs ys rest) where
  turn : AmongWindows w xs ⊎ AmongWindows w ys → ((w ≡ x) ⊎ AmongWindows w xs) ⊎ AmongWindows w ys
  turn (inl h) = inl (inr h)
  turn (inr h) = inr h

pub among_filter : (t : Window → Bool) (w : Window) (xs : List Window) → AmongWindows w xs → t w ≡ true → AmongWindows w (filter t xs)
among_filter t w [] h holds = absurd h
among_filter t w (x ∷ xs) (inl is) holds = subst (λ (b : Bool). AmongWindows w (cond b (x ∷ filter t xs) (filter t xs))) (sym holds ∙ ap t is) (inl is)
among_filter t w (x ∷ xs) (inr rest) holds = by (t x) (among_filter t w xs rest holds) where
  by : (b : Bool) → AmongWindows w (filter t xs) → AmongWindows w (cond b (x ∷ filter t xs) (filter t xs))
  by true h = inr h
  by false h = h

pub from_filter : (t : Window → Bool) (w : Window) (xs : List Window) → AmongWindows w (filter t xs) → AmongWindows w xs × (t w ≡ true)
from_filter t w [] h = absurd h
from_filter t w (x ∷ xs) h = by (t x) refl h (from_filter t w xs) where
  by : (b : Bool) → t x ≡ b → AmongWindows w (cond b (x ∷ filter t xs) (filter t xs)) → (AmongWindows w (filter t xs) → AmongWindows w xs × (t w ≡ true)) → AmongWindows w (x ∷ xs) × (t w ≡ true)
  by true holds (inl is) rest = (inl is, ap t is ∙ holds)
  by true holds (inr h) rest = (inr (rest h).0, (rest h).1)
  by false fails h rest = (inr (rest h).0, (rest h).1)

-- ---- one event more

abbrev pub one_list : Option Window → List Window
one_list None = []
one_list (Some w) = w ∷ []

module _ (plan : Plan) (done : List Entry) (event : Event) (rest : List Entry) (found : Option Window) (losses : List ℕ) (f0 f1 f2 f3 : ℕ → List Window) (owed owed2 : List Window)
    (before : AreLasting plan done f0)
    (spared : (origin : ℕ) → f1 origin ≡ cond (spares_seen (seen_in done) origin (is_idle_behind rest) event) (f0 origin) [])
    (opened : (origin : ℕ) → f2 origin ≡ with_found found f1 origin)
    (closed : HasClosed (are_copies_over (seen_in (done ++ Did event ∷ rest)) losses) (was_flooded plan (done ++ Did event ∷ rest)) f2 f3 owed owed2)
    (lost : (origin : ℕ) → has_seen (seen_in done) origin ≡ true → has_seen (seen_in (done ++ Did event ∷ rest)) origin ≡ false → is_one_of losses origin ≡ true)
    (noted : (window : Window) → found ≡ Some window → is_one_of losses window.origin ≡ true) where
  abbrev now : Seen
  now = seen_in (done ++ Did event ∷ rest)

  abbrev spares : ℕ → Bool
  spares origin = spares_seen (seen_in done) origin (is_idle_behind rest) event

  abbrev Left : Window → Type 0
  Left w = IsLeftOpen (seen_in done) (is_idle_behind rest) event before.windows found w

  -- what is left stands in the index
  left_in : (w : Window) → Left w → AmongWindows w (f2 w.origin)
  left_in w (inl old) = subst (AmongWindows w) (sym (opened w.origin)) (kept found (subst (AmongWindows w) (sym (spared w.origin ∙ ap (λ (b : Bool). cond b (f0 w.origin) []) old.1)) (before.listed w old.0))) where
    kept : (o : Option Window) → AmongWindows w (f1 w.origin) → AmongWindows w (with_found o f1 w.origin)
    kept None h = h
    kept (Some x) h = by (w.origin == x.origin) where
      by : (b : Bool) → AmongWindows w (cond b (f1 w.origin ++ x ∷ []) (f1 w.origin))
      by true = among_left w (f1 w.origin) (x ∷ []) h
      by false = h
  left_in w (inr is) = subst (AmongWindows w) (sym (opened w.origin ∙ ap (λ (o : Option Window). with_found o f1 w.origin) is)) (subst (λ (b : Bool). AmongWindows w (cond b (f1 w.origin ++ w ∷ []) (f1
      w.origin))) (sym (same_number w.origin)) (among_right w (f1 w.origin) (w ∷ []) (inl refl)))

  -- what stands in the index is left
  old_in : (origin : ℕ) (w : Window) → AmongWindows w (f1 origin) → (AmongWindows w (f0 origin)) × (spares origin ≡ true)
  old_in origin w h = by (spares origin) refl (subst (AmongWindows w) (spared origin) h) where
    by : (b : Bool) → spares origin ≡ b → AmongWindows w (cond b (f0 origin) []) → (AmongWindows w (f0 origin)) × (spares origin ≡ true)
    by true is a = (a, is)
    by false is a = absurd a

  in_left : (origin : ℕ) (w : Window) → AmongWindows w (f2 origin) → ((AmongWindows w (f0 origin)) × (spares origin ≡ true)) ⊎ ((found ≡ Some w) × (w.origin ≡ origin))
  in_left origin w h = of found refl (subst (AmongWindows w) (opened origin) h) where
    of : (o : Option Window) → found ≡ o → AmongWindows w (with_found o f1 origin) → ((AmongWindows w (f0 origin)) × (spares origin ≡ true)) ⊎ ((found ≡ Some w) × (w.origin ≡ origin))
    of None is a = inl (old_in origin w a)
    of (Some x) is a = by (origin == x.origin) refl a where
      last : (origin == x.origin) ≡ true → AmongWindows w (f1 origin) ⊎ AmongWindows w (x ∷ []) → ((AmongWindows w (f0 origin)) × (spares origin ≡ true)) ⊎ ((found ≡ Some w) × (w.origin ≡ origin))
      last same (inl a) = inl (old_in origin w a)
      last same (inr (inl at)) = inr (is ∙ ap Some (sym at), ap (λ (y : Window). y.origin) at ∙ sym (eqb-true origin x.origin same))
      last same (inr (inr none)) = absurd none

      by : (b : Bool) → (origin == x.origin) ≡ b → AmongWindows w (cond b (f1 origin ++ x ∷ []) (f1 origin)) → ((AmongWindows w (f0 origin)) × (spares origin ≡ true)) ⊎ ((found ≡ Some w) × (w.origin ≡ origin))
      by true same a = last same (among_either w (f1 origin) (x ∷ []) a)
      by false other a = inl (old_in origin w a)

  home_in : (origin : ℕ) (w : Window) → AmongWindows w (f2 origin) → w.origin ≡ origin
  home_in origin w h = of (in_left origin w h) where
    of : ((AmongWindows w (f0 origin)) × (spares origin ≡ true)) ⊎ ((found ≡ Some w) × (w.origin ≡ origin)) → w.origin ≡ origin
    of (inl old) = before.home origin w old.0
    of (inr new) = new.1

  is_left : (origin : ℕ) (w : Window) → AmongWindows w (f2 origin) → Left w
  is_left origin w h = of (in_left origin w h) where
    of : ((AmongWindows w (f0 origin)) × (spares origin ≡ true)) ⊎ ((found ≡ Some w) × (w.origin ≡ origin)) → Left w
    of (inl old) = inl (before.lists origin w old.0, ap spares (before.home origin w old.0) ∙ old.1)
    of (inr new) = inr new.0

  -- where fails copy is under way any more, the frame is among those that lost one
  is_noted : (origin : ℕ) (w : Window) → AmongWindows w (f2 origin) → has_seen now origin ≡ false → is_one_of losses origin ≡ true
  is_noted origin w h none = of (in_left origin w h) where
    of : ((AmongWindows w (f0 origin)) × (spares origin ≡ true)) ⊎ ((found ≡ Some w) × (w.origin ≡ origin)) → is_one_of losses origin ≡ true
    of (inl old) = lost origin (before.under_way origin w old.0) none
    of (inr new) = ap (is_one_of losses) (sym new.1) ∙ noted w new.0

  gone_at : (origin : ℕ) (w : Window) → AmongWindows w (f2 origin) → has_seen now origin ≡ false → are_copies_over now losses origin ≡ true
  gone_at origin w h none = ap (λ (b : Bool). b && not (has_seen now origin)) (is_noted origin w h none) ∙ ap not none

  -- what still stands in the index
  still_in : (origin : ℕ) (w : Window) → AmongWindows w (f3 origin) → AmongWindows w (f2 origin) × (has_seen now origin ≡ true)
  still_in origin w h = by (are_copies_over now losses origin) refl (subst (AmongWindows w) (closed.left origin) h) where
    on : AmongWindows w (f2 origin) → are_copies_over now losses origin ≡ false → (b : Bool) → has_seen now origin ≡ b → b ≡ true
    on a fails true is = refl
    on a fails false is = absurd (cc (sym fails ∙ gone_at origin w a is))

    by : (b : Bool) → are_copies_over now losses origin ≡ b → AmongWindows w (cond b [] (f2 origin)) → AmongWindows w (f2 origin) × (has_seen now origin ≡ true)
    by true is a = absurd a
    by false is a = (a, on a is (has_seen now origin) refl)

  stays_in : (origin : ℕ) (w : Window) → AmongWindows w (f2 origin) → has_seen now origin ≡ true → AmongWindows w (f3 origin)
  stays_in origin w h has = subst (AmongWindows w) (sym (closed.left origin ∙ ap (λ (b : Bool). cond b [] (f2 origin)) (not_over (is_one_of losses origin)))) h where
    not_over : (b : Bool) → b && not (has_seen now origin) ≡ false
    not_over true = ap not has
    not_over false = refl

  abbrev pub under_way_now : Window → Bool
  under_way_now w = has_seen now w.origin

  abbrev pub spared_now : Window → Bool
  spared_now w = spares w.origin

  abbrev still : List Window
  still = filter under_way_now (filter spared_now before.windows ++ one_list found)

  found_in : (w : Window) → found ≡ Some w → AmongWindows w (one_list found)
  found_in w is = subst (λ (o : Option Window). AmongWindows w (one_list o)) (sym is) (inl refl)

  in_found : (o : Option Window) (w : Window) → AmongWindows w (one_list o) → o ≡ Some w
  in_found None w h = absurd h
  in_found (Some x) w (inl is) = ap Some (sym is)
  in_found (Some x) w (inr none) = absurd none

  to_still : (w : Window) → Left w → has_seen now w.origin ≡ true → AmongWindows w still
  to_still w (inl old) has = among_filter under_way_now w (filter spared_now before.windows ++ one_list found)
      (among_left w (filter spared_now before.windows) (one_list found) (among_filter spared_now w before.windows old.0 old.1)) has
  to_still w (inr is) has = among_filter under_way_now w (filter spared_now before.windows ++ one_list found)
      (among_right w (filter spared_now before.windows) (one_list found) (found_in w is)) has

  from_still : (w : Window) → AmongWindows w still → Left w × (has_seen now w.origin ≡ true)
  from_still w h = of (from_filter under_way_now w (filter spared_now before.windows ++ one_list found) h) where
    either : AmongWindows w (filter spared_now before.windows) ⊎ AmongWindows w (one_list found) → Left w
    either (inl a) = inl (from_filter spared_now w before.windows a)
    either (inr a) = inr (in_found found w a)

    of : AmongWindows w (filter spared_now before.windows ++ one_list found) × (under_way_now w ≡ true) → Left w × (has_seen now w.origin ≡ true)
    of p = (either (among_either w (filter spared_now before.windows) (one_list found) p.0), p.1)

  has_passed : HasPassedWindows plan done event rest found before.windows owed still owed2
  has_passed = record {
    stays = to_still;
    stayed = λ w h. (from_still w h).0;
    kept = closed.kept;
    closes = λ w left none flooded. closed.closes w (record { origin = w.origin; over = gone_at w.origin w (left_in w left) none; was = left_in w left; flooded_is = flooded });
    closed = λ w h. of w (closed.closed w h);
  } where
    over_of : (w : Window) (origin : ℕ) → are_copies_over now losses origin ≡ true → w.origin ≡ origin → has_seen now w.origin ≡ false
    over_of w origin over at = ap (has_seen now) at ∙ by (is_one_of losses origin) (has_seen now origin) over where
      by : (a b : Bool) → a && not b ≡ true → b ≡ false
      by true false h = refl
      by true true h = absurd (cc (h))
      by false b h = absurd (cc (h))

    of : (w : Window) → AmongWindows w owed ⊎ ClosesOne (are_copies_over now losses) (was_flooded plan (done ++ Did event ∷ rest)) f2 w
        → AmongWindows w owed ⊎ Closes (seen_in done) (is_idle_behind rest) event before.windows found now plan (done ++ Did event ∷ rest) w
    of w (inl h) = inl h
    of w (inr one) = inr (record { left = is_left one.origin w one.was; over = over_of w one.origin one.over (home_in one.origin w one.was); flooded = one.flooded_is })

  still_lasting : AreWindowsOpen plan (done ++ Did event ∷ rest) still → AreLasting plan (done ++ Did event ∷ rest) f3
  still_lasting are = record {
    windows = still;
    are_open = are;
    listed = λ w h. stays_in w.origin w (left_in w (from_still w h).0) (from_still w h).1;
    lists = λ origin w h. to_still w (is_left origin w (still_in origin w h).0) (ap (has_seen now) (home_in origin w (still_in origin w h).0) ∙ (still_in origin w h).1);
    home = λ origin w h. home_in origin w (still_in origin w h).0;
    under_way = λ origin w h. (still_in origin w h).1;
  }

  pub goes_on : (AreWindowsOpen plan done before.windows → HasPassedWindows plan done event rest found before.windows owed still owed2
      → AreWindowsOpen plan (done ++ Did event ∷ rest) still × AreOwed plan (done ++ Did event ∷ rest) owed2)
      → AreLasting plan (done ++ Did event ∷ rest) f3 × AreOwed plan (done ++ Did event ∷ rest) owed2
  goes_on law = (still_lasting (law before.are_open has_passed).0, (law before.are_open has_passed).1)
