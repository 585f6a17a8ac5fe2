-- The windows that are open and those that are owed, behind one event more.
use Rattle.std.proofs.Common.{◌≡◌, ◌+◌, ◌&&◌, ◌||◌, ◌++◌, ◌∷◌, ◌∙◌, ◌⊎◌, inl, inr, [], ℕ, Bool, true, false, not, List, Option, Some, None, refl, ap, sym, subst, length, append_assoc}
use Rattle.std.proofs.lemmas.Bool.{and_from}
use Rattle.std.specs.List.{list_any}
use Rattle.net_base.specs.declared.plan.Plan.{Plan}
use Rattle.net_base.specs.declared.plan.places.CircuitId.{CircuitId}
use Rattle.net_base.specs.declared.plan.places.ServiceId.{ServiceId}
use Rattle.net_base.specs.declared.trace.entry.Entry.{Entry}
use Rattle.net_base.specs.declared.trace.entry.Entry.TheVariants.{Did}
use Rattle.net_base.specs.declared.trace.event.Event.{Event}
use Rattle.net_base.specs.declared.trace.event.Event.TheVariants.{Frame}
use Rattle.net_base.specs.trace.Frame.{destination_of}
use Rattle.net_values.specs.declared.mac.Mac.{Mac}
use Rattle.net_values.proofs.BoolLemmas.{first_holds, second_holds, and_true}
use Rattle.seen_network.specs.Once.{SeenWindow, all_spared, has_seen, is_seen_flooded, is_sourced_by, spares_seen}
use Rattle.seen_network.specs.Seen.{BeginsEvent, Seen, happened_or, is_idle_behind, nothing_seen, seen_from, seen_in}
use Rattle.seen_network.proofs.ReadLemmas.{seen_on}
use Rattle.seen_network.specs.EventEntries.{HasNoEvent}
use Rattle.seen_network.specs.Windows.{AmongWindows, AreWindowsOpen, AreOwed, Closes, Describes, GoesTo, HasOpened, HasPassedWindows, IsLeftOpen, IsOpen, IsOpened, IsOwed, Lists, Opens, OpensOne, WasOver, flooded_to}
use Rattle.seen_network.specs.declared.window.Window.{Window}
use Rattle.seen_network.proofs.EventLemmas.{CutBefore, CutBehind, IsLast, StandsBefore, begins_on, cut_at, ends_bare, entered_on, event_at, flooded_before, place_on, spared_none, spared_on, append_none}

-- a frame's event shows nothing by itself
frame_shows : (idle : Bool) (circuit : CircuitId) (octets : List ℕ) (seen : Seen) → happened_or idle (Frame circuit octets) seen ≡ seen
frame_shows true circuit octets seen = refl
frame_shows false circuit octets seen = refl

-- what is seen behind a frame's event
seen_behind : (before : List Entry) (circuit : CircuitId) (octets : List ℕ) (during : List Entry) → seen_in (before ++ Did (Frame circuit octets) ∷ during) ≡ seen_from (seen_in before) during
seen_behind before circuit octets during =
    seen_on before (Did (Frame circuit octets) ∷ during) nothing_seen tt
    ∙ ap (λ (s : Seen). seen_from s during) (frame_shows (is_idle_behind during) circuit octets (seen_in before))

-- ---- a frame that entered, with more entries behind it

more_opened : (plan : Plan) (before : List Entry) (circuit : CircuitId) (octets : List ℕ) (front back : List Entry) (service : ServiceId) (origin : ℕ) → BeginsEvent back
    → HasOpened plan before circuit octets front service origin → HasOpened plan before circuit octets (front ++ back) service origin
more_opened plan before circuit octets front back service origin begins h =
    record { entered = entered_on front back circuit begins ∙ h.entered; sender = h.sender; on = h.on; frame = h.frame; formed = h.formed; calm = h.calm }

less_opened : (plan : Plan) (before : List Entry) (circuit : CircuitId) (octets : List ℕ) (front back : List Entry) (service : ServiceId) (origin : ℕ) → BeginsEvent back
    → HasOpened plan before circuit octets (front ++ back) service origin → HasOpened plan before circuit octets front service origin
less_opened plan before circuit octets front back service origin begins h =
    record { entered = sym (entered_on front back circuit begins) ∙ h.entered; sender = h.sender; on = h.on; frame = h.frame; formed = h.formed; calm = h.calm }

more_told : (plan : Plan) (before : List Entry) (circuit : CircuitId) (octets : List ℕ) (front back : List Entry) (service : ServiceId) (origin : ℕ) (window : Window) → BeginsEvent back
    → Describes plan before circuit octets front service origin window → Describes plan before circuit octets (front ++ back) service origin window
more_told plan before circuit octets front back service origin window begins d = record {
  place = d.place ∙ ap (λ (n : ℕ). length before + (1 + n)) (sym (place_on front back circuit begins));
  sender = d.sender;
  service_is = d.service_is;
  origin_is = d.origin_is;
  goes = d.goes;
  sites = d.sites;
}

more_listed : (plan : Plan) (before : List Entry) (circuit : CircuitId) (octets : List ℕ) (front back : List Entry) (service : ServiceId) (origin : ℕ) (lasting lasting2 : List Window)
    → BeginsEvent back
    → ((window : Window) → AmongWindows window lasting → AmongWindows window lasting2)
    → Lists plan before circuit octets front service origin lasting → Lists plan before circuit octets (front ++ back) service origin lasting2
more_listed plan before circuit octets front back service origin lasting lasting2 begins goes l =
    record { window = l.window; describes = more_told plan before circuit octets front back service origin l.window begins l.describes; listed = goes l.window l.listed }

-- ---- where a frame goes

flooded_is : (plan : Plan) (service : ServiceId) (frame : List ℕ) (goes : Option Mac) (entries : List Entry) → GoesTo frame goes → is_seen_flooded plan service frame entries
    ≡ flooded_to plan service goes entries
flooded_is plan service frame None entries to = ap (λ (b : Bool). b || not (list_any (is_sourced_by plan service (destination_of frame)) entries)) to
flooded_is plan service frame (Some address) entries to =
    ap (λ (b : Bool). b || not (list_any (is_sourced_by plan service (destination_of frame)) entries)) to.0
    ∙ ap (λ (octets : List ℕ). not (list_any (is_sourced_by plan service octets) entries)) to.1

-- of a window that is over
to_shown : (plan : Plan) (before : List Entry) (circuit : CircuitId) (octets : List ℕ) (during : List Entry) (service : ServiceId) (origin : ℕ) (window : Window)
    → HasOpened plan before circuit octets during service origin → Describes plan before circuit octets during service origin window → all_spared origin (seen_in before) during ≡ true
    → has_seen (seen_in (before ++ Did (Frame circuit octets) ∷ during)) window.origin ≡ false
    → flooded_to plan window.service window.destination (before ++ Did (Frame circuit octets) ∷ during) ≡ true
    → SeenWindow plan before circuit octets during service origin
to_shown plan before circuit octets during service origin window h d spared over flooded = record {
  entered = h.entered;
  sender = h.sender;
  on = h.on;
  frame = h.frame;
  formed = h.formed;
  calm = h.calm;
  flooded = flooded_is plan service h.frame window.destination (before ++ Did (Frame circuit octets) ∷ during) (d.goes h.frame h.formed)
      ∙ (ap (λ (s : ServiceId). flooded_to plan s window.destination (before ++ Did (Frame circuit octets) ∷ during)) (sym d.service_is) ∙ flooded);
  spared = spared;
  over = ap (λ (o : ℕ). has_seen (seen_in (before ++ Did (Frame circuit octets) ∷ during)) o) (sym d.origin_is) ∙ over;
}

from_shown : (plan : Plan) (before : List Entry) (circuit : CircuitId) (octets : List ℕ) (during : List Entry) (service : ServiceId) (origin : ℕ)
    → SeenWindow plan before circuit octets during service origin → HasOpened plan before circuit octets during service origin
from_shown plan before circuit octets during service origin w = record { entered = w.entered; sender = w.sender; on = w.on; frame = w.frame; formed = w.formed; calm = w.calm }

-- what is said of the window by the trace
over_of : (plan : Plan) (before : List Entry) (circuit : CircuitId) (octets : List ℕ) (during : List Entry) (service : ServiceId) (origin : ℕ) (window : Window)
    → SeenWindow plan before circuit octets during service origin → Describes plan before circuit octets during service origin window
    → has_seen (seen_in (before ++ Did (Frame circuit octets) ∷ during)) window.origin ≡ false
over_of plan before circuit octets during service origin window w d = ap (λ (o : ℕ). has_seen (seen_in (before ++ Did (Frame circuit octets) ∷ during)) o) d.origin_is ∙ w.over

flooded_of : (plan : Plan) (before : List Entry) (circuit : CircuitId) (octets : List ℕ) (during : List Entry) (service : ServiceId) (origin : ℕ) (window : Window)
    → SeenWindow plan before circuit octets during service origin → Describes plan before circuit octets during service origin window
    → flooded_to plan window.service window.destination (before ++ Did (Frame circuit octets) ∷ during) ≡ true
flooded_of plan before circuit octets during service origin window w d =
    ap (λ (s : ServiceId). flooded_to plan s window.destination (before ++ Did (Frame circuit octets) ∷ during)) d.service_is
    ∙ (sym (flooded_is plan service w.frame window.destination (before ++ Did (Frame circuit octets) ∷ during) (d.goes w.frame w.formed)) ∙ w.flooded)

-- ---- one event more

module _ (plan : Plan) (done : List Entry) (event : Event) (rest : List Entry) (bare : HasNoEvent rest) (found : Option Window) (lasting owed lasting2 owed2 : List Window)
    (are_open : AreWindowsOpen plan done lasting) (are_owed : AreOwed plan done owed) (is_opened : IsOpened plan done event rest found)
    (passed : HasPassedWindows plan done event rest found lasting owed lasting2 owed2) where
  abbrev last : List Entry
  last = Did event ∷ rest

  abbrev trace : List Entry
  trace = done ++ last

  -- an event more spares where the events before it and it itself do
  spared_more : (before : List Entry) (circuit : CircuitId) (octets : List ℕ) (between : List Entry) (origin : ℕ) → done ≡ before ++ Did (Frame circuit octets) ∷ between
      → all_spared origin (seen_in before) (between ++ last) ≡ all_spared origin (seen_in before) between && spares_seen (seen_in done) origin (is_idle_behind rest) event
  spared_more before circuit octets between origin is =
      spared_on between last origin (seen_in before) tt
      ∙ ap (λ (b : Bool). all_spared origin (seen_in before) between && b) (at_event (seen_from (seen_in before) between) (sym (ap seen_in is ∙ seen_behind before circuit octets between))) where
        at_event : (seen : Seen) → seen ≡ seen_in done → all_spared origin seen last ≡ spares_seen (seen_in done) origin (is_idle_behind rest) event
        at_event seen same =
            ap (λ (b : Bool). spares_seen seen origin (is_idle_behind rest) event && b) (spared_none rest origin (happened_or (is_idle_behind rest) event seen) bare)
            ∙ (and_true (spares_seen seen origin (is_idle_behind rest) event) ∙ ap (λ (s : Seen). spares_seen s origin (is_idle_behind rest) event) same)

  whole : (before : List Entry) (circuit : CircuitId) (octets : List ℕ) (between : List Entry) → done ≡ before ++ Did (Frame circuit octets) ∷ between
      → trace ≡ before ++ Did (Frame circuit octets) ∷ (between ++ last)
  whole before circuit octets between is = ap (λ (xs : List Entry). xs ++ last) is ∙ append_assoc before (Did (Frame circuit octets) ∷ between) last

  -- a window that is left is spared so far
  left_open : (window : Window) → IsLeftOpen (seen_in done) (is_idle_behind rest) event lasting found window → IsOpen plan trace window
  left_open window (inl was) = from (are_open.only window was.0) where
    from : IsOpen plan done window → IsOpen plan trace window
    from o = record {
      before = o.before;
      circuit = o.circuit;
      octets = o.octets;
      during = o.during ++ last;
      service = o.service;
      origin = o.origin;
      is = whole o.before o.circuit o.octets o.during o.is;
      opened = more_opened plan o.before o.circuit o.octets o.during last o.service o.origin tt o.opened;
      describes = more_told plan o.before o.circuit o.octets o.during last o.service o.origin window tt o.describes;
      spared = spared_more o.before o.circuit o.octets o.during o.origin o.is
          ∙ and_from (all_spared o.origin (seen_in o.before) o.during) (spares_seen (seen_in done) o.origin (is_idle_behind rest) event) o.spared
          (ap (λ (n : ℕ). spares_seen (seen_in done) n (is_idle_behind rest) event) (sym o.describes.origin_is) ∙ was.1);
    }
  left_open window (inr here) = from (is_opened.only window here) where
    from : Opens plan done event rest window → IsOpen plan trace window
    from o = record {
      before = done;
      circuit = o.circuit;
      octets = o.octets;
      during = rest;
      service = o.service;
      origin = o.origin;
      is = ap (λ (e : Event). done ++ Did e ∷ rest) o.is;
      opened = o.opened;
      describes = o.describes;
      spared = spared_none rest o.origin (seen_in done) bare;
    }

  -- the windows that are open are
  open_only : (window : Window) → AmongWindows window lasting2 → IsOpen plan trace window
  open_only window among = left_open window (passed.stayed window among)

  -- one that is left stays, or it is over
  stays_or_over : (before : List Entry) (circuit : CircuitId) (octets : List ℕ) (during : List Entry) (service : ServiceId) (origin : ℕ) (window : Window) → trace
      ≡ before ++ Did (Frame circuit octets) ∷ during
      → Describes plan before circuit octets during service origin window → IsLeftOpen (seen_in done) (is_idle_behind rest) event lasting found window
      → Lists plan before circuit octets during service origin lasting2 ⊎ WasOver before circuit octets during origin
  stays_or_over before circuit octets during service origin window is d left = by (has_seen (seen_in trace) window.origin) refl where
    nil : during ≡ during ++ []
    nil = sym (append_none during)

    by : (b : Bool) → has_seen (seen_in trace) window.origin ≡ b → Lists plan before circuit octets during service origin lasting2 ⊎ WasOver before circuit octets during origin
    by true some = inl (record { window = window; describes = d; listed = passed.stays window left some })
    by false append_none = inr (record {
      first = during;
      rest = [];
      is = nil;
      begins = tt;
      over = ap (λ (xs : List Entry). has_seen (seen_in xs) origin) (sym is)
          ∙ (ap (λ (o : ℕ). has_seen (seen_in trace) o) (sym d.origin_is) ∙ append_none);
    })

  -- one that was over is so yet
  over_on : (before : List Entry) (circuit : CircuitId) (octets : List ℕ) (between : List Entry) (origin : ℕ) → WasOver before circuit octets between origin
      → WasOver before circuit octets (between ++ last) origin
  over_on before circuit octets between origin w = record {
    first = w.first;
    rest = w.rest ++ last;
    is = ap (λ (xs : List Entry). xs ++ last) w.is ∙ append_assoc w.first w.rest last;
    begins = begins_on w.rest last w.begins tt;
    over = w.over;
  }

  -- a frame that entered before this event
  open_before : (before : List Entry) (circuit : CircuitId) (octets : List ℕ) (between : List Entry) (service : ServiceId) (origin : ℕ) → done ≡ before ++ Did (Frame circuit octets) ∷ between
      → HasOpened plan before circuit octets (between ++ last) service origin → all_spared origin (seen_in before) (between ++ last) ≡ true
      → Lists plan before circuit octets (between ++ last) service origin lasting2 ⊎ WasOver before circuit octets (between ++ last) origin
  open_before before circuit octets between service origin is h spared =
      by (are_open.each before circuit octets between service origin is (less_opened plan before circuit octets between last service origin tt h)
      (first_holds (all_spared origin (seen_in before) between) (spares_seen (seen_in done) origin (is_idle_behind rest) event) both)) where
        both : all_spared origin (seen_in before) between && spares_seen (seen_in done) origin (is_idle_behind rest) event ≡ true
        both = sym (spared_more before circuit octets between origin is) ∙ spared

        by : Lists plan before circuit octets between service origin lasting ⊎ WasOver before circuit octets between origin
            → Lists plan before circuit octets (between ++ last) service origin lasting2 ⊎ WasOver before circuit octets (between ++ last) origin
        by (inr over) = inr (over_on before circuit octets between origin over)
        by (inl l) = stays_or_over before circuit octets (between ++ last) service origin l.window (whole before circuit octets between is)
            (more_told plan before circuit octets between last service origin l.window tt l.describes)
            (inl (
              l.listed,
              ap (λ (n : ℕ). spares_seen (seen_in done) n (is_idle_behind rest) event) l.describes.origin_is
                  ∙ second_holds (all_spared origin (seen_in before) between) (spares_seen (seen_in done) origin (is_idle_behind rest) event) both,
            ))

  -- a frame that entered by this event
  open_here : (circuit : CircuitId) (octets : List ℕ) (service : ServiceId) (origin : ℕ) → event ≡ Frame circuit octets → HasOpened plan done circuit octets rest service origin
      → Lists plan done circuit octets rest service origin lasting2 ⊎ WasOver done circuit octets rest origin
  open_here circuit octets service origin is h = by (is_opened.each circuit octets service origin is h) where
    by : OpensOne plan done circuit octets rest service origin found → Lists plan done circuit octets rest service origin lasting2 ⊎ WasOver done circuit octets rest origin
    by o = stays_or_over done circuit octets rest service origin o.window (ap (λ (e : Event). done ++ Did e ∷ rest) is) o.describes (inr o.found_is)

  open_each : (before : List Entry) (circuit : CircuitId) (octets : List ℕ) (during : List Entry) (service : ServiceId) (origin : ℕ)
      → trace ≡ before ++ Did (Frame circuit octets) ∷ during → HasOpened plan before circuit octets during service origin → all_spared origin (seen_in before) during ≡ true
      → Lists plan before circuit octets during service origin lasting2 ⊎ WasOver before circuit octets during origin
  open_each before circuit octets during service origin is = by (event_at done event rest before (Frame circuit octets) during bare is) where
    by : StandsBefore done last before (Frame circuit octets) during ⊎ IsLast done event rest before (Frame circuit octets) during
        → HasOpened plan before circuit octets during service origin → all_spared origin (seen_in before) during ≡ true
        → Lists plan before circuit octets during service origin lasting2 ⊎ WasOver before circuit octets during origin
    by (inl s) = subst (λ (d : List Entry). HasOpened plan before circuit octets d service origin → all_spared origin (seen_in before) d ≡ true
        → Lists plan before circuit octets d service origin lasting2 ⊎ WasOver before circuit octets d origin)
        (sym s.back) (open_before before circuit octets s.between service origin s.front)
    by (inr l) = subst (λ (b : List Entry). HasOpened plan b circuit octets during service origin → all_spared origin (seen_in b) during ≡ true
        → Lists plan b circuit octets during service origin lasting2 ⊎ WasOver b circuit octets during origin)
        (sym l.front)
        (subst (λ (d : List Entry). HasOpened plan done circuit octets d service origin → all_spared origin (seen_in done) d ≡ true
        → Lists plan done circuit octets d service origin lasting2 ⊎ WasOver done circuit octets d origin)
        (sym l.back) (λ h spared. open_here circuit octets service origin (sym l.same) h))

  -- those that are owed are
  owed_only : (window : Window) → AmongWindows window owed2 → IsOwed plan trace window
  owed_only window among = by (passed.closed window among) where
    nil : (xs : List Entry) → xs ≡ xs ++ []
    nil [] = refl
    nil (x ∷ xs) = ap (λ ys. x ∷ ys) (nil xs)

    was : IsOwed plan done window → IsOwed plan trace window
    was o = record {
      before = o.before;
      circuit = o.circuit;
      octets = o.octets;
      during = o.during;
      after = o.after ++ last;
      service = o.service;
      origin = o.origin;
      is = whole o.before o.circuit o.octets (o.during ++ o.after) o.is ∙ ap (λ (xs : List Entry). o.before ++ Did (Frame o.circuit o.octets) ∷ xs) (append_assoc o.during o.after last);
      begins = begins_on o.after last o.begins tt;
      shown = o.shown;
      describes = o.describes;
    }

    now : Closes (seen_in done) (is_idle_behind rest) event lasting found (seen_in trace) plan trace window → IsOpen plan trace window → IsOwed plan trace window
    now c o = record {
      before = o.before;
      circuit = o.circuit;
      octets = o.octets;
      during = o.during;
      after = [];
      service = o.service;
      origin = o.origin;
      is = o.is ∙ ap (λ (xs : List Entry). o.before ++ Did (Frame o.circuit o.octets) ∷ xs) (nil o.during);
      begins = tt;
      shown = to_shown plan o.before o.circuit o.octets o.during o.service o.origin window o.opened o.describes o.spared
          (ap (λ (xs : List Entry). has_seen (seen_in xs) window.origin) (sym o.is) ∙ c.over)
          (ap (λ (xs : List Entry). flooded_to plan window.service window.destination xs) (sym o.is) ∙ c.flooded);
      describes = o.describes;
    }

    by : AmongWindows window owed ⊎ Closes (seen_in done) (is_idle_behind rest) event lasting found (seen_in trace) plan trace window → IsOwed plan trace window
    by (inl kept) = was (are_owed.only window kept)
    by (inr c) = now c (left_open window c.left)

  -- a window that is left, and over by what is seen
  owes : (before : List Entry) (circuit : CircuitId) (octets : List ℕ) (during : List Entry) (service : ServiceId) (origin : ℕ) (window : Window) → trace
      ≡ before ++ Did (Frame circuit octets) ∷ during
      → SeenWindow plan before circuit octets during service origin → Describes plan before circuit octets during service origin window
      → IsLeftOpen (seen_in done) (is_idle_behind rest) event lasting found window
      → Lists plan before circuit octets during service origin owed2
  owes before circuit octets during service origin window is w d left = record {
    window = window;
    describes = d;
    listed = passed.closes window left
        (ap (λ (xs : List Entry). has_seen (seen_in xs) window.origin) is ∙ over_of plan before circuit octets during service origin window w d)
        (ap (λ (xs : List Entry). flooded_to plan window.service window.destination xs) is ∙ flooded_of plan before circuit octets during service origin window w d);
  }

  -- one that was over before
  owed_once : (before : List Entry) (circuit : CircuitId) (octets : List ℕ) (between : List Entry) (service : ServiceId) (origin : ℕ) → done ≡ before ++ Did (Frame circuit octets) ∷ between
      → SeenWindow plan before circuit octets (between ++ last) service origin → WasOver before circuit octets between origin → Lists plan before circuit octets (between ++ last) service origin owed2
  owed_once before circuit octets between service origin is w o =
      subst (λ (d : List Entry). Lists plan before circuit octets d service origin owed2) (sym split)
      (more_listed plan before circuit octets o.first (o.rest ++ last) service origin owed owed2 (begins_on o.rest last o.begins tt) passed.kept
      (are_owed.each before circuit octets o.first o.rest service origin (is ∙ ap (λ (xs : List Entry). before ++ Did (Frame circuit octets) ∷ xs) o.is) o.begins shown)) where
        split : between ++ last ≡ o.first ++ (o.rest ++ last)
        split = ap (λ (xs : List Entry). xs ++ last) o.is ∙ append_assoc o.first o.rest last

        h : HasOpened plan before circuit octets o.first service origin
        h = less_opened plan before circuit octets o.first (o.rest ++ last) service origin (begins_on o.rest last o.begins tt)
            (subst (λ (d : List Entry). HasOpened plan before circuit octets d service origin) split (from_shown plan before circuit octets (between ++ last) service origin w))

        longer : before ++ Did (Frame circuit octets) ∷ (between ++ last) ≡ (before ++ Did (Frame circuit octets) ∷ o.first) ++ (o.rest ++ last)
        longer = ap (λ (xs : List Entry). before ++ Did (Frame circuit octets) ∷ xs) split ∙ sym (append_assoc before (Did (Frame circuit octets) ∷ o.first) (o.rest ++ last))

        shown : SeenWindow plan before circuit octets o.first service origin
        shown = record {
          entered = h.entered;
          sender = w.sender;
          on = w.on;
          frame = w.frame;
          formed = w.formed;
          calm = w.calm;
          flooded = flooded_before plan service w.frame (before ++ Did (Frame circuit octets) ∷ o.first) (o.rest ++ last)
              (ap (λ (xs : List Entry). is_seen_flooded plan service w.frame xs) (sym longer) ∙ w.flooded);
          spared = first_holds (all_spared origin (seen_in before) o.first) (all_spared origin (seen_from (seen_in before) o.first) (o.rest ++ last))
              (sym (spared_on o.first (o.rest ++ last) origin (seen_in before) (begins_on o.rest last o.begins tt))
              ∙ (ap (λ (xs : List Entry). all_spared origin (seen_in before) xs) (sym split) ∙ w.spared));
          over = o.over;
        }

  owed_before : (before : List Entry) (circuit : CircuitId) (octets : List ℕ) (between : List Entry) (service : ServiceId) (origin : ℕ) → done ≡ before ++ Did (Frame circuit octets) ∷ between
      → SeenWindow plan before circuit octets (between ++ last) service origin → Lists plan before circuit octets (between ++ last) service origin owed2
  owed_before before circuit octets between service origin is w =
      by (are_open.each before circuit octets between service origin is
      (less_opened plan before circuit octets between last service origin tt (from_shown plan before circuit octets (between ++ last) service origin w))
      (first_holds (all_spared origin (seen_in before) between) (spares_seen (seen_in done) origin (is_idle_behind rest) event) both)) where
        both : all_spared origin (seen_in before) between && spares_seen (seen_in done) origin (is_idle_behind rest) event ≡ true
        both = sym (spared_more before circuit octets between origin is) ∙ w.spared

        by : Lists plan before circuit octets between service origin lasting ⊎ WasOver before circuit octets between origin → Lists plan before circuit octets (between ++ last) service origin owed2
        by (inr o) = owed_once before circuit octets between service origin is w o
        by (inl l) = owes before circuit octets (between ++ last) service origin l.window (whole before circuit octets between is) w
            (more_told plan before circuit octets between last service origin l.window tt l.describes)
            (inl (
              l.listed,
              ap (λ (n : ℕ). spares_seen (seen_in done) n (is_idle_behind rest) event) l.describes.origin_is
                  ∙ second_holds (all_spared origin (seen_in before) between) (spares_seen (seen_in done) origin (is_idle_behind rest) event) both,
            ))

  owed_here : (circuit : CircuitId) (octets : List ℕ) (service : ServiceId) (origin : ℕ) → event ≡ Frame circuit octets → SeenWindow plan done circuit octets rest service origin
      → Lists plan done circuit octets rest service origin owed2
  owed_here circuit octets service origin is w = by (is_opened.each circuit octets service origin is (from_shown plan done circuit octets rest service origin w)) where
    by : OpensOne plan done circuit octets rest service origin found → Lists plan done circuit octets rest service origin owed2
    by o = owes done circuit octets rest service origin o.window (ap (λ (e : Event). done ++ Did e ∷ rest) is) w o.describes (inr o.found_is)

  owed_each : (before : List Entry) (circuit : CircuitId) (octets : List ℕ) (during after : List Entry) (service : ServiceId) (origin : ℕ)
      → trace ≡ before ++ Did (Frame circuit octets) ∷ (during ++ after) → BeginsEvent after → SeenWindow plan before circuit octets during service origin
      → Lists plan before circuit octets during service origin owed2
  owed_each before circuit octets during after service origin is begins = by (event_at done event rest before (Frame circuit octets) (during ++ after) bare is) where
    nil : (xs : List Entry) → xs ++ [] ≡ xs
    nil [] = refl
    nil (x ∷ xs) = ap (λ ys. x ∷ ys) (nil xs)

    cut : (s : StandsBefore done last before (Frame circuit octets) (during ++ after)) → CutBefore s.between during after last ⊎ CutBehind s.between during after last
        → SeenWindow plan before circuit octets during service origin → Lists plan before circuit octets during service origin owed2
    cut s (inl c) w = was (are_owed.each before circuit octets during c.left service origin (s.front ∙ ap (λ (xs : List Entry). before ++ Did (Frame circuit octets) ∷ xs) c.front) c.begins w) where
      was : Lists plan before circuit octets during service origin owed → Lists plan before circuit octets during service origin owed2
      was l = record { window = l.window; describes = l.describes; listed = passed.kept l.window l.listed }
    cut s (inr c) w = subst (λ (d : List Entry). SeenWindow plan before circuit octets d service origin → Lists plan before circuit octets d service origin owed2) (sym c.front)
        (owed_before before circuit octets s.between service origin s.front) w

    by : StandsBefore done last before (Frame circuit octets) (during ++ after) ⊎ IsLast done event rest before (Frame circuit octets) (during ++ after)
        → SeenWindow plan before circuit octets during service origin → Lists plan before circuit octets during service origin owed2
    by (inl s) = cut s (cut_at s.between during after event rest bare begins (sym s.back))
    by (inr l) =
        let nothing : after ≡ [] = ends_bare during after (subst HasNoEvent (sym l.back) bare) begins in
        let all : during ≡ rest = sym (nil during) ∙ (ap (λ (xs : List Entry). during ++ xs) (sym nothing) ∙ l.back) in
        subst (λ (b : List Entry). SeenWindow plan b circuit octets during service origin → Lists plan b circuit octets during service origin owed2) (sym l.front)
        (subst (λ (d : List Entry). SeenWindow plan done circuit octets d service origin → Lists plan done circuit octets d service origin owed2) (sym all)
        (owed_here circuit octets service origin (sym l.same)))

  pub still_open : AreWindowsOpen plan trace lasting2
  still_open = record { only = open_only; each = open_each }

  pub still_owed : AreOwed plan trace owed2
  still_owed = record { only = owed_only; each = owed_each }
