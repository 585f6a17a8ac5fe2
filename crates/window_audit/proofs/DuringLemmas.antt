-- What the entries behind an event have told, one entry more.
use Rattle.std.proofs.Common.{◌≡◌, ◌==◌, ◌<◌, ◌+◌, ◌||◌, ◌++◌, ◌∷◌, ◌∙◌, [], ℕ, Bool, true, false, List, Option, Some, None, IfSome, cond, length, option_map, refl, sym, subst, ap, arith}
use Rattle.std.proofs.lemmas.List.{length-append}
use Rattle.net_base.specs.declared.plan.Plan.{Plan}
use Rattle.net_base.specs.declared.plan.places.CircuitId.{CircuitId}
use Rattle.net_base.specs.declared.trace.entry.Entry.{Entry}
use Rattle.net_base.specs.declared.trace.entry.Entry.TheVariants as entry
use Rattle.net_base.specs.declared.trace.event.Event.{Event}
use Rattle.net_base.specs.declared.trace.event.Event.TheVariants as event
use Rattle.seen_network.specs.Once.{entered_as}
use Rattle.seen_network.specs.Seen.{Seen, seen_from, told_by_itself}
use Rattle.seen_state.specs.Placed.{IsEventWithin, IsPlaced}
use Rattle.seen_state.specs.SeenEdges.{sizes_of}
use Rattle.seen_network.specs.EventEntries.{HasNoEvent, entered_place, is_idle_entry}
use Rattle.seen_network.proofs.EventLemmas.{seen_told, told_all}
use Rattle.window_audit.specs.During.{AreKept, AreTold, IsEventOf, IsFirst, entered_by, first_or, moves, tells_event, with_event}
use Rattle.window_audit.specs.Losses.{AreWithin}
use Rattle.window_audit.specs.declared.during.During.{During}
use Rattle.window_audit.proofs.SourceLemmas.{any_more}

-- ---- entries without events

-- an entry that tells of no event
pub bare_one : (e : Entry) → tells_event e ≡ false → HasNoEvent (e ∷ [])
bare_one (entry.Did event) h = absurd (grind (arith, h))
bare_one entry.Idle h = tt
bare_one (entry.Said from to octets) h = tt
bare_one (entry.In at number octets) h = tt
bare_one (entry.Sent from to wire came packet from2 hops octets) h = tt
bare_one (entry.Copied packet of) h = tt
bare_one (entry.Aged packet) h = tt
bare_one (entry.Left at from hops octets) h = tt
bare_one (entry.Dropped edge from cause) h = tt
bare_one (entry.Session edge peer name) h = tt
bare_one (entry.Wire edge wire down) h = tt
bare_one (entry.Pong edge wire sequence) h = tt

pub bare_more : (e : Entry) (es : List Entry) → HasNoEvent (e ∷ []) → HasNoEvent es → HasNoEvent (es ++ e ∷ [])
bare_more e [] h k = h
bare_more e (entry.Did event ∷ es) h k = absurd k
bare_more e (entry.Idle ∷ es) h k = bare_more e es h k
bare_more e (entry.Said from to octets ∷ es) h k = bare_more e es h k
bare_more e (entry.In at number octets ∷ es) h k = bare_more e es h k
bare_more e (entry.Sent from to wire came packet from2 hops octets ∷ es) h k = bare_more e es h k
bare_more e (entry.Copied packet of ∷ es) h k = bare_more e es h k
bare_more e (entry.Aged packet ∷ es) h k = bare_more e es h k
bare_more e (entry.Left at from hops octets ∷ es) h k = bare_more e es h k
bare_more e (entry.Dropped edge from cause ∷ es) h k = bare_more e es h k
bare_more e (entry.Session edge peer name ∷ es) h k = bare_more e es h k
bare_more e (entry.Wire edge wire down ∷ es) h k = bare_more e es h k
bare_more e (entry.Pong edge wire sequence ∷ es) h k = bare_more e es h k

placed_more : (plan : Plan) (e : Entry) (es : List Entry) → AreWithin (sizes_of plan) es → IsPlaced plan e → AreWithin (sizes_of plan) (es ++ e ∷ [])
placed_more plan e [] h k = (k, tt)
placed_more plan e (x ∷ es) h k = (h.0, placed_more plan e es h.1 k)

length_more : (e : Entry) (es : List Entry) → length (es ++ e ∷ []) ≡ length es + 1
length_more e es = length-append es (e ∷ [])

count_more : (event : Option Event) (e : Entry) (es : List Entry) → length (with_event event (es ++ e ∷ [])) ≡ length (with_event event es) + 1
count_more None e es = length_more e es
count_more (Some event) e es = omega (arith, length_more e es)

-- ---- what is seen

told_more : (e : Entry) (es : List Entry) (seen : Seen) → told_all seen (es ++ e ∷ []) ≡ told_by_itself e (told_all seen es)
told_more e [] seen = refl
told_more e (x ∷ es) seen = told_more e es (told_by_itself x seen)

seen_more : (e : Entry) (es : List Entry) (seen : Seen) → HasNoEvent (e ∷ []) → HasNoEvent es → seen_from seen (es ++ e ∷ []) ≡ told_by_itself e (seen_from seen es)
seen_more e es seen one bare = seen_told (es ++ e ∷ []) seen (bare_more e es one bare) ∙ (told_more e es seen ∙ ap (told_by_itself e) (sym (seen_told es seen bare)))

-- an entry that changes nothing of it
still : (e : Entry) (seen : Seen) → moves e ≡ false → told_by_itself e seen ≡ seen
still (entry.Did event) seen h = refl
still entry.Idle seen h = refl
still (entry.Said from to octets) seen h = absurd (cc (h))
still (entry.In at number octets) seen h = refl
still (entry.Sent from to wire came packet from2 hops octets) seen h = absurd (cc (h))
still (entry.Copied packet of) seen h = absurd (cc (h))
still (entry.Aged packet) seen h = absurd (cc (h))
still (entry.Left at from hops octets) seen h = refl
still (entry.Dropped edge from cause) seen h = refl
still (entry.Session edge peer name) seen h = absurd (cc (h))
still (entry.Wire edge wire down) seen h = absurd (cc (h))
still (entry.Pong edge wire sequence) seen h = refl

-- ---- the first frame that entered at a circuit

abbrev or_later : Option ℕ → Option ℕ → Option ℕ
or_later (Some n) later = Some n
or_later None later = later

as_more : (circuit : CircuitId) (e : Entry) (es : List Entry) → HasNoEvent (e ∷ []) → HasNoEvent es → entered_as circuit (es ++ e ∷ []) ≡ or_later (entered_as circuit es) (entered_by circuit e)
as_more circuit (entry.Did event) [] one bare = absurd one
as_more circuit entry.Idle [] one bare = refl
as_more circuit (entry.Said from to octets) [] one bare = refl
as_more circuit (entry.In at number octets) [] one bare = refl
as_more circuit (entry.Sent from to wire came packet from2 hops octets) [] one bare = refl
as_more circuit (entry.Copied packet of) [] one bare = refl
as_more circuit (entry.Aged packet) [] one bare = refl
as_more circuit (entry.Left at from hops octets) [] one bare = refl
as_more circuit (entry.Dropped edge from cause) [] one bare = refl
as_more circuit (entry.Session edge peer name) [] one bare = refl
as_more circuit (entry.Wire edge wire down) [] one bare = refl
as_more circuit (entry.Pong edge wire sequence) [] one bare = refl
as_more circuit e (entry.Did event ∷ es) one bare = absurd bare
as_more circuit e (entry.Idle ∷ es) one bare = as_more circuit e es one bare
as_more circuit e (entry.Said from to octets ∷ es) one bare = as_more circuit e es one bare
as_more circuit e (entry.In at number octets ∷ es) one bare = by (at.0 == circuit.0) (as_more circuit e es one bare) where
  by : (b : Bool) → entered_as circuit (es ++ e ∷ []) ≡ or_later (entered_as circuit es) (entered_by circuit e)
      → cond b (Some number) (entered_as circuit (es ++ e ∷ [])) ≡ or_later (cond b (Some number) (entered_as circuit es)) (entered_by circuit e)
  by true is = refl
  by false is = is
as_more circuit e (entry.Sent from to wire came packet from2 hops octets ∷ es) one bare = as_more circuit e es one bare
as_more circuit e (entry.Copied packet of ∷ es) one bare = as_more circuit e es one bare
as_more circuit e (entry.Aged packet ∷ es) one bare = as_more circuit e es one bare
as_more circuit e (entry.Left at from hops octets ∷ es) one bare = as_more circuit e es one bare
as_more circuit e (entry.Dropped edge from cause ∷ es) one bare = as_more circuit e es one bare
as_more circuit e (entry.Session edge peer name ∷ es) one bare = as_more circuit e es one bare
as_more circuit e (entry.Wire edge wire down ∷ es) one bare = as_more circuit e es one bare
as_more circuit e (entry.Pong edge wire sequence ∷ es) one bare = as_more circuit e es one bare

-- one that entered before stands where it stood
place_same : (circuit : CircuitId) (e : Entry) (es : List Entry) (n : ℕ) → entered_as circuit es ≡ Some n → entered_place circuit (es ++ e ∷ []) ≡ entered_place circuit es
place_same circuit e [] n is = absurd (cc (is))
place_same circuit e (entry.Did event ∷ es) n is = absurd (cc (is))
place_same circuit e (entry.Idle ∷ es) n is = ap (λ (k : ℕ). 1 + k) (place_same circuit e es n is)
place_same circuit e (entry.Said from to octets ∷ es) n is = ap (λ (k : ℕ). 1 + k) (place_same circuit e es n is)
place_same circuit e (entry.In at number octets ∷ es) n is = by (at.0 == circuit.0) is (place_same circuit e es n) where
  by : (b : Bool) → cond b (Some number) (entered_as circuit es) ≡ Some n → (entered_as circuit es ≡ Some n → entered_place circuit (es ++ e ∷ []) ≡ entered_place circuit es)
      → cond b 0 (1 + entered_place circuit (es ++ e ∷ [])) ≡ cond b 0 (1 + entered_place circuit es)
  by true is rest = refl
  by false is rest = ap (λ (k : ℕ). 1 + k) (rest is)
place_same circuit e (entry.Sent from to wire came packet from2 hops octets ∷ es) n is = ap (λ (k : ℕ). 1 + k) (place_same circuit e es n is)
place_same circuit e (entry.Copied packet of ∷ es) n is = ap (λ (k : ℕ). 1 + k) (place_same circuit e es n is)
place_same circuit e (entry.Aged packet ∷ es) n is = ap (λ (k : ℕ). 1 + k) (place_same circuit e es n is)
place_same circuit e (entry.Left at from hops octets ∷ es) n is = ap (λ (k : ℕ). 1 + k) (place_same circuit e es n is)
place_same circuit e (entry.Dropped edge from cause ∷ es) n is = ap (λ (k : ℕ). 1 + k) (place_same circuit e es n is)
place_same circuit e (entry.Session edge peer name ∷ es) n is = ap (λ (k : ℕ). 1 + k) (place_same circuit e es n is)
place_same circuit e (entry.Wire edge wire down ∷ es) n is = ap (λ (k : ℕ). 1 + k) (place_same circuit e es n is)
place_same circuit e (entry.Pong edge wire sequence ∷ es) n is = ap (λ (k : ℕ). 1 + k) (place_same circuit e es n is)

place_here : (circuit : CircuitId) (e : Entry) (n : ℕ) → entered_by circuit e ≡ Some n → entered_place circuit (e ∷ []) ≡ length {A = Entry} []
place_here circuit (entry.Did event) n is = absurd (cc (is))
place_here circuit entry.Idle n is = absurd (cc (is))
place_here circuit (entry.Said from to octets) n is = absurd (cc (is))
place_here circuit (entry.In at number octets) n is = by (at.0 == circuit.0) is where
  by : (b : Bool) → cond b (Some number) None ≡ Some n → cond b 0 (1 + entered_place circuit []) ≡ length {A = Entry} []
  by true h = refl
  by false h = absurd (cc (h))
place_here circuit (entry.Sent from to wire came packet from2 hops octets) n is = absurd (cc (is))
place_here circuit (entry.Copied packet of) n is = absurd (cc (is))
place_here circuit (entry.Aged packet) n is = absurd (cc (is))
place_here circuit (entry.Left at from hops octets) n is = absurd (cc (is))
place_here circuit (entry.Dropped edge from cause) n is = absurd (cc (is))
place_here circuit (entry.Session edge peer name) n is = absurd (cc (is))
place_here circuit (entry.Wire edge wire down) n is = absurd (cc (is))
place_here circuit (entry.Pong edge wire sequence) n is = absurd (cc (is))

-- the first one stands behind all
place_last : (circuit : CircuitId) (e : Entry) (es : List Entry) (n : ℕ) → HasNoEvent es → entered_as circuit es ≡ None → entered_by circuit e ≡ Some n → entered_place circuit (es ++ e ∷ []) ≡ length es
place_last circuit e [] n bare none is = place_here circuit e n is
place_last circuit e (entry.Did event ∷ es) n bare none is = absurd bare
place_last circuit e (entry.Idle ∷ es) n bare none is = omega (arith, place_last circuit e es n bare none is)
place_last circuit e (entry.Said from to octets ∷ es) n bare none is = omega (arith, place_last circuit e es n bare none is)
place_last circuit e (entry.In at number octets ∷ es) n bare none is = by (at.0 == circuit.0) none (λ h. place_last circuit e es n bare h is) where
  by : (b : Bool) → cond b (Some number) (entered_as circuit es) ≡ None → (entered_as circuit es ≡ None → entered_place circuit (es ++ e ∷ []) ≡ length es)
      → cond b 0 (1 + entered_place circuit (es ++ e ∷ [])) ≡ length (entry.In at number octets ∷ es)
  by true h rest = absurd (cc (h))
  by false h rest = omega (arith, rest h)
place_last circuit e (entry.Sent from to wire came packet from2 hops octets ∷ es) n bare none is = omega (arith, place_last circuit e es n bare none is)
place_last circuit e (entry.Copied packet of ∷ es) n bare none is = omega (arith, place_last circuit e es n bare none is)
place_last circuit e (entry.Aged packet ∷ es) n bare none is = omega (arith, place_last circuit e es n bare none is)
place_last circuit e (entry.Left at from hops octets ∷ es) n bare none is = omega (arith, place_last circuit e es n bare none is)
place_last circuit e (entry.Dropped edge from cause ∷ es) n bare none is = omega (arith, place_last circuit e es n bare none is)
place_last circuit e (entry.Session edge peer name ∷ es) n bare none is = omega (arith, place_last circuit e es n bare none is)
place_last circuit e (entry.Wire edge wire down ∷ es) n bare none is = omega (arith, place_last circuit e es n bare none is)
place_last circuit e (entry.Pong edge wire sequence ∷ es) n bare none is = omega (arith, place_last circuit e es n bare none is)

first_more : (circuit : CircuitId) (octets : List ℕ) (e : Entry) (es : List Entry) (count : ℕ) (first : Option (ℕ × ℕ)) → HasNoEvent (e ∷ []) → HasNoEvent es → count ≡ 1 + length es
    → IsFirst circuit es first → IsFirst circuit (es ++ e ∷ []) (first_or first (Some (event.Frame circuit octets)) e count)
first_more circuit octets e es count (Some found) one bare counted is = record {
  number = sym (as_more circuit e es one bare ∙ ap (λ (o : Option ℕ). or_later o (entered_by circuit e)) (sym is.number));
  place = is.place ∙ ap (λ (k : ℕ). 1 + k) (sym (place_same circuit e es found.0 (sym is.number)));
}
first_more circuit octets e es count None one bare counted is = by (entered_by circuit e) refl where
  by : (new : Option ℕ) → entered_by circuit e ≡ new → IsFirst circuit (es ++ e ∷ []) (option_map (λ number. (number, count)) new)
  by None new = record { number = sym (as_more circuit e es one bare ∙ (ap (λ (o : Option ℕ). or_later o (entered_by circuit e)) (sym is.number) ∙ new)); place = tt }
  by (Some n) new = record {
    number = sym (as_more circuit e es one bare ∙ (ap (λ (o : Option ℕ). or_later o (entered_by circuit e)) (sym is.number) ∙ new));
    place = counted ∙ ap (λ (k : ℕ). 1 + k) (sym (place_last circuit e es n bare (sym is.number) new));
  }

-- it stands among those that were told
abbrev IsAhead : Option (ℕ × ℕ) → ℕ → Type 0
IsAhead first count = IfSome first (λ found. found.1 < count)

ahead_new : (number : Option ℕ) (count : ℕ) → IsAhead (option_map (λ number. (number, count)) number) (count + 1)
ahead_new None count = tt
ahead_new (Some number) count = omega arith

ahead_more : (first : Option (ℕ × ℕ)) (event : Option Event) (e : Entry) (count : ℕ) → IsAhead first count → IsAhead (first_or first event e count) (count + 1)
ahead_more (Some found) event e count is = omega (arith, is)
ahead_more None None e count is = tt
ahead_more None (Some (event.Connect from to)) e count is = tt
ahead_more None (Some (event.Deliver from to many)) e count is = tt
ahead_more None (Some (event.Lose edge peer)) e count is = tt
ahead_more None (Some (event.Restart edge)) e count is = tt
ahead_more None (Some event.Tick) e count is = tt
ahead_more None (Some (event.Frame circuit octets)) e count is = ahead_new (entered_by circuit e) count
ahead_more None (Some (event.Arrive packet)) e count is = tt
ahead_more None (Some (event.Discard packet)) e count is = tt
ahead_more None (Some (event.Again packet)) e count is = tt
ahead_more None (Some (event.Wire edge wire on)) e count is = tt
ahead_more None (Some (event.Circuit circuit on)) e count is = tt
ahead_more None (Some (event.Status edge wire bits)) e count is = tt
ahead_more None (Some (event.Priority edge wire priority)) e count is = tt
ahead_more None (Some (event.Ping edge wire)) e count is = tt

-- ---- the whole

pub nothing_told : (during : During) → during.event ≡ None → during.count ≡ 0 → during.idle ≡ false → during.kept.items ≡ [] → AreTold [] during
nothing_told during none count idle kept = record {
  bare = tt;
  count = count ∙ ap (λ (o : Option Event). length (with_event o [])) (sym none);
  idle = idle;
  first = λ circuit octets is. absurd (cc (sym none ∙ is));
  shows = λ seen. ap (seen_from seen) kept;
}

pub nothing_kept : (during : During) → during.event ≡ None → during.first ≡ None → during.kept.items ≡ [] → (plan : Plan) → AreKept plan during
nothing_kept during none first kept plan = record {
  event = subst (IsEventOf plan) (sym none) tt;
  bare = subst HasNoEvent (sym kept) tt;
  placed = subst (AreWithin (sizes_of plan)) (sym kept) tt;
  few = omega (arith, ap (λ (es : List Entry). length es) kept);
  ahead = subst (λ (o : Option (ℕ × ℕ)). IsAhead o during.count) (sym first) tt;
}

pub event_told : (during : During) (event : Event) → during.event ≡ Some event → during.count ≡ 1 → during.idle ≡ false → during.first ≡ None → during.kept.items ≡ [] → AreTold [] during
event_told during event is count idle first kept = record {
  bare = tt;
  count = count ∙ ap (λ (o : Option Event). length (with_event o [])) (sym is);
  idle = idle;
  first = λ circuit octets at. record { number = ap (option_map (λ found. found.0)) first; place = subst (λ (o : Option (ℕ × ℕ)). IfSome o (λ found. found.1 ≡ 1 + 0)) (sym first) tt };
  shows = λ seen. ap (seen_from seen) kept;
}

pub event_kept : (during : During) (event : Event) → during.event ≡ Some event → during.first ≡ None → during.kept.items ≡ [] → (plan : Plan) → IsEventWithin (sizes_of plan) event → AreKept plan during
event_kept during event is first kept plan within = record {
  event = subst (IsEventOf plan) (sym is) within;
  bare = subst HasNoEvent (sym kept) tt;
  placed = subst (AreWithin (sizes_of plan)) (sym kept) tt;
  few = omega (arith, ap (λ (es : List Entry). length es) kept);
  ahead = subst (λ (o : Option (ℕ × ℕ)). IsAhead o during.count) (sym first) tt;
}

-- what is known of the event by one entry more, whatever waits then
abbrev pub Notes : During → During → Entry → Type 0
Notes old new e = (new.event ≡ old.event) × (new.idle ≡ old.idle || is_idle_entry e) × (new.count ≡ old.count + 1) × (new.first ≡ first_or old.first old.event e old.count)

first_told : (rest : List Entry) (e : Entry) (old new : During) → HasNoEvent (e ∷ []) → Notes old new e → AreTold rest old
    → (circuit : CircuitId) (octets : List ℕ) → new.event ≡ Some (event.Frame circuit octets) → IsFirst circuit (rest ++ e ∷ []) new.first
first_told rest e old new one notes told circuit octets is =
    subst (IsFirst circuit (rest ++ e ∷ [])) (ap (λ (o : Option Event). first_or old.first o e old.count) (sym here) ∙ sym notes.3)
    (first_more circuit octets e rest old.count old.first one told.bare (omega (arith, told.count, ap (λ (o : Option Event). length (with_event o rest)) here)) (told.first circuit octets here)) where
      here : old.event ≡ Some (event.Frame circuit octets)
      here = sym notes.0 ∙ is

pub told_one : (rest : List Entry) (e : Entry) (old new : During) → tells_event e ≡ false → Notes old new e
    → ((seen : Seen) → seen_from seen new.kept.items ≡ told_by_itself e (seen_from seen old.kept.items)) → AreTold rest old → AreTold (rest ++ e ∷ []) new
told_one rest e old new none notes shows told = record {
  bare = bare_more e rest (bare_one e none) told.bare;
  count = notes.2 ∙ (ap (λ (n : ℕ). n + 1) told.count ∙ (sym (count_more old.event e rest) ∙ ap (λ (o : Option Event). length (with_event o (rest ++ e ∷ []))) (sym notes.0)));
  idle = notes.1 ∙ (ap (λ (b : Bool). b || is_idle_entry e) told.idle ∙ sym (any_more is_idle_entry rest e));
  first = first_told rest e old new (bare_one e none) notes told;
  shows = λ seen. shows seen ∙ (ap (told_by_itself e) (told.shows seen) ∙ sym (seen_more e rest seen (bare_one e none) told.bare));
}

-- where it waits, and where it does not
pub waits : (e : Entry) (old new : List Entry) (seen : Seen) → tells_event e ≡ false → HasNoEvent old → new ≡ old ++ e ∷ [] → seen_from seen new ≡ told_by_itself e (seen_from seen old)
waits e old new seen none bare is = ap (seen_from seen) is ∙ seen_more e old seen (bare_one e none) bare

pub passes : (e : Entry) (old new : List Entry) (seen : Seen) → moves e ≡ false → new ≡ old → seen_from seen new ≡ told_by_itself e (seen_from seen old)
passes e old new seen none is = ap (seen_from seen) is ∙ sym (still e (seen_from seen old) none)

ahead_told : (e : Entry) (old new : During) → Notes old new e → IsAhead old.first old.count → IsAhead new.first new.count
ahead_told e old new notes is =
    subst (IsAhead new.first) (sym notes.2)
    (subst (λ (o : Option (ℕ × ℕ)). IsAhead o (old.count + 1)) (sym notes.3) (ahead_more old.first old.event e old.count is))

pub kept_waits : (plan : Plan) (e : Entry) (old new : During) → tells_event e ≡ false → Notes old new e → new.kept.items ≡ old.kept.items ++ e ∷ [] → AreKept plan old → IsPlaced plan e
    → AreKept plan new
kept_waits plan e old new none notes is kept placed = record {
  event = subst (IsEventOf plan) (sym notes.0) kept.event;
  bare = subst HasNoEvent (sym is) (bare_more e old.kept.items (bare_one e none) kept.bare);
  placed = subst (AreWithin (sizes_of plan)) (sym is) (placed_more plan e old.kept.items kept.placed placed);
  few = omega (arith, kept.few, notes.2, ap (λ (es : List Entry). length es) is, length_more e old.kept.items);
  ahead = ahead_told e old new notes kept.ahead;
}

pub kept_passes : (plan : Plan) (e : Entry) (old new : During) → Notes old new e → new.kept.items ≡ old.kept.items → AreKept plan old → AreKept plan new
kept_passes plan e old new notes is kept = record {
  event = subst (IsEventOf plan) (sym notes.0) kept.event;
  bare = subst HasNoEvent (sym is) kept.bare;
  placed = subst (AreWithin (sizes_of plan)) (sym is) kept.placed;
  few = omega (arith, kept.few, notes.2, ap (λ (es : List Entry). length es) is);
  ahead = ahead_told e old new notes kept.ahead;
}
