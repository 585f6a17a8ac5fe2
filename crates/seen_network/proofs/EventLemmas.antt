-- Traces cut before events.
use Rattle.std.proofs.Common.{◌≡◌, ◌==◌, ◌+◌, ◌&&◌, ◌||◌, ◌++◌, ◌∷◌, ◌∙◌, ◌⊎◌, inl, inr, [], ℕ, Bool, true, false, not, List, Option, Some, cond, refl, ap, sym, subst}
use Rattle.std.specs.List.{list_any}
use Rattle.net_values.proofs.RowLemmas.{head_same, tail_same}
use Rattle.net_base.specs.declared.plan.Plan.{Plan}
use Rattle.net_base.specs.declared.plan.places.CircuitId.{CircuitId}
use Rattle.net_base.specs.declared.plan.places.ServiceId.{ServiceId}
use Rattle.net_base.specs.declared.trace.entry.Entry.{Entry}
use Rattle.net_base.specs.declared.trace.entry.Entry.TheVariants as entry
use Rattle.net_base.specs.declared.trace.event.Event.{Event}
use Rattle.net_base.specs.trace.Frame.{destination_of, goes_to_group}
use Rattle.seen_network.specs.Once.{all_spared, entered_as, is_seen_flooded, is_sourced_by, spares_seen}
use Rattle.seen_network.specs.Seen.{BeginsEvent, Seen, happened_or, is_idle_behind, seen_from, told_by_itself}
use Rattle.seen_network.proofs.ReadLemmas.{idle_behind}
use Rattle.seen_network.specs.EventEntries.{HasNoEvent, entered_place, tells_idle}

-- ---- entries without events

-- what is seen of them, one by one
abbrev pub told_all : Seen → List Entry → Seen
told_all seen [] = seen
told_all seen (e ∷ es) = told_all (told_by_itself e seen) es

pub seen_told : (es : List Entry) (seen : Seen) → HasNoEvent es → seen_from seen es ≡ told_all seen es
seen_told [] seen none = refl
seen_told (entry.Did event ∷ es) seen none = absurd none
seen_told (entry.Idle ∷ es) seen none = seen_told es (told_by_itself entry.Idle seen) none
seen_told (entry.Said from to octets ∷ es) seen none = seen_told es (told_by_itself (entry.Said from to octets) seen) none
seen_told (entry.In at number octets ∷ es) seen none = seen_told es (told_by_itself (entry.In at number octets) seen) none
seen_told (entry.Sent from to wire came packet from2 hops octets ∷ es) seen none = seen_told es (told_by_itself (entry.Sent from to wire came packet from2 hops octets) seen) none
seen_told (entry.Copied packet of ∷ es) seen none = seen_told es (told_by_itself (entry.Copied packet of) seen) none
seen_told (entry.Aged packet ∷ es) seen none = seen_told es (told_by_itself (entry.Aged packet) seen) none
seen_told (entry.Left at from hops octets ∷ es) seen none = seen_told es (told_by_itself (entry.Left at from hops octets) seen) none
seen_told (entry.Dropped edge from cause ∷ es) seen none = seen_told es (told_by_itself (entry.Dropped edge from cause) seen) none
seen_told (entry.Session edge peer name ∷ es) seen none = seen_told es (told_by_itself (entry.Session edge peer name) seen) none
seen_told (entry.Wire edge wire down ∷ es) seen none = seen_told es (told_by_itself (entry.Wire edge wire down) seen) none
seen_told (entry.Pong edge wire sequence ∷ es) seen none = seen_told es (told_by_itself (entry.Pong edge wire sequence) seen) none

pub idle_told : (es : List Entry) → HasNoEvent es → is_idle_behind es ≡ tells_idle es
idle_told [] none = refl
idle_told (entry.Did event ∷ es) none = absurd none
idle_told (entry.Idle ∷ es) none = refl
idle_told (entry.Said from to octets ∷ es) none = idle_told es none
idle_told (entry.In at number octets ∷ es) none = idle_told es none
idle_told (entry.Sent from to wire came packet from2 hops octets ∷ es) none = idle_told es none
idle_told (entry.Copied packet of ∷ es) none = idle_told es none
idle_told (entry.Aged packet ∷ es) none = idle_told es none
idle_told (entry.Left at from hops octets ∷ es) none = idle_told es none
idle_told (entry.Dropped edge from cause ∷ es) none = idle_told es none
idle_told (entry.Session edge peer name ∷ es) none = idle_told es none
idle_told (entry.Wire edge wire down ∷ es) none = idle_told es none
idle_told (entry.Pong edge wire sequence ∷ es) none = idle_told es none

pub spared_none : (es : List Entry) (origin : ℕ) (seen : Seen) → HasNoEvent es → all_spared origin seen es ≡ true
spared_none [] origin seen none = refl
spared_none (entry.Did event ∷ es) origin seen none = absurd none
spared_none (entry.Idle ∷ es) origin seen none = spared_none es origin (told_by_itself entry.Idle seen) none
spared_none (entry.Said from to octets ∷ es) origin seen none = spared_none es origin (told_by_itself (entry.Said from to octets) seen) none
spared_none (entry.In at number octets ∷ es) origin seen none = spared_none es origin (told_by_itself (entry.In at number octets) seen) none
spared_none (entry.Sent from to wire came packet from2 hops octets ∷ es) origin seen none = spared_none es origin (told_by_itself (entry.Sent from to wire came packet from2 hops octets) seen) none
spared_none (entry.Copied packet of ∷ es) origin seen none = spared_none es origin (told_by_itself (entry.Copied packet of) seen) none
spared_none (entry.Aged packet ∷ es) origin seen none = spared_none es origin (told_by_itself (entry.Aged packet) seen) none
spared_none (entry.Left at from hops octets ∷ es) origin seen none = spared_none es origin (told_by_itself (entry.Left at from hops octets) seen) none
spared_none (entry.Dropped edge from cause ∷ es) origin seen none = spared_none es origin (told_by_itself (entry.Dropped edge from cause) seen) none
spared_none (entry.Session edge peer name ∷ es) origin seen none = spared_none es origin (told_by_itself (entry.Session edge peer name) seen) none
spared_none (entry.Wire edge wire down ∷ es) origin seen none = spared_none es origin (told_by_itself (entry.Wire edge wire down) seen) none
spared_none (entry.Pong edge wire sequence ∷ es) origin seen none = spared_none es origin (told_by_itself (entry.Pong edge wire sequence) seen) none

-- ---- entries before an event

pub spared_on : (front back : List Entry) (origin : ℕ) (seen : Seen) → BeginsEvent back → all_spared origin seen (front ++ back)
    ≡ all_spared origin seen front && all_spared origin (seen_from seen front) back
spared_on [] back origin seen begins = refl
spared_on (entry.Did event ∷ front) back origin seen begins =
    ap (λ (idle : Bool). spares_seen seen origin idle event && all_spared origin (happened_or idle event seen) (front ++ back)) (idle_behind front back begins)
    ∙ (ap (λ (b : Bool). spares_seen seen origin (is_idle_behind front) event && b) (spared_on front back origin (happened_or (is_idle_behind front) event seen) begins)
    ∙ and_turn (spares_seen seen origin (is_idle_behind front) event) (all_spared origin (happened_or (is_idle_behind front) event seen) front) (all_spared origin (seen_from (happened_or (is_idle_behind front) event seen) front) back)) where
      and_turn : (a b c : Bool) → (a && (b && c)) ≡ ((a && b) && c)
      and_turn true b c = refl
      and_turn false b c = refl
spared_on (entry.Idle ∷ front) back origin seen begins = spared_on front back origin (told_by_itself entry.Idle seen) begins
spared_on (entry.Said from to octets ∷ front) back origin seen begins = spared_on front back origin (told_by_itself (entry.Said from to octets) seen) begins
spared_on (entry.In at number octets ∷ front) back origin seen begins = spared_on front back origin (told_by_itself (entry.In at number octets) seen) begins
spared_on (entry.Sent from to wire came packet from2 hops octets ∷ front) back origin seen begins =
    spared_on front back origin (told_by_itself (entry.Sent from to wire came packet from2 hops octets) seen) begins
spared_on (entry.Copied packet of ∷ front) back origin seen begins = spared_on front back origin (told_by_itself (entry.Copied packet of) seen) begins
spared_on (entry.Aged packet ∷ front) back origin seen begins = spared_on front back origin (told_by_itself (entry.Aged packet) seen) begins
spared_on (entry.Left at from hops octets ∷ front) back origin seen begins = spared_on front back origin (told_by_itself (entry.Left at from hops octets) seen) begins
spared_on (entry.Dropped edge from cause ∷ front) back origin seen begins = spared_on front back origin (told_by_itself (entry.Dropped edge from cause) seen) begins
spared_on (entry.Session edge peer name ∷ front) back origin seen begins = spared_on front back origin (told_by_itself (entry.Session edge peer name) seen) begins
spared_on (entry.Wire edge wire down ∷ front) back origin seen begins = spared_on front back origin (told_by_itself (entry.Wire edge wire down) seen) begins
spared_on (entry.Pong edge wire sequence ∷ front) back origin seen begins = spared_on front back origin (told_by_itself (entry.Pong edge wire sequence) seen) begins

pub entered_on : (front back : List Entry) (circuit : CircuitId) → BeginsEvent back → entered_as circuit (front ++ back) ≡ entered_as circuit front
entered_on [] [] circuit begins = refl
entered_on [] (entry.Did event ∷ es) circuit begins = refl
entered_on [] (entry.Idle ∷ es) circuit begins = absurd begins
entered_on [] (entry.Said from to octets ∷ es) circuit begins = absurd begins
entered_on [] (entry.In at number octets ∷ es) circuit begins = absurd begins
entered_on [] (entry.Sent from to wire came packet from2 hops octets ∷ es) circuit begins = absurd begins
entered_on [] (entry.Copied packet of ∷ es) circuit begins = absurd begins
entered_on [] (entry.Aged packet ∷ es) circuit begins = absurd begins
entered_on [] (entry.Left at from hops octets ∷ es) circuit begins = absurd begins
entered_on [] (entry.Dropped edge from cause ∷ es) circuit begins = absurd begins
entered_on [] (entry.Session edge peer name ∷ es) circuit begins = absurd begins
entered_on [] (entry.Wire edge wire down ∷ es) circuit begins = absurd begins
entered_on [] (entry.Pong edge wire sequence ∷ es) circuit begins = absurd begins
entered_on (entry.Did event ∷ front) back circuit begins = refl
entered_on (entry.Idle ∷ front) back circuit begins = entered_on front back circuit begins
entered_on (entry.Said from to octets ∷ front) back circuit begins = entered_on front back circuit begins
entered_on (entry.In at number octets ∷ front) back circuit begins = ap (λ (o : Option ℕ). cond (at.0 == circuit.0) (Some number) o) (entered_on front back circuit begins)
entered_on (entry.Sent from to wire came packet from2 hops octets ∷ front) back circuit begins = entered_on front back circuit begins
entered_on (entry.Copied packet of ∷ front) back circuit begins = entered_on front back circuit begins
entered_on (entry.Aged packet ∷ front) back circuit begins = entered_on front back circuit begins
entered_on (entry.Left at from hops octets ∷ front) back circuit begins = entered_on front back circuit begins
entered_on (entry.Dropped edge from cause ∷ front) back circuit begins = entered_on front back circuit begins
entered_on (entry.Session edge peer name ∷ front) back circuit begins = entered_on front back circuit begins
entered_on (entry.Wire edge wire down ∷ front) back circuit begins = entered_on front back circuit begins
entered_on (entry.Pong edge wire sequence ∷ front) back circuit begins = entered_on front back circuit begins

pub place_on : (front back : List Entry) (circuit : CircuitId) → BeginsEvent back → entered_place circuit (front ++ back) ≡ entered_place circuit front
place_on [] [] circuit begins = refl
place_on [] (entry.Did event ∷ es) circuit begins = refl
place_on [] (entry.Idle ∷ es) circuit begins = absurd begins
place_on [] (entry.Said from to octets ∷ es) circuit begins = absurd begins
place_on [] (entry.In at number octets ∷ es) circuit begins = absurd begins
place_on [] (entry.Sent from to wire came packet from2 hops octets ∷ es) circuit begins = absurd begins
place_on [] (entry.Copied packet of ∷ es) circuit begins = absurd begins
place_on [] (entry.Aged packet ∷ es) circuit begins = absurd begins
place_on [] (entry.Left at from hops octets ∷ es) circuit begins = absurd begins
place_on [] (entry.Dropped edge from cause ∷ es) circuit begins = absurd begins
place_on [] (entry.Session edge peer name ∷ es) circuit begins = absurd begins
place_on [] (entry.Wire edge wire down ∷ es) circuit begins = absurd begins
place_on [] (entry.Pong edge wire sequence ∷ es) circuit begins = absurd begins
place_on (entry.Did event ∷ front) back circuit begins = refl
place_on (entry.Idle ∷ front) back circuit begins = ap (λ (n : ℕ). 1 + n) (place_on front back circuit begins)
place_on (entry.Said from to octets ∷ front) back circuit begins = ap (λ (n : ℕ). 1 + n) (place_on front back circuit begins)
place_on (entry.In at number octets ∷ front) back circuit begins = ap (λ (n : ℕ). cond (at.0 == circuit.0) 0 (1 + n)) (place_on front back circuit begins)
place_on (entry.Sent from to wire came packet from2 hops octets ∷ front) back circuit begins = ap (λ (n : ℕ). 1 + n) (place_on front back circuit begins)
place_on (entry.Copied packet of ∷ front) back circuit begins = ap (λ (n : ℕ). 1 + n) (place_on front back circuit begins)
place_on (entry.Aged packet ∷ front) back circuit begins = ap (λ (n : ℕ). 1 + n) (place_on front back circuit begins)
place_on (entry.Left at from hops octets ∷ front) back circuit begins = ap (λ (n : ℕ). 1 + n) (place_on front back circuit begins)
place_on (entry.Dropped edge from cause ∷ front) back circuit begins = ap (λ (n : ℕ). 1 + n) (place_on front back circuit begins)
place_on (entry.Session edge peer name ∷ front) back circuit begins = ap (λ (n : ℕ). 1 + n) (place_on front back circuit begins)
place_on (entry.Wire edge wire down ∷ front) back circuit begins = ap (λ (n : ℕ). 1 + n) (place_on front back circuit begins)
place_on (entry.Pong edge wire sequence ∷ front) back circuit begins = ap (λ (n : ℕ). 1 + n) (place_on front back circuit begins)

-- ---- where a trace is cut

abbrev head_or : {X : Type 0} → X → List X → X
head_or d [] = d
head_or d (x ∷ xs) = x

abbrev tail_of : {X : Type 0} → List X → List X
tail_of [] = []
tail_of (x ∷ xs) = xs

-- no event stands among entries without one
pub no_event_in : (front : List Entry) (event : Event) (rest : List Entry) → HasNoEvent (front ++ entry.Did event ∷ rest) → ⊥
no_event_in [] event rest none = none
no_event_in (entry.Did other ∷ front) event rest none = none
no_event_in (entry.Idle ∷ front) event rest none = no_event_in front event rest none
no_event_in (entry.Said from to octets ∷ front) event rest none = no_event_in front event rest none
no_event_in (entry.In at number octets ∷ front) event rest none = no_event_in front event rest none
no_event_in (entry.Sent from to wire came packet from2 hops octets ∷ front) event rest none = no_event_in front event rest none
no_event_in (entry.Copied packet of ∷ front) event rest none = no_event_in front event rest none
no_event_in (entry.Aged packet ∷ front) event rest none = no_event_in front event rest none
no_event_in (entry.Left at from hops octets ∷ front) event rest none = no_event_in front event rest none
no_event_in (entry.Dropped edge from cause ∷ front) event rest none = no_event_in front event rest none
no_event_in (entry.Session edge peer name ∷ front) event rest none = no_event_in front event rest none
no_event_in (entry.Wire edge wire down ∷ front) event rest none = no_event_in front event rest none
no_event_in (entry.Pong edge wire sequence ∷ front) event rest none = no_event_in front event rest none

-- of entries without events nothing that begins with one is the end
pub ends_bare : (front back : List Entry) → HasNoEvent (front ++ back) → BeginsEvent back → back ≡ []
ends_bare front [] none begins = refl
ends_bare front (entry.Did event ∷ es) none begins = absurd (no_event_in front event es none)
ends_bare front (entry.Idle ∷ es) none begins = absurd begins
ends_bare front (entry.Said from to octets ∷ es) none begins = absurd begins
ends_bare front (entry.In at number octets ∷ es) none begins = absurd begins
ends_bare front (entry.Sent from to wire came packet from2 hops octets ∷ es) none begins = absurd begins
ends_bare front (entry.Copied packet of ∷ es) none begins = absurd begins
ends_bare front (entry.Aged packet ∷ es) none begins = absurd begins
ends_bare front (entry.Left at from hops octets ∷ es) none begins = absurd begins
ends_bare front (entry.Dropped edge from cause ∷ es) none begins = absurd begins
ends_bare front (entry.Session edge peer name ∷ es) none begins = absurd begins
ends_bare front (entry.Wire edge wire down ∷ es) none begins = absurd begins
ends_bare front (entry.Pong edge wire sequence ∷ es) none begins = absurd begins

-- an event of a trace stands before its last event, or is that
pub record StandsBefore (done : List Entry) (last : List Entry) (before : List Entry) (event : Event) (rest : List Entry) : Type 0 where
  pub between : List Entry
  pub front : done ≡ before ++ entry.Did event ∷ between
  pub back : rest ≡ between ++ last

pub record IsLast (done : List Entry) (last : Event) (tail : List Entry) (before : List Entry) (event : Event) (rest : List Entry) : Type 0 where
  pub front : before ≡ done
  pub same : event ≡ last
  pub back : rest ≡ tail

abbrev event_or : Event → Entry → Event
event_or d (entry.Did event) = event
event_or d e = d

pub event_at : (done : List Entry) (last : Event) (tail before : List Entry) (event : Event) (rest : List Entry) → HasNoEvent tail
    → done ++ entry.Did last ∷ tail ≡ before ++ entry.Did event ∷ rest
    → StandsBefore done (entry.Did last ∷ tail) before event rest ⊎ IsLast done last tail before event rest
event_at [] last tail [] event rest none e = inr (record {
  front = refl;
  same = sym (ap (event_or last) (head_same (entry.Did last) (entry.Did event) tail rest e));
  back = sym (tail_same (entry.Did last) (entry.Did event) tail rest e);
})
event_at [] last tail (b ∷ before) event rest none e =
    absurd (no_event_in before event rest (subst HasNoEvent (tail_same (entry.Did last) b tail (before ++ entry.Did event ∷ rest) e) none))
event_at (d ∷ done) last tail [] event rest none e = inl (record {
  between = done;
  front = ap (λ (x : Entry). x ∷ done) (head_same d (entry.Did event) (done ++ entry.Did last ∷ tail) rest e);
  back = sym (tail_same d (entry.Did event) (done ++ entry.Did last ∷ tail) rest e);
})
event_at (d ∷ done) last tail (b ∷ before) event rest none e =
    by (event_at done last tail before event rest none (tail_same d b (done ++ entry.Did last ∷ tail) (before ++ entry.Did event ∷ rest) e)) where
      same : d ≡ b
      same = head_same d b (done ++ entry.Did last ∷ tail) (before ++ entry.Did event ∷ rest) e

      by : StandsBefore done (entry.Did last ∷ tail) before event rest ⊎ IsLast done last tail before event rest
          → StandsBefore (d ∷ done) (entry.Did last ∷ tail) (b ∷ before) event rest ⊎ IsLast (d ∷ done) last tail (b ∷ before) event rest
      by (inl s) = inl (record { between = s.between; front = (λ z. same z ∷ s.front z); back = s.back })
      by (inr l) = inr (record { front = (λ z. sym same z ∷ l.front z); same = l.same; back = l.back })

-- what begins with an event behind others is cut before the last event, or is nothing
pub record CutBefore (between : List Entry) (during after last : List Entry) : Type 0 where
  pub left : List Entry
  pub front : between ≡ during ++ left
  pub back : after ≡ left ++ last
  pub begins : BeginsEvent left

pub record CutBehind (between : List Entry) (during after last : List Entry) : Type 0 where
  pub front : during ≡ between ++ last
  pub back : after ≡ []

first_of_two : (left last : List Entry) → BeginsEvent (left ++ last) → BeginsEvent left
first_of_two [] last begins = tt
first_of_two (entry.Did event ∷ es) last begins = tt
first_of_two (entry.Idle ∷ es) last begins = absurd begins
first_of_two (entry.Said from to octets ∷ es) last begins = absurd begins
first_of_two (entry.In at number octets ∷ es) last begins = absurd begins
first_of_two (entry.Sent from to wire came packet from2 hops octets ∷ es) last begins = absurd begins
first_of_two (entry.Copied packet of ∷ es) last begins = absurd begins
first_of_two (entry.Aged packet ∷ es) last begins = absurd begins
first_of_two (entry.Left at from hops octets ∷ es) last begins = absurd begins
first_of_two (entry.Dropped edge from cause ∷ es) last begins = absurd begins
first_of_two (entry.Session edge peer name ∷ es) last begins = absurd begins
first_of_two (entry.Wire edge wire down ∷ es) last begins = absurd begins
first_of_two (entry.Pong edge wire sequence ∷ es) last begins = absurd begins

pub append_none : (xs : List Entry) → xs ++ [] ≡ xs
append_none [] = refl
append_none (x ∷ xs) = ap (λ ys. x ∷ ys) (append_none xs)

pub cut_at : (between during after : List Entry) (last : Event) (tail : List Entry) → HasNoEvent tail → BeginsEvent after → between ++ entry.Did last ∷ tail ≡ during ++ after
    → CutBefore between during after (entry.Did last ∷ tail) ⊎ CutBehind between during after (entry.Did last ∷ tail)
cut_at between [] after last tail none begins e =
    inl (record { left = between; front = refl; back = sym e; begins = first_of_two between (entry.Did last ∷ tail) (subst BeginsEvent (sym e) begins) })
cut_at [] (d ∷ during) after last tail none begins e = inr (record { front = whole; back = nothing }) where
  rest : tail ≡ during ++ after
  rest = tail_same (entry.Did last) d tail (during ++ after) e

  nothing : after ≡ []
  nothing = ends_bare during after (subst HasNoEvent rest none) begins

  whole : d ∷ during ≡ entry.Did last ∷ tail
  whole = (λ z. sym (head_same (entry.Did last) d tail (during ++ after) e) z ∷ sym (rest ∙ (ap (λ ys. during ++ ys) nothing ∙ append_none during)) z)
cut_at (b ∷ between) (d ∷ during) after last tail none begins e =
    by (cut_at between during after last tail none begins (tail_same b d (between ++ entry.Did last ∷ tail) (during ++ after) e)) where
      same : b ≡ d
      same = head_same b d (between ++ entry.Did last ∷ tail) (during ++ after) e

      by : CutBefore between during after (entry.Did last ∷ tail) ⊎ CutBehind between during after (entry.Did last ∷ tail)
          → CutBefore (b ∷ between) (d ∷ during) after (entry.Did last ∷ tail) ⊎ CutBehind (b ∷ between) (d ∷ during) after (entry.Did last ∷ tail)
      by (inl c) = inl (record { left = c.left; front = (λ z. same z ∷ c.front z); back = c.back; begins = c.begins })
      by (inr c) = inr (record { front = (λ z. sym same z ∷ c.front z); back = c.back })

-- what begins with an event does so with more behind it
pub begins_on : (xs ys : List Entry) → BeginsEvent xs → BeginsEvent ys → BeginsEvent (xs ++ ys)
begins_on [] ys begins more = more
begins_on (entry.Did event ∷ es) ys begins more = tt
begins_on (entry.Idle ∷ es) ys begins more = absurd begins
begins_on (entry.Said from to octets ∷ es) ys begins more = absurd begins
begins_on (entry.In at number octets ∷ es) ys begins more = absurd begins
begins_on (entry.Sent from to wire came packet from2 hops octets ∷ es) ys begins more = absurd begins
begins_on (entry.Copied packet of ∷ es) ys begins more = absurd begins
begins_on (entry.Aged packet ∷ es) ys begins more = absurd begins
begins_on (entry.Left at from hops octets ∷ es) ys begins more = absurd begins
begins_on (entry.Dropped edge from cause ∷ es) ys begins more = absurd begins
begins_on (entry.Session edge peer name ∷ es) ys begins more = absurd begins
begins_on (entry.Wire edge wire down ∷ es) ys begins more = absurd begins
begins_on (entry.Pong edge wire sequence ∷ es) ys begins more = absurd begins

-- ---- floods

any_front : {X : Type 0} (test : X → Bool) (xs ys : List X) → list_any test (xs ++ ys) ≡ false → list_any test xs ≡ false
any_front test [] ys none = refl
any_front test (x ∷ xs) ys none = by (test x) none (λ rest. any_front test xs ys rest) where
  by : (b : Bool) → b || list_any test (xs ++ ys) ≡ false → (list_any test (xs ++ ys) ≡ false → list_any test xs ≡ false) → b || list_any test xs ≡ false
  by true none rest = absurd (cc (none))
  by false none rest = rest none

-- a frame that is flooded by more entries is so by fewer
pub flooded_before : (plan : Plan) (service : ServiceId) (frame : List ℕ) (xs ys : List Entry) → is_seen_flooded plan service frame (xs ++ ys) ≡ true → is_seen_flooded plan service frame xs ≡ true
flooded_before plan service frame xs ys flooded = by (goes_to_group frame) (list_any test (xs ++ ys)) refl flooded where
  test : Entry → Bool
  test = is_sourced_by plan service (destination_of frame)

  by : (a b : Bool) → list_any test (xs ++ ys) ≡ b → a || not b ≡ true → a || not (list_any test xs) ≡ true
  by true b is holds = refl
  by false true is holds = absurd (cc (holds))
  by false false is holds = ap not (any_front test xs ys is)

pub ruleset entered_steps = (entered_on)
