-- What is remembered of services stays so.
use Rattle.std.proofs.Common.{◌≡◌, ◌≢◌, ◌==◌, ◌∷◌, ◌∙◌, [], ℕ, Bool, true, false, not, List, Option, Some, None, refl, sym, ap, subst}
use Rattle.std.proofs.lemmas.Bool.{eqb-true, eqb-false}
use Rattle.net_values.proofs.BoolLemmas.{second_fails, first_fails}
use Rattle.net_base.specs.declared.plan.Plan.{Plan}
use Rattle.net_base.specs.declared.plan.places.ServiceId.{ServiceId}
use Rattle.net_base.specs.declared.trace.entry.Entry.{Entry}
use Rattle.net_base.specs.declared.trace.entry.Entry.TheVariants as entry
use Rattle.net_base.specs.declared.trace.event.Event.{Event}
use Rattle.net_base.specs.declared.trace.event.Event.TheVariants as event
use Rattle.hvpls_spokes.specs.PortSet.{holds_port}
use Rattle.seen_network.specs.Calm.{is_seen_calm}
use Rattle.seen_network.specs.Seen.{Seen, SeenCopy, happened, happened_or, origin_among, repeats, seen_from, told_by_itself, with_copies, with_on}
use Rattle.seen_network.specs.EventEntries.{HasNoEvent}
use Rattle.window_audit.specs.CalmMemory.{Remembers, some_stirs, stirs, stirs_by}
use Rattle.window_audit.specs.declared.calm_memory.CalmMemory.{CalmMemory}

-- ---- one service more

-- a set with a service more has it, or had it
in_set : (old new : List ℕ) (k p : ℕ) → ((q : ℕ) → q ≢ k → holds_port new q ≡ holds_port old q) → holds_port new p ≡ true → (holds : ℕ → Type 0) → holds k → (holds_port old p ≡ true → holds p) → holds p
in_set old new k p others is holds here there = by (p == k) refl where
  by : (b : Bool) → (p == k) ≡ b → holds p
  by true same = subst holds (sym (eqb-true p k same)) here
  by false away = there (sym (others p (eqb-false p k away)) ∙ is)

pub calm_kept : (plan : Plan) (seen : Seen) (calm calm2 restless : List ℕ) (service : ServiceId) → ((q : ℕ) → q ≢ service.0 → holds_port calm2 q ≡ holds_port calm q) → is_seen_calm plan seen service ≡ true
    → Remembers plan seen (record { calm = calm; restless = restless }) → Remembers plan seen (record { calm = calm2; restless = restless })
calm_kept plan seen calm calm2 restless service others is known = record {
  calm = λ s h. in_set calm calm2 service.0 s.0 others h (λ n. is_seen_calm plan seen (record { 0 = n }) ≡ true) is (λ was. known.calm s was);
  restless = known.restless;
}

pub restless_kept : (plan : Plan) (seen : Seen) (calm restless restless2 : List ℕ) (service : ServiceId) → ((q : ℕ) → q ≢ service.0 → holds_port restless2 q ≡ holds_port restless q)
    → is_seen_calm plan seen service ≡ false
    → Remembers plan seen (record { calm = calm; restless = restless }) → Remembers plan seen (record { calm = calm; restless = restless2 })
restless_kept plan seen calm restless restless2 service others is known = record {
  calm = known.calm;
  restless = λ s h. in_set restless restless2 service.0 s.0 others h (λ n. is_seen_calm plan seen (record { 0 = n }) ≡ false) is (λ was. known.restless s was);
}

-- ---- what changes no service

-- as many services are calm in both
abbrev AreAlike : Plan → Seen → Seen → Type 0
AreAlike plan a b = (service : ServiceId) → is_seen_calm plan b service ≡ is_seen_calm plan a service

pub alike_kept : (plan : Plan) (a b : Seen) (memory : CalmMemory) → AreAlike plan a b → Remembers plan a memory → Remembers plan b memory
alike_kept plan a b memory alike known = record {
  calm = λ s h. alike s ∙ known.calm s h;
  restless = λ s h. alike s ∙ known.restless s h;
}

copies_alike : (plan : Plan) (seen : Seen) (copies : List SeenCopy) → AreAlike plan seen (with_copies copies seen)
unfolding with_copies
copies_alike plan seen copies service = refl

on_alike : (plan : Plan) (seen : Seen) (circuit : ℕ) (on : Bool) → AreAlike plan seen (with_on circuit on seen)
unfolding with_on
on_alike plan seen circuit on service = refl

event_alike : (plan : Plan) (seen : Seen) (e : Event) → stirs_by e ≡ false → AreAlike plan seen (happened e seen)
event_alike plan seen (event.Connect from to) still service = absurd (cc still)
event_alike plan seen (event.Deliver from to count) still service = absurd (cc still)
event_alike plan seen (event.Lose edge peer) still service = absurd (cc still)
event_alike plan seen (event.Restart edge) still service = absurd (cc still)
event_alike plan seen event.Tick still service = refl
event_alike plan seen (event.Frame circuit octets) still service = refl
event_alike plan seen (event.Arrive packet) still service = copies_alike plan seen _ service
event_alike plan seen (event.Discard packet) still service = copies_alike plan seen _ service
event_alike plan seen (event.Again packet) still service = refl
event_alike plan seen (event.Wire edge wire on) still service = refl
event_alike plan seen (event.Circuit circuit on) still service = on_alike plan seen circuit.0 on service
event_alike plan seen (event.Status edge wire bits) still service = refl
event_alike plan seen (event.Priority edge wire priority) still service = refl
event_alike plan seen (event.Ping edge wire) still service = refl

pub event_kept : (plan : Plan) (seen : Seen) (e : Event) (idle : Bool) (memory : CalmMemory) → (not idle ≡ true → stirs_by e ≡ false) → Remembers plan seen memory
    → Remembers plan (happened_or idle e seen) memory
event_kept plan seen e true memory still known = known
event_kept plan seen e false memory still known = alike_kept plan seen (happened e seen) memory (event_alike plan seen e (still refl)) known

entry_alike : (plan : Plan) (seen : Seen) (e : Entry) → stirs e ≡ false → AreAlike plan seen (told_by_itself e seen)
entry_alike plan seen (entry.Did event) still service = refl
entry_alike plan seen entry.Idle still service = refl
entry_alike plan seen (entry.Said from to octets) still service = absurd (cc still)
entry_alike plan seen (entry.In at number octets) still service = refl
entry_alike plan seen (entry.Sent from to wire came packet from2 hops octets) still service = copies_alike plan seen _ service
entry_alike plan seen (entry.Copied packet of) still service = repeat_alike plan seen packet (origin_among of seen.under_way) service where
  repeat_alike : (plan : Plan) (seen : Seen) (packet : ℕ) (origin : Option ℕ) → AreAlike plan seen (repeats packet origin seen)
  repeat_alike plan seen packet None service = refl
  repeat_alike plan seen packet (Some origin) service = copies_alike plan seen _ service
entry_alike plan seen (entry.Aged packet) still service = copies_alike plan seen _ service
entry_alike plan seen (entry.Left at from hops octets) still service = refl
entry_alike plan seen (entry.Dropped edge from cause) still service = refl
entry_alike plan seen (entry.Session edge peer name) still service = absurd (cc still)
entry_alike plan seen (entry.Wire edge wire down) still service = absurd (cc still)
entry_alike plan seen (entry.Pong edge wire sequence) still service = refl

seen_on_told : (seen : Seen) (e : Entry) (es : List Entry) → HasNoEvent (e ∷ es) → seen_from seen (e ∷ es) ≡ seen_from (told_by_itself e seen) es
seen_on_told seen (entry.Did event) es bare = absurd bare
seen_on_told seen entry.Idle es bare = refl
seen_on_told seen (entry.Said from to octets) es bare = refl
seen_on_told seen (entry.In at number octets) es bare = refl
seen_on_told seen (entry.Sent from to wire came packet from2 hops octets) es bare = refl
seen_on_told seen (entry.Copied packet of) es bare = refl
seen_on_told seen (entry.Aged packet) es bare = refl
seen_on_told seen (entry.Left at from hops octets) es bare = refl
seen_on_told seen (entry.Dropped edge from cause) es bare = refl
seen_on_told seen (entry.Session edge peer name) es bare = refl
seen_on_told seen (entry.Wire edge wire down) es bare = refl
seen_on_told seen (entry.Pong edge wire sequence) es bare = refl

pub bare_rest : (e : Entry) (es : List Entry) → HasNoEvent (e ∷ es) → HasNoEvent es
bare_rest (entry.Did event) es bare = absurd bare
bare_rest entry.Idle es bare = bare
bare_rest (entry.Said from to octets) es bare = bare
bare_rest (entry.In at number octets) es bare = bare
bare_rest (entry.Sent from to wire came packet from2 hops octets) es bare = bare
bare_rest (entry.Copied packet of) es bare = bare
bare_rest (entry.Aged packet) es bare = bare
bare_rest (entry.Left at from hops octets) es bare = bare
bare_rest (entry.Dropped edge from cause) es bare = bare
bare_rest (entry.Session edge peer name) es bare = bare
bare_rest (entry.Wire edge wire down) es bare = bare
bare_rest (entry.Pong edge wire sequence) es bare = bare

entries_alike : (plan : Plan) (es : List Entry) (seen : Seen) → HasNoEvent es → some_stirs es ≡ false → AreAlike plan seen (seen_from seen es)
entries_alike plan [] seen bare still service = refl
entries_alike plan (e ∷ es) seen bare still service =
    ap (λ (s : Seen). is_seen_calm plan s service) (seen_on_told seen e es bare)
    ∙ (entries_alike plan es (told_by_itself e seen) (bare_rest e es bare) (second_fails (stirs e) (some_stirs es) still) service ∙ entry_alike plan seen e (first_fails (stirs e) (some_stirs es) still) service)

pub entries_kept : (plan : Plan) (es : List Entry) (seen : Seen) (memory : CalmMemory) → HasNoEvent es → some_stirs es ≡ false → Remembers plan seen memory → Remembers plan (seen_from seen es) memory
entries_kept plan es seen memory bare still known = alike_kept plan seen (seen_from seen es) memory (entries_alike plan es seen bare still) known
