-- A trace of a run is cut at an event where the list of events is cut.
use Rattle.std.proofs.Common.{◌≡◌, ◌+◌, ◌++◌, ◌∙◌, ℕ, zero, suc, Bool, true, false, List, [], ◌∷◌, Option, Some, None, cond, drop, length, take, refl, sym, ap, subst}
use Rattle.net_values.proofs.RowLemmas.{head_same, tail_same}
use Rattle.net_base.specs.declared.plan.Plan.{Plan}
use Rattle.net_base.specs.declared.plan.circuit_plan.CircuitPlan.{CircuitPlan}
use Rattle.net_base.specs.declared.plan.places.EdgeId.{EdgeId}
use Rattle.net_base.specs.declared.trace.entry.Entry.{Entry}
use Rattle.net_base.specs.declared.trace.entry.Entry.TheVariants as entry
use Rattle.net_base.specs.declared.trace.event.Event.{Event}
use Rattle.net_base.specs.declared.trace.event.Event.TheVariants.{Connect, Deliver, Lose, Restart, Tick, Frame, Arrive, Discard, Again, Wire, Circuit, Status, Priority, Ping}
use Rattle.net_base.specs.plan.Places.{circuit_row}
use Rattle.net_base.proofs.CommonLemmas.{same_entries}
use Rattle.edge_model.specs.Circuit.{circuit_input}
use Rattle.edge_model.specs.Connection.{restart_input}
use Rattle.edge_model.specs.Tick.{tick_input}
use Rattle.edge_model.specs.Wire.{priority_input, status_input, wire_input}
use Rattle.edge_model.specs.Work.{Work}
use Rattle.network_model.specs.Absorb.{Stepped, absorb, absorb_all, all_entries_of, answer, begin_at, idle, taken_all}
use Rattle.network_model.specs.Circuit.{circuit_event}
use Rattle.network_model.specs.Connection.{can_connect, connected_work, connecting, delivering, hearing_work, is_deliverable, is_drained_pipe, losing, losing_work}
use Rattle.network_model.specs.declared.packet.Packet.{Packet}
use Rattle.network_model.specs.Frame.{entering, frame_event, frame_work, next_origin}
use Rattle.network_model.specs.Packet.{again_event, arrive_event, discard_event, packet_at, packet_work}
use Rattle.network_model.specs.Ping.{ping_work}
use Rattle.network_model.specs.Run.{entries_along, state_after}
use Rattle.network_model.specs.State.{NetworkState, stands, with_edge, with_frame, with_older, with_pipe, without_octets_to, without_packet}
use Rattle.network_model.specs.Step.{brings, step}
use Rattle.network_model.specs.Age.{aged_entries}
use Rattle.network_model.specs.Tick.{tick_at, tick_event, ticks_from}
use Rattle.seen_network.specs.Seen.{BeginsEvent}
use Rattle.seen_laws.specs.Shows.{AreTold}
use Rattle.seen_laws.proofs.AgeLemmas.{aged_told}
use Rattle.seen_laws.proofs.SeenLemmas.{told-append, work_told}

-- ---- no event is told behind an event, but by the next one

abbrev pub NoEvent : List Entry → Type 0
NoEvent [] = Unit {0}
NoEvent (entry.Did event ∷ es) = ⊥
NoEvent (e ∷ es) = NoEvent es

pub told_none : (es : List Entry) → AreTold es → NoEvent es
told_none [] are = tt
told_none (entry.Did event ∷ es) are = absurd are
told_none (entry.Idle ∷ es) are = absurd are
told_none (entry.Said from to octets ∷ es) are = told_none es are
told_none (entry.In circuit number octets ∷ es) are = told_none es are
told_none (entry.Sent from to wire came packet origin hops octets ∷ es) are = told_none es are
told_none (entry.Copied packet of ∷ es) are = told_none es are
told_none (entry.Aged packet ∷ es) are = told_none es are
told_none (entry.Left circuit origin hops octets ∷ es) are = told_none es are
told_none (entry.Dropped edge origin cause ∷ es) are = told_none es are
told_none (entry.Session edge peer name ∷ es) are = told_none es are
told_none (entry.Wire edge wire down ∷ es) are = told_none es are
told_none (entry.Pong edge wire sequence ∷ es) are = told_none es are

abbrev pub IsQuietStep : Stepped → Type 0
IsQuietStep after = NoEvent after.entries

absorb_quiet : (me : EdgeId) (origin hops : ℕ) (work : Work) (network : NetworkState) → IsQuietStep (absorb me origin hops work network)
absorb_quiet me origin hops work network = told_none (absorb me origin hops work network).entries (work_told me origin hops work.effects (with_edge me work.edge network))

answer_quiet : (me : EdgeId) (work : Work) (network : NetworkState) → IsQuietStep (answer me 0 0 work network)
answer_quiet me work network = by work.idle where
  by : (b : Bool) → IsQuietStep (cond b (idle network) (absorb me 0 0 work network))
  by true = tt
  by false = absorb_quiet me 0 0 work network

ticks_told : (plan : Plan) (place count : ℕ) (network : NetworkState) → AreTold (ticks_from plan place count network).entries
ticks_told plan place zero network = tt
ticks_told plan place (suc count) network =
    let me : EdgeId = record { 0 = place } in
    let work : Work = tick_input plan taken_all (begin_at network me) in
    told-append (tick_at plan me network).entries (ticks_from plan (place + 1) count (tick_at plan me network).state).entries
    (work_told me 0 0 work.effects (with_edge me work.edge network)) (ticks_told plan (place + 1) count (tick_at plan me network).state)

connecting_quiet : (from to : EdgeId) (one two : Work) (network : NetworkState) → IsQuietStep (connecting from one to two network)
connecting_quiet from to one two network =
    let begun : NetworkState = with_edge to two.edge (with_edge from one.edge network) in
    told_none (connecting from one to two network).entries
    (told-append (all_entries_of from 0 0 one.effects begun) (all_entries_of to 0 0 two.effects (absorb_all from 0 0 one.effects begun)) (work_told from 0 0 one.effects begun)
    (work_told to 0 0 two.effects (absorb_all from 0 0 one.effects begun)))

pub brings_quiet : (plan : Plan) (event : Event) (network : NetworkState) → IsQuietStep (brings plan event network)
brings_quiet plan (Connect from to) network = by (can_connect plan network from.0 to.0) where
  by : (b : Bool) → IsQuietStep (cond b (connecting from (connected_work plan network from to) to (connected_work plan network to from) network) (idle network))
  by true = connecting_quiet from to (connected_work plan network from to) (connected_work plan network to from) network
  by false = tt
brings_quiet plan (Deliver from to count) network = by (is_deliverable network from.0 to.0) (is_drained_pipe network from.0 to.0) where
  by : (b drained : Bool) → IsQuietStep (cond b (cond drained (losing plan to from network) (delivering plan from to count network)) (idle network))
  by true true = absorb_quiet to 0 0 (losing_work plan network to from) network
  by true false = absorb_quiet to 0 0 (hearing_work plan network from to (take count (network.pipes from.0 to.0))) (with_pipe from to (drop count (network.pipes from.0 to.0)) network)
  by false drained = tt
brings_quiet plan (Lose me peer) network = by (stands network me.0 peer.0) where
  by : (b : Bool) → IsQuietStep (cond b (losing plan me peer network) (idle network))
  by true = absorb_quiet me 0 0 (losing_work plan network me peer) network
  by false = tt
brings_quiet plan (Restart me) network = absorb_quiet me 0 0 (restart_input (begin_at network me)) (without_octets_to me network)
brings_quiet plan Tick network = told_none (tick_event plan network).entries
    (told-append (aged_entries network.under_way) (ticks_from plan 0 (length plan.edges) (with_older network)).entries (aged_told network.under_way)
    (ticks_told plan 0 (length plan.edges) (with_older network)))
brings_quiet plan (Frame circuit octets) network = by (circuit_row plan circuit) where
  entered : (row : CircuitPlan) (b : Bool) → IsQuietStep (cond b (idle network) (entering network circuit octets row (frame_work plan network circuit octets row)))
  entered row true = tt
  entered row false = absorb_quiet row.edge (next_origin network) 0 (frame_work plan network circuit octets row) (with_frame network)

  by : (row : Option CircuitPlan) → IsQuietStep (frame_event plan circuit octets row network)
  by None = tt
  by (Some row) = entered row (frame_work plan network circuit octets row).idle
brings_quiet plan (Circuit circuit on) network = by (circuit_row plan circuit) where
  by : (row : Option CircuitPlan) → IsQuietStep (circuit_event plan circuit on row network)
  by None = tt
  by (Some row) = answer_quiet row.edge (circuit_input plan taken_all circuit on (Some row) (begin_at network row.edge)) network
brings_quiet plan (Wire me wire on) network = answer_quiet me (wire_input plan taken_all wire on (begin_at network me)) network
brings_quiet plan (Status me wire bits) network = answer_quiet me (status_input plan taken_all wire bits (begin_at network me)) network
brings_quiet plan (Priority me wire priority) network = answer_quiet me (priority_input plan taken_all wire priority (begin_at network me)) network
brings_quiet plan (Arrive number) network = by (packet_at network number) where
  by : (packet : Option Packet) → IsQuietStep (arrive_event plan packet network)
  by None = tt
  by (Some packet) = absorb_quiet packet.to packet.origin packet.hops (packet_work plan network packet) (without_packet packet.number network)
brings_quiet plan (Discard number) network = by (packet_at network number) where
  by : (packet : Option Packet) → IsQuietStep (discard_event packet network)
  by None = tt
  by (Some packet) = tt
brings_quiet plan (Again number) network = by (packet_at network number) where
  by : (packet : Option Packet) → IsQuietStep (again_event packet network)
  by None = tt
  by (Some packet) = tt
brings_quiet plan (Ping me wire) network = answer_quiet me (ping_work plan network me wire) network

-- ---- lists

event_same : (a b : Event) → entry.Did a ≡ entry.Did b → a ≡ b
event_same a b e = cc (e)

-- what an event told stands whole before the next one
pub record StandsBefore (own front behind more : List Entry) : Type 0 where
  pub rest : List Entry
  pub front_is : front ≡ own ++ rest
  pub more_is : more ≡ rest ++ behind

-- it begins an event, or there is nothing
own_first : (own front behind more : List Entry) → NoEvent own → BeginsEvent behind → front ++ behind ≡ own ++ more → StandsBefore own front behind more
own_first [] front behind more none begins e = record { rest = front; front_is = refl; more_is = sym e }
own_first (entry.Did event ∷ own) front behind more none begins e = absurd none
own_first (x ∷ own) [] [] more none begins e = absurd (cc e)
own_first (x ∷ own) [] (y ∷ behind) more none begins e = absurd (clash y x behind own more (head_same y x behind (own ++ more) e) begins none) where
  clash : (y x : Entry) (behind own more : List Entry) → y ≡ x → BeginsEvent (y ∷ behind) → NoEvent (x ∷ own) → ⊥
  clash (entry.Did event) x behind own more same begins none = subst (λ (z : Entry). NoEvent (z ∷ own)) (sym same) none
  clash entry.Idle x behind own more same begins none = begins
  clash (entry.Said from to octets) x behind own more same begins none = begins
  clash (entry.In circuit number octets) x behind own more same begins none = begins
  clash (entry.Sent from to wire came packet origin hops octets) x behind own more same begins none = begins
  clash (entry.Copied packet of) x behind own more same begins none = begins
  clash (entry.Aged packet) x behind own more same begins none = begins
  clash (entry.Left circuit origin hops octets) x behind own more same begins none = begins
  clash (entry.Dropped edge origin cause) x behind own more same begins none = begins
  clash (entry.Session edge peer name) x behind own more same begins none = begins
  clash (entry.Wire edge wire down) x behind own more same begins none = begins
  clash (entry.Pong edge wire sequence) x behind own more same begins none = begins
own_first (x ∷ own) (y ∷ front) behind more none begins e =
    let later : StandsBefore own front behind more = own_first own front behind more (less x own none) begins (tail_same y x (front ++ behind) (own ++ more) e) in
    record { rest = later.rest; front_is = (λ i. head_same y x (front ++ behind) (own ++ more) e i ∷ later.front_is i); more_is = later.more_is }
  where
    less : (x : Entry) (own : List Entry) → NoEvent (x ∷ own) → NoEvent own
    less (entry.Did event) own none = absurd none
    less entry.Idle own none = none
    less (entry.Said from to octets) own none = none
    less (entry.In circuit number octets) own none = none
    less (entry.Sent from to wire came packet origin hops octets) own none = none
    less (entry.Copied packet of) own none = none
    less (entry.Aged packet) own none = none
    less (entry.Left circuit origin hops octets) own none = none
    less (entry.Dropped edge origin cause) own none = none
    less (entry.Session edge peer name) own none = none
    less (entry.Wire edge wire down) own none = none
    less (entry.Pong edge wire sequence) own none = none

-- ---- a trace is cut at an event

pub record IsCutAt (plan : Plan) (network : NetworkState) (events : List Event) (before : List Entry) (event : Event) (behind : List Entry) : Type 0 where
  pub earlier : List Event
  pub later : List Event
  pub split : events ≡ earlier ++ event ∷ later
  pub front : before ≡ entries_along plan network earlier
  pub rest : behind ≡ (brings plan event (state_after plan network earlier)).entries ++ entries_along plan (step plan (state_after plan network earlier) event).state later

pub cut_at : (plan : Plan) (network : NetworkState) (events : List Event) (before : List Entry) (event : Event) (behind : List Entry) → entries_along plan network events
    ≡ before ++ entry.Did event ∷ behind → IsCutAt plan network events before event behind
cut_at plan network [] [] event behind e = absurd (cc e)
cut_at plan network [] (x ∷ before) event behind e = absurd (cc e)
cut_at plan network (x ∷ xs) [] event behind e =
    let same : x ≡ event = event_same x event (head_same _ _ _ _ e) in
    subst (λ (y : Event). IsCutAt plan network (x ∷ xs) [] y behind) same (record { earlier = []; later = xs; split = refl; front = refl; rest = sym (tail_same _ _ _ _ e) })
cut_at plan network (x ∷ xs) (b ∷ before) event behind e =
    let own : List Entry = (brings plan x network).entries in
    let more : List Entry = entries_along plan (step plan network x).state xs in
    let stands : StandsBefore own before (entry.Did event ∷ behind) more = own_first own before (entry.Did event ∷ behind) more (brings_quiet plan x network) tt (sym (tail_same _ _ _ _ e)) in
    let later : IsCutAt plan (step plan network x).state xs stands.rest event behind = cut_at plan (step plan network x).state xs stands.rest event behind stands.more_is in
    record {
      earlier = x ∷ later.earlier;
      later = later.later;
      split = ap (λ (l : List Event). x ∷ l) later.split;
      front = same_entries (sym (head_same _ _ _ _ e)) (stands.front_is ∙ ap (λ (l : List Entry). own ++ l) later.front);
      rest = later.rest;
    }

-- and behind some events
pub record IsCutBehind (plan : Plan) (network : NetworkState) (events : List Event) (front behind : List Entry) : Type 0 where
  pub during : List Event
  pub later : List Event
  pub split : events ≡ during ++ later
  pub front_is : front ≡ entries_along plan network during

pub cut_behind : (plan : Plan) (network : NetworkState) (events : List Event) (front behind : List Entry) → BeginsEvent behind → front ++ behind ≡ entries_along plan network events
    → IsCutBehind plan network events front behind
cut_behind plan network events [] behind begins e = record { during = []; later = events; split = refl; front_is = refl }
cut_behind plan network [] (x ∷ front) behind begins e = absurd (cc e)
cut_behind plan network (x ∷ xs) (y ∷ front) behind begins e =
    let own : List Entry = (brings plan x network).entries in
    let more : List Entry = entries_along plan (step plan network x).state xs in
    let stands : StandsBefore own front behind more = own_first own front behind more (brings_quiet plan x network) begins (tail_same _ _ _ _ e) in
    let later : IsCutBehind plan (step plan network x).state xs stands.rest behind = cut_behind plan (step plan network x).state xs stands.rest behind begins (sym stands.more_is) in
    record {
      during = x ∷ later.during;
      later = later.later;
      split = ap (λ (l : List Event). x ∷ l) later.split;
      front_is = same_entries (head_same _ _ _ _ e) (stands.front_is ∙ ap (λ (l : List Entry). own ++ l) later.front_is);
    }

-- the entries behind an event, up to the end of some events
pub cut_window : (plan : Plan) (event : Event) (network : NetworkState) (events : List Event) (front behind : List Entry) → BeginsEvent behind
    → front ++ behind ≡ (brings plan event network).entries ++ entries_along plan (step plan network event).state events
    → StandsBefore (brings plan event network).entries front behind (entries_along plan (step plan network event).state events)
cut_window plan event network events front behind begins e = own_first (brings plan event network).entries front behind _ (brings_quiet plan event network) begins e
