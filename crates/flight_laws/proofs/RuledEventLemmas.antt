-- Each event keeps the rules of labels and of told contents.
use Rattle.std.proofs.Common.{◌≡◌, ◌≤◌, ◌<◌, ◌++◌, ◌&&◌, ◌∙◌, ◌+◌, ℕ, zero, suc, Bool, true, false, cond, not, nat_eq, length, List, [], Option, Some, None, refl, sym, subst, inl, arith}
use Rattle.std.proofs.lemmas.Bool.{eqb-true, ne_eqb}
use Rattle.std.proofs.lemmas.Bool.Decides.{nat_tests}
use Rattle.net_values.proofs.NumberLemmas.{apart_back}
use Rattle.net_base.specs.declared.plan.Plan.{Plan}
use Rattle.net_base.specs.declared.plan.circuit_plan.CircuitPlan.{CircuitPlan}
use Rattle.net_base.specs.declared.plan.places.CircuitId.{CircuitId}
use Rattle.net_base.specs.declared.plan.places.EdgeId.{EdgeId}
use Rattle.net_base.specs.declared.plan.places.WireId.{WireId}
use Rattle.net_base.specs.declared.trace.state_name.Reason.TheVariants as reason
use Rattle.net_base.specs.declared.trace.arrival.Arrival.TheVariants as arrival
use Rattle.net_base.specs.plan.Accepted.{IsChecked}
use Rattle.net_base.specs.plan.Places.{wire_row}
use Rattle.net_base.specs.trace.Isolated.{inner_at}
use Rattle.session_core.specs.Table as table
use Rattle.edge_model.specs.Circuit.{is_same, turned}
use Rattle.edge_model.specs.Connection.{restart_input}
use Rattle.edge_model.specs.EndPlaces.{ends_here, passes}
use Rattle.edge_model.specs.Frame.{is_own, port_at, received}
use Rattle.edge_model.specs.Mend.{mends}
use Rattle.edge_model.specs.Session.{happens_with_ends}
use Rattle.edge_model.specs.State.{EdgeState, has_end, is_on, with_bits, with_learned, with_priority, with_ticks, without_ends, without_peerings, with_kept}
use Rattle.edge_model.specs.Tick.{counted, tick_input}
use Rattle.label_space.specs.declared.kept.KeptState.{KeptState}
use Rattle.label_space.specs.declared.kept.KeptState.TheVariants.{Waits, Rests, Free}
use Rattle.label_space.specs.Kept.{kept_at, rest_ticks}
use Rattle.flight_laws.specs.Rules.{MayBeKept, MayCarry}
use Rattle.flight_laws.proofs.MentionLemmas.{KeepsMentions}
use Rattle.edge_model.specs.Wire.{is_own_spoke, turned_wire}
use Rattle.edge_model.specs.Work.{Work, changes, idles}
use Rattle.network_model.specs.Absorb.{answer, begin_at, idle, taken_all}
use Rattle.network_model.specs.Circuit.{circuit_event}
use Rattle.network_model.specs.Connection.{lose_event, losing, losing_work, restart_event}
use Rattle.network_model.specs.Frame.{entering, frame_event, next_origin}
use Rattle.network_model.specs.declared.packet.Packet.{Packet}
use Rattle.network_model.specs.Packet.{again_event, arrive_event, discard_event, packet_work, repeating}
use Rattle.network_model.specs.State.{NetworkState, stands, with_copy, with_frame, with_older, without_octets_to, without_packet}
use Rattle.network_model.specs.Tick.{tick_at, tick_event, ticks_from}
use Rattle.network_model.specs.Wire.{priority_event, status_event, wire_event}
use Rattle.network_model.specs.Ping.{ping_event, ping_work}
use Rattle.flight_laws.specs.Ends.{HasTypes}
use Rattle.flight_laws.specs.Facts.{FromBoth, HoldsBut, flight}
use Rattle.flight_laws.proofs.NameLemmas.{KeepsNames, counted_carried, counted_named, counted_rekept, names_restarted, names_same, rekept_has, rekept_least, split}
use Rattle.flight_laws.proofs.RuledInputLemmas.{circuit_ruled, idle_ruled, lost_ruled, packet_ruled, priority_ruled, received_ruled, status_ruled, tick_ruled, wire_ruled, ping_ruled}
use Rattle.flight_laws.proofs.RuledLemmas.{IsRuledEdge, WorksRuled, steps_keep}
use Rattle.flight_laws.proofs.RuledNetworkLemmas.{Carries, IsRuledNetwork, IsSettledIn, OutRules, RulesTo, StaysRuled, carries_same, held_again, held_at, ruled_answer, ruled_begin, ruled_in, ruled_settle, ruled_work, rules_mentioned, stays_ruled, stays_then}
use Rattle.flight_laws.proofs.ToldLemmas.{fresh_tells}
use Rattle.flight_laws.proofs.EventLemmas.{same_edges, none_left, away_from}

-- ---- a tick passes at one edge, and at those from a place on

-- a packet may carry the same label, a tick older
abbrev pub Grows : EdgeState → EdgeState → Type 0
Grows old new = (wire peer age label : ℕ) → age + 1 < rest_ticks → MayCarry old wire peer age label → MayCarry new wire peer (age + 1) label

pub record IsTickedAt (plan : Plan) (network after : NetworkState) (place : ℕ) : Type 0 where
  pub ruled : IsRuledNetwork plan after
  pub own : Grows (network.edges place) (after.edges place)
  pub other : (k : ℕ) → nat_eq k place ≡ false → after.edges k ≡ network.edges k

record AreTicked (plan : Plan) (place : ℕ) (network last : NetworkState) : Type 0 where
  pub ruled : IsRuledNetwork plan last
  pub before : (k : ℕ) → k < place → Carries (network.edges k) (last.edges k)
  pub after : (k : ℕ) → place ≤ k → Grows (network.edges k) (last.edges k)

-- the rules hold after a tick, and whatever label a packet may carry to an edge it may carry a tick older
pub record IsTicked (plan : Plan) (network after : NetworkState) : Type 0 where
  pub ruled : IsRuledNetwork plan after
  pub grows : (k : ℕ) → Grows (network.edges k) (after.edges k)

kept_grows : (peer age : ℕ) (s : Option KeptState) → MayBeKept peer (Some age) s → MayBeKept peer (Some (age + 1)) s
kept_grows peer age None may = tt
kept_grows peer age (Some (Waits k)) may = may
kept_grows peer age (Some (Rests ticks)) may = omega (arith, may)
kept_grows peer age (Some Free) may = may

may_grow : (edge : EdgeState) (wire peer age label : ℕ) → MayCarry edge wire peer age label → MayCarry edge wire peer (age + 1) label
may_grow edge wire peer age label may = record { below = may.below; owner = may.owner; kept = kept_grows peer age (kept_at label edge.kept) may.kept }

module _ (plan : Plan) (checked : IsChecked plan) (types : HasTypes plan) where
  -- the work of an edge of the network from its beginning on
  abbrev At : NetworkState → EdgeId → Work → Type 0
  At network me work = WorksRuled plan network.edges me.0 (network.edges me.0) (held_at network me.0) work

  -- ---- an end is lost

  pub losing_ruled : (me peer : EdgeId) (network : NetworkState) → IsRuledNetwork plan network → StaysRuled plan network (losing plan me peer network).state
  losing_ruled me peer network ruled = ruled_work plan network me 0 0 (losing_work plan network me peer) ruled (by_end (has_end (begin_at network me).edge peer)) where
    begun : At network me (begin_at network me)
    begun = ruled_begin plan network me ruled

    by_end : (b : Bool) → At network me (cond b (mends plan taken_all (happens_with_ends taken_all peer (table.Closed reason.Closed) (begin_at network me))) (idles (begin_at network me)))
    by_end true = lost_ruled plan checked types network.edges me (network.edges me.0) (held_at network me.0) peer (begin_at network me) begun
    by_end false = idle_ruled plan checked types network.edges me (network.edges me.0) (held_at network me.0) (begin_at network me) begun

  pub lose_ruled : (me peer : EdgeId) (network : NetworkState) → IsRuledNetwork plan network → StaysRuled plan network (lose_event plan me peer network).state
  lose_ruled me peer network ruled = by_stand (stands network me.0 peer.0) where
    by_stand : (b : Bool) → StaysRuled plan network (cond b (losing plan me peer network) (idle network)).state
    by_stand true = losing_ruled me peer network ruled
    by_stand false = stays_ruled plan network ruled

  -- ---- ticks pass

  -- an edge that has counted the tick
  counted_is : (edge : EdgeState) → ((counted edge).me ≡ edge.me) × ((counted edge).ends ≡ edge.ends)
  unfolding with_ticks with_kept
  counted_is edge = (refl, refl)

  counted_mentions : (peer : ℕ) (edge : EdgeState) → KeepsMentions peer edge (counted edge)
  counted_mentions peer edge wire label may = counted_named edge wire peer label may

  counted_edge : (me : ℕ) (edge : EdgeState) → IsRuledEdge plan me edge → IsRuledEdge plan me (counted edge)
  unfolding with_ticks with_kept
  counted_edge me edge ruled = record {
    place = ruled.place;
    owned = λ wire peer label owned. counted_named edge wire peer label (ruled.owned wire peer label owned);
    rests = rekept_has edge (counted edge) (counted_rekept edge) ruled.rests;
    least = rekept_least 16 edge (counted edge) (counted_rekept edge) ruled.least;
    most = ruled.most;
    bits = ruled.bits;
    tells = ruled.tells;
    sessions = ruled.sessions;
  }

  counted_works : (me : EdgeId) (network : NetworkState) → IsRuledNetwork plan network
      → WorksRuled plan network.edges me.0 (counted (network.edges me.0)) (held_at network me.0) (changes counted (begin_at network me))
  unfolding changes with_ticks with_kept
  counted_works me network ruled = record {
    edge = counted_edge me.0 (network.edges me.0) (ruled.edges me.0);
    keeps = names_same (counted (network.edges me.0));
    left = λ place away. record {
      messages = [];
      octets = refl;
      ruled = tt;
      bound = (ruled.two me.0 place (apart_back place me.0 away)).1.bound;
      inward = inl (refl, refl);
    };
  }

  pub tick_at_ruled : (me : EdgeId) (network : NetworkState) → IsRuledNetwork plan network → IsTickedAt plan network (tick_at plan me network).state me.0
  tick_at_ruled me network ruled =
      let first : EdgeState = counted (network.edges me.0) in
      let work : Work = tick_input plan taken_all (begin_at network me) in
      let works : WorksRuled plan network.edges me.0 first (held_at network me.0) work =
      tick_ruled plan checked types network.edges me first (held_at network me.0) (begin_at network me) (counted_works me network ruled) in
      let is : (first.me ≡ (network.edges me.0).me) × (first.ends ≡ (network.edges me.0).ends) = counted_is (network.edges me.0) in
      let settled : IsSettledIn plan network (tick_at plan me network).state me.0 work.edge =
      ruled_in plan network me 0 0 first (held_at network me.0) work (λ a b apart away gone. ruled.two a b apart) (λ a away. ruled.edges a) (is.0 ∙ (ruled.edges me.0).place) works
      (λ place away. rules_mentioned plan me.0 place (network.edges me.0) first (network.edges place) (network.edges place) (flight network me.0 place) is.0 refl refl
      (counted_mentions place (network.edges me.0)) (λ wire label may. may) (ruled.two me.0 place (apart_back place me.0 away)).0)
      (λ place away. subst (λ (l : List ℕ). RulesTo plan place me.0 (network.edges place) first (l ++ network.pipes place me.0)) (held_again ((network.edges me.0).peering place))
      (rules_mentioned plan place me.0 (network.edges place) (network.edges place) (network.edges me.0) first (flight network place me.0) refl is.0 is.1
      (λ wire label may. may) (counted_mentions place (network.edges me.0)) (ruled.two me.0 place (apart_back place me.0 away)).1)) in
      record {
        ruled = settled.ruled;
        own = subst (Grows (network.edges me.0)) (sym settled.own)
            (λ wire peer age label young may. works.keeps.names wire peer label (Some (age + 1)) (counted_carried (network.edges me.0) wire peer age label young may));
        other = settled.other;
      }

  ticks_ruled : (place count : ℕ) (network : NetworkState) → IsRuledNetwork plan network → AreTicked plan place network (ticks_from plan place count network).state
  ticks_ruled place zero network ruled = record {
    ruled = ruled;
    before = λ k under. carries_same (network.edges k);
    after = λ k over wire peer age label young may. may_grow (network.edges k) wire peer age label may;
  }
  ticks_ruled place (suc count) network ruled =
      let next : NetworkState = (tick_at plan (record { 0 = place }) network).state in
      let last : NetworkState = (ticks_from plan (place + 1) count next).state in
      let one : IsTickedAt plan network next place = tick_at_ruled (record { 0 = place }) network ruled in
      let rest : AreTicked plan (place + 1) next last = ticks_ruled (place + 1) count next one.ruled in
      record {
        ruled = rest.ruled;
        before = λ k under wire peer age label may. rest.before k (omega (arith, under)) wire peer age label
            (subst (λ (e : EdgeState). MayCarry e wire peer age label) (sym (one.other k (ne_eqb k place (λ same. absurd (omega (arith, same, under)))))) may);
        after = λ k over. split {P = Grows (network.edges k) (last.edges k)} (nat_eq k place)
            (λ is wire peer age label young may.
            let at : k ≡ place = eqb-true k place is in
            rest.before k (omega (arith, at)) wire peer (age + 1) label
            (subst (λ (n : ℕ). MayCarry (next.edges n) wire peer (age + 1) label) (sym at)
            (one.own wire peer age label young (subst (λ (n : ℕ). MayCarry (network.edges n) wire peer age label) at may))))
            (λ away wire peer age label young may. rest.after k (behind k place over away) wire peer age label young
            (subst (λ (e : EdgeState). MayCarry e wire peer age label) (sym (one.other k away)) may));
      }
    where
      behind : (k place : ℕ) → place ≤ k → nat_eq k place ≡ false → place + 1 ≤ k
      behind k place over away = grind (arith, nat_tests)

  pub older_ruled : (network : NetworkState) → IsRuledNetwork plan network → IsRuledNetwork plan (with_older network)
  unfolding with_older
  older_ruled network ruled = record { edges = ruled.edges; two = λ a b apart. ruled.two a b apart }

  older_edges : (network : NetworkState) → (with_older network).edges ≡ network.edges
  unfolding with_older
  older_edges network = refl

  -- a tick makes each packet older
  pub tick_event_ruled : (network : NetworkState) → IsRuledNetwork plan network → IsTicked plan network (tick_event plan network).state
  tick_event_ruled network ruled =
      let all : AreTicked plan 0 (with_older network) (tick_event plan network).state = ticks_ruled 0 (length plan.edges) (with_older network) (older_ruled network ruled) in
      record {
        ruled = all.ruled;
        grows = λ k. subst (λ (f : ℕ → EdgeState). Grows (f k) ((tick_event plan network).state.edges k)) (older_edges network) (all.after k (omega arith));
      }

  -- ---- circuits, wires and failure bits

  pub circuit_event_ruled : (circuit : CircuitId) (on : Bool) (row : Option CircuitPlan) (network : NetworkState) → IsRuledNetwork plan network
      → StaysRuled plan network (circuit_event plan circuit on row network).state
  circuit_event_ruled circuit on None network ruled = stays_ruled plan network ruled
  circuit_event_ruled circuit on (Some row) network ruled = by_test (is_own begun.edge row && not (is_same on (is_on begun.edge circuit))) where
    begun : Work
    begun = begin_at network row.edge

    works : At network row.edge begun
    works = ruled_begin plan network row.edge ruled

    by_test : (b : Bool) → StaysRuled plan network (answer row.edge 0 0 (cond b (mends plan taken_all (changes (turned plan circuit row on) begun)) (idles begun)) network).state
    by_test true = ruled_answer plan network row.edge 0 0 (mends plan taken_all (changes (turned plan circuit row on) begun)) ruled
        (circuit_ruled plan checked types network.edges row.edge (network.edges row.edge.0) (held_at network row.edge.0) circuit row on begun works)
    by_test false = ruled_answer plan network row.edge 0 0 (idles begun) ruled
        (idle_ruled plan checked types network.edges row.edge (network.edges row.edge.0) (held_at network row.edge.0) begun works)

  pub wire_event_ruled : (me : EdgeId) (wire : WireId) (on : Bool) (network : NetworkState) → IsRuledNetwork plan network → StaysRuled plan network (wire_event plan me wire on network).state
  wire_event_ruled me wire on network ruled = by_test (passes plan begun.edge.me wire && not (is_same on (begun.edge.wire_on wire.0))) where
    begun : Work
    begun = begin_at network me

    works : At network me begun
    works = ruled_begin plan network me ruled

    by_test : (b : Bool) → StaysRuled plan network (answer me 0 0 (cond b (mends plan taken_all (changes (turned_wire wire on) begun)) (idles begun)) network).state
    by_test true = ruled_answer plan network me 0 0 (mends plan taken_all (changes (turned_wire wire on) begun)) ruled
        (wire_ruled plan checked types network.edges me (network.edges me.0) (held_at network me.0) wire on begun works)
    by_test false = ruled_answer plan network me 0 0 (idles begun) ruled (idle_ruled plan checked types network.edges me (network.edges me.0) (held_at network me.0) begun works)

  pub status_event_ruled : (me : EdgeId) (wire : WireId) (bits : ℕ) (network : NetworkState) → bits ≤ 31 → IsRuledNetwork plan network
      → StaysRuled plan network (status_event plan me wire bits network).state
  status_event_ruled me wire bits network low ruled = by_test (ends_here plan begun.edge.me wire && not (nat_eq bits (begun.edge.bits wire.0))) where
    begun : Work
    begun = begin_at network me

    works : At network me begun
    works = ruled_begin plan network me ruled

    by_test : (b : Bool) → StaysRuled plan network (answer me 0 0 (cond b (mends plan taken_all (changes (with_bits wire bits) begun)) (idles begun)) network).state
    by_test true = ruled_answer plan network me 0 0 (mends plan taken_all (changes (with_bits wire bits) begun)) ruled
        (status_ruled plan checked types network.edges me (network.edges me.0) (held_at network me.0) wire bits begun low works)
    by_test false = ruled_answer plan network me 0 0 (idles begun) ruled (idle_ruled plan checked types network.edges me (network.edges me.0) (held_at network me.0) begun works)

  pub priority_event_ruled : (me : EdgeId) (wire : WireId) (priority : ℕ) (network : NetworkState) → IsRuledNetwork plan network
      → StaysRuled plan network (priority_event plan me wire priority network).state
  priority_event_ruled me wire priority network ruled = by_test (is_own_spoke begun.edge.me (wire_row plan wire) && not (nat_eq priority (begun.edge.priority wire.0))) where
    begun : Work
    begun = begin_at network me

    works : At network me begun
    works = ruled_begin plan network me ruled

    by_test : (b : Bool) → StaysRuled plan network (answer me 0 0 (cond b (mends plan taken_all (changes (with_priority wire priority) begun)) (idles begun)) network).state
    by_test true = ruled_answer plan network me 0 0 (mends plan taken_all (changes (with_priority wire priority) begun)) ruled
        (priority_ruled plan checked types network.edges me (network.edges me.0) (held_at network me.0) wire priority begun works)
    by_test false = ruled_answer plan network me 0 0 (idles begun) ruled (idle_ruled plan checked types network.edges me (network.edges me.0) (held_at network me.0) begun works)

  pub ping_event_ruled : (me : EdgeId) (wire : WireId) (network : NetworkState) → IsRuledNetwork plan network → StaysRuled plan network (ping_event plan me wire network).state
  ping_event_ruled me wire network ruled =
      ruled_answer plan network me 0 0 (ping_work plan network me wire) ruled
      (ping_ruled plan checked types network.edges me (network.edges me.0) (held_at network me.0) taken_all wire (begin_at network me) (ruled_begin plan network me ruled))

  -- ---- frames

  frame_ruled : (network : NetworkState) → IsRuledNetwork plan network → IsRuledNetwork plan (with_frame network)
  unfolding with_frame
  frame_ruled network ruled = record { edges = ruled.edges; two = λ a b apart. ruled.two a b apart }

  frame_work_ruled : (network : NetworkState) (me : EdgeId) (work : Work) → At network me work → At (with_frame network) me work
  unfolding with_frame
  frame_work_ruled network me work works = works

  framed : (network after : NetworkState) → StaysRuled plan (with_frame network) after → StaysRuled plan network after
  unfolding with_frame
  framed network after stays = record { ruled = stays.ruled; keeps = stays.keeps }

  entering_ruled : (network : NetworkState) (circuit : CircuitId) (octets : List ℕ) (row : CircuitPlan) (work : Work) → IsRuledNetwork plan network → At network row.edge work
      → StaysRuled plan network (entering network circuit octets row work).state
  unfolding with_frame
  entering_ruled network circuit octets row work ruled works =
      framed network _ (ruled_work plan (with_frame network) row.edge (next_origin network) 0 work (frame_ruled network ruled) (frame_work_ruled network row.edge work works))

  pub frame_event_ruled : (circuit : CircuitId) (octets : List ℕ) (row : Option CircuitPlan) (network : NetworkState) → IsRuledNetwork plan network
      → StaysRuled plan network (frame_event plan circuit octets row network).state
  frame_event_ruled circuit octets None network ruled = stays_ruled plan network ruled
  frame_event_ruled circuit octets (Some row) network ruled = by_test (is_own begun.edge row && is_on begun.edge circuit) where
    begun : Work
    begun = begin_at network row.edge

    works : At network row.edge begun
    works = ruled_begin plan network row.edge ruled

    full : Work
    full = received plan taken_all (arrival.Circuit circuit) row.service (port_at plan begun.edge circuit row) (inner_at plan circuit octets) begun

    either : (b : Bool) (work : Work) → At network row.edge work → StaysRuled plan network (cond b (idle network) (entering network circuit octets row work)).state
    either true work w = stays_ruled plan network ruled
    either false work w = entering_ruled network circuit octets row work ruled w

    by_test : (b : Bool) → StaysRuled plan network (cond (cond b full (idles begun)).idle (idle network) (entering network circuit octets row (cond b full (idles begun)))).state
    by_test true = either full.idle full (received_ruled plan checked types network.edges row.edge (network.edges row.edge.0) (held_at network row.edge.0) taken_all
        (arrival.Circuit circuit) row.service (port_at plan begun.edge circuit row) (inner_at plan circuit octets) begun works)
    by_test false = either (idles begun).idle (idles begun) (idle_ruled plan checked types network.edges row.edge (network.edges row.edge.0) (held_at network row.edge.0) begun works)

  -- ---- packets

  arrived_ruled : (number : ℕ) (network : NetworkState) → IsRuledNetwork plan network → StaysRuled plan network (without_packet number network)
  unfolding without_packet
  arrived_ruled number network ruled = record { ruled = record { edges = ruled.edges; two = λ a b apart. ruled.two a b apart }; keeps = λ k. carries_same (network.edges k) }

  arrived_work_ruled : (number : ℕ) (network : NetworkState) (me : EdgeId) (work : Work) → At network me work → At (without_packet number network) me work
  unfolding without_packet
  arrived_work_ruled number network me work works = works

  repeated_ruled : (packet : Packet) (network : NetworkState) → IsRuledNetwork plan network → StaysRuled plan network (repeating packet network).state
  unfolding with_copy
  repeated_ruled packet network ruled = record { ruled = record { edges = ruled.edges; two = λ a b apart. ruled.two a b apart }; keeps = λ k. carries_same (network.edges k) }

  pub arrive_event_ruled : (packet : Option Packet) (network : NetworkState) → IsRuledNetwork plan network → StaysRuled plan network (arrive_event plan packet network).state
  arrive_event_ruled None network ruled = stays_ruled plan network ruled
  arrive_event_ruled (Some packet) network ruled =
      let gone : StaysRuled plan network (without_packet packet.number network) = arrived_ruled packet.number network ruled in
      stays_then plan network (without_packet packet.number network) (arrive_event plan (Some packet) network).state gone
      (ruled_work plan (without_packet packet.number network) packet.to packet.origin packet.hops (packet_work plan network packet) gone.ruled
      (arrived_work_ruled packet.number network packet.to (packet_work plan network packet)
      (packet_ruled plan checked types network.edges packet.to (network.edges packet.to.0) (held_at network packet.to.0) taken_all packet.bytes (begin_at network packet.to)
      (ruled_begin plan network packet.to ruled))))

  pub discard_event_ruled : (packet : Option Packet) (network : NetworkState) → IsRuledNetwork plan network → StaysRuled plan network (discard_event packet network).state
  discard_event_ruled None network ruled = stays_ruled plan network ruled
  discard_event_ruled (Some packet) network ruled = arrived_ruled packet.number network ruled

  pub again_event_ruled : (packet : Option Packet) (network : NetworkState) → IsRuledNetwork plan network → StaysRuled plan network (again_event packet network).state
  again_event_ruled None network ruled = stays_ruled plan network ruled
  again_event_ruled (Some packet) network ruled = repeated_ruled packet network ruled

  -- ---- an edge restarts

  restart_work_ruled : (me : EdgeId) (network : NetworkState) → IsRuledNetwork plan network
      → WorksRuled plan network.edges me.0 (network.edges me.0) (λ place. None) (restart_input (begin_at network me))
  unfolding changes with_learned without_peerings without_ends with_kept
  restart_work_ruled me network ruled =
      let begun : At network me (begin_at network me) = ruled_begin plan network me ruled in
      steps_keep plan network.edges me.0 (network.edges me.0) (held_at network me.0) (λ place. None) (begin_at network me) (restart_input (begin_at network me)) (record {
        place = refl;
        keeps = names_restarted (network.edges me.0);
        most = begun.edge.most;
        bits = begun.edge.bits;
        tells = λ wire k. fresh_tells plan me.0 wire k;
        sessions = λ k. tt;
        each = λ place away. record { messages = []; octets = refl; ruled = tt; bound = λ wire. tt; inward = inl (refl, refl) };
      }) begun

  restart_out : (me : EdgeId) (place : ℕ) (network : NetworkState) → nat_eq place me.0 ≡ false → flight (without_octets_to me network) me.0 place ≡ flight network me.0 place
  restart_out me place network away = rw (same_edges me network, away_from me network me.0 place away) refl

  restart_others : (me : EdgeId) (network : NetworkState) → IsRuledNetwork plan network → HoldsBut (FromBoth (OutRules plan)) me.0 (without_octets_to me network)
  restart_others me network ruled a b apart away gone = rw (same_edges me network, away_from me network a b gone, away_from me network b a away) (ruled.two a b apart)

  emptied : (me : EdgeId) (network after : NetworkState) → StaysRuled plan (without_octets_to me network) after → StaysRuled plan network after
  unfolding without_octets_to
  emptied me network after stays = record { ruled = stays.ruled; keeps = stays.keeps }

  pub restart_event_ruled : (me : EdgeId) (network : NetworkState) → IsRuledNetwork plan network → StaysRuled plan network (restart_event me network).state
  restart_event_ruled me network ruled =
      emptied me network _ (ruled_settle plan (without_octets_to me network) me 0 0 (network.edges me.0) (λ place. None) (restart_input (begin_at network me)) (restart_others me network ruled)
      (λ a away. subst (λ (f : ℕ → EdgeState). IsRuledEdge plan a (f a)) (sym (same_edges me network)) (ruled.edges a))
      (ruled.edges me.0).place
      (subst (λ (f : ℕ → EdgeState). WorksRuled plan f me.0 (network.edges me.0) (λ place. None) (restart_input (begin_at network me))) (sym (same_edges me network))
      (restart_work_ruled me network ruled))
      (λ place away. subst (λ (f : ℕ → EdgeState). RulesTo plan me.0 place (network.edges me.0) (f place) (flight (without_octets_to me network) me.0 place)) (sym (same_edges me network))
      (subst (RulesTo plan me.0 place (network.edges me.0) (network.edges place)) (sym (restart_out me place network away)) (ruled.two me.0 place (apart_back place me.0 away)).0))
      (λ place away. subst (λ (f : ℕ → EdgeState). RulesTo plan place me.0 (f place) (network.edges me.0) ([] ++ (without_octets_to me network).pipes place me.0)) (sym (same_edges me network))
      (subst (λ (l : List ℕ). RulesTo plan place me.0 (network.edges place) (network.edges me.0) ([] ++ l)) (sym (none_left me network place))
      (record { messages = []; octets = refl; ruled = tt; bound = (ruled.two me.0 place (apart_back place me.0 away)).1.bound })))
      (subst (λ (f : ℕ → EdgeState). KeepsNames (f me.0) (network.edges me.0)) (sym (same_edges me network)) (names_same (network.edges me.0))))
