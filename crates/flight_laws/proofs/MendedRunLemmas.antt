-- In every state of a run each edge has mended: its ends tell what they should.
use Rattle.std.proofs.Common.{◌≡◌, ◌+◌, ◌==◌, ◌&&◌, ◌∙◌, map, position, option_and_then, option_map, arith, ℕ, zero, suc, Bool, true, false, not, cond, drop, take, length, nat_eq, List, [], ◌∷◌, Option, Some, None, slice_get, refl, sym, ap, subst, inl, inr}
use Rattle.std.proofs.lemmas.Bool.{cases_Bool, eqb-true}
use Rattle.std.specs.List.{AllByRecursion, position_or_len}
use Rattle.net_values.proofs.NumberLemmas.{not_below_itself}
use Rattle.net_base.specs.declared.plan.Plan.{Plan}
use Rattle.net_base.specs.declared.plan.circuit_plan.CircuitPlan.{CircuitPlan}
use Rattle.net_base.specs.declared.plan.edge_plan.EdgePlan.{EdgePlan}
use Rattle.net_base.specs.declared.plan.places.CircuitId.{CircuitId}
use Rattle.net_base.specs.declared.plan.places.EdgeId.{EdgeId}
use Rattle.net_base.specs.declared.plan.places.WireId.{WireId}
use Rattle.net_base.specs.declared.plan.wire_plan.WirePlan.{WirePlan}
use Rattle.net_base.specs.declared.trace.event.Event.{Event}
use Rattle.net_base.specs.declared.trace.event.Event.TheVariants.{Connect, Deliver, Lose, Restart, Tick, Frame, Arrive, Discard, Again, Wire, Circuit, Status, Priority, Ping}
use Rattle.net_base.specs.declared.trace.state_name.Reason.TheVariants as reason
use Rattle.net_base.specs.plan.Accepted.{IsChecked}
use Rattle.net_base.specs.plan.Paths.{are_joined}
use Rattle.net_base.specs.plan.Places.{circuit_row, wire_row}
use Rattle.pw_signalling.specs.declared.told.Told.{Told}
use Rattle.pw_signalling.specs.End.{fresh}
use Rattle.session_core.specs.Table.{Closed}
use Rattle.edge_model.specs.Circuit.{circuit_input, is_same, turned}
use Rattle.edge_model.specs.Connection.{connected_input, connects, connects_between, lost_input, opened_with, restart_input}
use Rattle.edge_model.specs.declared.effect.Effect.{Effect}
use Rattle.edge_model.specs.declared.end_place.EndPlace.{EndPlace}
use Rattle.edge_model.specs.EndPlaces.{end_places, ends_here, passes}
use Rattle.edge_model.specs.Frame.{frame_input, is_own}
use Rattle.edge_model.specs.Hear.{hears_on, octets_input}
use Rattle.edge_model.specs.Mend.{is_up_with, mends, wish_by, wish_of}
use Rattle.edge_model.specs.Packet.{packet_input}
use Rattle.edge_model.specs.Session.{happens_with_ends}
use Rattle.edge_model.specs.State.{EdgeState, Peering, empty_edge, has_end, with_addresses, with_bits, with_circuit, with_learned, with_priority, with_renewed, with_wire, without_ends, without_peerings, with_kept}
use Rattle.edge_model.specs.Ping.{ping_input}
use Rattle.edge_model.specs.Tick.{counted, forgetting, tick_input, ticks_sessions}
use Rattle.edge_model.specs.Wire.{is_own_spoke, priority_input, status_input, turned_wire, wire_input}
use Rattle.edge_model.specs.Work.{Work, changes, idles}
use Rattle.edge_model.specs.Spokes.{choice, spoke_at, spoke_places}
use Rattle.edge_model.proofs.ChoiceLemmas.{HasChosen}
use Rattle.spoke_redundancy.specs.Choice.{is_best}
use Rattle.spoke_redundancy.specs.declared.spoke.Spoke.{Spoke}
use Rattle.pw_signalling.specs.declared.end_role.EndRole.TheVariants as role
use Rattle.pw_signalling.specs.Down.{down}
use Rattle.net_base.specs.declared.trace.down.Down.TheVariants as cause
use Rattle.edge_model.proofs.BridgeLemmas.{LearnsOnly, PingsInput, frame_bridges, learns_is, packet_bridges, ping_bridges}
use Rattle.edge_model.specs.Settled.{is_mended, is_told}
use Rattle.edge_model.proofs.MendedLemmas.{IsMended, mends_mended}
use Rattle.edge_model.proofs.OneEndLemmas.{has_one_end}
use Rattle.edge_model.proofs.SessionLemmas.{any, connects_works, happens_with_ends_works}
use Rattle.edge_model.proofs.SignalLemmas.{hears_on_signals, mends_signals, tick_works}
use Rattle.edge_model.proofs.SyncLemmas.{all_of}
use Rattle.network_model.specs.Absorb.{absorb, absorb_all, answer, begin_at, idle, taken_all}
use Rattle.network_model.specs.Circuit.{circuit_event}
use Rattle.network_model.specs.Connection.{can_connect, connect_event, connected_work, connecting, deliver_event, delivering, hearing_work, is_deliverable, is_drained_pipe, lose_event, losing, losing_work, restart_event}
use Rattle.network_model.specs.declared.packet.Packet.{Packet}
use Rattle.network_model.specs.Frame.{entering, frame_event, frame_work, next_origin}
use Rattle.network_model.specs.Packet.{again_event, arrive_event, discard_event, packet_at, packet_work}
use Rattle.network_model.specs.Ping.{ping_event, ping_work}
use Rattle.network_model.specs.Run.{state_after}
use Rattle.network_model.specs.State.{NetworkState, edge_at, empty_network, stands, with_copy, with_edge, with_frame, with_older, with_pipe, without_octets_to, without_packet}
use Rattle.network_model.specs.Step.{step}
use Rattle.network_model.specs.Tick.{tick_at, ticks_from}
use Rattle.network_model.specs.Wire.{priority_event, status_event, wire_event}
use Rattle.network_model.proofs.AbsorbLemmas.{all_keep}
use Rattle.network_model.proofs.EdgeLemmas.{HoldsOfEach}
use Rattle.flight_laws.specs.Laws.{IsRun, network_after}

-- ---- an edge that has mended

-- the edge is at its place, each of its ends tells what it should, and the status of now, and it has chosen among its spokes
pub record IsMendedAt (plan : Plan) (k : ℕ) (edge : EdgeState) : Type 0 where
  pub me : edge.me ≡ record { 0 = k }
  pub ends : AllByRecursion (λ place. is_mended plan edge place ≡ true) (end_places plan (record { 0 = k }))
  pub statuses : AllByRecursion (λ place. is_told plan edge place ≡ true) (end_places plan (record { 0 = k }))
  pub chosen : HasChosen plan edge

pub mended_at : (plan : Plan) (k : ℕ) (edge : EdgeState) → edge.me ≡ record { 0 = k } → IsMended plan edge → IsMendedAt plan k edge
mended_at plan k edge me mended = record {
  me = me;
  ends = subst (λ (e : EdgeId). AllByRecursion (λ place. is_mended plan edge place ≡ true) (end_places plan e)) me mended.ends;
  statuses = subst (λ (e : EdgeId). AllByRecursion (λ place. is_told plan edge place ≡ true) (end_places plan e)) me mended.statuses;
  chosen = mended.chosen;
}

silent_wish : (plan : Plan) (edge : EdgeState) (place : EndPlace) (row : Option WirePlan) → edge.peering place.peer.0 ≡ None → wish_of plan edge place row ≡ None
silent_wish plan edge place None none = refl
silent_wish plan edge place (Some row) none = by (edge.wire_on place.wire.0) (wish_by plan edge place row) where
  low : is_up_with (edge.peering place.peer.0) ≡ false
  low = ap is_up_with none

  by : (on : Bool) (wished : Option Told) → cond (on && is_up_with (edge.peering place.peer.0)) wished None ≡ None
  by true wished = ap (λ (b : Bool). cond b wished None) low
  by false wished = refl

-- an end of which nothing was told would not forward
fresh_down : (bits : ℕ) → down role.Chosen bits fresh ≡ Some cause.NoLocal
unfolding down
fresh_down bits = refl

-- none of its spokes is chosen
unused_len : (edge : EdgeState) (spokes : List Spoke) (places : List EndPlace) → ((wire peer : ℕ) → edge.ends wire peer ≡ fresh)
    → position_or_len (is_best spokes) (map (spoke_at edge) places) ≡ length (map (spoke_at edge) places)
unused_len edge spokes [] ends = refl
unused_len edge spokes (place ∷ places) ends = rw unused (one_more (unused_len edge spokes places ends)) where
  unused : is_best spokes (spoke_at edge place) ≡ false
  unused = rw (ends place.wire.0 place.peer.0, fresh_down (edge.bits place.wire.0)) refl

  one_more : {m n : ℕ} → m ≡ n → 1 + m ≡ suc n
  one_more e = omega arith

none_best : (edge : EdgeState) (spokes : List Spoke) (places : List EndPlace) → ((wire peer : ℕ) → edge.ends wire peer ≡ fresh) → position (is_best spokes) (map (spoke_at edge) places) ≡ None
none_best edge spokes places ends = rw (unused_len edge spokes places ends, not_below_itself (length (map (spoke_at edge) places))) refl

silent_choice : (plan : Plan) (edge : EdgeState) → ((wire peer : ℕ) → edge.ends wire peer ≡ fresh) → (service : ℕ) → choice plan edge (record { 0 = service }) ≡ None
silent_choice plan edge ends service =
    let places : List EndPlace = spoke_places plan edge.me (record { 0 = service }) in
    ap (λ (o : Option ℕ). option_map (λ (place : EndPlace). place.wire) (option_and_then (slice_get places) o)) (none_best edge (map (spoke_at edge) places) places ends)

silent_mended : (plan : Plan) (k : ℕ) (edge : EdgeState) → edge.me ≡ record { 0 = k } → ((wire peer : ℕ) → edge.ends wire peer ≡ fresh) → ((peer : ℕ) → edge.peering peer ≡ None)
    → ((service : ℕ) → edge.chosen service ≡ None) → IsMendedAt plan k edge
silent_mended plan k edge me ends none unchosen = record {
  chosen = λ service. unchosen service ∙ sym (silent_choice plan edge ends service);
  me = me;
  ends = all_of (λ place. is_mended plan edge place ≡ true)
      (λ place. rw (ends place.wire.0 place.peer.0, silent_wish plan edge place (wire_row plan place.wire) (none place.peer.0)) refl) (end_places plan (record { 0 = k }));
  statuses = all_of (λ place. is_told plan edge place ≡ true) (λ place. rw (ends place.wire.0 place.peer.0) refl) (end_places plan (record { 0 = k }));
}

-- ---- each input

pub turned_me : (plan : Plan) (circuit : CircuitId) (on : Bool) (row : CircuitPlan) (work : Work) → (changes (turned plan circuit row on) work).edge.me ≡ work.edge.me
unfolding changes with_circuit with_addresses
turned_me plan circuit true row work = refl
turned_me plan circuit false row work = refl

pub turned_wire_me : (wire : WireId) (on : Bool) (work : Work) → (changes (turned_wire wire on) work).edge.me ≡ work.edge.me
unfolding changes with_wire with_renewed
turned_wire_me wire true work = refl
turned_wire_me wire false work = refl

module _ (plan : Plan) (checked : IsChecked plan) where
  mends_mend : (k : ℕ) (work : Work) → work.edge.me ≡ record { 0 = k } → IsMendedAt plan k (mends plan taken_all work).edge
  mends_mend k work me = mended_at plan k (mends plan taken_all work).edge ((mends_signals plan taken_all work).edge.me ∙ me)
      (mends_mended plan taken_all work (λ i. refl) (has_one_end plan work.edge.me checked))

  module _ (k : ℕ) (work : Work) (mended : IsMendedAt plan k work.edge) where
    idles_mend : IsMendedAt plan k (idles work).edge
    unfolding idles
    idles_mend = mended

    applies_mend : (applies : Bool) (done : Work) → done.edge.me ≡ work.edge.me → IsMendedAt plan k (cond applies (mends plan taken_all done) (idles work)).edge
    applies_mend true done same = mends_mend k done (same ∙ mended.me)
    applies_mend false done same = idles_mend

    connected_mend : (peer : EdgeId) → IsMendedAt plan k (connected_input plan taken_all peer work).edge
    connected_mend peer = by (are_joined plan work.edge.me.0 peer.0 && not (has_end work.edge peer)) where
      between : (own other : Option EdgePlan) → IsMendedAt plan k (connects_between plan taken_all peer own other work).edge
      between None other = idles_mend
      between (Some own) None = idles_mend
      between (Some own) (Some other) = mends_mend k (connects taken_all peer (opened_with own other) work) ((connects_works taken_all any peer (opened_with own other) work refl).edge.me ∙ mended.me)

      by : (b : Bool) → IsMendedAt plan k (cond b (connects_between plan taken_all peer (slice_get plan.edges work.edge.me.0) (slice_get plan.edges peer.0) work) (idles work)).edge
      by true = between (slice_get plan.edges work.edge.me.0) (slice_get plan.edges peer.0)
      by false = idles_mend

    octets_mend : (peer : EdgeId) (octets : List ℕ) (kept : Option Peering) → IsMendedAt plan k (octets_input plan taken_all peer octets kept work).edge
    octets_mend peer octets None = idles_mend
    octets_mend peer octets (Some kept) = mends_mend k (hears_on plan taken_all peer octets (Some kept) work) ((hears_on_signals plan taken_all peer octets (Some kept) work).edge.me ∙ mended.me)

    lost_mend : (peer : EdgeId) → IsMendedAt plan k (lost_input plan taken_all peer work).edge
    lost_mend peer = applies_mend (has_end work.edge peer) (happens_with_ends taken_all peer (Closed reason.Closed) work)
        (happens_with_ends_works taken_all any peer (Closed reason.Closed) work refl).edge.me

    restart_mend : IsMendedAt plan k (restart_input work).edge
    unfolding changes without_ends with_learned without_peerings with_kept
    restart_mend = silent_mended plan k (restart_input work).edge mended.me (λ wire peer. refl) (λ peer. refl) (λ service. refl)

    tick_mend : IsMendedAt plan k (tick_input plan taken_all work).edge
    tick_mend = mended_at plan k (tick_input plan taken_all work).edge ((tick_works plan taken_all work).me ∙ mended.me)
        (mends_mended plan taken_all (changes (forgetting plan) (ticks_sessions taken_all 0 (length plan.edges) (changes counted work))) (λ i. refl)
        (has_one_end plan (changes (forgetting plan) (ticks_sessions taken_all 0 (length plan.edges) (changes counted work))).edge.me checked))

    learns_mend : (new : EdgeState) → LearnsOnly work.edge new → IsMendedAt plan k new
    learns_mend new only = subst (IsMendedAt plan k) (sym (learns_is work.edge new only)) (record { me = mended.me; ends = mended.ends; statuses = mended.statuses; chosen = mended.chosen })

    circuit_mend : (circuit : CircuitId) (on : Bool) (row : Option CircuitPlan) → IsMendedAt plan k (circuit_input plan taken_all circuit on row work).edge
    circuit_mend circuit on None = idles_mend
    circuit_mend circuit on (Some row) = applies_mend (is_own work.edge row && not (is_same on (Rattle.edge_model.specs.State.is_on work.edge circuit)))
        (changes (turned plan circuit row on) work) (turned_me plan circuit on row work)

    frame_mend : (circuit : CircuitId) (octets : List ℕ) (row : Option CircuitPlan) → IsMendedAt plan k (frame_input plan taken_all circuit octets row work).edge
    frame_mend circuit octets row = learns_mend (frame_input plan taken_all circuit octets row work).edge (frame_bridges plan taken_all circuit octets row work).edge

    packet_mend : (octets : List ℕ) → IsMendedAt plan k (packet_input plan taken_all octets work).edge
    packet_mend octets = learns_mend (packet_input plan taken_all octets work).edge (packet_bridges plan taken_all octets work).edge

    ping_mend : (wire : WireId) → IsMendedAt plan k (ping_input plan taken_all wire work).edge
    ping_mend wire =
        let pings : PingsInput work (ping_input plan taken_all wire work) = ping_bridges plan taken_all wire work in
        subst (IsMendedAt plan k) (sym pings.edge) (record { me = mended.me; ends = mended.ends; statuses = mended.statuses; chosen = mended.chosen })

    wire_mend : (wire : WireId) (on : Bool) → IsMendedAt plan k (wire_input plan taken_all wire on work).edge
    wire_mend wire on = applies_mend (passes plan work.edge.me wire && not (is_same on (work.edge.wire_on wire.0))) (changes (turned_wire wire on) work) (turned_wire_me wire on work)

    status_mend : (wire : WireId) (bits : ℕ) → IsMendedAt plan k (status_input plan taken_all wire bits work).edge
    unfolding changes with_bits
    status_mend wire bits = applies_mend (ends_here plan work.edge.me wire && not (bits == work.edge.bits wire.0)) (changes (with_bits wire bits) work) refl

    priority_mend : (wire : WireId) (priority : ℕ) → IsMendedAt plan k (priority_input plan taken_all wire priority work).edge
    unfolding changes with_priority
    priority_mend wire priority = applies_mend (is_own_spoke work.edge.me (wire_row plan wire) && not (priority == work.edge.priority wire.0)) (changes (with_priority wire priority) work) refl

  -- ---- the network

  -- another state of an edge of which it holds
  edge_holds : (me : EdgeId) (edge : EdgeState) (network : NetworkState) → HoldsOfEach (IsMendedAt plan) network → IsMendedAt plan me.0 edge → HoldsOfEach (IsMendedAt plan) (with_edge me edge network)
  unfolding with_edge
  edge_holds me edge network holds here k = elim (cases_Bool (nat_eq k me.0)) [
    | inl same ↦ rw same (subst (λ (n : ℕ). IsMendedAt plan n edge) (sym (eqb-true k me.0 same)) here)
    | inr other ↦ rw other (holds k)
  ]

  all_hold : (me : EdgeId) (origin hops : ℕ) (es : List Effect) (network : NetworkState) → HoldsOfEach (IsMendedAt plan) network → HoldsOfEach (IsMendedAt plan) (absorb_all me origin hops es network)
  all_hold me origin hops es network holds k = subst (λ (edges : ℕ → EdgeState). IsMendedAt plan k (edges k)) (sym (all_keep me origin hops es network).edges) (holds k)

  absorb_holds : (me : EdgeId) (origin hops : ℕ) (work : Work) (network : NetworkState) → HoldsOfEach (IsMendedAt plan) network → IsMendedAt plan me.0 work.edge
      → HoldsOfEach (IsMendedAt plan) (absorb me origin hops work network).state
  absorb_holds me origin hops work network holds here = all_hold me origin hops work.effects (with_edge me work.edge network) (edge_holds me work.edge network holds here)

  answer_holds : (me : EdgeId) (origin hops : ℕ) (work : Work) (network : NetworkState) → HoldsOfEach (IsMendedAt plan) network → IsMendedAt plan me.0 work.edge
      → HoldsOfEach (IsMendedAt plan) (answer me origin hops work network).state
  answer_holds me origin hops work network holds here = by work.idle where
    by : (idles : Bool) → HoldsOfEach (IsMendedAt plan) (cond idles (idle network) (absorb me origin hops work network)).state
    by true = holds
    by false = absorb_holds me origin hops work network holds here

  -- ---- connections

  connecting_holds : (from to : EdgeId) (network : NetworkState) → HoldsOfEach (IsMendedAt plan) network
      → HoldsOfEach (IsMendedAt plan) (connecting from (connected_work plan network from to) to (connected_work plan network to from) network).state
  connecting_holds from to network holds =
      let first : Work = connected_work plan network from to in
      let second : Work = connected_work plan network to from in
      let one : NetworkState = with_edge from first.edge network in
      let both : NetworkState = with_edge to second.edge one in
      let here : HoldsOfEach (IsMendedAt plan) one = edge_holds from first.edge network holds (connected_mend from.0 (begin_at network from) (holds from.0) to) in
      let there : HoldsOfEach (IsMendedAt plan) both = edge_holds to second.edge one here (connected_mend to.0 (begin_at network to) (holds to.0) from) in
      all_hold to 0 0 second.effects (absorb_all from 0 0 first.effects both) (all_hold from 0 0 first.effects both there)

  connect_holds : (from to : EdgeId) (network : NetworkState) → HoldsOfEach (IsMendedAt plan) network → HoldsOfEach (IsMendedAt plan) (connect_event plan from to network).state
  connect_holds from to network holds = by (can_connect plan network from.0 to.0) where
    by : (connects : Bool) → HoldsOfEach (IsMendedAt plan) (cond connects (connecting from (connected_work plan network from to) to (connected_work plan network to from) network) (idle network)).state
    by true = connecting_holds from to network holds
    by false = holds

  losing_holds : (me peer : EdgeId) (network : NetworkState) → HoldsOfEach (IsMendedAt plan) network → HoldsOfEach (IsMendedAt plan) (losing plan me peer network).state
  losing_holds me peer network holds =
      let work : Work = losing_work plan network me peer in
      absorb_holds me 0 0 work network holds (lost_mend me.0 (begin_at network me) (holds me.0) peer)

  piped_holds : (from to : EdgeId) (octets : List ℕ) (network : NetworkState) → HoldsOfEach (IsMendedAt plan) network → HoldsOfEach (IsMendedAt plan) (with_pipe from to octets network)
  unfolding with_pipe
  piped_holds from to octets network holds = holds

  delivering_holds : (from to : EdgeId) (count : ℕ) (network : NetworkState) → HoldsOfEach (IsMendedAt plan) network → HoldsOfEach (IsMendedAt plan) (delivering plan from to count network).state
  delivering_holds from to count network holds =
      let octets : List ℕ = take count (network.pipes from.0 to.0) in
      let rest : List ℕ = drop count (network.pipes from.0 to.0) in
      let work : Work = hearing_work plan network from to octets in
      absorb_holds to 0 0 work (with_pipe from to rest network) (piped_holds from to rest network holds)
      (octets_mend to.0 (begin_at network to) (holds to.0) from octets ((edge_at network to).peering from.0))

  deliver_holds : (from to : EdgeId) (count : ℕ) (network : NetworkState) → HoldsOfEach (IsMendedAt plan) network → HoldsOfEach (IsMendedAt plan) (deliver_event plan from to count network).state
  deliver_holds from to count network holds = by (is_deliverable network from.0 to.0) (is_drained_pipe network from.0 to.0) where
    by : (applies drained : Bool) → HoldsOfEach (IsMendedAt plan) (cond applies (cond drained (losing plan to from network) (delivering plan from to count network)) (idle network)).state
    by true true = losing_holds to from network holds
    by true false = delivering_holds from to count network holds
    by false drained = holds

  lose_holds : (me peer : EdgeId) (network : NetworkState) → HoldsOfEach (IsMendedAt plan) network → HoldsOfEach (IsMendedAt plan) (lose_event plan me peer network).state
  lose_holds me peer network holds = by (stands network me.0 peer.0) where
    by : (applies : Bool) → HoldsOfEach (IsMendedAt plan) (cond applies (losing plan me peer network) (idle network)).state
    by true = losing_holds me peer network holds
    by false = holds

  emptied_holds : (me : EdgeId) (network : NetworkState) → HoldsOfEach (IsMendedAt plan) network → HoldsOfEach (IsMendedAt plan) (without_octets_to me network)
  unfolding without_octets_to
  emptied_holds me network holds = holds

  restart_holds : (me : EdgeId) (network : NetworkState) → HoldsOfEach (IsMendedAt plan) network → HoldsOfEach (IsMendedAt plan) (restart_event me network).state
  restart_holds me network holds =
      let work : Work = restart_input (begin_at network me) in
      absorb_holds me 0 0 work (without_octets_to me network) (emptied_holds me network holds) (restart_mend me.0 (begin_at network me) (holds me.0))

  -- ---- ticks, frames, circuits and wires

  ticks_hold : (place count : ℕ) (network : NetworkState) → HoldsOfEach (IsMendedAt plan) network → HoldsOfEach (IsMendedAt plan) (ticks_from plan place count network).state
  ticks_hold place zero network holds = holds
  ticks_hold place (suc count) network holds =
      let me : EdgeId = record { 0 = place } in
      let work : Work = tick_input plan taken_all (begin_at network me) in
      ticks_hold (place + 1) count (tick_at plan me network).state (absorb_holds me 0 0 work network holds (tick_mend me.0 (begin_at network me) (holds me.0)))

  entered_holds : (network : NetworkState) → HoldsOfEach (IsMendedAt plan) network → HoldsOfEach (IsMendedAt plan) (with_frame network)
  unfolding with_frame
  entered_holds network holds = holds

  frame_keeps : (circuit : CircuitId) (octets : List ℕ) (row : Option CircuitPlan) (network : NetworkState) → HoldsOfEach (IsMendedAt plan) network
      → HoldsOfEach (IsMendedAt plan) (frame_event plan circuit octets row network).state
  frame_keeps circuit octets None network holds = holds
  frame_keeps circuit octets (Some row) network holds = by (frame_work plan network circuit octets row).idle where
    by : (idles : Bool) → HoldsOfEach (IsMendedAt plan) (cond idles (idle network) (entering network circuit octets row (frame_work plan network circuit octets row))).state
    by true = holds
    by false =
        let work : Work = frame_work plan network circuit octets row in
        absorb_holds row.edge (next_origin network) 0 work (with_frame network) (entered_holds network holds)
        (frame_mend row.edge.0 (begin_at network row.edge) (holds row.edge.0) circuit octets (Some row))

  circuit_keeps : (circuit : CircuitId) (on : Bool) (row : Option CircuitPlan) (network : NetworkState) → HoldsOfEach (IsMendedAt plan) network
      → HoldsOfEach (IsMendedAt plan) (circuit_event plan circuit on row network).state
  circuit_keeps circuit on None network holds = holds
  circuit_keeps circuit on (Some row) network holds =
      let work : Work = circuit_input plan taken_all circuit on (Some row) (begin_at network row.edge) in
      answer_holds row.edge 0 0 work network holds (circuit_mend row.edge.0 (begin_at network row.edge) (holds row.edge.0) circuit on (Some row))

  wire_keeps : (me : EdgeId) (wire : WireId) (on : Bool) (network : NetworkState) → HoldsOfEach (IsMendedAt plan) network → HoldsOfEach (IsMendedAt plan) (wire_event plan me wire on network).state
  wire_keeps me wire on network holds =
      let work : Work = wire_input plan taken_all wire on (begin_at network me) in
      answer_holds me 0 0 work network holds (wire_mend me.0 (begin_at network me) (holds me.0) wire on)

  status_keeps : (me : EdgeId) (wire : WireId) (bits : ℕ) (network : NetworkState) → HoldsOfEach (IsMendedAt plan) network
      → HoldsOfEach (IsMendedAt plan) (status_event plan me wire bits network).state
  status_keeps me wire bits network holds =
      let work : Work = status_input plan taken_all wire bits (begin_at network me) in
      answer_holds me 0 0 work network holds (status_mend me.0 (begin_at network me) (holds me.0) wire bits)

  priority_keeps : (me : EdgeId) (wire : WireId) (priority : ℕ) (network : NetworkState) → HoldsOfEach (IsMendedAt plan) network
      → HoldsOfEach (IsMendedAt plan) (priority_event plan me wire priority network).state
  priority_keeps me wire priority network holds =
      let work : Work = priority_input plan taken_all wire priority (begin_at network me) in
      answer_holds me 0 0 work network holds (priority_mend me.0 (begin_at network me) (holds me.0) wire priority)

  ping_keeps : (me : EdgeId) (wire : WireId) (network : NetworkState) → HoldsOfEach (IsMendedAt plan) network → HoldsOfEach (IsMendedAt plan) (ping_event plan me wire network).state
  ping_keeps me wire network holds = answer_holds me 0 0 (ping_work plan network me wire) network holds (ping_mend me.0 (begin_at network me) (holds me.0) wire)

  -- ---- packets

  without_holds : (number : ℕ) (network : NetworkState) → HoldsOfEach (IsMendedAt plan) network → HoldsOfEach (IsMendedAt plan) (without_packet number network)
  unfolding without_packet
  without_holds number network holds = holds

  arrive_holds : (found : Option Packet) (network : NetworkState) → HoldsOfEach (IsMendedAt plan) network → HoldsOfEach (IsMendedAt plan) (arrive_event plan found network).state
  arrive_holds None network holds = holds
  arrive_holds (Some packet) network holds =
      let work : Work = packet_work plan network packet in
      absorb_holds packet.to packet.origin packet.hops work (without_packet packet.number network) (without_holds packet.number network holds)
      (packet_mend packet.to.0 (begin_at network packet.to) (holds packet.to.0) packet.bytes)

  discard_holds : (found : Option Packet) (network : NetworkState) → HoldsOfEach (IsMendedAt plan) network → HoldsOfEach (IsMendedAt plan) (discard_event found network).state
  discard_holds None network holds = holds
  discard_holds (Some packet) network holds = without_holds packet.number network holds

  older_holds : (network : NetworkState) → HoldsOfEach (IsMendedAt plan) network → HoldsOfEach (IsMendedAt plan) (with_older network)
  unfolding with_older
  older_holds network holds = holds

  again_holds : (found : Option Packet) (network : NetworkState) → HoldsOfEach (IsMendedAt plan) network → HoldsOfEach (IsMendedAt plan) (again_event found network).state
  unfolding with_copy
  again_holds None network holds = holds
  again_holds (Some packet) network holds = holds

  -- ---- runs

  event_holds : (event : Event) (network : NetworkState) → HoldsOfEach (IsMendedAt plan) network → HoldsOfEach (IsMendedAt plan) (step plan network event).state
  event_holds (Connect from to) network holds = connect_holds from to network holds
  event_holds (Deliver from to count) network holds = deliver_holds from to count network holds
  event_holds (Lose me peer) network holds = lose_holds me peer network holds
  event_holds (Restart me) network holds = restart_holds me network holds
  event_holds Tick network holds = ticks_hold 0 (length plan.edges) (with_older network) (older_holds network holds)
  event_holds (Frame circuit octets) network holds = frame_keeps circuit octets (circuit_row plan circuit) network holds
  event_holds (Circuit circuit on) network holds = circuit_keeps circuit on (circuit_row plan circuit) network holds
  event_holds (Wire me wire on) network holds = wire_keeps me wire on network holds
  event_holds (Status me wire bits) network holds = status_keeps me wire bits network holds
  event_holds (Priority me wire priority) network holds = priority_keeps me wire priority network holds
  event_holds (Arrive number) network holds = arrive_holds (packet_at network number) network holds
  event_holds (Discard number) network holds = discard_holds (packet_at network number) network holds
  event_holds (Again number) network holds = again_holds (packet_at network number) network holds
  event_holds (Ping me wire) network holds = ping_keeps me wire network holds

  after_holds : (events : List Event) (network : NetworkState) → HoldsOfEach (IsMendedAt plan) network → HoldsOfEach (IsMendedAt plan) (state_after plan network events)
  after_holds [] network holds = holds
  after_holds (e ∷ es) network holds = after_holds es (step plan network e).state (event_holds e network holds)

-- ---- runs

pub run_mended_at : (plan : Plan) (events : List Event) → IsRun plan events → HoldsOfEach (IsMendedAt plan) (network_after plan events)
run_mended_at plan events run = after_holds plan run.checked events (empty_network plan) (λ k. silent_mended plan k (empty_edge plan (record { 0 = k })) refl (λ wire peer. refl) (λ peer. refl) (λ service. refl))
