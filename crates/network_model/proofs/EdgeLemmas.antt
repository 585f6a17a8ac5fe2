-- What each edge keeps on every input, and has at first, it has in every state of a run.
use Rattle.std.proofs.Common.{◌+◌, ℕ, zero, suc, Bool, true, false, List, [], ◌∷◌, Option, Some, None, cond, sym, subst, nat_eq, length, take, drop, inl, inr}
use Rattle.std.proofs.lemmas.Bool.{cases_Bool, eqb-true}
use Rattle.net_base.specs.declared.plan.Plan.{Plan}
use Rattle.net_base.specs.declared.plan.circuit_plan.CircuitPlan.{CircuitPlan}
use Rattle.net_base.specs.declared.plan.places.CircuitId.{CircuitId}
use Rattle.net_base.specs.declared.plan.places.EdgeId.{EdgeId}
use Rattle.net_base.specs.declared.plan.places.WireId.{WireId}
use Rattle.net_base.specs.declared.trace.event.Event.{Event}
use Rattle.net_base.specs.declared.trace.event.Event.TheVariants.{Connect, Deliver, Lose, Restart, Tick, Frame, Arrive, Discard, Again, Wire, Circuit, Status, Priority, Ping}
use Rattle.net_base.specs.plan.Places.{circuit_row}
use Rattle.edge_model.specs.Circuit.{circuit_input}
use Rattle.edge_model.specs.Connection.{restart_input}
use Rattle.edge_model.specs.declared.effect.Effect.{Effect}
use Rattle.edge_model.specs.State.{EdgeState, empty_edge, first_label}
use Rattle.edge_model.specs.Tick.{tick_input}
use Rattle.edge_model.specs.Wire.{priority_input, status_input, wire_input}
use Rattle.edge_model.specs.Work.{Work}
use Rattle.edge_model.proofs.FollowLemmas.{EndsFollowSessions, FollowsOn, empty_follows, input_follows}
use Rattle.edge_model.proofs.LabelLemmas.{LabelsFit, WorkRises, fits_same, fits_then, input_rises}
use Rattle.edge_model.proofs.WalkLemmas.{InputSteps, circuit_holds, connected_holds, frame_holds, lost_holds, octets_hold, packet_holds, ping_holds, priority_holds, status_holds, tick_holds, wire_holds}
use Rattle.network_model.specs.Absorb.{absorb, absorb_all, answer, begin_at, idle, taken_all}
use Rattle.network_model.specs.Circuit.{circuit_event}
use Rattle.network_model.specs.Connection.{can_connect, connect_event, connected_work, connecting, deliver_event, delivering, hearing_work, is_deliverable, is_drained_pipe, lose_event, losing, losing_work, restart_event}
use Rattle.network_model.specs.Frame.{entering, frame_event, frame_work, next_origin}
use Rattle.network_model.specs.declared.packet.Packet.{Packet}
use Rattle.network_model.specs.Packet.{again_event, arrive_event, discard_event, packet_at, packet_work}
use Rattle.network_model.specs.Ping.{ping_event, ping_work}
use Rattle.network_model.specs.Run.{state_after}
use Rattle.network_model.specs.State.{NetworkState, edge_at, empty_network, stands, with_copy, with_edge, with_frame, with_older, with_pipe, without_octets_to, without_packet}
use Rattle.network_model.specs.Step.{step}
use Rattle.network_model.specs.Tick.{tick_at, ticks_from}
use Rattle.network_model.specs.Wire.{priority_event, status_event, wire_event}
use Rattle.network_model.proofs.AbsorbLemmas.{all_keep}

-- it holds of each edge
abbrev pub HoldsOfEach : (ℕ → EdgeState → Type 0) → NetworkState → Type 0
HoldsOfEach P network = (k : ℕ) → P k (network.edges k)

module _ (plan : Plan) (P : ℕ → EdgeState → Type 0) (R : Work → Work → Type 0) (steps : InputSteps plan taken_all R) (kept : (k : ℕ) (a b : Work) → R a b → P k a.edge → P k b.edge) where
  -- an edge of the network has worked
  worked : (me : EdgeId) (work : Work) (network : NetworkState) → HoldsOfEach P network → R (begin_at network me) work → P me.0 work.edge
  worked me work network holds works = kept me.0 (begin_at network me) work works (holds me.0)

  -- another state of an edge of which it holds
  edge_holds : (me : EdgeId) (edge : EdgeState) (network : NetworkState) → HoldsOfEach P network → P me.0 edge → HoldsOfEach P (with_edge me edge network)
  unfolding with_edge
  edge_holds me edge network holds here k = elim (cases_Bool (nat_eq k me.0)) [
    | inl same ↦ rw same (subst (λ (n : ℕ). P n edge) (sym (eqb-true k me.0 same)) here)
    | inr other ↦ rw other (holds k)
  ]

  all_hold : (me : EdgeId) (origin hops : ℕ) (es : List Effect) (network : NetworkState) → HoldsOfEach P network → HoldsOfEach P (absorb_all me origin hops es network)
  all_hold me origin hops es network holds k = subst (λ (edges : ℕ → EdgeState). P k (edges k)) (sym (all_keep me origin hops es network).edges) (holds k)

  absorb_holds : (me : EdgeId) (origin hops : ℕ) (work : Work) (network : NetworkState) → HoldsOfEach P network → P me.0 work.edge → HoldsOfEach P (absorb me origin hops work network).state
  absorb_holds me origin hops work network holds here = all_hold me origin hops work.effects (with_edge me work.edge network) (edge_holds me work.edge network holds here)

  answer_holds : (me : EdgeId) (origin hops : ℕ) (work : Work) (network : NetworkState) → HoldsOfEach P network → P me.0 work.edge → HoldsOfEach P (answer me origin hops work network).state
  answer_holds me origin hops work network holds here = by work.idle where
    by : (idles : Bool) → HoldsOfEach P (cond idles (idle network) (absorb me origin hops work network)).state
    by true = holds
    by false = absorb_holds me origin hops work network holds here

  -- ---- connections

  connecting_holds : (from to : EdgeId) (network : NetworkState) → HoldsOfEach P network
      → HoldsOfEach P (connecting from (connected_work plan network from to) to (connected_work plan network to from) network).state
  connecting_holds from to network holds =
      let first : Work = connected_work plan network from to in
      let second : Work = connected_work plan network to from in
      let one : NetworkState = with_edge from first.edge network in
      let both : NetworkState = with_edge to second.edge one in
      let here : HoldsOfEach P one = edge_holds from first.edge network holds (worked from first network holds (connected_holds plan taken_all R steps to (begin_at network from))) in
      let there : HoldsOfEach P both = edge_holds to second.edge one here (worked to second network holds (connected_holds plan taken_all R steps from (begin_at network to))) in
      all_hold to 0 0 second.effects (absorb_all from 0 0 first.effects both) (all_hold from 0 0 first.effects both there)

  connect_holds : (from to : EdgeId) (network : NetworkState) → HoldsOfEach P network → HoldsOfEach P (connect_event plan from to network).state
  connect_holds from to network holds = by (can_connect plan network from.0 to.0) where
    by : (connects : Bool) → HoldsOfEach P (cond connects (connecting from (connected_work plan network from to) to (connected_work plan network to from) network) (idle network)).state
    by true = connecting_holds from to network holds
    by false = holds

  losing_holds : (me peer : EdgeId) (network : NetworkState) → HoldsOfEach P network → HoldsOfEach P (losing plan me peer network).state
  losing_holds me peer network holds =
      let work : Work = losing_work plan network me peer in
      absorb_holds me 0 0 work network holds (worked me work network holds (lost_holds plan taken_all R steps peer (begin_at network me)))

  piped_holds : (from to : EdgeId) (octets : List ℕ) (network : NetworkState) → HoldsOfEach P network → HoldsOfEach P (with_pipe from to octets network)
  unfolding with_pipe
  piped_holds from to octets network holds = holds

  delivering_holds : (from to : EdgeId) (count : ℕ) (network : NetworkState) → HoldsOfEach P network → HoldsOfEach P (delivering plan from to count network).state
  delivering_holds from to count network holds =
      let octets : List ℕ = take count (network.pipes from.0 to.0) in
      let rest : List ℕ = drop count (network.pipes from.0 to.0) in
      let work : Work = hearing_work plan network from to octets in
      absorb_holds to 0 0 work (with_pipe from to rest network) (piped_holds from to rest network holds)
      (worked to work network holds (octets_hold plan taken_all R steps from octets ((edge_at network to).peering from.0) (begin_at network to)))

  deliver_holds : (from to : EdgeId) (count : ℕ) (network : NetworkState) → HoldsOfEach P network → HoldsOfEach P (deliver_event plan from to count network).state
  deliver_holds from to count network holds = by (is_deliverable network from.0 to.0) (is_drained_pipe network from.0 to.0) where
    by : (applies drained : Bool) → HoldsOfEach P (cond applies (cond drained (losing plan to from network) (delivering plan from to count network)) (idle network)).state
    by true true = losing_holds to from network holds
    by true false = delivering_holds from to count network holds
    by false drained = holds

  lose_holds : (me peer : EdgeId) (network : NetworkState) → HoldsOfEach P network → HoldsOfEach P (lose_event plan me peer network).state
  lose_holds me peer network holds = by (stands network me.0 peer.0) where
    by : (applies : Bool) → HoldsOfEach P (cond applies (losing plan me peer network) (idle network)).state
    by true = losing_holds me peer network holds
    by false = holds

  emptied_holds : (me : EdgeId) (network : NetworkState) → HoldsOfEach P network → HoldsOfEach P (without_octets_to me network)
  unfolding without_octets_to
  emptied_holds me network holds = holds

  restart_holds : (me : EdgeId) (network : NetworkState) → HoldsOfEach P network → HoldsOfEach P (restart_event me network).state
  restart_holds me network holds =
      let work : Work = restart_input (begin_at network me) in
      absorb_holds me 0 0 work (without_octets_to me network) (emptied_holds me network holds) (worked me work network holds (steps.restarts (begin_at network me)))

  -- ---- ticks, frames, circuits and wires

  ticks_hold : (place count : ℕ) (network : NetworkState) → HoldsOfEach P network → HoldsOfEach P (ticks_from plan place count network).state
  ticks_hold place zero network holds = holds
  ticks_hold place (suc count) network holds =
      let me : EdgeId = record { 0 = place } in
      let work : Work = tick_input plan taken_all (begin_at network me) in
      ticks_hold (place + 1) count (tick_at plan me network).state (absorb_holds me 0 0 work network holds (worked me work network holds (tick_holds plan taken_all R steps (begin_at network me))))

  older_holds : (network : NetworkState) → HoldsOfEach P network → HoldsOfEach P (with_older network)
  unfolding with_older
  older_holds network holds = holds

  entered_holds : (network : NetworkState) → HoldsOfEach P network → HoldsOfEach P (with_frame network)
  unfolding with_frame
  entered_holds network holds = holds

  frame_keeps : (circuit : CircuitId) (octets : List ℕ) (row : Option CircuitPlan) (network : NetworkState) → HoldsOfEach P network → HoldsOfEach P (frame_event plan circuit octets row network).state
  frame_keeps circuit octets None network holds = holds
  frame_keeps circuit octets (Some row) network holds = by (frame_work plan network circuit octets row).idle where
    by : (idles : Bool) → HoldsOfEach P (cond idles (idle network) (entering network circuit octets row (frame_work plan network circuit octets row))).state
    by true = holds
    by false =
        let work : Work = frame_work plan network circuit octets row in
        absorb_holds row.edge (next_origin network) 0 work (with_frame network) (entered_holds network holds)
        (worked row.edge work network holds (frame_holds plan taken_all R steps circuit octets (Some row) (begin_at network row.edge)))

  circuit_keeps : (circuit : CircuitId) (on : Bool) (row : Option CircuitPlan) (network : NetworkState) → HoldsOfEach P network → HoldsOfEach P (circuit_event plan circuit on row network).state
  circuit_keeps circuit on None network holds = holds
  circuit_keeps circuit on (Some row) network holds =
      let work : Work = circuit_input plan taken_all circuit on (Some row) (begin_at network row.edge) in
      answer_holds row.edge 0 0 work network holds (worked row.edge work network holds (circuit_holds plan taken_all R steps circuit on (Some row) (begin_at network row.edge)))

  wire_keeps : (me : EdgeId) (wire : WireId) (on : Bool) (network : NetworkState) → HoldsOfEach P network → HoldsOfEach P (wire_event plan me wire on network).state
  wire_keeps me wire on network holds =
      let work : Work = wire_input plan taken_all wire on (begin_at network me) in
      answer_holds me 0 0 work network holds (worked me work network holds (wire_holds plan taken_all R steps wire on (begin_at network me)))

  status_keeps : (me : EdgeId) (wire : WireId) (bits : ℕ) (network : NetworkState) → HoldsOfEach P network → HoldsOfEach P (status_event plan me wire bits network).state
  status_keeps me wire bits network holds =
      let work : Work = status_input plan taken_all wire bits (begin_at network me) in
      answer_holds me 0 0 work network holds (worked me work network holds (status_holds plan taken_all R steps wire bits (begin_at network me)))

  priority_keeps : (me : EdgeId) (wire : WireId) (priority : ℕ) (network : NetworkState) → HoldsOfEach P network → HoldsOfEach P (priority_event plan me wire priority network).state
  priority_keeps me wire priority network holds =
      let work : Work = priority_input plan taken_all wire priority (begin_at network me) in
      answer_holds me 0 0 work network holds (worked me work network holds (priority_holds plan taken_all R steps wire priority (begin_at network me)))

  -- ---- packets

  without_holds : (number : ℕ) (network : NetworkState) → HoldsOfEach P network → HoldsOfEach P (without_packet number network)
  unfolding without_packet
  without_holds number network holds = holds

  arrive_holds : (found : Option Packet) (network : NetworkState) → HoldsOfEach P network → HoldsOfEach P (arrive_event plan found network).state
  arrive_holds None network holds = holds
  arrive_holds (Some packet) network holds =
      let work : Work = packet_work plan network packet in
      absorb_holds packet.to packet.origin packet.hops work (without_packet packet.number network) (without_holds packet.number network holds)
      (worked packet.to work network holds (packet_holds plan taken_all R steps packet.bytes (begin_at network packet.to)))

  discard_holds : (found : Option Packet) (network : NetworkState) → HoldsOfEach P network → HoldsOfEach P (discard_event found network).state
  discard_holds None network holds = holds
  discard_holds (Some packet) network holds = without_holds packet.number network holds

  again_holds : (found : Option Packet) (network : NetworkState) → HoldsOfEach P network → HoldsOfEach P (again_event found network).state
  unfolding with_copy
  again_holds None network holds = holds
  again_holds (Some packet) network holds = holds

  ping_keeps : (me : EdgeId) (wire : WireId) (network : NetworkState) → HoldsOfEach P network → HoldsOfEach P (ping_event plan me wire network).state
  ping_keeps me wire network holds =
      let work : Work = ping_work plan network me wire in
      answer_holds me 0 0 work network holds (worked me work network holds (ping_holds plan taken_all R steps wire (begin_at network me)))

  -- ---- runs

  pub event_holds : (event : Event) (network : NetworkState) → HoldsOfEach P network → HoldsOfEach P (step plan network event).state
  event_holds (Connect from to) network holds = connect_holds from to network holds
  event_holds (Deliver from to count) network holds = deliver_holds from to count network holds
  event_holds (Lose me peer) network holds = lose_holds me peer network holds
  event_holds (Restart me) network holds = restart_holds me network holds
  event_holds Tick network holds = ticks_hold 0 (length plan.edges) (with_older network) (older_holds network holds)
  event_holds (Frame circuit octets) network holds = frame_keeps circuit octets (circuit_row plan circuit) network holds
  event_holds (Circuit circuit on) network holds = circuit_keeps circuit on (circuit_row plan circuit) network holds
  event_holds (Wire me wire on) network holds = wire_keeps me wire on network holds
  event_holds (Status me wire bits) network holds = status_keeps me wire bits network holds
  event_holds (Priority me wire priority) network holds = priority_keeps me wire priority network holds
  event_holds (Arrive number) network holds = arrive_holds (packet_at network number) network holds
  event_holds (Discard number) network holds = discard_holds (packet_at network number) network holds
  event_holds (Again number) network holds = again_holds (packet_at network number) network holds
  event_holds (Ping me wire) network holds = ping_keeps me wire network holds

  pub after_holds : (events : List Event) (network : NetworkState) → HoldsOfEach P network → HoldsOfEach P (state_after plan network events)
  after_holds [] network holds = holds
  after_holds (e ∷ es) network holds = after_holds es (step plan network e).state (event_holds e network holds)

  pub run_holds : ((k : ℕ) → P k (empty_edge plan (record { 0 = k }))) → (events : List Event) → HoldsOfEach P (state_after plan (empty_network plan) events)
  run_holds first events = after_holds events (empty_network plan) first

-- ---- what is so in every run

-- where an edge has no session with another one, nothing was told between them
pub run_follows : (plan : Plan) (events : List Event) (k : ℕ) → EndsFollowSessions ((state_after plan (empty_network plan) events).edges k)
run_follows plan events =
    run_holds plan (λ k edge. EndsFollowSessions edge) FollowsOn (input_follows plan taken_all) (λ k a b follows. follows) (λ k. empty_follows plan (record { 0 = k })) events

-- the label that an edge gives next is not below its first one, and is one of those that there are, or the one behind them
abbrev pub HasLabels : Plan → ℕ → EdgeState → Type 0
HasLabels plan k edge = LabelsFit (first_label plan (record { 0 = k })) edge.next_label

pub run_labels : (plan : Plan) (events : List Event) (k : ℕ) → HasLabels plan k ((state_after plan (empty_network plan) events).edges k)
run_labels plan events =
    run_holds plan (HasLabels plan) WorkRises (input_rises plan taken_all)
    (λ k a b rises before. fits_then (first_label plan (record { 0 = k })) a.edge.next_label b.edge.next_label before rises)
    (λ k. fits_same (first_label plan (record { 0 = k }))) events
