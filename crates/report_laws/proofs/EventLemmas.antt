-- What one event tells names places of the plan.
use Rattle.std.proofs.Common.{◌≡◌, ◌<◌, ◌≤◌, ◌+◌, ℕ, zero, suc, Bool, true, false, cond, List, [], ◌∷◌, Option, Some, None, length, nat_eq, take, drop, refl, sym, subst, arith, inl, inr}
use Rattle.std.proofs.lemmas.Bool.{ltb-true}
use Rattle.std.specs.List.{AllByRecursion}
use Rattle.net_values.proofs.NumberLemmas.{above_apart}
use Rattle.net_values.proofs.RowLemmas.{all-append, row_holds}
use Rattle.net_base.specs.declared.plan.Plan.{Plan}
use Rattle.net_base.specs.declared.plan.circuit_plan.CircuitPlan.{CircuitPlan}
use Rattle.net_base.specs.declared.plan.places.CircuitId.{CircuitId}
use Rattle.net_base.specs.declared.plan.places.EdgeId.{EdgeId}
use Rattle.net_base.specs.declared.plan.places.WireId.{WireId}
use Rattle.net_base.specs.declared.plan.wire_plan.WirePlan.{WirePlan}
use Rattle.net_base.specs.declared.trace.entry.Entry.{Entry}
use Rattle.net_base.specs.declared.trace.event.Event.{Event}
use Rattle.net_base.specs.declared.trace.event.Event.TheVariants.{Connect, Deliver, Lose, Restart, Tick, Frame, Arrive, Discard, Again, Wire, Circuit, Status, Priority, Ping}
use Rattle.net_base.specs.plan.Accepted.{IsChecked, IsCircuitOf, IsWireOf}
use Rattle.net_base.specs.plan.Paths.{joins}
use Rattle.net_base.specs.plan.Places.{circuit_row, wire_row}
use Rattle.net_base.specs.plan.Planned.{IsEventOf}
use Rattle.edge_model.specs.Circuit.{circuit_input}
use Rattle.edge_model.specs.Frame.{frame_input}
use Rattle.edge_model.specs.State.{EdgeState}
use Rattle.edge_model.specs.Tick.{tick_input}
use Rattle.edge_model.specs.Wire.{priority_input, status_input, wire_input}
use Rattle.edge_model.specs.Work.{Work, changes}
use Rattle.edge_model.proofs.LocalLemmas.{input_stays}
use Rattle.edge_model.proofs.PacketLemmas.{packet_stays}
use Rattle.edge_model.proofs.PingLemmas.{pings_stay_local}
use Rattle.network_model.specs.declared.packet.Packet.{Packet}
use Rattle.network_model.specs.Absorb.{Stepped, absorb, answer, begin_at, idle, taken_all}
use Rattle.network_model.specs.Age.{aged_entries}
use Rattle.network_model.specs.Circuit.{circuit_event}
use Rattle.network_model.specs.Connection.{can_connect, connect_event, connected_work, connecting, deliver_event, delivering, given_out, hearing_work, is_deliverable, is_drained_pipe, lose_event, losing, losing_work, restart_event}
use Rattle.network_model.specs.Frame.{entering, frame_event, frame_work, next_origin}
use Rattle.network_model.specs.Packet.{again_event, arrive_event, discard_event, packet_at, packet_work}
use Rattle.network_model.specs.Ping.{ping_event, ping_work}
use Rattle.network_model.specs.State.{NetworkState, lives_on, stands, with_edge, with_frame, with_older, with_pipe, without_packet}
use Rattle.network_model.specs.Step.{brings, step}
use Rattle.network_model.specs.Tick.{tick_at, tick_event, ticks_from}
use Rattle.network_model.specs.Wire.{priority_event, status_event, wire_event}
use Rattle.network_model.proofs.AbsorbLemmas.{all_keep}
use Rattle.network_model.proofs.PacketListLemmas.{packet_holds}
use Rattle.network_model.proofs.QuietLemmas.{circuit_own, connected_own, hearing_own, losing_own, priority_own, status_own, ticking_own, wire_own}
use Rattle.flight_laws.specs.Ends.{IsOrdered}
use Rattle.flight_laws.proofs.PlanLemmas.{both_in}
use Rattle.packet_laws.specs.Carried.{FollowsPacketRule, KeepsPacketRule}
use Rattle.provider_edge.specs.Said.{AllFit}
use Rattle.provider_edge.proofs.EffectLemmas.{HasPeers}
use Rattle.event_rows.specs.Rows.{IsCircuit, IsNamedEdge}
use Rattle.report_laws.specs.Places.{IsEntryOf}
use Rattle.report_laws.proofs.EdgeLemmas.{AllHaveCome, FitsAll, begins_fit, circuit_fits, connected_fits, effects_told, frame_comes, frame_fits, lost_fits, octets_fit, packet_comes, packet_fits, peers_in, ping_comes, ping_fits, priority_fits, signals_come, status_fits, tick_fits, wire_fits}

-- the entries speak of rows of the plan
abbrev pub AreEntriesOf : Plan → List Entry → Type 0
AreEntriesOf plan es = AllByRecursion (IsEntryOf plan) es

-- ---- the work of one edge goes into the network

absorbed : (plan : Plan) (me : EdgeId) (origin hops : ℕ) (work : Work) (network : NetworkState) → IsNamedEdge plan me → AllFit plan work.effects → AllHaveCome plan work.effects
    → AreEntriesOf plan (absorb me origin hops work network).entries
absorbed plan me origin hops work network within fit come = effects_told plan me origin hops work.effects (with_edge me work.edge network) within fit come

answered : (plan : Plan) (me : EdgeId) (work : Work) (network : NetworkState) → IsNamedEdge plan me → AllFit plan work.effects → AllHaveCome plan work.effects
    → AreEntriesOf plan (answer me 0 0 work network).entries
answered plan me work network within fit come = by work.idle where
  by : (idles : Bool) → AreEntriesOf plan (cond idles (idle network) (absorb me 0 0 work network)).entries
  by true = (tt, tt)
  by false = absorbed plan me 0 0 work network within fit come

-- ---- connections

connect_told : (plan : Plan) (from to : EdgeId) (network : NetworkState) → IsChecked plan → IsOrdered plan network → IsNamedEdge plan from → IsNamedEdge plan to
    → AreEntriesOf plan (connect_event plan from to network).entries
connect_told plan from to network checked ordered one other = by (can_connect plan network from.0 to.0) where
  first : Work
  first = connected_work plan network from to

  second : Work
  second = connected_work plan network to from

  by : (connects : Bool) → AreEntriesOf plan (cond connects (connecting from first to second network) (idle network)).entries
  by true =
      let ready : NetworkState = with_edge to second.edge (with_edge from first.edge network) in
      let here : Stepped = given_out from first.effects ready in
      all-append (IsEntryOf plan) here.entries (given_out to second.effects here.state).entries
      (effects_told plan from 0 0 first.effects ready one (connected_fits plan (begin_at network from) checked (peers_in plan network from.0 ordered) (begins_fit plan network from) to).fit
      (signals_come plan first.effects (connected_own plan network from to)))
      (effects_told plan to 0 0 second.effects here.state other (connected_fits plan (begin_at network to) checked (peers_in plan network to.0 ordered) (begins_fit plan network to) from).fit
      (signals_come plan second.effects (connected_own plan network to from)))
  by false = (tt, tt)

losing_told : (plan : Plan) (me peer : EdgeId) (network : NetworkState) → IsChecked plan → IsOrdered plan network → IsNamedEdge plan me → AreEntriesOf plan (losing plan me peer network).entries
losing_told plan me peer network checked ordered within =
    absorbed plan me 0 0 (losing_work plan network me peer) network within (lost_fits plan (begin_at network me) checked (peers_in plan network me.0 ordered) (begins_fit plan network me) peer).fit
    (signals_come plan (losing_work plan network me peer).effects (losing_own plan network me peer))

delivering_told : (plan : Plan) (from to : EdgeId) (count : ℕ) (network : NetworkState) → IsChecked plan → IsOrdered plan network → IsNamedEdge plan to
    → AreEntriesOf plan (delivering plan from to count network).entries
delivering_told plan from to count network checked ordered within =
    let octets : List ℕ = take count (network.pipes from.0 to.0) in
    absorbed plan to 0 0 (hearing_work plan network from to octets) (with_pipe from to (drop count (network.pipes from.0 to.0)) network) within
    (octets_fit plan (begin_at network to) checked (peers_in plan network to.0 ordered) (begins_fit plan network to) from octets).fit
    (signals_come plan (hearing_work plan network from to octets).effects (hearing_own plan network from to octets))

deliver_told : (plan : Plan) (from to : EdgeId) (count : ℕ) (network : NetworkState) → IsChecked plan → IsOrdered plan network → IsNamedEdge plan to
    → AreEntriesOf plan (deliver_event plan from to count network).entries
deliver_told plan from to count network checked ordered within = by (is_deliverable network from.0 to.0) (is_drained_pipe network from.0 to.0) where
  by : (applies drained : Bool) → AreEntriesOf plan (cond applies (cond drained (losing plan to from network) (delivering plan from to count network)) (idle network)).entries
  by true true = losing_told plan to from network checked ordered within
  by true false = delivering_told plan from to count network checked ordered within
  by false drained = (tt, tt)

lose_told : (plan : Plan) (me peer : EdgeId) (network : NetworkState) → IsChecked plan → IsOrdered plan network → IsNamedEdge plan me → AreEntriesOf plan (lose_event plan me peer network).entries
lose_told plan me peer network checked ordered within = by (stands network me.0 peer.0) where
  by : (applies : Bool) → AreEntriesOf plan (cond applies (losing plan me peer network) (idle network)).entries
  by true = losing_told plan me peer network checked ordered within
  by false = (tt, tt)

restart_told : (plan : Plan) (me : EdgeId) (network : NetworkState) → AreEntriesOf plan (restart_event me network).entries
unfolding changes
restart_told plan me network = tt

-- ---- a tick

aged_told : (plan : Plan) (packets : List Packet) → AreEntriesOf plan (aged_entries packets)
aged_told plan [] = tt
aged_told plan (p ∷ ps) = by (lives_on p) (aged_told plan ps) where
  by : (b : Bool) → AreEntriesOf plan (aged_entries ps) → AreEntriesOf plan (cond b (aged_entries ps) (Rattle.net_base.specs.declared.trace.entry.Entry.TheVariants.Aged p.number ∷ aged_entries ps))
  by true rest = rest
  by false rest = (tt, rest)

-- the edges from a place on have their ends with edges of the plan
abbrev pub HavePeersFrom : Plan → ℕ → NetworkState → Type 0
HavePeersFrom plan place network = (k : ℕ) → place ≤ k → HasPeers plan (network.edges k)

-- the tick of an edge leaves those behind it as they are
tick_leaves : (plan : Plan) (place : ℕ) (network : NetworkState) → HavePeersFrom plan place network → HavePeersFrom plan (place + 1) (tick_at plan (record { 0 = place }) network).state
unfolding with_edge
tick_leaves plan place network peers k above =
    let me : EdgeId = record { 0 = place } in
    let work : Work = tick_input plan taken_all (begin_at network me) in
    let apart : nat_eq k place ≡ false = above_apart place k (omega (arith, above)) in
    subst (λ (edges : ℕ → EdgeState). HasPeers plan (edges k)) (sym (all_keep me 0 0 work.effects (with_edge me work.edge network)).edges)
    (rw apart (peers k (omega (arith, above))))

ticks_told : (plan : Plan) (place count : ℕ) (network : NetworkState) → IsChecked plan → place + count ≤ length plan.edges → HavePeersFrom plan place network
    → AreEntriesOf plan (ticks_from plan place count network).entries
ticks_told plan place zero network checked within peers = tt
ticks_told plan place (suc count) network checked within peers =
    let me : EdgeId = record { 0 = place } in
    let first : Stepped = tick_at plan me network in
    let work : Work = tick_input plan taken_all (begin_at network me) in
    all-append (IsEntryOf plan) first.entries (ticks_from plan (place + 1) count first.state).entries
    (absorbed plan me 0 0 work network (omega (arith, within)) (tick_fits plan (begin_at network me) checked (peers place (omega arith)) (begins_fit plan network me)).fit
    (signals_come plan work.effects (ticking_own plan network me)))
    (ticks_told plan (place + 1) count first.state checked (omega (arith, within)) (tick_leaves plan place network peers))

older_peers : (plan : Plan) (network : NetworkState) → IsOrdered plan network → HavePeersFrom plan 0 (with_older network)
unfolding with_older
older_peers plan network ordered k above = peers_in plan network k ordered

tick_told : (plan : Plan) (network : NetworkState) → IsChecked plan → IsOrdered plan network → AreEntriesOf plan (tick_event plan network).entries
tick_told plan network checked ordered =
    all-append (IsEntryOf plan) (aged_entries network.under_way) (ticks_from plan 0 (length plan.edges) (with_older network)).entries (aged_told plan network.under_way)
    (ticks_told plan 0 (length plan.edges) (with_older network) checked (omega arith) (older_peers plan network ordered))

-- ---- frames and packets

frame_told : (plan : Plan) (circuit : CircuitId) (octets : List ℕ) (network : NetworkState) (row : Option CircuitPlan) → IsChecked plan → IsOrdered plan network → IsCircuit plan circuit
    → circuit_row plan circuit ≡ row → AreEntriesOf plan (frame_event plan circuit octets row network).entries
frame_told plan circuit octets network None checked ordered within is = (tt, tt)
frame_told plan circuit octets network (Some row) checked ordered within is = by work.idle where
  work : Work
  work = frame_work plan network circuit octets row

  me : IsNamedEdge plan row.edge
  me = (row_holds (IsCircuitOf plan) plan.circuits circuit.0 row is checked.circuits).edge

  fit : FitsAll plan work
  fit = subst (λ (r : Option CircuitPlan). FitsAll plan (frame_input plan taken_all circuit octets r (begin_at network row.edge))) is
      (frame_fits plan (begin_at network row.edge) checked (peers_in plan network row.edge.0 ordered) (begins_fit plan network row.edge) circuit octets)

  by : (idles : Bool) → AreEntriesOf plan (cond idles (idle network) (entering network circuit octets row work)).entries
  by true = (tt, tt)
  by false = (
    within,
    absorbed plan row.edge (next_origin network) 0 work (with_frame network) me fit.fit
        (frame_comes plan circuit octets work.effects within (input_stays plan taken_all (network.edges row.edge.0) [] circuit octets (Some row) is)),
  )

-- a packet under way goes to an edge of the plan
goes_to : (plan : Plan) (wire : WireId) (row : WirePlan) (from to : ℕ) → IsChecked plan → wire_row plan wire ≡ Some row → joins from to row.path ≡ true → to < length plan.edges
goes_to plan wire row from to checked is joined =
    ltb-true to (length plan.edges) (both_in plan row.path from to (row_holds (IsWireOf plan) plan.wires wire.0 row is checked.wires).edges joined).1

packet_in : (plan : Plan) (network : NetworkState) (trace : List Entry) (packet : Packet) → IsChecked plan → FollowsPacketRule plan network trace packet → IsNamedEdge plan packet.to
packet_in plan network trace packet checked (inl carried) = goes_to plan packet.wire carried.row packet.from.0 packet.to.0 checked carried.is carried.joined
packet_in plan network trace packet checked (inr echo) = goes_to plan packet.wire echo.row packet.from.0 packet.to.0 checked echo.is echo.joined

arrive_told : (plan : Plan) (network : NetworkState) (trace : List Entry) (number : ℕ) (found : Option Packet) → IsChecked plan → IsOrdered plan network → KeepsPacketRule plan network trace
    → packet_at network number ≡ found → AreEntriesOf plan (arrive_event plan found network).entries
arrive_told plan network trace number None checked ordered rule is = (tt, tt)
arrive_told plan network trace number (Some packet) checked ordered rule is =
    let work : Work = packet_work plan network packet in
    absorbed plan packet.to packet.origin packet.hops work (without_packet packet.number network)
    (packet_in plan network trace packet checked (packet_holds (FollowsPacketRule plan network trace) network number packet rule is))
    (packet_fits plan (begin_at network packet.to) checked (peers_in plan network packet.to.0 ordered) (begins_fit plan network packet.to) packet.bytes).fit
    (packet_comes plan (network.edges packet.to.0) packet.bytes work.effects (packet_stays plan taken_all (network.edges packet.to.0) [] packet.bytes))

discard_told : (plan : Plan) (network : NetworkState) (found : Option Packet) → AreEntriesOf plan (discard_event found network).entries
discard_told plan network None = (tt, tt)
discard_told plan network (Some packet) = tt

again_told : (plan : Plan) (network : NetworkState) (found : Option Packet) → AreEntriesOf plan (again_event found network).entries
again_told plan network None = (tt, tt)
again_told plan network (Some packet) = (tt, tt)

-- ---- what is set, and pings

circuit_told : (plan : Plan) (circuit : CircuitId) (on : Bool) (network : NetworkState) (row : Option CircuitPlan) → IsChecked plan → IsOrdered plan network → circuit_row plan circuit ≡ row
    → AreEntriesOf plan (circuit_event plan circuit on row network).entries
circuit_told plan circuit on network None checked ordered is = (tt, tt)
circuit_told plan circuit on network (Some row) checked ordered is =
    let work : Work = circuit_input plan taken_all circuit on (Some row) (begin_at network row.edge) in
    answered plan row.edge work network (row_holds (IsCircuitOf plan) plan.circuits circuit.0 row is checked.circuits).edge
    (subst (λ (r : Option CircuitPlan). FitsAll plan (circuit_input plan taken_all circuit on r (begin_at network row.edge))) is
    (circuit_fits plan (begin_at network row.edge) checked (peers_in plan network row.edge.0 ordered) (begins_fit plan network row.edge) circuit on)).fit
    (signals_come plan work.effects (circuit_own plan network circuit on row))

wire_told : (plan : Plan) (me : EdgeId) (wire : WireId) (on : Bool) (network : NetworkState) → IsChecked plan → IsOrdered plan network → IsNamedEdge plan me
    → AreEntriesOf plan (wire_event plan me wire on network).entries
wire_told plan me wire on network checked ordered within =
    let work : Work = wire_input plan taken_all wire on (begin_at network me) in
    answered plan me work network within (wire_fits plan (begin_at network me) checked (peers_in plan network me.0 ordered) (begins_fit plan network me) wire on).fit (signals_come plan work.effects (wire_own plan network me wire on))

status_told : (plan : Plan) (me : EdgeId) (wire : WireId) (bits : ℕ) (network : NetworkState) → IsChecked plan → IsOrdered plan network → IsNamedEdge plan me
    → AreEntriesOf plan (status_event plan me wire bits network).entries
status_told plan me wire bits network checked ordered within =
    let work : Work = status_input plan taken_all wire bits (begin_at network me) in
    answered plan me work network within (status_fits plan (begin_at network me) checked (peers_in plan network me.0 ordered) (begins_fit plan network me) wire bits).fit (signals_come plan work.effects (status_own plan network me wire bits))

priority_told : (plan : Plan) (me : EdgeId) (wire : WireId) (priority : ℕ) (network : NetworkState) → IsChecked plan → IsOrdered plan network → IsNamedEdge plan me
    → AreEntriesOf plan (priority_event plan me wire priority network).entries
priority_told plan me wire priority network checked ordered within =
    let work : Work = priority_input plan taken_all wire priority (begin_at network me) in
    answered plan me work network within (priority_fits plan (begin_at network me) checked (peers_in plan network me.0 ordered) (begins_fit plan network me) wire priority).fit
    (signals_come plan work.effects (priority_own plan network me wire priority))

ping_told : (plan : Plan) (me : EdgeId) (wire : WireId) (network : NetworkState) → IsChecked plan → IsOrdered plan network → IsNamedEdge plan me
    → AreEntriesOf plan (ping_event plan me wire network).entries
ping_told plan me wire network checked ordered within =
    let work : Work = ping_work plan network me wire in
    answered plan me work network within (ping_fits plan (begin_at network me) checked (peers_in plan network me.0 ordered) (begins_fit plan network me) wire).fit
    (ping_comes plan (network.edges me.0) wire work.effects (pings_stay_local plan taken_all (network.edges me.0) [] wire))

-- ---- each event

brings_told : (plan : Plan) (network : NetworkState) (trace : List Entry) (event : Event) → IsChecked plan → IsOrdered plan network → KeepsPacketRule plan network trace → IsEventOf plan event
    → AreEntriesOf plan (brings plan event network).entries
brings_told plan network trace (Connect from to) checked ordered rule of_plan = connect_told plan from to network checked ordered of_plan.0 of_plan.1
brings_told plan network trace (Deliver from to count) checked ordered rule of_plan = deliver_told plan from to count network checked ordered of_plan.1
brings_told plan network trace (Lose me peer) checked ordered rule of_plan = lose_told plan me peer network checked ordered of_plan.0
brings_told plan network trace (Restart me) checked ordered rule of_plan = restart_told plan me network
brings_told plan network trace Tick checked ordered rule of_plan = tick_told plan network checked ordered
brings_told plan network trace (Frame circuit octets) checked ordered rule of_plan = frame_told plan circuit octets network (circuit_row plan circuit) checked ordered of_plan.0 refl
brings_told plan network trace (Circuit circuit on) checked ordered rule of_plan = circuit_told plan circuit on network (circuit_row plan circuit) checked ordered refl
brings_told plan network trace (Wire me wire on) checked ordered rule of_plan = wire_told plan me wire on network checked ordered of_plan.0
brings_told plan network trace (Status me wire bits) checked ordered rule of_plan = status_told plan me wire bits network checked ordered of_plan.0
brings_told plan network trace (Priority me wire priority) checked ordered rule of_plan = priority_told plan me wire priority network checked ordered of_plan.0
brings_told plan network trace (Arrive number) checked ordered rule of_plan = arrive_told plan network trace number (packet_at network number) checked ordered rule refl
brings_told plan network trace (Discard number) checked ordered rule of_plan = discard_told plan network (packet_at network number)
brings_told plan network trace (Again number) checked ordered rule of_plan = again_told plan network (packet_at network number)
brings_told plan network trace (Ping me wire) checked ordered rule of_plan = ping_told plan me wire network checked ordered of_plan.0

pub step_told : (plan : Plan) (network : NetworkState) (trace : List Entry) (event : Event) → IsChecked plan → IsOrdered plan network → KeepsPacketRule plan network trace → IsEventOf plan event
    → AreEntriesOf plan (step plan network event).entries
step_told plan network trace event checked ordered rule of_plan = (of_plan, brings_told plan network trace event checked ordered rule of_plan)
