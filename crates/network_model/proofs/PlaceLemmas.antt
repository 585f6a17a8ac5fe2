-- In every state of a run the edge at a place is the edge of that place.
use Rattle.std.proofs.Common.{◌≡◌, ◌+◌, ◌∙◌, ℕ, zero, suc, Bool, true, false, List, [], ◌∷◌, Option, Some, None, cond, refl, ap, sym, nat_eq, length, take, drop, inl, inr}
use Rattle.std.proofs.lemmas.Bool.{cases_Bool, eqb-true}
use Rattle.net_base.specs.declared.plan.Plan.{Plan}
use Rattle.net_base.specs.declared.plan.circuit_plan.CircuitPlan.{CircuitPlan}
use Rattle.net_base.specs.declared.plan.places.CircuitId.{CircuitId}
use Rattle.net_base.specs.declared.plan.places.EdgeId.{EdgeId}
use Rattle.net_base.specs.declared.plan.places.WireId.{WireId}
use Rattle.net_base.specs.declared.trace.event.Event.{Event}
use Rattle.net_base.specs.declared.trace.event.Event.TheVariants.{Connect, Deliver, Lose, Restart, Tick, Frame, Arrive, Discard, Again, Wire, Circuit, Status, Priority, Ping}
use Rattle.net_base.specs.plan.Places.{circuit_row}
use Rattle.edge_model.specs.Circuit.{circuit_input}
use Rattle.edge_model.specs.Connection.{restart_input}
use Rattle.edge_model.specs.declared.effect.Effect.{Effect}
use Rattle.edge_model.specs.State.{EdgeState}
use Rattle.edge_model.specs.Tick.{tick_input}
use Rattle.edge_model.specs.Work.{Work}
use Rattle.edge_model.specs.Wire.{priority_input, status_input, wire_input}
use Rattle.edge_model.proofs.BridgeLemmas.{frame_bridges, packet_bridges, ping_bridges}
use Rattle.edge_model.proofs.SessionLemmas.{restart_works}
use Rattle.edge_model.proofs.SignalLemmas.{circuit_signals, connected_signals, lost_signals, octets_signal, priority_signals, status_signals, tick_works, wire_signals}
use Rattle.network_model.specs.Absorb.{absorb, absorb_all, answer, begin_at, idle, taken_all}
use Rattle.network_model.specs.Circuit.{circuit_event}
use Rattle.network_model.specs.Connection.{can_connect, connect_event, connected_work, connecting, deliver_event, delivering, hearing_work, is_deliverable, is_drained_pipe, lose_event, losing, losing_work, restart_event}
use Rattle.network_model.specs.Frame.{entering, frame_event, frame_work, next_origin}
use Rattle.network_model.specs.declared.packet.Packet.{Packet}
use Rattle.network_model.specs.Packet.{again_event, arrive_event, discard_event, packet_at, packet_work}
use Rattle.network_model.specs.Ping.{ping_event, ping_work}
use Rattle.network_model.specs.Run.{state_after}
use Rattle.network_model.specs.State.{NetworkState, edge_at, empty_network, stands, with_copy, with_edge, with_frame, with_older, with_pipe, without_octets_to, without_packet}
use Rattle.network_model.specs.Step.{step}
use Rattle.network_model.specs.Tick.{tick_at, ticks_from}
use Rattle.network_model.specs.Wire.{priority_event, status_event, wire_event}
use Rattle.network_model.proofs.AbsorbLemmas.{all_keep}

-- each edge of the network has its own place
pub record IsPlaced (network : NetworkState) : Type 0 where
  pub me : (k : ℕ) → (network.edges k).me ≡ record { 0 = k }

-- another state of an edge, of the same place
edge_placed : (me : EdgeId) (edge : EdgeState) (network : NetworkState) → IsPlaced network → edge.me ≡ (edge_at network me).me → IsPlaced (with_edge me edge network)
unfolding with_edge
edge_placed me edge network placed same = record {
  me = λ k.
      elim (cases_Bool (nat_eq k me.0)) [
        | inl here ↦ rw here (same ∙ (placed.me me.0 ∙ ap (λ (n : ℕ). record { 0 = n }) (sym (eqb-true k me.0 here))))
        | inr away ↦ rw away (placed.me k)
      ];
}

-- what an edge gives out keeps the places
all_placed : (me : EdgeId) (origin hops : ℕ) (es : List Effect) (network : NetworkState) → IsPlaced network → IsPlaced (absorb_all me origin hops es network)
all_placed me origin hops es network placed = record { me = λ k. ap (λ (edges : ℕ → EdgeState). (edges k).me) (all_keep me origin hops es network).edges ∙ placed.me k }

-- one edge's work keeps them
absorb_placed : (me : EdgeId) (origin hops : ℕ) (work : Work) (network : NetworkState) → IsPlaced network → work.edge.me ≡ (edge_at network me).me → IsPlaced (absorb me origin hops work network).state
absorb_placed me origin hops work network placed same = all_placed me origin hops work.effects (with_edge me work.edge network) (edge_placed me work.edge network placed same)

answer_placed : (me : EdgeId) (origin hops : ℕ) (work : Work) (network : NetworkState) → IsPlaced network → work.edge.me ≡ (edge_at network me).me → IsPlaced (answer me origin hops work network).state
answer_placed me origin hops work network placed same = answered work.idle where
  answered : (idles : Bool) → IsPlaced (cond idles (idle network) (absorb me origin hops work network)).state
  answered true = placed
  answered false = absorb_placed me origin hops work network placed same

entered_placed : (network : NetworkState) → IsPlaced network → IsPlaced (with_frame network)
unfolding with_frame
entered_placed network placed = record { me = placed.me }

frame_placed : (plan : Plan) (network : NetworkState) (circuit : CircuitId) (octets : List ℕ) (row : Option CircuitPlan) → IsPlaced network
    → IsPlaced (frame_event plan circuit octets row network).state
unfolding with_frame
frame_placed plan network circuit octets None placed = placed
frame_placed plan network circuit octets (Some row) placed = taken (frame_work plan network circuit octets row).idle where
  taken : (idles : Bool) → IsPlaced (cond idles (idle network) (entering network circuit octets row (frame_work plan network circuit octets row))).state
  taken true = placed
  taken false =
      absorb_placed row.edge (next_origin network) 0 (frame_work plan network circuit octets row) (with_frame network) (entered_placed network placed)
      (frame_bridges plan taken_all circuit octets (Some row) (begin_at network row.edge)).edge.me

circuit_placed : (plan : Plan) (network : NetworkState) (circuit : CircuitId) (on : Bool) (row : Option CircuitPlan) → IsPlaced network → IsPlaced (circuit_event plan circuit on row network).state
circuit_placed plan network circuit on None placed = placed
circuit_placed plan network circuit on (Some row) placed =
    answer_placed row.edge 0 0 (circuit_input plan taken_all circuit on (Some row) (begin_at network row.edge)) network placed
    (circuit_signals plan taken_all circuit on (Some row) (begin_at network row.edge)).me

wire_placed : (plan : Plan) (me : EdgeId) (wire : WireId) (on : Bool) (network : NetworkState) → IsPlaced network → IsPlaced (wire_event plan me wire on network).state
wire_placed plan me wire on network placed =
    answer_placed me 0 0 (wire_input plan taken_all wire on (begin_at network me)) network placed (wire_signals plan taken_all wire on (begin_at network me)).me

status_placed : (plan : Plan) (me : EdgeId) (wire : WireId) (bits : ℕ) (network : NetworkState) → IsPlaced network → IsPlaced (status_event plan me wire bits network).state
status_placed plan me wire bits network placed =
    answer_placed me 0 0 (status_input plan taken_all wire bits (begin_at network me)) network placed (status_signals plan taken_all wire bits (begin_at network me)).me

priority_placed : (plan : Plan) (me : EdgeId) (wire : WireId) (priority : ℕ) (network : NetworkState) → IsPlaced network → IsPlaced (priority_event plan me wire priority network).state
priority_placed plan me wire priority network placed =
    answer_placed me 0 0 (priority_input plan taken_all wire priority (begin_at network me)) network placed (priority_signals plan taken_all wire priority (begin_at network me)).me

older_placed : (network : NetworkState) → IsPlaced network → IsPlaced (with_older network)
unfolding with_older
older_placed network placed = record { me = placed.me }

ticks_placed : (plan : Plan) (place count : ℕ) (network : NetworkState) → IsPlaced network → IsPlaced (ticks_from plan place count network).state
ticks_placed plan place zero network placed = placed
ticks_placed plan place (suc count) network placed =
    let me : EdgeId = record { 0 = place } in
    ticks_placed plan (place + 1) count (tick_at plan me network).state
    (absorb_placed me 0 0 (tick_input plan taken_all (begin_at network me)) network placed (tick_works plan taken_all (begin_at network me)).me)

-- ---- connections

connecting_placed : (plan : Plan) (from to : EdgeId) (network : NetworkState) → IsPlaced network
    → IsPlaced (connecting from (connected_work plan network from to) to (connected_work plan network to from) network).state
connecting_placed plan from to network placed =
    let first : Work = connected_work plan network from to in
    let second : Work = connected_work plan network to from in
    let one : NetworkState = with_edge from first.edge network in
    let both : NetworkState = with_edge to second.edge one in
    let here = edge_placed from first.edge network placed (connected_signals plan taken_all to (begin_at network from)).edge.me in
    let own : second.edge.me ≡ (edge_at one to).me = (connected_signals plan taken_all from (begin_at network to)).edge.me ∙ (placed.me to.0 ∙ sym (here.me to.0)) in
    all_placed to 0 0 second.effects (absorb_all from 0 0 first.effects both) (all_placed from 0 0 first.effects both (edge_placed to second.edge one here own))

connect_placed : (plan : Plan) (from to : EdgeId) (network : NetworkState) → IsPlaced network → IsPlaced (connect_event plan from to network).state
connect_placed plan from to network placed = by (can_connect plan network from.0 to.0) where
  by : (connects : Bool) → IsPlaced (cond connects (connecting from (connected_work plan network from to) to (connected_work plan network to from) network) (idle network)).state
  by true = connecting_placed plan from to network placed
  by false = placed

losing_placed : (plan : Plan) (me peer : EdgeId) (network : NetworkState) → IsPlaced network → IsPlaced (losing plan me peer network).state
losing_placed plan me peer network placed = absorb_placed me 0 0 (losing_work plan network me peer) network placed (lost_signals plan taken_all peer (begin_at network me)).edge.me

piped_placed : (from to : EdgeId) (octets : List ℕ) (network : NetworkState) → IsPlaced network → IsPlaced (with_pipe from to octets network)
unfolding with_pipe
piped_placed from to octets network placed = record { me = placed.me }

delivering_placed : (plan : Plan) (from to : EdgeId) (count : ℕ) (network : NetworkState) → IsPlaced network → IsPlaced (delivering plan from to count network).state
unfolding with_pipe
delivering_placed plan from to count network placed =
    let octets : List ℕ = take count (network.pipes from.0 to.0) in
    let others : NetworkState = with_pipe from to (drop count (network.pipes from.0 to.0)) network in
    absorb_placed to 0 0 (hearing_work plan network from to octets) others (piped_placed from to (drop count (network.pipes from.0 to.0)) network placed)
    (octets_signal plan taken_all from octets ((edge_at network to).peering from.0) (begin_at network to)).edge.me

deliver_placed : (plan : Plan) (from to : EdgeId) (count : ℕ) (network : NetworkState) → IsPlaced network → IsPlaced (deliver_event plan from to count network).state
deliver_placed plan from to count network placed = by (is_deliverable network from.0 to.0) (is_drained_pipe network from.0 to.0) where
  by : (applies drained : Bool) → IsPlaced (cond applies (cond drained (losing plan to from network) (delivering plan from to count network)) (idle network)).state
  by true true = losing_placed plan to from network placed
  by true false = delivering_placed plan from to count network placed
  by false drained = placed

lose_placed : (plan : Plan) (me peer : EdgeId) (network : NetworkState) → IsPlaced network → IsPlaced (lose_event plan me peer network).state
lose_placed plan me peer network placed = by (stands network me.0 peer.0) where
  by : (applies : Bool) → IsPlaced (cond applies (losing plan me peer network) (idle network)).state
  by true = losing_placed plan me peer network placed
  by false = placed

emptied_placed : (me : EdgeId) (network : NetworkState) → IsPlaced network → IsPlaced (without_octets_to me network)
unfolding without_octets_to
emptied_placed me network placed = record { me = placed.me }

restart_placed : (me : EdgeId) (network : NetworkState) → IsPlaced network → IsPlaced (restart_event me network).state
unfolding without_octets_to
restart_placed me network placed =
    absorb_placed me 0 0 (restart_input (begin_at network me)) (without_octets_to me network) (emptied_placed me network placed) (restart_works (begin_at network me)).me

-- ---- packets

without_placed : (number : ℕ) (network : NetworkState) → IsPlaced network → IsPlaced (without_packet number network)
unfolding without_packet
without_placed number network placed = record { me = placed.me }

arrive_placed : (plan : Plan) (found : Option Packet) (network : NetworkState) → IsPlaced network → IsPlaced (arrive_event plan found network).state
unfolding without_packet
arrive_placed plan None network placed = placed
arrive_placed plan (Some packet) network placed =
    absorb_placed packet.to packet.origin packet.hops (packet_work plan network packet) (without_packet packet.number network) (without_placed packet.number network placed)
    (packet_bridges plan taken_all packet.bytes (begin_at network packet.to)).edge.me

discard_placed : (found : Option Packet) (network : NetworkState) → IsPlaced network → IsPlaced (discard_event found network).state
discard_placed None network placed = placed
discard_placed (Some packet) network placed = without_placed packet.number network placed

again_placed : (found : Option Packet) (network : NetworkState) → IsPlaced network → IsPlaced (again_event found network).state
unfolding with_copy
again_placed None network placed = placed
again_placed (Some packet) network placed = record { me = placed.me }

ping_placed : (plan : Plan) (me : EdgeId) (wire : WireId) (network : NetworkState) → IsPlaced network → IsPlaced (ping_event plan me wire network).state
ping_placed plan me wire network placed =
    answer_placed me 0 0 (ping_work plan network me wire) network placed (ap (λ (e : EdgeState). e.me) (ping_bridges plan taken_all wire (begin_at network me)).edge)

pub step_placed : (plan : Plan) (network : NetworkState) (event : Event) → IsPlaced network → IsPlaced (step plan network event).state
step_placed plan network (Connect from to) placed = connect_placed plan from to network placed
step_placed plan network (Deliver from to count) placed = deliver_placed plan from to count network placed
step_placed plan network (Lose me peer) placed = lose_placed plan me peer network placed
step_placed plan network (Restart me) placed = restart_placed me network placed
step_placed plan network Tick placed = ticks_placed plan 0 (length plan.edges) (with_older network) (older_placed network placed)
step_placed plan network (Frame circuit octets) placed = frame_placed plan network circuit octets (circuit_row plan circuit) placed
step_placed plan network (Circuit circuit on) placed = circuit_placed plan network circuit on (circuit_row plan circuit) placed
step_placed plan network (Wire me wire on) placed = wire_placed plan me wire on network placed
step_placed plan network (Status me wire bits) placed = status_placed plan me wire bits network placed
step_placed plan network (Priority me wire priority) placed = priority_placed plan me wire priority network placed
step_placed plan network (Arrive number) placed = arrive_placed plan (packet_at network number) network placed
step_placed plan network (Discard number) placed = discard_placed (packet_at network number) network placed
step_placed plan network (Again number) placed = again_placed (packet_at network number) network placed
step_placed plan network (Ping me wire) placed = ping_placed plan me wire network placed

after_placed : (plan : Plan) (network : NetworkState) (events : List Event) → IsPlaced network → IsPlaced (state_after plan network events)
after_placed plan network [] placed = placed
after_placed plan network (e ∷ es) placed = after_placed plan (step plan network e).state es (step_placed plan network e placed)

pub run_placed : (plan : Plan) (events : List Event) → IsPlaced (state_after plan (empty_network plan) events)
run_placed plan events = after_placed plan (empty_network plan) events (record { me = λ k. refl })
