-- Each event keeps the ends of wires between each two edges bound.
use Rattle.std.proofs.Common.{◌≡◌, ◌≤◌, ◌++◌, ◌&&◌, ◌||◌, ◌∙◌, ℕ, suc, Bool, true, false, cond, not, nat_eq, length, take, drop, List, [], Option, Some, None, refl, sym, ap, subst, append_assoc, inl, inr}
use Rattle.std.proofs.lemmas.Bool.{cases_Bool, eqb-true}
use Rattle.std.proofs.lemmas.List.{take-append-drop}
use Rattle.net_values.proofs.BoolLemmas.{clash}
use Rattle.net_values.proofs.NumberLemmas.{apart_back}
use Rattle.net_base.specs.declared.plan.Plan.{Plan}
use Rattle.net_base.specs.declared.plan.circuit_plan.CircuitPlan.{CircuitPlan}
use Rattle.net_base.specs.declared.plan.places.CircuitId.{CircuitId}
use Rattle.net_base.specs.declared.plan.places.EdgeId.{EdgeId}
use Rattle.net_base.specs.declared.plan.places.WireId.{WireId}
use Rattle.net_base.specs.declared.trace.arrival.Arrival.TheVariants as arrival
use Rattle.net_base.specs.plan.Accepted.{IsChecked}
use Rattle.net_base.specs.plan.Places.{wire_row}
use Rattle.net_base.specs.trace.Isolated.{inner_at}
use Rattle.ldp_grammar.specs.declared.message.Message.{Message}
use Rattle.edge_model.specs.Circuit.{is_same, turned}
use Rattle.edge_model.specs.Connection.{restart_input}
use Rattle.edge_model.specs.EndPlaces.{ends_here, passes}
use Rattle.edge_model.specs.Frame.{is_own, port_at, received}
use Rattle.edge_model.specs.Hear.{hears_few, octets_input}
use Rattle.edge_model.specs.Mend.{mends}
use Rattle.edge_model.specs.State.{EdgeState, Peering, is_on, is_there, with_bits, with_learned, with_priority, without_ends, without_peerings, with_kept}
use Rattle.edge_model.specs.Wire.{is_own_spoke, turned_wire}
use Rattle.edge_model.specs.Work.{Work, changes, idles}
use Rattle.network_model.specs.Absorb.{absorb, answer, begin_at, idle, taken_all}
use Rattle.network_model.specs.Circuit.{circuit_event}
use Rattle.network_model.specs.Connection.{deliver_event, delivering, is_drained_pipe, lose_event, losing, losing_work, restart_event}
use Rattle.network_model.specs.Frame.{entering, frame_event, next_origin}
use Rattle.network_model.specs.declared.packet.Packet.{Packet}
use Rattle.network_model.specs.Packet.{again_event, arrive_event, discard_event, packet_work, repeating}
use Rattle.network_model.specs.State.{NetworkState, held, held_by, stands, with_copy, with_frame, with_pipe, without_octets_to, without_packet}
use Rattle.network_model.specs.Wire.{priority_event, status_event, wire_event}
use Rattle.network_model.specs.Ping.{ping_event, ping_work}
use Rattle.flight_laws.specs.Bound.{AreAnswers, AreBoundBy, LeavesBound}
use Rattle.flight_laws.specs.Ends.{HasTypes, IsOrdered, ends_at}
use Rattle.flight_laws.specs.Facts.{HoldsOfTwo, LeavesFor, Turns, flight}
use Rattle.flight_laws.specs.Laws.{KeepsToldRule, TellsContents}
use Rattle.flight_laws.specs.Rules.{AllMessages, TellsPlan}
use Rattle.flight_laws.proofs.UniqueLemmas.{said_once}
use Rattle.flight_laws.specs.Messages.{octets_of_all}
use Rattle.flight_laws.specs.Pair.{ArePaired}
use Rattle.flight_laws.proofs.BoundHearLemmas.{HearsAll, all_kept, heard_bound, held_after}
use Rattle.flight_laws.proofs.CircuitLemmas.{idles_are}
use Rattle.flight_laws.proofs.EdgeBindingLemmas.{bound_turned}
use Rattle.flight_laws.proofs.EventLemmas.{away_from, hears_begin, losing_is, pipe_edges, same_edges, stands_apart}
use Rattle.flight_laws.proofs.HearBindingLemmas.{answers_for}
use Rattle.flight_laws.proofs.HearingLemmas.{HasHeard, few_heard, message_heard}
use Rattle.flight_laws.proofs.MendingLemmas.{mends_keep}
use Rattle.flight_laws.proofs.PipeLemmas.{pipe_from, pipe_there, pipe_to}
use Rattle.flight_laws.proofs.SettleLemmas.{settle}
use Rattle.flight_laws.proofs.WorkBindingLemmas.{HoldsOctets, WorksBound, bound_work_kept, leaves_octets}
use Rattle.flight_laws.proofs.WorkingLemmas.{bits_kept, circuit_kept, lost_kept, packet_kept, priority_kept, received_kept, wire_kept, ping_kept}
use Rattle.flight_laws.proofs.WorksLemmas.{works_begin}
use Rattle.flight_laws.proofs.CommonLemmas.{no_more}
use Rattle.edge_model.proofs.BridgeLemmas.{PingGoes, PingIdles, PingOutcome, ping_outcome}

-- the ends of wires between each two edges are bound
abbrev pub Bounds : Plan → NetworkState → Type 0
Bounds plan network = HoldsOfTwo (AreBoundBy plan) network

pub bound_turns : (plan : Plan) → Turns (AreBoundBy plan)
bound_turns plan a b one other out back is = record {
  bound = λ messages answers said answered out_is back_is near far. bound_turned plan a b one other answers messages (is.bound answers messages answered said back_is out_is far near);
}

-- ---- an edge begins

-- what each place still has for the edge
pub record Starts (plan : Plan) (network : NetworkState) (me : EdgeId) : Type 0 where
  pub answers : ℕ → List Message
  pub are : (place : ℕ) → nat_eq place me.0 ≡ false → AreAnswers plan network me place (held network me.0 place) (answers place)

record Picks (plan : Plan) (network : NetworkState) (me : EdgeId) (place : ℕ) : Type 0 where
  answers : List Message
  are : nat_eq place me.0 ≡ false → AreAnswers plan network me place (held network me.0 place) answers

picks : (plan : Plan) (network : NetworkState) (me : EdgeId) (place : ℕ) → IsOrdered plan network → Picks plan network me place
picks plan network me place ordered = elim (cases_Bool (nat_eq place me.0)) [
  | inl same ↦ record { answers = []; are = λ away. clash (sym away ∙ same) }
  | inr away ↦ (let pair : ArePaired (ends_at plan me.0 place) (ends_at plan place me.0) ((network.edges me.0).peering place) ((network.edges place).peering me.0) (flight network me.0 place) (flight network place me.0) =
      ordered.two me.0 place (apart_back place me.0 away) in
      record { answers = pair.answers; are = λ off. record { said = pair.talk.answered; octets = pair.back_is } })
]

pub starts : (plan : Plan) (network : NetworkState) (me : EdgeId) → IsOrdered plan network → Starts plan network me
starts plan network me ordered = record { answers = λ place. (picks plan network me place ordered).answers; are = λ place away. (picks plan network me place ordered).are away }

pub held_now : (near : Option Peering) → HoldsOctets (held_by near) near
held_now None = tt
held_now (Some kept) = refl

pub begins_bound : (plan : Plan) (network : NetworkState) (me : EdgeId) (place : ℕ) → Bounds plan network → (start : Starts plan network me) → nat_eq place me.0 ≡ false
    → LeavesBound plan me place (network.edges place) (flight network me.0 place) (start.answers place) (begin_at network me)
begins_bound plan network me place bounds start away = record {
  bound = λ messages said out_is near far. (bounds me.0 place (apart_back place me.0 away)).bound messages (start.answers place) said (start.are place away).said
      (sym (no_more ((network.edges place).peering me.0) (flight network me.0 place)) ∙ out_is) (start.are place away).octets near far;
}

pub starts_bound : (plan : Plan) (network : NetworkState) (me : EdgeId) (checked : IsChecked plan) (types : HasTypes plan) → IsOrdered plan network → Bounds plan network
    → (start : Starts plan network me)
    → WorksBound plan network me checked types (λ place. held network me.0 place) start.answers (begin_at network me)
starts_bound plan network me checked types ordered bounds start = (
  (works_begin plan network me ordered, λ place here. held_now ((network.edges me.0).peering place)),
  λ place away. begins_bound plan network me place bounds start away,
)

-- ---- the work goes into the network

pub work_bounds : (plan : Plan) (network : NetworkState) (me : EdgeId) (origin hops : ℕ) (checked : IsChecked plan) (types : HasTypes plan) (work : Work) → Bounds plan network
    → (start : Starts plan network me)
    → WorksBound plan network me checked types (λ place. held network me.0 place) start.answers work → Bounds plan (absorb me origin hops work network).state
work_bounds plan network me origin hops checked types work bounds start works =
    settle (AreBoundBy plan) network me origin hops work (bound_turns plan) (λ a b apart away gone. bounds a b apart)
    (leaves_octets plan network me checked types (λ place. held network me.0 place) start.answers start.are work works)

-- an input that applies or not
answer_bounds : (plan : Plan) (network : NetworkState) (me : EdgeId) (applies : Bool) (checked : IsChecked plan) (types : HasTypes plan) (work : Work) → Bounds plan network
    → (start : Starts plan network me)
    → WorksBound plan network me checked types (λ place. held network me.0 place) start.answers work → Bounds plan (answer me 0 0 (cond applies work (idles (begin_at network me))) network).state
answer_bounds plan network me true checked types work bounds start works = either work.idle where
  either : (b : Bool) → Bounds plan (cond b (idle network) (absorb me 0 0 work network)).state
  either true = bounds
  either false = work_bounds plan network me 0 0 checked types work bounds start works
answer_bounds plan network me false checked types work bounds start works = rw (idles_are (begin_at network me)) bounds

-- ---- an end is lost

losing_bounds : (plan : Plan) (me peer : EdgeId) (network : NetworkState) → IsChecked plan → HasTypes plan → IsOrdered plan network → Bounds plan network → stands network me.0 peer.0
    ≡ true → Bounds plan (losing plan me peer network).state
losing_bounds plan me peer network checked types ordered bounds up =
    let start : Starts plan network me = starts plan network me ordered in
    work_bounds plan network me 0 0 checked types (losing_work plan network me peer) bounds start
    (subst (WorksBound plan network me checked types (λ place. held network me.0 place) start.answers) (sym (losing_is plan me peer network up))
    (lost_kept plan me (WorksBound plan network me checked types (λ place. held network me.0 place) start.answers)
    (bound_work_kept plan network me checked types (λ place. held network me.0 place) start.answers) peer (begin_at network me)
    (starts_bound plan network me checked types ordered bounds start)))

pub lose_bounds : (plan : Plan) (me peer : EdgeId) (network : NetworkState) → IsChecked plan → HasTypes plan → IsOrdered plan network → Bounds plan network
    → Bounds plan (lose_event plan me peer network).state
lose_bounds plan me peer network checked types ordered bounds = by_stand (stands network me.0 peer.0) refl where
  by_stand : (up : Bool) → stands network me.0 peer.0 ≡ up → Bounds plan (cond up (losing plan me peer network) (idle network)).state
  by_stand true is = losing_bounds plan me peer network checked types ordered bounds is
  by_stand false is = bounds

-- ---- an edge restarts

restart_leaves : (plan : Plan) (me : EdgeId) (network : NetworkState) (place : ℕ) → LeavesFor (AreBoundBy plan) (without_octets_to me network) me (restart_input (begin_at network me)) place
unfolding changes with_learned without_ends without_peerings with_kept
restart_leaves plan me network place = record { bound = λ messages answers said answered out_is back_is near far. clash near }

pub restart_bounds : (plan : Plan) (me : EdgeId) (network : NetworkState) → Bounds plan network → Bounds plan (restart_event me network).state
restart_bounds plan me network bounds =
    settle (AreBoundBy plan) (without_octets_to me network) me 0 0 (restart_input (begin_at network me)) (bound_turns plan)
    (λ a b apart away gone. rw (same_edges me network, away_from me network a b gone, away_from me network b a away) (bounds a b apart)) (λ place away. restart_leaves plan me network place)

-- ---- frames

frame_leaves : (plan : Plan) (network : NetworkState) (me : EdgeId) (work : Work) (place : ℕ) → LeavesFor (AreBoundBy plan) network me work place
    → LeavesFor (AreBoundBy plan) (with_frame network) me work place
unfolding with_frame
frame_leaves plan network me work place leaves = record { bound = leaves.bound }

frame_same : (plan : Plan) (network : NetworkState) → Bounds plan network → Bounds plan (with_frame network)
unfolding with_frame
frame_same plan network bounds a b apart = record { bound = (bounds a b apart).bound }

pub frame_bounds : (plan : Plan) (circuit : CircuitId) (octets : List ℕ) (row : Option CircuitPlan) (network : NetworkState) → IsChecked plan → HasTypes plan → IsOrdered plan network
    → Bounds plan network
    → Bounds plan (frame_event plan circuit octets row network).state
frame_bounds plan circuit octets None network checked types ordered bounds = bounds
frame_bounds plan circuit octets (Some row) network checked types ordered bounds = taken (is_own begun.edge row && is_on begun.edge circuit) where
  begun : Work
  begun = begin_at network row.edge

  full : Work
  full = received plan taken_all (arrival.Circuit circuit) row.service (port_at plan begun.edge circuit row) (inner_at plan circuit octets) begun

  start : Starts plan network row.edge
  start = starts plan network row.edge ordered

  works : WorksBound plan network row.edge checked types (λ place. held network row.edge.0 place) start.answers full
  works = received_kept plan row.edge (WorksBound plan network row.edge checked types (λ place. held network row.edge.0 place) start.answers)
      (bound_work_kept plan network row.edge checked types (λ place. held network row.edge.0 place) start.answers) taken_all
      (arrival.Circuit circuit) row.service (port_at plan begun.edge circuit row) (inner_at plan circuit octets) begun (starts_bound plan network row.edge checked types ordered bounds start)

  either : (idles_not : Bool) → Bounds plan (cond idles_not (idle network) (entering network circuit octets row full)).state
  either true = bounds
  either false =
      settle (AreBoundBy plan) (with_frame network) row.edge (next_origin network) 0 full (bound_turns plan) (λ a b apart away gone. frame_same plan network bounds a b apart)
      (λ place away. frame_leaves plan network row.edge full place (leaves_octets plan network row.edge checked types (λ k. held network row.edge.0 k) start.answers start.are full works place away))

  taken : (b : Bool) → Bounds plan (cond (cond b full (idles begun)).idle (idle network) (entering network circuit octets row (cond b full (idles begun)))).state
  taken true = either full.idle
  taken false = rw (idles_are begun) bounds

-- ---- packets

arrived_leaves : (plan : Plan) (number : ℕ) (network : NetworkState) (me : EdgeId) (work : Work) (place : ℕ) → LeavesFor (AreBoundBy plan) network me work place
    → LeavesFor (AreBoundBy plan) (without_packet number network) me work place
unfolding without_packet
arrived_leaves plan number network me work place leaves = record { bound = leaves.bound }

arrived_same : (plan : Plan) (number : ℕ) (network : NetworkState) → Bounds plan network → Bounds plan (without_packet number network)
unfolding without_packet
arrived_same plan number network bounds a b apart = record { bound = (bounds a b apart).bound }

repeated_same : (plan : Plan) (packet : Packet) (network : NetworkState) → Bounds plan network → Bounds plan (repeating packet network).state
unfolding with_copy
repeated_same plan packet network bounds a b apart = record { bound = (bounds a b apart).bound }

pub arrive_bounds : (plan : Plan) (packet : Option Packet) (network : NetworkState) → IsChecked plan → HasTypes plan → IsOrdered plan network → Bounds plan network
    → Bounds plan (arrive_event plan packet network).state
arrive_bounds plan None network checked types ordered bounds = bounds
arrive_bounds plan (Some packet) network checked types ordered bounds =
    settle (AreBoundBy plan) (without_packet packet.number network) packet.to packet.origin packet.hops work (bound_turns plan)
    (λ a b apart away gone. arrived_same plan packet.number network bounds a b apart)
    (λ place away. arrived_leaves plan packet.number network packet.to work place
    (leaves_octets plan network packet.to checked types (λ k. held network packet.to.0 k) start.answers start.are work works place away))
  where
    work : Work
    work = packet_work plan network packet

    start : Starts plan network packet.to
    start = starts plan network packet.to ordered

    works : WorksBound plan network packet.to checked types (λ place. held network packet.to.0 place) start.answers work
    works = packet_kept plan packet.to (WorksBound plan network packet.to checked types (λ place. held network packet.to.0 place) start.answers)
        (bound_work_kept plan network packet.to checked types (λ place. held network packet.to.0 place) start.answers) taken_all
        packet.bytes (begin_at network packet.to) (starts_bound plan network packet.to checked types ordered bounds start)

pub discard_bounds : (plan : Plan) (packet : Option Packet) (network : NetworkState) → Bounds plan network → Bounds plan (discard_event packet network).state
discard_bounds plan None network bounds = bounds
discard_bounds plan (Some packet) network bounds = arrived_same plan packet.number network bounds

pub again_bounds : (plan : Plan) (packet : Option Packet) (network : NetworkState) → Bounds plan network → Bounds plan (again_event packet network).state
again_bounds plan None network bounds = bounds
again_bounds plan (Some packet) network bounds = repeated_same plan packet network bounds

-- ---- circuits, wires and failure bits

pub circuit_bounds : (plan : Plan) (circuit : CircuitId) (on : Bool) (row : Option CircuitPlan) (network : NetworkState) → IsChecked plan → HasTypes plan → IsOrdered plan network → Bounds plan network
    → Bounds plan (circuit_event plan circuit on row network).state
circuit_bounds plan circuit on None network checked types ordered bounds = bounds
circuit_bounds plan circuit on (Some row) network checked types ordered bounds =
    let start : Starts plan network row.edge = starts plan network row.edge ordered in
    answer_bounds plan network row.edge (is_own (begin_at network row.edge).edge row && not (is_same on (is_on (begin_at network row.edge).edge circuit))) checked types
    (mends plan taken_all (changes (turned plan circuit row on) (begin_at network row.edge)))
    bounds start (circuit_kept plan row.edge (WorksBound plan network row.edge checked types (λ k. held network row.edge.0 k) start.answers)
    (bound_work_kept plan network row.edge checked types (λ k. held network row.edge.0 k) start.answers) circuit row on
    (begin_at network row.edge) (starts_bound plan network row.edge checked types ordered bounds start))

pub wire_bounds : (plan : Plan) (me : EdgeId) (wire : WireId) (on : Bool) (network : NetworkState) → IsChecked plan → HasTypes plan → IsOrdered plan network → Bounds plan network
    → Bounds plan (wire_event plan me wire on network).state
wire_bounds plan me wire on network checked types ordered bounds =
    let start : Starts plan network me = starts plan network me ordered in
    answer_bounds plan network me (passes plan (begin_at network me).edge.me wire && not (is_same on ((begin_at network me).edge.wire_on wire.0))) checked types
    (mends plan taken_all (changes (turned_wire wire on) (begin_at network me))) bounds start
    (wire_kept plan me (WorksBound plan network me checked types (λ k. held network me.0 k) start.answers)
    (bound_work_kept plan network me checked types (λ k. held network me.0 k) start.answers) wire on (begin_at network me)
    (starts_bound plan network me checked types ordered bounds start))

pub status_bounds : (plan : Plan) (me : EdgeId) (wire : WireId) (bits : ℕ) (network : NetworkState) → IsChecked plan → HasTypes plan → bits ≤ 31 → IsOrdered plan network
    → Bounds plan network → Bounds plan (status_event plan me wire bits network).state
status_bounds plan me wire bits network checked types few ordered bounds =
    let start : Starts plan network me = starts plan network me ordered in
    answer_bounds plan network me (ends_here plan (begin_at network me).edge.me wire && not (nat_eq bits ((begin_at network me).edge.bits wire.0))) checked types
    (mends plan taken_all (changes (with_bits wire bits) (begin_at network me))) bounds start
    (bits_kept plan me (WorksBound plan network me checked types (λ k. held network me.0 k) start.answers)
    (bound_work_kept plan network me checked types (λ k. held network me.0 k) start.answers) wire bits (begin_at network me) few
    (starts_bound plan network me checked types ordered bounds start))

pub priority_bounds : (plan : Plan) (me : EdgeId) (wire : WireId) (priority : ℕ) (network : NetworkState) → IsChecked plan → HasTypes plan → IsOrdered plan network
    → Bounds plan network → Bounds plan (priority_event plan me wire priority network).state
priority_bounds plan me wire priority network checked types ordered bounds =
    let start : Starts plan network me = starts plan network me ordered in
    answer_bounds plan network me (is_own_spoke (begin_at network me).edge.me (wire_row plan wire) && not (nat_eq priority ((begin_at network me).edge.priority wire.0))) checked types
    (mends plan taken_all (changes (with_priority wire priority) (begin_at network me))) bounds start
    (priority_kept plan me (WorksBound plan network me checked types (λ k. held network me.0 k) start.answers)
    (bound_work_kept plan network me checked types (λ k. held network me.0 k) start.answers) wire priority (begin_at network me)
    (starts_bound plan network me checked types ordered bounds start))

-- ---- pings

pub ping_bounds : (plan : Plan) (me : EdgeId) (wire : WireId) (network : NetworkState) → IsChecked plan → HasTypes plan → IsOrdered plan network → Bounds plan network
    → Bounds plan (ping_event plan me wire network).state
ping_bounds plan me wire network checked types ordered bounds = by (ping_outcome plan taken_all wire (begin_at network me)) where
  start : Starts plan network me
  start = starts plan network me ordered

  works : WorksBound plan network me checked types (λ k. held network me.0 k) start.answers (begin_at network me)
  works = starts_bound plan network me checked types ordered bounds start

  by : PingOutcome (begin_at network me) (ping_work plan network me wire) → Bounds plan (ping_event plan me wire network).state
  by (PingIdles is) =
      subst (λ (work : Work). Bounds plan (answer me 0 0 work network).state) (sym is)
      (answer_bounds plan network me false checked types (begin_at network me) bounds start works)
  by (PingGoes only) =
      answer_bounds plan network me true checked types (ping_work plan network me wire) bounds start
      (ping_kept plan me (WorksBound plan network me checked types (λ k. held network me.0 k) start.answers)
      (bound_work_kept plan network me checked types (λ k. held network me.0 k) start.answers) wire (begin_at network me) only works)

-- ---- octets are delivered

module _ (plan : Plan) (from to : EdgeId) (count : ℕ) (network : NetworkState) (kept : Peering) (checked : IsChecked plan) (types : HasTypes plan) (ordered : IsOrdered plan network) (bounds : Bounds plan network) (told : KeepsToldRule plan network) (apart : nat_eq from.0 to.0 ≡ false)
    (at : (network.edges to.0).peering from.0 ≡ Some kept) where
  pipe : List ℕ
  pipe = network.pipes from.0 to.0

  octets : List ℕ
  octets = kept.held ++ take count pipe

  later : NetworkState
  later = with_pipe from to (drop count pipe) network

  off : nat_eq to.0 from.0 ≡ false
  off = apart_back from.0 to.0 apart

  pair : ArePaired (ends_at plan to.0 from.0) (ends_at plan from.0 to.0) (Some kept) ((network.edges from.0).peering to.0) (flight network to.0 from.0) (kept.held ++ pipe)
  unfolding pipe
  pair = rw at at (ordered.two to.0 from.0 off)

  start : Starts plan network to
  start = starts plan network to ordered

  -- the edges are as they were, and what is on its way to other edges
  later_out : (place : ℕ) → flight later to.0 place ≡ flight network to.0 place
  unfolding later
  later_out place = rw (pipe_edges from to (drop count pipe) network, pipe_from from to (drop count pipe) network to.0 place off) refl

  later_edges : later.edges ≡ network.edges
  unfolding later
  later_edges = pipe_edges from to (drop count pipe) network

  later_pipes : (place : ℕ) → nat_eq place from.0 ≡ false → later.pipes place to.0 ≡ network.pipes place to.0
  unfolding later
  later_pipes place away = pipe_from from to (drop count pipe) network place to.0 away

  rest_pipe : later.pipes from.0 to.0 ≡ drop count pipe
  unfolding later
  rest_pipe = pipe_there from to (drop count pipe) network

  whole : octets ++ drop count pipe ≡ octets_of_all (ends_at plan from.0 to.0).me pair.answers
  unfolding octets pipe
  whole = append_assoc kept.held (take count pipe) (drop count pipe) ∙ ap (λ (l : List ℕ). kept.held ++ l) (take-append-drop count pipe) ∙ pair.back_is

  moved_leaves : (place : ℕ) (answers : List Message) → LeavesBound plan to place (network.edges place) (flight network to.0 place) answers (begin_at network to)
      → LeavesBound plan to place (later.edges place) (flight later to.0 place) answers (begin_at network to)
  moved_leaves place answers leaves = subst (λ (f : ℕ → EdgeState). LeavesBound plan to place (f place) (flight later to.0 place) answers (begin_at network to)) (sym later_edges)
      (subst (λ (l : List ℕ). LeavesBound plan to place (network.edges place) l answers (begin_at network to)) (sym (later_out place)) leaves)

  peer_leaves : LeavesBound plan to from.0 (network.edges from.0) (flight network to.0 from.0) pair.answers (begin_at network to)
  unfolding pipe
  peer_leaves = record {
    bound = λ messages said out_is near far. (bounds to.0 from.0 off).bound messages pair.answers said pair.talk.answered
        (sym (no_more ((network.edges from.0).peering to.0) (flight network to.0 from.0)) ∙ out_is) (ap (λ (o : Option Peering). held_by o ++ network.pipes from.0 to.0) at ∙ pair.back_is) near far;
  }

  -- what the edge is still to hear is planned
  planned : AllMessages (TellsPlan plan from.0 to.0) pair.answers
  unfolding pipe
  planned =
      let contents : TellsContents plan network from.0 to.0 = told from.0 to.0 apart in
      subst (AllMessages (TellsPlan plan from.0 to.0))
      (said_once (ends_at plan from.0 to.0) contents.messages pair.answers pair.talk.here.between.two contents.on_way.said pair.talk.answered
      (sym contents.on_way.octets ∙ (ap (λ (o : Option Peering). held_by o ++ network.pipes from.0 to.0) at ∙ pair.back_is)))
      contents.planned.told

  hears_all : HearsAll plan later to from off checked types (λ place. held network to.0 place) start.answers pair.answers (begin_at network to)
  unfolding later pipe
  hears_all = (
    (hears_begin plan from to (drop count pipe) network kept ordered apart at pair, λ place here. held_now ((network.edges to.0).peering place)),
    (
      (
        hears_begin plan from to (drop count pipe) network kept ordered apart at pair,
        λ place away. elim (cases_Bool (nat_eq place from.0)) [
          | inl same ↦ rw same (subst (λ (k : ℕ). LeavesBound plan to k (later.edges k) (flight later to.0 k) pair.answers (begin_at network to)) (sym (eqb-true place from.0 same))
              (moved_leaves from.0 pair.answers peer_leaves))
          | inr gone ↦ rw gone (moved_leaves place (start.answers place) (begins_bound plan network to place bounds start away))
        ],
      ),
      planned,
    ),
  )

  heard : HasHeard from (ends_at plan from.0 to.0) (HearsAll plan later to from off checked types (λ place. held network to.0 place) start.answers) (later.pipes from.0 to.0)
      (hears_few plan taken_all from (suc (length octets)) octets (begin_at network to))
  heard = rw rest_pipe
      (few_heard plan from (ends_at plan from.0 to.0) pair.talk.here.between.two (HearsAll plan later to from off checked types (λ place. held network to.0 place) start.answers)
      (message_heard plan to from (ends_at plan from.0 to.0) (HearsAll plan later to from off checked types (λ place. held network to.0 place) start.answers)
      (all_kept plan later to from off checked types (λ place. held network to.0 place) start.answers))
      (suc (length octets)) octets (drop count pipe) pair.answers (begin_at network to) pair.talk.answered whole hears_all)

  work : Work
  work = octets_input plan taken_all from (take count pipe) (Some kept) (begin_at network to)

  still_held : ℕ → List ℕ
  still_held = held_after plan later to from off checked types (λ place. held network to.0 place) start.answers heard.rest

  still_heard : ℕ → List Message
  still_heard = answers_for plan later to from off checked types start.answers heard.later

  deliver_bound : WorksBound plan later to checked types still_held still_heard work
  unfolding work octets still_held still_heard
  deliver_bound = mends_keep plan to (WorksBound plan later to checked types still_held still_heard) (bound_work_kept plan later to checked types still_held still_heard).rows
      (hears_few plan taken_all from (suc (length octets)) octets (begin_at network to))
      (heard_bound plan later to from off checked types (λ place. held network to.0 place) start.answers (hears_few plan taken_all from (suc (length octets)) octets (begin_at network to)) heard)

  still_are : (place : ℕ) → nat_eq place to.0 ≡ false → AreAnswers plan later to place (still_held place) (still_heard place)
  unfolding still_held still_heard
  still_are place away = elim (cases_Bool (nat_eq place from.0)) [
    | inl same ↦ rw same (subst (λ (k : ℕ). AreAnswers plan later to k heard.rest heard.later) (sym (eqb-true place from.0 same)) (record { said = heard.said; octets = heard.behind }))
    | inr gone ↦ rw gone (record { said = (start.are place away).said; octets = ap (λ (l : List ℕ). held network to.0 place ++ l) (later_pipes place gone) ∙ (start.are place away).octets })
  ]

  pub delivered_bounds : Bounds plan (absorb to 0 0 (octets_input plan taken_all from (take count (network.pipes from.0 to.0)) (Some kept) (begin_at network to))
      (with_pipe from to (drop count (network.pipes from.0 to.0)) network)).state
  unfolding later pipe work
  delivered_bounds = settle (AreBoundBy plan) later to 0 0 work (bound_turns plan)
      (λ a b between away gone. rw (
        pipe_edges from to (drop count pipe) network,
        pipe_to from to (drop count pipe) network a b gone,
        pipe_to from to (drop count pipe) network b a away,
      ) (bounds a b between))
      (leaves_octets plan later to checked types still_held still_heard still_are work deliver_bound)

delivering_bounds : (plan : Plan) (from to : EdgeId) (count : ℕ) (network : NetworkState) (near : Option Peering) → IsChecked plan → HasTypes plan → IsOrdered plan network
    → Bounds plan network → KeepsToldRule plan network → nat_eq from.0 to.0 ≡ false
    → (network.edges to.0).peering from.0 ≡ near → is_there near ≡ true → Bounds plan (delivering plan from to count network).state
delivering_bounds plan from to count network None checked types ordered bounds told apart at up = clash up
delivering_bounds plan from to count network (Some kept) checked types ordered bounds told apart at up =
    rw at (delivered_bounds plan from to count network kept checked types ordered bounds told apart at)

pub deliver_bounds : (plan : Plan) (from to : EdgeId) (count : ℕ) (network : NetworkState) → IsChecked plan → HasTypes plan → IsOrdered plan network → Bounds plan network
    → KeepsToldRule plan network → Bounds plan (deliver_event plan from to count network).state
deliver_bounds plan from to count network checked types ordered bounds told = by_stand (stands network to.0 from.0) refl where
  some : stands network to.0 from.0 ≡ true → (drained : Bool) → Bounds plan (cond drained (losing plan to from network) (delivering plan from to count network)).state
  some is true = losing_bounds plan to from network checked types ordered bounds is
  some is false = delivering_bounds plan from to count network ((network.edges to.0).peering from.0) checked types ordered bounds told (stands_apart plan network from.0 to.0 ordered is) refl is

  which : stands network to.0 from.0 ≡ true → (any : Bool)
      → Bounds plan (cond any (cond (is_drained_pipe network from.0 to.0) (losing plan to from network) (delivering plan from to count network)) (idle network)).state
  which is true = some is (is_drained_pipe network from.0 to.0)
  which is false = bounds

  by_stand : (up : Bool) → stands network to.0 from.0 ≡ up
      → Bounds plan (cond (up && (not (is_drained_pipe network from.0 to.0) || not (stands network from.0 to.0)))
      (cond (is_drained_pipe network from.0 to.0) (losing plan to from network) (delivering plan from to count network)) (idle network)).state
  by_stand true is = which is _
  by_stand false is = bounds
