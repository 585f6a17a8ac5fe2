-- Events at one edge that touch its sessions only by what they have it tell: frames, packets, circuits, wires and failure bits.
use Rattle.std.proofs.Common.{◌≡◌, ◌≤◌, ◌&&◌, ℕ, Bool, true, false, cond, not, nat_eq, List, Option, Some, None, refl, sym, subst}
use Rattle.net_base.specs.declared.plan.Plan.{Plan}
use Rattle.net_base.specs.declared.plan.circuit_plan.CircuitPlan.{CircuitPlan}
use Rattle.net_base.specs.declared.plan.places.CircuitId.{CircuitId}
use Rattle.net_base.specs.declared.plan.places.EdgeId.{EdgeId}
use Rattle.net_base.specs.declared.plan.places.WireId.{WireId}
use Rattle.net_base.specs.declared.trace.arrival.Arrival.TheVariants as arrival
use Rattle.net_base.specs.plan.Accepted.{IsChecked}
use Rattle.net_base.specs.plan.Places.{wire_row}
use Rattle.net_base.specs.trace.Isolated.{inner_at}
use Rattle.edge_model.specs.Circuit.{is_same, turned}
use Rattle.edge_model.specs.EndPlaces.{ends_here, passes}
use Rattle.edge_model.specs.Frame.{is_own, port_at, received}
use Rattle.edge_model.specs.Mend.{mends}
use Rattle.edge_model.specs.State.{is_on, with_bits, with_priority}
use Rattle.edge_model.specs.Wire.{is_own_spoke, turned_wire}
use Rattle.edge_model.specs.Work.{Work, changes, idles}
use Rattle.network_model.specs.Absorb.{absorb, answer, begin_at, idle, taken_all}
use Rattle.network_model.specs.Circuit.{circuit_event}
use Rattle.network_model.specs.Frame.{entering, frame_event, next_origin}
use Rattle.network_model.specs.declared.packet.Packet.{Packet}
use Rattle.network_model.specs.Packet.{again_event, arrive_event, discard_event, packet_work, repeating}
use Rattle.network_model.specs.State.{NetworkState, with_copy, with_frame, without_packet}
use Rattle.network_model.specs.Wire.{priority_event, status_event, wire_event}
use Rattle.network_model.specs.Ping.{ping_event, ping_work}
use Rattle.flight_laws.specs.Ends.{HasTypes, IsOrdered, KeepsOrder, WorksOn}
use Rattle.flight_laws.proofs.EventLemmas.{idle_keeps}
use Rattle.flight_laws.proofs.WorkingLemmas.{bits_kept, circuit_kept, packet_kept, priority_kept, received_kept, wire_kept, ping_kept}
use Rattle.flight_laws.proofs.WorksLemmas.{work_keeps, works_begin, works_kept}
use Rattle.edge_model.proofs.BridgeLemmas.{PingGoes, PingIdles, PingOutcome, ping_outcome}

pub idles_are : (work : Work) → (idles work).idle ≡ true
unfolding idles
idles_are work = refl

-- an input that applies or not
answer_keeps : (plan : Plan) (network : NetworkState) (me : EdgeId) (applies : Bool) (work : Work) → IsOrdered plan network → WorksOn plan network me work
    → KeepsOrder plan (answer me 0 0 (cond applies work (idles (begin_at network me))) network)
answer_keeps plan network me true work ordered works = either work.idle where
  either : (b : Bool) → KeepsOrder plan (cond b (idle network) (absorb me 0 0 work network))
  either true = idle_keeps plan network ordered
  either false = work_keeps plan network me 0 0 work ordered works
answer_keeps plan network me false work ordered works = rw (idles_are (begin_at network me)) (idle_keeps plan network ordered)

-- ---- frames

frame_ordered : (plan : Plan) (network : NetworkState) → IsOrdered plan network → IsOrdered plan (with_frame network)
unfolding with_frame
frame_ordered plan network ordered = record { two = λ a b apart. ordered.two a b apart; alone = λ a. ordered.alone a; placed = λ a. ordered.placed a; sound = λ a. ordered.sound a }

frame_works : (plan : Plan) (network : NetworkState) (me : EdgeId) (work : Work) → WorksOn plan network me work → WorksOn plan (with_frame network) me work
unfolding with_frame
frame_works plan network me work works = record { fine = works.fine; sound = works.sound; alone = works.alone; left = λ place away. works.left place away }

entering_keeps : (plan : Plan) (network : NetworkState) (circuit : CircuitId) (octets : List ℕ) (row : CircuitPlan) (work : Work) → IsOrdered plan network → WorksOn plan network row.edge work
    → KeepsOrder plan (entering network circuit octets row work)
entering_keeps plan network circuit octets row work ordered works =
    let kept = work_keeps plan (with_frame network) row.edge (next_origin network) 0 work (frame_ordered plan network ordered) (frame_works plan network row.edge work works) in
    record { ordered = kept.ordered; good = (tt, kept.good) }

pub frame_keeps : (plan : Plan) (circuit : CircuitId) (octets : List ℕ) (row : Option CircuitPlan) (network : NetworkState) → IsChecked plan → HasTypes plan → IsOrdered plan network
    → KeepsOrder plan (frame_event plan circuit octets row network)
frame_keeps plan circuit octets None network checked types ordered = idle_keeps plan network ordered
frame_keeps plan circuit octets (Some row) network checked types ordered = taken (is_own begun.edge row && is_on begun.edge circuit) where
  begun : Work
  begun = begin_at network row.edge

  full : Work
  full = received plan taken_all (arrival.Circuit circuit) row.service (port_at plan begun.edge circuit row) (inner_at plan circuit octets) begun

  either : (idles_not : Bool) → KeepsOrder plan (cond idles_not (idle network) (entering network circuit octets row full))
  either true = idle_keeps plan network ordered
  either false = entering_keeps plan network circuit octets row full ordered
      (received_kept plan row.edge (WorksOn plan network row.edge) (works_kept plan network row.edge checked types) taken_all (arrival.Circuit circuit) row.service
      (port_at plan begun.edge circuit row) (inner_at plan circuit octets) begun (works_begin plan network row.edge ordered))

  taken : (b : Bool) → KeepsOrder plan (cond (cond b full (idles begun)).idle (idle network) (entering network circuit octets row (cond b full (idles begun))))
  taken true = either full.idle
  taken false = rw (idles_are begun) (idle_keeps plan network ordered)

-- ---- packets

arrived_ordered : (plan : Plan) (number : ℕ) (network : NetworkState) → IsOrdered plan network → IsOrdered plan (without_packet number network)
unfolding without_packet
arrived_ordered plan number network ordered = record { two = λ a b apart. ordered.two a b apart; alone = λ a. ordered.alone a; placed = λ a. ordered.placed a; sound = λ a. ordered.sound a }

arrived_works : (plan : Plan) (number : ℕ) (network : NetworkState) (me : EdgeId) (work : Work) → WorksOn plan network me work → WorksOn plan (without_packet number network) me work
unfolding without_packet
arrived_works plan number network me work works = record { fine = works.fine; sound = works.sound; alone = works.alone; left = λ place away. works.left place away }

repeated_ordered : (plan : Plan) (packet : Packet) (network : NetworkState) → IsOrdered plan network → IsOrdered plan (repeating packet network).state
unfolding with_copy
repeated_ordered plan packet network ordered = record { two = λ a b apart. ordered.two a b apart; alone = λ a. ordered.alone a; placed = λ a. ordered.placed a; sound = λ a. ordered.sound a }

pub arrive_keeps : (plan : Plan) (packet : Option Packet) (network : NetworkState) → IsChecked plan → HasTypes plan → IsOrdered plan network → KeepsOrder plan (arrive_event plan packet network)
arrive_keeps plan None network checked types ordered = idle_keeps plan network ordered
arrive_keeps plan (Some packet) network checked types ordered =
    work_keeps plan (without_packet packet.number network) packet.to packet.origin packet.hops (packet_work plan network packet) (arrived_ordered plan packet.number network ordered)
    (arrived_works plan packet.number network packet.to (packet_work plan network packet)
    (packet_kept plan packet.to (WorksOn plan network packet.to) (works_kept plan network packet.to checked types) taken_all packet.bytes (begin_at network packet.to)
    (works_begin plan network packet.to ordered)))

pub discard_keeps : (plan : Plan) (packet : Option Packet) (network : NetworkState) → IsOrdered plan network → KeepsOrder plan (discard_event packet network)
discard_keeps plan None network ordered = idle_keeps plan network ordered
discard_keeps plan (Some packet) network ordered = record { ordered = arrived_ordered plan packet.number network ordered; good = tt }

pub again_keeps : (plan : Plan) (packet : Option Packet) (network : NetworkState) → IsOrdered plan network → KeepsOrder plan (again_event packet network)
again_keeps plan None network ordered = idle_keeps plan network ordered
again_keeps plan (Some packet) network ordered = record { ordered = repeated_ordered plan packet network ordered; good = (tt, tt) }

-- ---- circuits

pub circuit_keeps : (plan : Plan) (circuit : CircuitId) (on : Bool) (row : Option CircuitPlan) (network : NetworkState) → IsChecked plan → HasTypes plan → IsOrdered plan network
    → KeepsOrder plan (circuit_event plan circuit on row network)
circuit_keeps plan circuit on None network checked types ordered = idle_keeps plan network ordered
circuit_keeps plan circuit on (Some row) network checked types ordered =
    answer_keeps plan network row.edge (is_own (begin_at network row.edge).edge row && not (is_same on (is_on (begin_at network row.edge).edge circuit)))
    (mends plan taken_all (changes (turned plan circuit row on) (begin_at network row.edge))) ordered
    (circuit_kept plan row.edge (WorksOn plan network row.edge) (works_kept plan network row.edge checked types) circuit row on (begin_at network row.edge) (works_begin plan network row.edge ordered))

-- ---- wires

pub wire_keeps : (plan : Plan) (me : EdgeId) (wire : WireId) (on : Bool) (network : NetworkState) → IsChecked plan → HasTypes plan → IsOrdered plan network
    → KeepsOrder plan (wire_event plan me wire on network)
wire_keeps plan me wire on network checked types ordered =
    answer_keeps plan network me (passes plan (begin_at network me).edge.me wire && not (is_same on ((begin_at network me).edge.wire_on wire.0)))
    (mends plan taken_all (changes (turned_wire wire on) (begin_at network me))) ordered
    (wire_kept plan me (WorksOn plan network me) (works_kept plan network me checked types) wire on (begin_at network me) (works_begin plan network me ordered))

pub status_keeps : (plan : Plan) (me : EdgeId) (wire : WireId) (bits : ℕ) (network : NetworkState) → IsChecked plan → HasTypes plan → bits ≤ 31 → IsOrdered plan network
    → KeepsOrder plan (status_event plan me wire bits network)
status_keeps plan me wire bits network checked types few ordered =
    answer_keeps plan network me (ends_here plan (begin_at network me).edge.me wire && not (nat_eq bits ((begin_at network me).edge.bits wire.0)))
    (mends plan taken_all (changes (with_bits wire bits) (begin_at network me))) ordered
    (bits_kept plan me (WorksOn plan network me) (works_kept plan network me checked types) wire bits (begin_at network me) few (works_begin plan network me ordered))

pub priority_keeps : (plan : Plan) (me : EdgeId) (wire : WireId) (priority : ℕ) (network : NetworkState) → IsChecked plan → HasTypes plan → IsOrdered plan network
    → KeepsOrder plan (priority_event plan me wire priority network)
priority_keeps plan me wire priority network checked types ordered =
    answer_keeps plan network me (is_own_spoke (begin_at network me).edge.me (wire_row plan wire) && not (nat_eq priority ((begin_at network me).edge.priority wire.0)))
    (mends plan taken_all (changes (with_priority wire priority) (begin_at network me))) ordered
    (priority_kept plan me (WorksOn plan network me) (works_kept plan network me checked types) wire priority (begin_at network me) (works_begin plan network me ordered))

-- ---- pings

pub ping_keeps : (plan : Plan) (me : EdgeId) (wire : WireId) (network : NetworkState) → IsChecked plan → HasTypes plan → IsOrdered plan network → KeepsOrder plan (ping_event plan me wire network)
ping_keeps plan me wire network checked types ordered = by (ping_outcome plan taken_all wire (begin_at network me)) where
  works : WorksOn plan network me (begin_at network me)
  works = works_begin plan network me ordered

  by : PingOutcome (begin_at network me) (ping_work plan network me wire) → KeepsOrder plan (ping_event plan me wire network)
  by (PingIdles is) = subst (λ (work : Work). KeepsOrder plan (answer me 0 0 work network)) (sym is) (answer_keeps plan network me false (begin_at network me) ordered works)
  by (PingGoes only) =
      answer_keeps plan network me true (ping_work plan network me wire) ordered
      (ping_kept plan me (WorksOn plan network me) (works_kept plan network me checked types) wire (begin_at network me) only works)
