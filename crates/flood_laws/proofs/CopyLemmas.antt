-- Copies of a frame in a window: the packets of a bridge's copies, and what comes of them where they arrive.
use Rattle.std.proofs.Common.{Bool, ◌||◌, ◌-◌, ◌≡◌, ◌+◌, ◌∙◌, ℕ, true, false, List, [], ◌∷◌, Option, Some, None, Ok, position, refl, sym, ap}
use Rattle.std.specs.List.{AllByRecursion}
use Rattle.std.proofs.lemmas.Bool.{eq-eqb, eqb-true}
use Rattle.net_values.proofs.BoolLemmas.{clash}
use Rattle.net_base.specs.declared.plan.Plan.{Plan}
use Rattle.net_base.specs.declared.plan.wire_plan.WirePlan.{WirePlan}
use Rattle.net_base.specs.declared.plan.places.EdgeId.{EdgeId}
use Rattle.net_base.specs.declared.plan.places.ServiceId.{ServiceId}
use Rattle.net_base.specs.declared.plan.places.WireId.{WireId}
use Rattle.net_base.specs.declared.trace.arrival.Arrival.{Arrival}
use Rattle.net_base.specs.declared.trace.arrival.Arrival.TheVariants as arrival
use Rattle.net_base.specs.declared.trace.drop_cause.DropCause.{DropCause}
use Rattle.net_base.specs.declared.trace.entry.Entry.{Entry}
use Rattle.net_base.specs.plan.Accepted.{IsChecked}
use Rattle.net_base.specs.plan.Places.{mtu_of, wire_row}
use Rattle.net_base.specs.plan.Roles.{are_joined_by}
use Rattle.hvpls_spokes.specs.Port.{is_wire_port, ports_of}
use Rattle.eth_encap.specs.Packet.{entry_of}
use Rattle.pw_signalling.specs.End.{EndState, Advertised}
use Rattle.pw_stitch.specs.Relabelling.{relabelled}
use Rattle.edge_model.specs.Copies.{AllAreCopies, SentCopy}
use Rattle.edge_model.specs.declared.effect.Effect.{Effect}
use Rattle.edge_model.specs.declared.effect.Effect.TheVariants as effect
use Rattle.edge_model.specs.declared.end_place.EndPlace.{EndPlace}
use Rattle.edge_model.specs.Ends.{end_forwards, is_stitched, forwards_at, is_up, wire_end}
use Rattle.edge_model.specs.Frame.{forwarded}
use Rattle.edge_model.specs.Send.{drops}
use Rattle.edge_model.specs.State.{EdgeState, with_learned}
use Rattle.network_model.specs.declared.packet.Packet.{Packet}
use Rattle.network_model.specs.Absorb.{begin_at, taken_all}
use Rattle.network_model.specs.Calm.{is_quiet}
use Rattle.network_model.specs.Packet.{packet_work}
use Rattle.network_model.specs.State.{NetworkState}
use Rattle.network_model.specs.Window.{carried}
use Rattle.network_model.proofs.PacketListLemmas.{packet_from, packets_of}
use Rattle.flight_laws.specs.Laws.{AreSettled}
use Rattle.flight_laws.proofs.RuledNetworkLemmas.{IsRuledNetwork}
use Rattle.flight_laws.proofs.StableLemmas.{IsPlannedBinding, end_is_planned}
use Rattle.flight_laws.proofs.PlaceLemmas.{same_row}
use Rattle.flight_laws.proofs.RuledMendLemmas.{wire_fits}
use Rattle.packet_laws.specs.Carried.{IsCarried, IsPacked}
use Rattle.packet_laws.proofs.ArriveLemmas.{IsSized, same_frame, same_entry}
use Rattle.packet_laws.proofs.SendLemmas.{IsSender}
use Rattle.flood_laws.specs.Copy.{CarriesCopy, IsLabelled, IsStill, IsStillEdge}
use Rattle.network_model.specs.Goal.{start}
use Rattle.network_model.proofs.GoalLemmas.{goal_reached}
use Rattle.net_base.specs.plan.Paths.{is_first, is_last}
use Rattle.net_base.proofs.PathLemmas.{joins_turned}
use Rattle.edge_model.specs.EndPlaces.{is_terminal}
use Rattle.edge_model.proofs.CopyLemmas.{found_end}
use Rattle.edge_model.proofs.PlaceLemmas.{IsEndOf}
use Rattle.edge_model.proofs.PacketLemmas.{wire_end_is}
use Rattle.flood_laws.proofs.PassingLemmas.{IsNotPassed, IsPassedOn, Passed, passed, passed_carries}
use Rattle.flood_laws.proofs.ArrivalLemmas.{Arrived, NotTaken, Taken, arrived, arrives_sized, arrives_under, arrives_with, taken_where}
use Rattle.flood_laws.proofs.CarryLemmas.{copy_carried, copy_from, copy_joined, copy_packed, packed_entry}
use Rattle.flood_laws.proofs.FarLemmas.{far_advertises}

-- ---- nothing but addresses has changed

-- so the ends are those that were
pub still_ends : (calm edge : EdgeState) → IsStillEdge calm edge → edge.ends ≡ calm.ends
unfolding with_learned
still_ends calm edge still = ap (λ (e : EdgeState). e.ends) still.is

-- and each end forwards as it did
pub still_forwards : (plan : Plan) (calm edge : EdgeState) (wire : WireId) → IsStillEdge calm edge → end_forwards plan edge wire ≡ end_forwards plan calm wire
unfolding with_learned
still_forwards plan calm edge wire still = ap (λ (e : EdgeState). end_forwards plan e wire) still.is ∙ by (wire_end plan calm.me wire) where
  by : (place : Option EndPlace) → forwards_at plan (with_learned still.learned calm) place ≡ forwards_at plan calm place
  by None = refl
  by (Some place) = refl

-- it is at its place
pub still_placed : (calm edge : EdgeState) → IsStillEdge calm edge → calm.me ≡ edge.me
unfolding with_learned
still_placed calm edge still = sym (ap (λ (e : EdgeState). e.me) still.is)

-- a copy is sent by an end that forwards
pub copy_forwards : (plan : Plan) (calm network : NetworkState) (me : EdgeId) (came : Arrival) (service : ServiceId) (frame : List ℕ) (arrival : ℕ) (peer : EdgeId) (wire : WireId) (of_arrival : Arrival) (bytes : List ℕ)
    → IsStill calm network → SentCopy plan (network.edges me.0) came service frame arrival peer wire of_arrival bytes → end_forwards plan (calm.edges me.0) wire ≡ true
copy_forwards plan calm network me came service frame arrival peer wire of_arrival bytes still copy =
    sym (still_forwards plan (calm.edges me.0) (network.edges me.0) wire (still.edges me.0)) ∙ (ap (forwards_at plan (network.edges me.0)) copy.here ∙ ap is_up copy.forwards)

-- and is stitched as it was
pub still_is_stitched : (plan : Plan) (calm edge : EdgeState) (wire : WireId) → IsStillEdge calm edge → is_stitched plan edge wire ≡ is_stitched plan calm wire
unfolding with_learned
still_is_stitched plan calm edge wire still = ap (λ (e : EdgeState). is_stitched plan e wire) still.is

-- ---- the packets of copies

-- the sender of a copy is a terminal edge of its wire
pub sent_ended : (plan : Plan) (network : NetworkState) (me : EdgeId) (came : Arrival) (service : ServiceId) (frame : List ℕ) (arrival : ℕ) (peer : EdgeId) (wire : WireId) (of_arrival : Arrival) (bytes : List ℕ)
    → IsChecked plan → IsRuledNetwork plan network → (copy : SentCopy plan (network.edges me.0) came service frame arrival peer wire of_arrival bytes)
    → is_first me.0 copy.row.path || is_last me.0 copy.row.path ≡ true
sent_ended plan network me came service frame arrival peer wire of_arrival bytes checked ruled copy =
    let edge : EdgeState = network.edges me.0 in
    let end : IsEndOf plan edge.me copy.place = wire_end_is plan edge.me wire copy.place copy.here in
    let row : end.row ≡ copy.row = same_row end.row copy.row (sym end.is ∙ (ap (wire_row plan) (sym copy.same_wire) ∙ copy.is)) in
    ap (λ (r : WirePlan). is_terminal r me) (sym row)
    ∙ (ap (λ (k : EdgeId). is_terminal end.row k) (sym (ruled.edges me.0).place) ∙ (sym end.terminal ∙ (found_end plan edge.me wire copy.place copy.here).terminal))

copy_carries : (plan : Plan) (calm network : NetworkState) (me : EdgeId) (origin hops sent : ℕ) (came : Arrival) (service : ServiceId) (frame : List ℕ) (arrival : ℕ) (peer : EdgeId) (wire : WireId) (of_arrival : Arrival) (bytes : List ℕ)
    → IsChecked plan → IsRuledNetwork plan network → IsStill calm network → is_quiet plan calm service ≡ true
    → ((a b : ℕ) → are_joined_by plan service a b ≡ true → AreSettled plan calm a b)
    → IsSized (mtu_of plan service) frame → SentCopy plan (network.edges me.0) came service frame arrival peer wire of_arrival bytes
    → CarriesCopy plan calm service frame (packet_from me origin hops sent peer wire bytes)
copy_carries plan calm network me origin hops sent came service frame arrival peer wire of_arrival bytes checked ruled still quiet settled sized copy =
    let packet : Packet = packet_from me origin hops sent peer wire bytes in
    let from : IsSender plan network me copy.place copy.row copy.binding = copy_from plan network me origin hops sent came service frame arrival peer wire of_arrival bytes checked ruled copy in
    let pack : IsPacked plan copy.row packet copy.binding.label frame = copy_packed plan network me origin hops sent came service frame arrival peer wire of_arrival bytes checked ruled copy in
    let joined = copy_joined plan network me origin hops sent came service frame arrival peer wire of_arrival bytes checked ruled copy in
    let told : IsPlannedBinding plan network me.0 copy.place.peer.0 copy.place.wire copy.row copy.binding =
    (end_is_planned plan network checked ruled me.0 copy.place.peer.0 copy.place.wire copy.row from.is from.joined).holds copy.binding from.bound in
    let of_service = eq-eqb copy.row.service.0 service.0 (ap (λ (s : ServiceId). s.0) copy.same_service) in
    let bound : ((calm.edges me.0).ends wire.0 peer.0).remote ≡ Some copy.binding =
    ap (λ (f : ℕ → ℕ → EndState). (f wire.0 peer.0).remote) (sym (still_ends (calm.edges me.0) (network.edges me.0) (still.edges me.0)))
    ∙ (ap (λ (w : WireId). ((network.edges me.0).ends w.0 peer.0).remote) copy.same_wire
    ∙ (ap (λ (k : EdgeId). ((network.edges me.0).ends copy.place.wire.0 k.0).remote) copy.same_peer ∙ from.bound)) in
    let ended : is_first me.0 copy.row.path || is_last me.0 copy.row.path ≡ true = sent_ended plan network me came service frame arrival peer wire of_arrival bytes checked ruled copy in
    let start_here : start copy.row.path me peer ≡ me =
    goal_reached copy.row.path peer me (wire_fits plan wire copy.row checked copy.is).once (sym (joins_turned copy.row.path me.0 peer.0) ∙ joined) ended in
    record {
      row = copy.row;
      is = copy.is;
      of_service = of_service;
      joined = joined;
      sends = ap (λ (e : EdgeId). end_forwards plan (calm.edges e.0) wire) start_here ∙ copy_forwards plan calm network me came service frame arrival peer wire of_arrival bytes still copy;
      carries = copy_carried plan network me origin hops sent came service frame arrival peer wire of_arrival bytes checked ruled copy sized;
      labelled = record {
        entry = record { label = copy.binding.label; bottom = true; ttl = pack.ttl };
        read = packed_entry plan packet copy.row copy.binding.label frame checked copy.is pack told.is_label;
        label = copy.binding.label;
        same = refl;
        bottom = refl;
        told = copy.binding.told;
        advertised = far_advertises plan calm service me.0 peer.0 wire copy.row copy.binding checked quiet settled copy.is of_service joined bound;
      };
    }

-- each packet of the copies of a frame in a quiet service carries a copy of it
pub copies_carry : (plan : Plan) (calm network : NetworkState) (me : EdgeId) (origin hops sent : ℕ) (came : Arrival) (service : ServiceId) (frame : List ℕ) (arrival : ℕ) (es : List Effect)
    → IsChecked plan → IsRuledNetwork plan network → IsStill calm network → is_quiet plan calm service ≡ true
    → ((a b : ℕ) → are_joined_by plan service a b ≡ true → AreSettled plan calm a b)
    → IsSized (mtu_of plan service) frame → AllAreCopies plan (network.edges me.0) came service frame arrival es
    → AllByRecursion (CarriesCopy plan calm service frame) (packets_of me origin hops sent es)
copies_carry plan calm network me origin hops sent came service frame arrival [] checked ruled still quiet settled sized all = tt
copies_carry plan calm network me origin hops sent came service frame arrival (effect.Sent peer wire of_arrival bytes ∷ es) checked ruled still quiet settled sized all = (
  copy_carries plan calm network me origin hops sent came service frame arrival peer wire of_arrival bytes checked ruled still quiet settled sized all.0,
  copies_carry plan calm network me origin hops (sent + 1) came service frame arrival es checked ruled still quiet settled sized all.1,
)
copies_carry plan calm network me origin hops sent came service frame arrival (e ∷ es) checked ruled still quiet settled sized all =
    copies_carry plan calm network me origin hops sent came service frame arrival es checked ruled still quiet settled sized all.1

-- whatever is sent carries the frame that was bridged, on a wire of its service
pub record CarriesIn (plan : Plan) (service : ServiceId) (frame : List ℕ) (packet : Packet) : Type 0 where
  pub row : WirePlan
  pub is : wire_row plan packet.wire ≡ Some row
  pub same : row.service ≡ service
  pub carries : carried plan packet ≡ Ok frame

-- each packet of the copies of a frame carries it, whatever the service's state is
pub sent_carry : (plan : Plan) (network : NetworkState) (me : EdgeId) (origin hops sent : ℕ) (came : Arrival) (service : ServiceId) (frame : List ℕ) (arrival : ℕ) (es : List Effect)
    → IsChecked plan → IsRuledNetwork plan network → IsSized (mtu_of plan service) frame → AllAreCopies plan (network.edges me.0) came service frame arrival es
    → AllByRecursion (CarriesIn plan service frame) (packets_of me origin hops sent es)
sent_carry plan network me origin hops sent came service frame arrival [] checked ruled sized all = tt
sent_carry plan network me origin hops sent came service frame arrival (effect.Sent peer wire of_arrival bytes ∷ es) checked ruled sized all = (
  record {
    row = all.0.row;
    is = all.0.is;
    same = all.0.same_service;
    carries = copy_carried plan network me origin hops sent came service frame arrival peer wire of_arrival bytes checked ruled all.0 sized;
  },
  sent_carry plan network me origin hops (sent + 1) came service frame arrival es checked ruled sized all.1,
)
sent_carry plan network me origin hops sent came service frame arrival (e ∷ es) checked ruled sized all =
    sent_carry plan network me origin hops sent came service frame arrival es checked ruled sized all.1

-- ---- what comes of a copy where it arrives

-- a copy arrives where its wire's end forwards
pub copy_arrives : (plan : Plan) (calm network : NetworkState) (trace : List Entry) (service : ServiceId) (frame : List ℕ) (packet : Packet)
    → IsChecked plan → IsRuledNetwork plan network → IsStill calm network → (rule : IsCarried plan network trace packet) → CarriesCopy plan calm service frame packet
    → is_terminal rule.row packet.to ≡ true
    → end_forwards plan (calm.edges packet.to.0) packet.wire ≡ true
    → packet_work plan network packet
    ≡ forwarded plan taken_all (arrival.Wire packet.wire) service frame (position (is_wire_port packet.wire) (ports_of plan service packet.to)) (begin_at network packet.to)
copy_arrives plan calm network trace service frame packet checked ruled still rule copy ended forwards =
    let edge : EdgeState = network.edges packet.to.0 in
    let is_still : IsStillEdge (calm.edges packet.to.0) edge = still.edges packet.to.0 in
    let labelled : IsLabelled calm packet = copy.labelled in
    let label : labelled.label ≡ rule.label =
    sym labelled.same
    ∙ same_entry (entry_of packet.bytes) labelled.entry (record { label = rule.label; bottom = true; ttl = rule.packed.ttl }) labelled.read
    (arrives_under plan network trace packet checked ruled rule) in
    let advertised : (edge.ends packet.wire.0 packet.from.0).local ≡ Advertised rule.label labelled.told =
    ap (λ (f : ℕ → ℕ → EndState). (f packet.wire.0 packet.from.0).local) (still_ends (calm.edges packet.to.0) edge is_still)
    ∙ (labelled.advertised ∙ ap (λ (n : ℕ). Advertised n labelled.told) label) in
    let same_service : rule.row.service ≡ service =
    ap (λ (r : WirePlan). r.service) (same_row rule.row copy.row (sym rule.is ∙ copy.is)) ∙ ap (λ (n : ℕ). record { 0 = n }) (eqb-true copy.row.service.0 service.0 copy.of_service) in
    let same : rule.frame ≡ frame = same_frame (carried plan packet) rule.frame frame (arrives_with plan network trace packet checked ruled rule) copy.carries in
    taken_where plan network trace packet checked ruled rule ended labelled.told advertised (still_forwards plan (calm.edges packet.to.0) edge packet.wire is_still ∙ forwards)
    ∙ (ap (λ (s : ServiceId). forwarded plan taken_all (arrival.Wire packet.wire) s rule.frame (position (is_wire_port packet.wire) (ports_of plan s packet.to))
    (begin_at network packet.to)) same_service
    ∙ ap (λ (f : List ℕ). forwarded plan taken_all (arrival.Wire packet.wire) service f (position (is_wire_port packet.wire) (ports_of plan service packet.to)) (begin_at network packet.to)) same)

-- where it does not, the copy is dropped
pub record IsDropped (plan : Plan) (network : NetworkState) (packet : Packet) : Type 0 where
  pub why : DropCause
  pub is : packet_work plan network packet ≡ drops why (begin_at network packet.to)

-- a copy is dropped where its wire's end does not forward
pub copy_drops : (plan : Plan) (calm network : NetworkState) (trace : List Entry) (service : ServiceId) (frame : List ℕ) (packet : Packet)
    → IsChecked plan → IsRuledNetwork plan network → IsStill calm network → (rule : IsCarried plan network trace packet) → CarriesCopy plan calm service frame packet
    → is_terminal rule.row packet.to ≡ true
    → end_forwards plan (calm.edges packet.to.0) packet.wire ≡ false
    → IsDropped plan network packet
copy_drops plan calm network trace service frame packet checked ruled still rule copy ended down = by (arrived plan network trace packet checked ruled rule ended) where
  by : Arrived plan network packet rule.row rule.frame → IsDropped plan network packet
  by (NotTaken dropped) = record { why = dropped.why; is = dropped.is }
  by (Taken taken) = clash (sym down ∙ (sym (still_forwards plan (calm.edges packet.to.0) (network.edges packet.to.0) packet.wire (still.edges packet.to.0)) ∙ taken.forwards))

-- any packet that arrives is dropped, or what it carries is bridged in the service of its wire
pub record IsBridged (plan : Plan) (network : NetworkState) (packet : Packet) : Type 0 where
  pub row : WirePlan
  pub is : wire_row plan packet.wire ≡ Some row
  pub frame : List ℕ
  pub carries : carried plan packet ≡ Ok frame
  pub sized : IsSized (mtu_of plan row.service) frame
  pub port : ℕ
  pub work : packet_work plan network packet ≡ forwarded plan taken_all (arrival.Wire packet.wire) row.service frame (Some port) (begin_at network packet.to)

-- or it is passed on, with the frame that it carries
pub record IsPassed (plan : Plan) (network : NetworkState) (packet : Packet) : Type 0 where
  pub to : EdgeId
  pub bytes : List ℕ
  pub edge : (packet_work plan network packet).edge ≡ network.edges packet.to.0
  pub effects : (packet_work plan network packet).effects ≡ effect.Sent to packet.wire (arrival.Wire packet.wire) bytes ∷ []
  pub carries : (number origin hops : ℕ) → carried plan
      (record { number = number; wire = packet.wire; from = packet.to; to = to; origin = origin; hops = hops; age = 0; bytes = bytes }) ≡ carried plan packet

pub data Arrives (plan : Plan) (network : NetworkState) (packet : Packet) : Type 0 where
  DropsIt : IsDropped plan network packet → Arrives plan network packet
  BridgesIt : IsBridged plan network packet → Arrives plan network packet
  PassesIt : IsPassed plan network packet → Arrives plan network packet

pub packet_arrives : (plan : Plan) (network : NetworkState) (trace : List Entry) (packet : Packet)
    → IsChecked plan → IsRuledNetwork plan network → IsCarried plan network trace packet → Arrives plan network packet
packet_arrives plan network trace packet checked ruled rule = choose (is_terminal rule.row packet.to) refl where
  at_end : (ended : is_terminal rule.row packet.to ≡ true) → Arrived plan network packet rule.row rule.frame → Arrives plan network packet
  at_end ended (NotTaken dropped) = DropsIt (record { why = dropped.why; is = dropped.is })
  at_end ended (Taken taken) = BridgesIt (record {
    row = rule.row;
    is = rule.is;
    frame = rule.frame;
    carries = arrives_with plan network trace packet checked ruled rule;
    sized = arrives_sized plan network trace packet checked ruled rule;
    port = taken.port;
    work = taken.work ∙ ap (λ (p : Option ℕ). forwarded plan taken_all (arrival.Wire packet.wire) rule.row.service rule.frame p (begin_at network packet.to)) taken.found;
  })

  passing : (between : is_terminal rule.row packet.to ≡ false) → Passed plan network trace packet checked ruled rule → Arrives plan network packet
  passing between (IsNotPassed why is no_mate) = DropsIt (record { why = why; is = is })
  passing between (IsPassedOn on) = PassesIt (record {
    to = on.to;
    bytes = relabelled on.binding.label (rule.packed.ttl - 1) packet.bytes;
    edge = on.edge;
    effects = on.effects;
    carries = λ number origin hops. passed_carries plan network trace packet checked ruled rule on number origin hops;
  })

  choose : (b : Bool) → is_terminal rule.row packet.to ≡ b → Arrives plan network packet
  choose true ended = at_end ended (arrived plan network trace packet checked ruled rule ended)
  choose false between = passing between (passed plan network trace packet checked ruled rule between)
