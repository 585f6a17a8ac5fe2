-- What comes of a packet that is carried where it arrives: a drop, or its frame is bridged, where the end of its wire forwards.
use Rattle.std.proofs.Common.{◌==◌, ◌≡◌, ◌≤◌, ◌&&◌, ◌∙◌, ℕ, Bool, true, false, cond, List, [], ◌∷◌, Option, Some, None, Ok, length, nat_eq, nat_lt, position, slice_get, refl, sym, ap, arith}
use Rattle.std.proofs.lemmas.Bool.{and_from, eq-eqb, eqb-true}
use Rattle.std.proofs.lemmas.Bool.Decides.{nat_tests}
use Rattle.std.specs.List.{find}
use Rattle.net_values.proofs.BoolLemmas.{clash, and_false}
use Rattle.net_base.specs.declared.plan.Plan.{Plan}
use Rattle.net_base.specs.declared.plan.places.EdgeId.{EdgeId}
use Rattle.net_base.specs.declared.plan.places.WireId.{WireId}
use Rattle.net_base.specs.declared.plan.wire_plan.WirePlan.{WirePlan}
use Rattle.net_base.specs.declared.trace.arrival.Arrival.TheVariants as arrival
use Rattle.net_base.specs.declared.trace.down.Down.{Down}
use Rattle.net_base.specs.declared.trace.drop_cause.DropCause.{DropCause}
use Rattle.net_base.specs.declared.trace.drop_cause.DropCause.TheVariants as cause
use Rattle.net_base.specs.declared.trace.entry.Entry.{Entry}
use Rattle.net_base.specs.plan.Accepted.{IsChecked}
use Rattle.net_base.specs.plan.Paths.{follows, has_repeat, joins, offer_of}
use Rattle.net_base.specs.plan.Places.{mtu_of, wire_row}
use Rattle.net_base.proofs.PathLemmas.{joins_turned}
use Rattle.hvpls_spokes.specs.Port.{is_wire_port, ports_of}
use Rattle.eth_encap.specs.declared.stack_entry.StackEntry.{StackEntry}
use Rattle.eth_encap.specs.Packet.{entry_of}
use Rattle.pw_signalling.specs.declared.binding.Binding.{Binding}
use Rattle.pw_signalling.specs.declared.told.Told.{Told}
use Rattle.pw_signalling.specs.Down.{down}
use Rattle.pw_signalling.specs.End.{Advertised}
use Rattle.pw_signalling.specs.Laws.{BothAgree}
use Rattle.pw_signalling.proofs.LawLemmas.{forwards_where_both_agree}
use Rattle.edge_model.specs.declared.end_place.EndPlace.{EndPlace}
use Rattle.edge_model.specs.EndPlaces.{end_places, is_end_of_wire, is_terminal}
use Rattle.vccv_channel.specs.declared.cc.Cc.TheVariants.{Header, Expiry}
use Rattle.edge_model.specs.Echo.{channel_under, is_picked, verifies, verifies_in}
use Rattle.edge_model.specs.Ends.{end_forwards, forwards_at, is_up, wire_end}
use Rattle.edge_model.specs.Frame.{forwarded}
use Rattle.edge_model.specs.Local.{ComesInChannel}
use Rattle.edge_model.specs.Packet.{advertiser, advertises_label, alerted, behind_entry, bridges_frame, by_offer, enters, is_channel, labelled, least_label, opened_by, owned, switched, terminated, unpacked_at}
use Rattle.edge_model.specs.Role.{down_at, role_at, role_in}
use Rattle.edge_model.specs.Send.{drops}
use Rattle.edge_model.specs.State.{EdgeState, end_at}
use Rattle.edge_model.specs.Work.{Work}
use Rattle.edge_model.proofs.CopyLemmas.{IsWireEnd, found_end, up_is_none}
use Rattle.edge_model.proofs.PacketLemmas.{packet_is, picked_is, wire_found, wire_end_is}
use Rattle.edge_model.proofs.PlaceLemmas.{IsEndOf}
use Rattle.edge_model.proofs.OneEndLemmas.{one_neighbour}
use Rattle.network_model.specs.declared.packet.Packet.{Packet}
use Rattle.network_model.specs.Absorb.{begin_at, taken_all}
use Rattle.network_model.specs.Packet.{packet_work}
use Rattle.network_model.specs.State.{NetworkState}
use Rattle.network_model.specs.Window.{carried, carried_by}
use Rattle.flight_laws.proofs.RuledNetworkLemmas.{IsRuledNetwork}
use Rattle.flight_laws.proofs.PlaceLemmas.{same_row}
use Rattle.flight_laws.proofs.RuledMendLemmas.{wire_fits}
use Rattle.packet_laws.specs.Carried.{IsCarried}
use Rattle.packet_laws.proofs.ArriveLemmas.{IsOwner, IsSized, come_sized, owner_is}
use Rattle.packet_laws.proofs.EchoArriveLemmas.{frame_ttl, not_in_channel}
use Rattle.packet_laws.proofs.SendLemmas.{come_of}
use Rattle.network_model.proofs.WayLemmas.{behind_first, earlier_stands, either_here, once_behind}
use Rattle.flood_laws.proofs.CarryLemmas.{packed_carried, packed_entry}

-- ---- a terminal edge has one neighbour

next_one : (path : List EdgeId) (a b c : ℕ) → has_repeat path ≡ false → follows path a b ≡ true → follows path a c ≡ true → b ≡ c
next_one [] a b c once one other = clash one
next_one (last ∷ []) a b c once one other = clash one
next_one (first ∷ next ∷ rest) a b c once one other =
    either_here (a == first.0) (b == next.0) (follows (next ∷ rest) a b) one
    (λ p q. either_here (a == first.0) (c == next.0) (follows (next ∷ rest) a c) other
    (λ r s. eqb-true b next.0 q ∙ sym (eqb-true c next.0 s))
    (λ t. clash (sym (behind_first first (next ∷ rest) a once (earlier_stands (next ∷ rest) a c t)) ∙ p)))
    (λ t. either_here (a == first.0) (c == next.0) (follows (next ∷ rest) a c) other
    (λ r s. clash (sym (behind_first first (next ∷ rest) a once (earlier_stands (next ∷ rest) a b t)) ∙ r))
    (λ u. next_one (next ∷ rest) a b c (once_behind first (next ∷ rest) once) t u))

-- ---- what is found by one test and passes another one: something is found by that too

pub found_too : (first other : EndPlace → Bool) (xs : List EndPlace) (x : EndPlace) → find first xs ≡ Some x → other x ≡ true → (y : EndPlace) × (find other xs ≡ Some y)
found_too first other [] x found passes = absurd (cc (found))
found_too first other (y ∷ ys) x found passes = by (first y) (other y) refl found (found_too first other ys x) where
  by : (b c : Bool) → other y ≡ c → cond b (Some y) (find first ys) ≡ Some x → (find first ys ≡ Some x → other x ≡ true → (z : EndPlace) × (find other ys ≡ Some z)) → (z : EndPlace)
      × (cond c (Some y) (find other ys) ≡ Some z)
  by b true here found rest = (y, refl)
  by true false here found rest =
      let same : y ≡ x = cc (found) in
      clash (sym here ∙ (ap other same ∙ passes))
  by false false here found rest = rest found passes

-- ---- what comes of a packet

pub above_reserved : (label : ℕ) → 16 ≤ label → nat_lt label 16 ≡ false
above_reserved label above = grind (arith, nat_tests)

-- the end of a packet's wire beside the edge that sent it
record IsBeside (packet : Packet) (place : EndPlace) : Type 0 where
  wire : place.wire ≡ packet.wire
  peer : place.peer ≡ packet.from
  terminal : place.terminal ≡ true

-- a work is a drop
pub record Drops (work made : Work) : Type 0 where
  pub why : DropCause
  pub is : made ≡ drops why work

-- the frame of a packet is bridged at the wire's end, which forwards
pub record IsTaken (plan : Plan) (network : NetworkState) (packet : Packet) (row : WirePlan) (frame : List ℕ) : Type 0 where
  pub forwards : end_forwards plan (network.edges packet.to.0) packet.wire ≡ true
  pub port : ℕ
  pub found : position (is_wire_port packet.wire) (ports_of plan row.service packet.to) ≡ Some port
  pub work : packet_work plan network packet ≡ forwarded plan taken_all (arrival.Wire packet.wire) row.service frame
      (position (is_wire_port packet.wire) (ports_of plan row.service packet.to)) (begin_at network packet.to)

pub data Arrived (plan : Plan) (network : NetworkState) (packet : Packet) (row : WirePlan) (frame : List ℕ) : Type 0 where
  NotTaken : Drops (begin_at network packet.to) (packet_work plan network packet) → Arrived plan network packet row frame
  Taken : IsTaken plan network packet row frame → Arrived plan network packet row frame

module _ (plan : Plan) (network : NetworkState) (trace : List Entry) (packet : Packet) (checked : IsChecked plan) (ruled : IsRuledNetwork plan network) (rule : IsCarried plan network trace packet) where
  abbrev edge : EdgeState
  edge = network.edges packet.to.0

  abbrev work : Work
  work = begin_at network packet.to

  at : edge.me ≡ packet.to
  at = (ruled.edges packet.to.0).place

  -- ---- what is read

  abbrev entry : StackEntry
  entry = record { label = rule.label; bottom = true; ttl = rule.packed.ttl }

  -- the entry in front has the label that the packet rule names
  pub arrives_under : entry_of packet.bytes ≡ Ok entry
  arrives_under = packed_entry plan packet rule.row rule.label rule.frame checked rule.is rule.packed rule.is_label

  -- the frame has the size of a frame of the service
  pub arrives_sized : IsSized (mtu_of plan rule.row.service) rule.frame
  arrives_sized = come_sized plan trace rule.row.service packet.origin rule.frame (come_of plan trace rule.row packet.origin rule.frame rule.entered)

  -- the packet carries the frame that the packet rule names
  pub arrives_with : carried plan packet ≡ Ok rule.frame
  arrives_with = packed_carried plan packet rule.row rule.label rule.frame checked rule.is rule.packed rule.joined arrives_sized

  unpacks : unpacked_at plan rule.row edge.me (behind_entry packet.bytes) ≡ Ok rule.frame
  unpacks = ap (λ (k : EdgeId). unpacked_at plan rule.row k (behind_entry packet.bytes)) at ∙ (ap (carried_by plan packet) (sym rule.is) ∙ arrives_with)

  given : nat_lt rule.label least_label ≡ false
  given = above_reserved rule.label rule.is_label.above

  -- ---- the steps

  pub opened : packet_work plan network packet ≡ owned plan taken_all packet.bytes entry (advertiser plan edge rule.label) work
  opened =
      ap (λ r. opened_by plan taken_all packet.bytes r work) arrives_under
      ∙ (ap (λ (b : Bool). cond b (alerted plan taken_all (behind_entry packet.bytes) (entry_of (behind_entry packet.bytes)) work) (labelled plan taken_all packet.bytes entry work))
      (and_false (nat_eq rule.label 1))
      ∙ ap (λ (b : Bool). cond b (drops cause.NoLabel work) (owned plan taken_all packet.bytes entry (advertiser plan edge rule.label) work)) given)

  -- ---- at a terminal edge

  module _ (ended : is_terminal rule.row packet.to ≡ true) where
    -- ---- the end that it comes by

    back : joins packet.to.0 packet.from.0 rule.row.path ≡ true
    back = sym (joins_turned rule.row.path packet.from.0 packet.to.0) ∙ rule.joined

    -- the end that advertises the label
    owner_beside : (place : EndPlace) → advertiser plan edge rule.label ≡ Some place → IsBeside packet place
    owner_beside place owner =
        let own : IsOwner plan edge rule.label place = owner_is plan edge rule.label place owner in
        let places = rule.named.owner place.wire.0 place.peer.0 own.owned in
        let row : own.end.row ≡ rule.row = same_row own.end.row rule.row (sym own.end.is ∙ (ap (slice_get plan.wires) places.0 ∙ rule.is)) in
        record {
          wire = ap (λ (n : ℕ). record { 0 = n }) places.0;
          peer = ap (λ (n : ℕ). record { 0 = n }) places.1;
          terminal = own.end.terminal ∙ (ap (λ (r : WirePlan). is_terminal r edge.me) row ∙ (ap (is_terminal rule.row) at ∙ ended));
        }

    -- the end that is found for the wire
    found_beside : (place : EndPlace) → wire_end plan edge.me packet.wire ≡ Some place → IsBeside packet place
    found_beside place found =
        let end : IsEndOf plan edge.me place = wire_end_is plan edge.me packet.wire place found in
        let ends : IsWireEnd packet.wire place = found_end plan edge.me packet.wire place found in
        let row : end.row ≡ rule.row = same_row end.row rule.row (sym end.is ∙ (ap (wire_row plan) ends.of_wire ∙ rule.is)) in
        let joined : joins packet.to.0 place.peer.0 rule.row.path ≡ true =
        ap (λ (r : WirePlan). joins packet.to.0 place.peer.0 r.path) (sym row) ∙ (ap (λ (k : EdgeId). joins k.0 place.peer.0 end.row.path) (sym at) ∙ end.joined) in
        record {
          wire = ends.of_wire;
          peer = ap (λ (n : ℕ). record { 0 = n }) (one_neighbour rule.row.path packet.to.0 place.peer.0 packet.from.0 (wire_fits plan packet.wire rule.row checked rule.is).once ended joined back);
          terminal = ends.terminal;
        }

    -- the two forward alike
    abbrev down_of : WireId → EdgeId → Option Down
    down_of wire peer = down (role_in (wire_row plan wire) edge.me edge.chosen wire) (edge.bits wire.0) (edge.ends wire.0 peer.0)

    down_is : (place : EndPlace) → IsBeside packet place → down_at plan edge place ≡ down_of packet.wire packet.from
    down_is place beside = ap (λ (w : WireId). down_of w place.peer) beside.wire ∙ ap (down_of packet.wire) beside.peer

    same_down : (place other : EndPlace) → IsBeside packet place → IsBeside packet other → down_at plan edge place ≡ down_at plan edge other
    same_down place other beside too = down_is place beside ∙ sym (down_is other too)

    -- the wire's end forwards where the end that advertises the label does
    owner_forwards : (place : EndPlace) → advertiser plan edge rule.label ≡ Some place → down_at plan edge place ≡ None → end_forwards plan edge packet.wire ≡ true
    owner_forwards place owner up =
        let beside : IsBeside packet place = owner_beside place owner in
        let passes : is_end_of_wire packet.wire place ≡ true =
        and_from (nat_eq place.wire.0 packet.wire.0) place.terminal (eq-eqb place.wire.0 packet.wire.0 (ap (λ (w : WireId). w.0) beside.wire)) beside.terminal in
        let (other, found) = found_too (λ (p : EndPlace). advertises_label rule.label (end_at edge p).local) (is_end_of_wire packet.wire) (end_places plan edge.me) place owner passes in
        ap (forwards_at plan edge) found ∙ ap is_up (same_down other place (found_beside other found) beside ∙ up)

    -- at an end that forwards the frame is bridged
    bridged_at : (place : EndPlace) → advertiser plan edge rule.label ≡ Some place → down_at plan edge place ≡ None
        → packet_work plan network packet ≡ forwarded plan taken_all (arrival.Wire packet.wire) rule.row.service rule.frame
        (position (is_wire_port packet.wire) (ports_of plan rule.row.service packet.to)) work
    bridged_at place owner up =
        let beside : IsBeside packet place = owner_beside place owner in
        let is : wire_row plan place.wire ≡ Some rule.row = ap (wire_row plan) beside.wire ∙ rule.is in
        let agree : BothAgree (end_at edge place) = forwards_where_both_agree (role_at plan edge place) (edge.bits place.wire.0) (end_at edge place) up in
        packet_is plan taken_all packet.bytes rule.frame work place rule.row agree.binding
        (record { entry = entry; read = arrives_under; owner = owner; terminal = beside.terminal; is = is; forwards = up }) refl given
        (frame_ttl plan network trace packet checked ruled rule) agree.bound unpacks
        ∙ (ap (λ (w : WireId). forwarded plan taken_all (arrival.Wire w) rule.row.service rule.frame (position (is_wire_port w) (ports_of plan rule.row.service edge.me)) work) beside.wire
        ∙ ap (λ (k : EdgeId). forwarded plan taken_all (arrival.Wire packet.wire) rule.row.service rule.frame (position (is_wire_port packet.wire) (ports_of plan rule.row.service k)) work) at)

    -- the wire has a port of its service there
    has_port : (place : EndPlace) → advertiser plan edge rule.label ≡ Some place → (p : ℕ) × (position (is_wire_port packet.wire) (ports_of plan rule.row.service packet.to) ≡ Some p)
    has_port place owner =
        let beside : IsBeside packet place = owner_beside place owner in
        let own : IsOwner plan edge rule.label place = owner_is plan edge rule.label place owner in
        let (p, found) = wire_found plan edge.me place rule.row own.end beside.terminal (ap (wire_row plan) beside.wire ∙ rule.is) in (
          p,
          ap (λ (k : EdgeId). position (is_wire_port packet.wire) (ports_of plan rule.row.service k)) (sym at)
              ∙ (ap (λ (w : WireId). position (is_wire_port w) (ports_of plan rule.row.service edge.me)) (sym beside.wire) ∙ found),
        )

    -- at one that does not forward it is dropped
    enters_drops : (place : EndPlace) (why : Down) → down_at plan edge place ≡ Some why → enters plan taken_all rule.row place (behind_entry packet.bytes) work ≡ drops cause.Down work
    enters_drops place why is_down = ap (λ (d : Option Down). cond (is_up d) (bridges_frame plan taken_all rule.row place (behind_entry packet.bytes) work) (drops cause.Down work)) is_down

    -- nor is it taken for a ping
    offer_drops : (place : EndPlace) (binding : Binding) (why : Down) (cword : Bool) → advertiser plan edge rule.label ≡ Some place → (end_at edge place).remote ≡ Some binding
        → down_at plan edge place ≡ Some why
        → Drops work (by_offer plan taken_all rule.row place binding rule.packed.ttl cword (behind_entry packet.bytes) work)
    offer_drops place binding why false owner bound is_down = record {
      why = cause.Down;
      is = ap (λ (b : Bool). cond (b && is_picked Expiry (channel_under rule.row edge.me binding)) (verifies taken_all place rule.row Expiry binding (behind_entry packet.bytes) work)
          (enters plan taken_all rule.row place (behind_entry packet.bytes) work)) (frame_ttl plan network trace packet checked ruled rule)
          ∙ enters_drops place why is_down;
    }
    offer_drops place binding why true owner bound is_down = by (nat_eq (length (behind_entry packet.bytes)) 0) (is_channel (behind_entry packet.bytes)) refl where
      beside : IsBeside packet place
      beside = owner_beside place owner

      comes : is_channel (behind_entry packet.bytes) ≡ true → is_picked Header (channel_under rule.row edge.me binding) ≡ true → ComesInChannel plan edge packet.bytes place rule.row Header binding
      comes channel picks = record {
        entry = entry;
        read = arrives_under;
        channel = channel;
        owner = owner;
        terminal = beside.terminal;
        is = ap (wire_row plan) beside.wire ∙ rule.is;
        bound = bound;
        picked = picked_is Header (channel_under rule.row edge.me binding) picks;
      }

      offered : is_channel (behind_entry packet.bytes) ≡ true → (b : Bool) → is_picked Header (channel_under rule.row edge.me binding) ≡ b
          → Drops work (cond b (verifies taken_all place rule.row Header binding (behind_entry packet.bytes) work) (drops cause.NotOffered work))
      offered channel true picks = absurd (not_in_channel plan network trace packet checked ruled rule place rule.row Header binding (comes channel picks))
      offered channel false picks = record { why = cause.NotOffered; is = refl }

      by : (empty channel : Bool) → is_channel (behind_entry packet.bytes) ≡ channel
          → Drops work (cond empty (drops cause.Short work)
          (cond channel (verifies_in taken_all place rule.row Header binding (behind_entry packet.bytes) work) (enters plan taken_all rule.row place (behind_entry packet.bytes) work)))
      by true channel is = record { why = cause.Short; is = refl }
      by false true is = offered is (is_picked Header (channel_under rule.row edge.me binding)) refl
      by false false is = record { why = cause.Down; is = enters_drops place why is_down }

    terminated_at : (place : EndPlace) → advertiser plan edge rule.label ≡ Some place
        → packet_work plan network packet ≡ terminated plan taken_all place rule.packed.ttl (Some rule.row) (end_at edge place).remote (behind_entry packet.bytes) work
    terminated_at place owner =
        let beside : IsBeside packet place = owner_beside place owner in
        opened
        ∙ (ap (λ (o : Option EndPlace). owned plan taken_all packet.bytes entry o work) owner
        ∙ (ap (λ (b : Bool). cond b (terminated plan taken_all place rule.packed.ttl (wire_row plan place.wire) (end_at edge place).remote (behind_entry packet.bytes) work)
        (switched plan taken_all packet.bytes entry place work)) beside.terminal
        ∙ ap (λ (r : Option WirePlan). terminated plan taken_all place rule.packed.ttl r (end_at edge place).remote (behind_entry packet.bytes) work) (ap (wire_row plan) beside.wire ∙ rule.is)))

    at_end : (place : EndPlace) → advertiser plan edge rule.label ≡ Some place → (remote : Option Binding) → (end_at edge place).remote ≡ remote → (why : Option Down) → down_at plan edge place ≡ why
        → Arrived plan network packet rule.row rule.frame
    at_end place owner None bound why is_down =
        NotTaken (record {
          why = cause.Down;
          is = terminated_at place owner
              ∙ ap (λ (b : Option Binding). terminated plan taken_all place rule.packed.ttl (Some rule.row) b (behind_entry packet.bytes) work) bound;
        })
    at_end place owner (Some binding) bound None up =
        let (p, found) = has_port place owner in
        Taken (record { forwards = owner_forwards place owner up; port = p; found = found; work = bridged_at place owner up })
    at_end place owner (Some binding) bound (Some why) is_down =
        let dropped : Drops work (by_offer plan taken_all rule.row place binding rule.packed.ttl (offer_of rule.row edge.me.0).cword (behind_entry packet.bytes) work) =
        offer_drops place binding why (offer_of rule.row edge.me.0).cword owner bound is_down in
        NotTaken (record {
          why = dropped.why;
          is = terminated_at place owner
              ∙ (ap (λ (b : Option Binding). terminated plan taken_all place rule.packed.ttl (Some rule.row) b (behind_entry packet.bytes) work) bound ∙ dropped.is);
        })

    -- whatever comes of it
    pub arrived : Arrived plan network packet rule.row rule.frame
    arrived = by (advertiser plan edge rule.label) refl where
      by : (owner : Option EndPlace) → advertiser plan edge rule.label ≡ owner → Arrived plan network packet rule.row rule.frame
      by None owner = NotTaken (record { why = cause.NoLabel; is = opened ∙ ap (λ (o : Option EndPlace). owned plan taken_all packet.bytes entry o work) owner })
      by (Some place) owner = at_end place owner (end_at edge place).remote refl (down_at plan edge place) refl

    -- where the wire's end advertises the label and forwards, the frame is bridged
    pub taken_where : (told : Told) → (edge.ends packet.wire.0 packet.from.0).local ≡ Advertised rule.label told → end_forwards plan edge packet.wire ≡ true
        → packet_work plan network packet ≡ forwarded plan taken_all (arrival.Wire packet.wire) rule.row.service rule.frame
        (position (is_wire_port packet.wire) (ports_of plan rule.row.service packet.to)) work
    taken_where told advertised forwards = by (wire_end plan edge.me packet.wire) refl forwards where
      by : (found : Option EndPlace) → wire_end plan edge.me packet.wire ≡ found → forwards_at plan edge found ≡ true
          → packet_work plan network packet ≡ forwarded plan taken_all (arrival.Wire packet.wire) rule.row.service rule.frame
          (position (is_wire_port packet.wire) (ports_of plan rule.row.service packet.to)) work
      by None found up = clash up
      by (Some place) found up =
          let beside : IsBeside packet place = found_beside place found in
          let local : (end_at edge place).local ≡ Advertised rule.label told =
          ap (λ (w : WireId). (edge.ends w.0 place.peer.0).local) beside.wire ∙ (ap (λ (k : EdgeId). (edge.ends packet.wire.0 k.0).local) beside.peer ∙ advertised) in
          let passes : advertises_label rule.label (end_at edge place).local ≡ true = ap (advertises_label rule.label) local ∙ eq-eqb rule.label rule.label refl in
          let (other, owner) = found_too (is_end_of_wire packet.wire) (λ (p : EndPlace). advertises_label rule.label (end_at edge p).local) (end_places plan edge.me) place found passes in
          bridged_at other owner (same_down other place (owner_beside other owner) beside ∙ up_is_none (down_at plan edge place) up)
