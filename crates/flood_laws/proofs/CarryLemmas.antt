-- A packet that is packed as the packet rule says is read as it was packed, and each packet of a bridge's copies is.
use Rattle.std.proofs.Common.{◌≡◌, ◌≤◌, ◌+◌, ◌∙◌, ℕ, true, List, Some, Ok, length, ap, sym, subst, arith}
use Rattle.net_base.specs.declared.plan.Plan.{Plan}
use Rattle.net_base.specs.declared.plan.offer.Offer.{Offer}
use Rattle.net_base.specs.declared.plan.places.EdgeId.{EdgeId}
use Rattle.net_base.specs.declared.plan.places.ServiceId.{ServiceId}
use Rattle.net_base.specs.declared.plan.places.WireId.{WireId}
use Rattle.net_base.specs.declared.plan.wire_plan.WirePlan.{WirePlan}
use Rattle.net_base.specs.declared.trace.arrival.Arrival.{Arrival}
use Rattle.net_base.specs.plan.Accepted.{IsChecked, IsWireOf}
use Rattle.net_base.specs.plan.Paths.{expected, joins, offer_of}
use Rattle.net_base.specs.plan.Places.{mtu_of, wire_row}
use Rattle.net_values.specs.Label.{IsLabel}
use Rattle.eth_encap.specs.Packet.{entry_of, payload_of}
use Rattle.eth_encap.proofs.PacketLemmas.{packed_is_unpacked}
use Rattle.edge_model.specs.Copies.{SentCopy}
use Rattle.edge_model.specs.Packet.{behind_entry, unpacked_at}
use Rattle.edge_model.specs.Send.{packet_of}
use Rattle.network_model.specs.declared.packet.Packet.{Packet}
use Rattle.network_model.specs.State.{NetworkState}
use Rattle.network_model.specs.Window.{carried, carried_by}
use Rattle.network_model.proofs.PacketListLemmas.{packet_from}
use Rattle.flight_laws.proofs.RuledNetworkLemmas.{IsRuledNetwork}
use Rattle.flight_laws.proofs.RuledMendLemmas.{wire_fits}
use Rattle.packet_laws.specs.Carried.{IsPacked}
use Rattle.packet_laws.proofs.ArriveLemmas.{IsAlive, IsSized, read_again}
use Rattle.packet_laws.proofs.PackLemmas.{few_points}
use Rattle.packet_laws.proofs.SendLemmas.{IsSender, copy_sender, sender_packs}
use Rattle.flood_laws.proofs.OfferLemmas.{offers_same}

-- ---- what is packed

module _ (plan : Plan) (packet : Packet) (row : WirePlan) (label : ℕ) (frame : List ℕ) (checked : IsChecked plan) (is : wire_row plan packet.wire ≡ Some row) (pack : IsPacked plan row packet label frame) where
  wire_is : IsWireOf plan row
  wire_is = wire_fits plan packet.wire row checked is

  alive : IsAlive pack.ttl
  alive = few (length (expected plan row packet.from.0 packet.to.0).points) (few_points plan row packet.from.0 packet.to.0 wire_is) pack.left where
    few : (points : ℕ) → points ≤ 5 → pack.ttl + points ≡ 255 → IsAlive pack.ttl
    few points most left = record { least = omega (arith, most, left); most = omega (arith, most, left) }

  -- the entry in front has the label, and is the only one
  pub packed_entry : IsLabel label → entry_of packet.bytes ≡ Ok (record { label = label; bottom = true; ttl = pack.ttl })
  packed_entry is_label = ap entry_of pack.bytes
      ∙ packed_is_unpacked.entry label pack.ttl true (payload_of (expected plan row packet.from.0 packet.to.0).offer.cword pack.vlan frame) is_label alive.least alive.most

  -- behind it the frame is read in the mode of the edge that it goes to
  pub packed_carried : joins packet.from.0 packet.to.0 row.path ≡ true → IsSized (mtu_of plan row.service) frame → carried plan packet ≡ Ok frame
  packed_carried joined sized =
      ap (carried_by plan packet) is
      ∙ (ap (λ (bytes : List ℕ). unpacked_at plan row packet.to (behind_entry bytes)) pack.bytes
      ∙ read_again (offer_of row packet.to.0) (mtu_of plan row.service) (expected plan row packet.from.0 packet.to.0).offer.cword pack.vlan frame
      (offers_same plan row packet.from.0 packet.to.0 packet.to.0 (λ (o : Offer). o.cword) wire_is.once joined pack.same_word)
      (offers_same plan row packet.from.0 packet.to.0 packet.to.0 (λ (o : Offer). o.tagged) wire_is.once joined pack.same_mode ∙ sym pack.mode)
      pack.fits sized)

-- ---- copies

module _ (plan : Plan) (network : NetworkState) (me : EdgeId) (origin hops sent : ℕ) (came : Arrival) (service : ServiceId) (frame : List ℕ) (arrival : ℕ) (peer : EdgeId) (wire : WireId) (of_arrival : Arrival) (bytes : List ℕ)
    (checked : IsChecked plan) (ruled : IsRuledNetwork plan network) (copy : SentCopy plan (network.edges me.0) came service frame arrival peer wire of_arrival bytes) where
  at : (network.edges me.0).me ≡ me
  at = (ruled.edges me.0).place

  -- the end that sends a copy
  pub copy_from : IsSender plan network me copy.place copy.row copy.binding
  copy_from = copy_sender plan network me came service frame arrival peer wire of_arrival bytes at copy

  -- the packet of a copy is packed as the packet rule says
  pub copy_packed : IsPacked plan copy.row (packet_from me origin hops sent peer wire bytes) copy.binding.label frame
  copy_packed =
      subst (λ (k : EdgeId). IsPacked plan copy.row (packet_from me origin hops sent k wire bytes) copy.binding.label frame) (sym copy.same_peer)
      (subst (λ (w : WireId). IsPacked plan copy.row (packet_from me origin hops sent copy.place.peer w bytes) copy.binding.label frame) (sym copy.same_wire)
      (subst (λ (b : List ℕ). IsPacked plan copy.row (packet_from me origin hops sent copy.place.peer copy.place.wire b) copy.binding.label frame) (sym as_sent)
      (sender_packs plan network me copy.place copy.row copy.binding checked ruled copy_from origin hops sent frame)))
    where
      as_sent : bytes ≡ packet_of (offer_of copy.row me.0) copy.binding frame
      as_sent = copy.packed ∙ ap (λ (k : EdgeId). packet_of (offer_of copy.row k.0) copy.binding frame) at

  -- it goes to a neighbour on the wire
  pub copy_joined : joins me.0 peer.0 copy.row.path ≡ true
  copy_joined = ap (λ (k : EdgeId). joins me.0 k.0 copy.row.path) copy.same_peer ∙ copy_from.joined

  -- and carries the frame
  pub copy_carried : IsSized (mtu_of plan service) frame → carried plan (packet_from me origin hops sent peer wire bytes) ≡ Ok frame
  copy_carried sized = packed_carried plan (packet_from me origin hops sent peer wire bytes) copy.row copy.binding.label frame checked copy.is copy_packed copy_joined
      (subst (λ (s : ServiceId). IsSized (mtu_of plan s) frame) (sym copy.same_service) sized)
