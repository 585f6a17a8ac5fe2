-- A packet that is carried comes by its own wire, and the edge that it reaches reads the inner frame that was packed.
use Rattle.std.proofs.Common.{◌≡◌, ◌≤◌, ◌+◌, ◌++◌, ◌∙◌, ℕ, Bool, true, List, Option, Some, None, Result, Ok, length, is_some, slice_get, refl, ap, sym, subst, arith}
use Rattle.net_values.proofs.RowLemmas.{found_passes, found_among}
use Rattle.net_base.specs.declared.plan.Plan.{Plan}
use Rattle.net_base.specs.declared.plan.circuit_plan.CircuitPlan.{CircuitPlan}
use Rattle.net_base.specs.declared.plan.offer.Offer.{Offer}
use Rattle.net_base.specs.declared.plan.places.EdgeId.{EdgeId}
use Rattle.net_base.specs.declared.plan.places.ServiceId.{ServiceId}
use Rattle.net_base.specs.declared.plan.wire_plan.WirePlan.{WirePlan}
use Rattle.net_base.specs.declared.trace.drop_cause.DropCause.{DropCause}
use Rattle.net_base.specs.declared.trace.entry.Entry.{Entry}
use Rattle.net_base.specs.plan.Accepted.{IsChecked}
use Rattle.net_base.specs.plan.Paths.{expected, joins, offer_of}
use Rattle.net_base.specs.plan.Places.{circuit_row, mtu_of}
use Rattle.net_base.specs.trace.Isolated.{inner_by, mtu_by}
use Rattle.net_base.proofs.FrameLemmas.{inner_size}
use Rattle.net_base.proofs.PathLemmas.{joins_turned}
use Rattle.eth_encap.specs.declared.stack_entry.StackEntry.{StackEntry}
use Rattle.eth_encap.specs.Packet.{IsInner, IsVlan, entry_octets, entry_of, payload_of, unpacked}
use Rattle.eth_encap.proofs.PacketLemmas.{packed_is_unpacked}
use Rattle.pw_signalling.specs.End.{LocalPart, Idle, Advertised, Withdrawing}
use Rattle.edge_model.specs.Copies.{PacketIsCopied}
use Rattle.edge_model.specs.declared.effect.Effect.{Effect}
use Rattle.edge_model.specs.declared.end_place.EndPlace.{EndPlace}
use Rattle.edge_model.specs.EndPlaces.{end_places, is_terminal}
use Rattle.edge_model.specs.Packet.{advertiser, advertises_label, behind_entry, unpacked_at, unpacked_by}
use Rattle.edge_model.specs.State.{EdgeState, end_at}
use Rattle.edge_model.proofs.PlaceLemmas.{IsEndOf, places_are}
use Rattle.network_model.specs.declared.packet.Packet.{Packet}
use Rattle.network_model.specs.State.{NetworkState}
use Rattle.flight_laws.specs.Rules.{part_owns}
use Rattle.flight_laws.proofs.StableLemmas.{terminal_offer}
use Rattle.flight_laws.proofs.TellLemmas.{TellsOwnOffer}
use Rattle.flight_laws.proofs.PlaceLemmas.{same_row}
use Rattle.flight_laws.proofs.RuledMendLemmas.{wire_fits}
use Rattle.packet_laws.specs.Carried.{IsCarried}
use Rattle.packet_laws.proofs.PackLemmas.{few_points}
use Rattle.packet_laws.proofs.SendLemmas.{HasCome, come_of}

-- ---- the size of a frame that entered

-- the service has an MTU, and the frame fits
pub record IsSized (mtu : Option ℕ) (frame : List ℕ) : Type 0 where
  pub size : ℕ
  pub is : mtu ≡ Some size
  pub inner : IsInner size frame

sized_by : (row : Option CircuitPlan) (mtu : Option ℕ) (octets frame : List ℕ) → inner_by row mtu octets ≡ Ok frame → IsSized mtu frame
sized_by None mtu octets frame formed = absurd (cc (formed))
sized_by (Some row) None octets frame formed = absurd (cc (formed))
sized_by (Some row) (Some size) octets frame formed =
    let fits = inner_size row.tag size octets frame formed in
    record { size = size; is = refl; inner = record { least = fits.header; most = fits.room } }

pub come_sized : (plan : Plan) (trace : List Entry) (service : ServiceId) (origin : ℕ) (frame : List ℕ) → HasCome plan trace service origin frame → IsSized (mtu_of plan service) frame
come_sized plan trace service origin frame come =
    sized_by (circuit_row plan come.sender) (mtu_of plan service) come.octets frame
    (ap (λ (s : Option ServiceId). inner_by (circuit_row plan come.sender) (mtu_by plan s) come.octets) (sym come.of_service) ∙ come.formed)

-- ---- the entry in front

-- the TTL of a packet that is carried
pub record IsAlive (ttl : ℕ) : Type 0 where
  pub least : 1 ≤ ttl
  pub most : ttl ≤ 255

pub few_left : (ttl points : ℕ) → points ≤ 5 → ttl + points ≡ 255 → IsAlive ttl
few_left ttl points few left = record { least = omega (arith, few, left); most = omega (arith, few, left) }

-- an end that advertises a label owns it
advertises_owns : (label : ℕ) (local : LocalPart) → advertises_label label local ≡ true → part_owns local label ≡ true
advertises_owns label (Idle declined) e = absurd (cc (e))
advertises_owns label (Advertised own told) e = e
advertises_owns label (Withdrawing own) e = absurd (cc (e))

-- the end that is found for a label
pub record IsOwner (plan : Plan) (edge : EdgeState) (label : ℕ) (place : EndPlace) : Type 0 where
  pub end : IsEndOf plan edge.me place
  pub owned : part_owns (edge.ends place.wire.0 place.peer.0).local label ≡ true

pub owner_is : (plan : Plan) (edge : EdgeState) (label : ℕ) (place : EndPlace) → advertiser plan edge label ≡ Some place → IsOwner plan edge label place
owner_is plan edge label place found = record {
  end = found_among (IsEndOf plan edge.me) (λ p. advertises_label label (end_at edge p).local) (end_places plan edge.me) place (places_are plan edge.me) found;
  owned = advertises_owns label (end_at edge place).local (found_passes (λ p. advertises_label label (end_at edge p).local) (end_places plan edge.me) place found);
}

-- what was read twice is the same
pub same_entry : (read : Result StackEntry DropCause) (one other : StackEntry) → read ≡ Ok one → read ≡ Ok other → one.label ≡ other.label
same_entry read one other first second = cc

pub same_frame : (read : Result (List ℕ) DropCause) (one other : List ℕ) → read ≡ Ok one → read ≡ Ok other → one ≡ other
same_frame read one other first second = cc

-- ---- what stands behind it

behind_packed : (label ttl : ℕ) (payload : List ℕ) → behind_entry (entry_octets label true ttl ++ payload) ≡ payload
behind_packed label ttl payload = refl

-- a payload is read in the mode in which it was packed
pub read_again : (offer : Offer) (mtu : Option ℕ) (cword : Bool) (vlan : Option ℕ) (frame : List ℕ) → offer.cword ≡ cword → offer.tagged ≡ is_some vlan → IsVlan vlan → IsSized mtu frame
    → unpacked_by offer mtu (payload_of cword vlan frame) ≡ Ok frame
read_again offer mtu cword vlan frame word mode fits sized =
    ap (λ (m : Option ℕ). unpacked_by offer m (payload_of cword vlan frame)) sized.is
    ∙ (ap (λ (c : Bool). unpacked c offer.tagged sized.size (payload_of cword vlan frame)) word
    ∙ (ap (λ (t : Bool). unpacked cword t sized.size (payload_of cword vlan frame)) mode
    ∙ packed_is_unpacked.frame cword vlan sized.size frame fits sized.inner))

-- ---- what comes of a packet

module _ (plan : Plan) (network : NetworkState) (trace : List Entry) (packet : Packet) (effects : List Effect) (checked : IsChecked plan) (carried : IsCarried plan network trace packet)
    (at : (network.edges packet.to.0).me ≡ packet.to) (out : PacketIsCopied plan (network.edges packet.to.0) packet.bytes effects) where
  alive : IsAlive carried.packed.ttl
  alive = few_left carried.packed.ttl (length (expected plan carried.row packet.from.0 packet.to.0).points)
      (few_points plan carried.row packet.from.0 packet.to.0 (wire_fits plan packet.wire carried.row checked carried.is)) carried.packed.left

  entry : entry_of packet.bytes ≡ Ok (record { label = carried.label; bottom = true; ttl = carried.packed.ttl })
  entry = ap entry_of carried.packed.bytes
      ∙ packed_is_unpacked.entry carried.label carried.packed.ttl true
      (payload_of (expected plan carried.row packet.from.0 packet.to.0).offer.cword carried.packed.vlan carried.frame) carried.is_label alive.least alive.most

  label : out.comes.entry.label ≡ carried.label
  label = same_entry (entry_of packet.bytes) out.comes.entry (record { label = carried.label; bottom = true; ttl = carried.packed.ttl }) out.comes.read entry

  owner : IsOwner plan (network.edges packet.to.0) carried.label out.place
  owner = owner_is plan (network.edges packet.to.0) carried.label out.place (ap (advertiser plan (network.edges packet.to.0)) (sym label) ∙ out.comes.owner)

  -- it comes by the wire that it was sent on, from the edge that sent it
  places : (out.place.wire.0 ≡ packet.wire.0) × (out.place.peer.0 ≡ packet.from.0)
  places = carried.named.owner out.place.wire.0 out.place.peer.0 owner.owned

  pub arrives_by : out.row ≡ carried.row
  arrives_by = same_row out.row carried.row (sym out.comes.is ∙ (ap (slice_get plan.wires) places.0 ∙ carried.is))

  end_row : owner.end.row ≡ carried.row
  end_row = same_row owner.end.row carried.row (sym owner.end.is ∙ (ap (slice_get plan.wires) places.0 ∙ carried.is))

  terminal : is_terminal carried.row packet.to ≡ true
  terminal = ap (λ (r : WirePlan). is_terminal r packet.to) (sym end_row) ∙ (ap (is_terminal owner.end.row) (sym at) ∙ (sym owner.end.terminal ∙ out.comes.terminal))

  back : joins packet.to.0 packet.from.0 carried.row.path ≡ true
  back = sym (joins_turned carried.row.path packet.from.0 packet.to.0) ∙ carried.joined

  own : TellsOwnOffer plan carried.row packet.to.0 packet.from.0
  own = terminal_offer plan packet.wire carried.row packet.to packet.from checked carried.is back terminal

  -- it is read in the mode in which it was packed
  unpacks : unpacked_by (offer_of carried.row packet.to.0) (mtu_of plan carried.row.service)
      (payload_of (expected plan carried.row packet.from.0 packet.to.0).offer.cword carried.packed.vlan carried.frame) ≡ Ok carried.frame
  unpacks = read_again (offer_of carried.row packet.to.0) (mtu_of plan carried.row.service) (expected plan carried.row packet.from.0 packet.to.0).offer.cword carried.packed.vlan carried.frame
      (ap (λ (o : Offer). o.cword) (sym own.offer) ∙ carried.packed.same_word)
      (ap (λ (o : Offer). o.tagged) (sym own.offer) ∙ (carried.packed.same_mode ∙ sym carried.packed.mode))
      carried.packed.fits
      (come_sized plan trace carried.row.service packet.origin carried.frame (come_of plan trace carried.row packet.origin carried.frame carried.entered))

  payload : behind_entry packet.bytes ≡ payload_of (expected plan carried.row packet.from.0 packet.to.0).offer.cword carried.packed.vlan carried.frame
  payload = ap behind_entry carried.packed.bytes
      ∙ behind_packed carried.label carried.packed.ttl (payload_of (expected plan carried.row packet.from.0 packet.to.0).offer.cword carried.packed.vlan carried.frame)

  -- the frame that is read is the one that was packed
  pub arrives_as : out.frame ≡ carried.frame
  arrives_as = same_frame (unpacked_at plan out.row (network.edges packet.to.0).me (behind_entry packet.bytes)) out.frame carried.frame out.formed
      (ap (λ (r : WirePlan). unpacked_at plan r (network.edges packet.to.0).me (behind_entry packet.bytes)) arrives_by
      ∙ (ap (λ (k : EdgeId). unpacked_at plan carried.row k (behind_entry packet.bytes)) at
      ∙ (ap (unpacked_at plan carried.row packet.to) payload ∙ unpacks)))

  -- it has come in the service in which it is copied
  pub arrives_come : HasCome plan trace out.row.service packet.origin out.frame
  arrives_come = subst (λ (r : WirePlan). HasCome plan trace r.service packet.origin out.frame) (sym arrives_by)
      (subst (HasCome plan trace carried.row.service packet.origin) (sym arrives_as) (come_of plan trace carried.row packet.origin carried.frame carried.entered))
