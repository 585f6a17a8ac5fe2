-- A packet at a switching point: what is sent on is carried, as the packet rule says.
use Rattle.std.proofs.Common.{◌≡◌, ◌≤◌, ◌<◌, ◌+◌, ◌-◌, ◌*◌, ◌/◌, ◌%◌, ◌++◌, ◌∙◌, ℕ, Bool, true, false, List, [], ◌∷◌, Option, Some, Result, Ok, length, nat_eq, slice_get, ap, sym, subst, arith}
use Rattle.std.proofs.lemmas.Bool.Decides.{nat_tests}
use Rattle.std.proofs.lemmas.List.{length-append}
use Rattle.net_values.proofs.NumberLemmas.{ttl_most}
use Rattle.byteorder.specs.Endian.{big_bytes, big_number}
use Rattle.byteorder.specs.Numbers.{big_number-reads_back}
use Rattle.net_base.specs.declared.plan.Plan.{Plan}
use Rattle.net_base.specs.declared.plan.offer.Offer.{Offer}
use Rattle.net_base.specs.declared.plan.wire_plan.WirePlan.{WirePlan}
use Rattle.net_base.specs.declared.plan.places.EdgeId.{EdgeId}
use Rattle.net_base.specs.declared.plan.places.WireId.{WireId}
use Rattle.net_base.specs.declared.trace.drop_cause.DropCause.{DropCause}
use Rattle.net_base.specs.declared.trace.entry.Entry.{Entry}
use Rattle.net_base.specs.plan.Accepted.{IsChecked, IsWireOf}
use Rattle.net_base.specs.plan.Paths.{PassedPoint, expected, joins, mate_on}
use Rattle.net_base.proofs.PathLemmas.{mate_joined}
use Rattle.net_base.proofs.CommonLemmas.{same_wire}
use Rattle.eth_encap.specs.Packet.{entry_number, entry_octets, entry_of, packed, payload_of}
use Rattle.eth_encap.specs.declared.stack_entry.StackEntry.{StackEntry}
use Rattle.eth_encap.proofs.PacketLemmas.{packed_is_unpacked}
use Rattle.pw_signalling.specs.declared.binding.Binding.{Binding}
use Rattle.pw_stitch.specs.Relabelling.{relabelled}
use Rattle.edge_model.specs.Copies.{PacketIsSwitched}
use Rattle.edge_model.specs.declared.effect.Effect.{Effect}
use Rattle.edge_model.specs.Packet.{advertiser}
use Rattle.edge_model.specs.Send.{pushed_vlan}
use Rattle.network_model.specs.declared.packet.Packet.{Packet}
use Rattle.network_model.specs.State.{NetworkState}
use Rattle.flight_laws.proofs.RuledNetworkLemmas.{IsRuledNetwork}
use Rattle.flight_laws.proofs.StableLemmas.{IsPlannedBinding, end_is_planned}
use Rattle.flight_laws.proofs.AcrossLemmas.{other_side}
use Rattle.flight_laws.proofs.PlaceLemmas.{same_row}
use Rattle.flight_laws.proofs.RuledMendLemmas.{wire_fits}
use Rattle.packet_laws.proofs.AgeLemmas.{may_sent}
use Rattle.packet_laws.specs.Carried.{IsCarried, IsPacked}
use Rattle.packet_laws.proofs.ArriveLemmas.{IsOwner, owner_is}
use Rattle.packet_laws.proofs.PackLemmas.{few_points}
use Rattle.network_model.proofs.WayLemmas.{joins_is}
use Rattle.network_model.proofs.PointLemmas.{passes_offer, passes_points, point_at, points_three}

-- ---- the octets

class_kept : (label ttl : ℕ) → ttl ≤ 255 → entry_number label true ttl / 256 % 16 ≡ 1
class_kept label ttl most = omega (arith, most)

number_fits : (label ttl : ℕ) → label ≤ 1048575 → ttl ≤ 255 → entry_number label true ttl < 4294967296
number_fits label ttl low most = omega (arith, low, most)

-- an entry at the bottom of the stack, with whatever behind it
pub relabelled_entry : (label ttl old was : ℕ) (rest : List ℕ) → old ≤ 1048575 → was ≤ 255 → relabelled label ttl (entry_octets old true was ++ rest) ≡ entry_octets label true ttl ++ rest
relabelled_entry label ttl old was rest low most =
    let number : big_number 4 (entry_octets old true was ++ rest) ≡ entry_number old true was = big_number-reads_back 4 (entry_number old true was) rest (number_fits old was low most) in
    let class : big_number 4 (entry_octets old true was ++ rest) / 256 % 16 ≡ 1 = ap (λ (n : ℕ). n / 256 % 16) number ∙ class_kept old was most in
    ap (λ (n : ℕ). big_bytes 4 (label * 4096 + (n * 256 + ttl)) ++ rest) class

pub relabelled_packed : (label ttl old was : ℕ) (cword : Bool) (vlan : Option ℕ) (frame : List ℕ) → old ≤ 1048575 → was ≤ 255 → relabelled label ttl (packed old was cword vlan frame)
    ≡ packed label ttl cword vlan frame
relabelled_packed label ttl old was cword vlan frame low most = relabelled_entry label ttl old was (payload_of cword vlan frame) low most

-- ---- a mate

module _ (plan : Plan) (network : NetworkState) (trace : List Entry) (packet : Packet) (to : EdgeId) (binding : Binding) (number hops : ℕ) (checked : IsChecked plan) (ruled : IsRuledNetwork plan network) (rule : IsCarried plan network trace packet)
    (mate_is : mate_on rule.row.path packet.to.0 packet.from.0 ≡ Some to) (bound : ((network.edges packet.to.0).ends packet.wire.0 to.0).remote ≡ Some binding) where
  -- what is sent on
  abbrev pub relayed : Packet
  relayed = record { number = number; wire = packet.wire; from = packet.to; to = to; origin = packet.origin; hops = hops; age = 0; bytes = relabelled binding.label (rule.packed.ttl - 1) packet.bytes }

  pub wire_of : IsWireOf plan rule.row
  wire_of = wire_fits plan packet.wire rule.row checked rule.is

  pub joined_on : joins packet.to.0 to.0 rule.row.path ≡ true
  joined_on = mate_joined rule.row.path packet.to.0 packet.from.0 to mate_is

  pub planned : IsPlannedBinding plan network packet.to.0 to.0 packet.wire rule.row binding
  planned = (end_is_planned plan network checked ruled packet.to.0 to.0 packet.wire rule.row rule.is joined_on).holds binding bound

  pub back : mate_on rule.row.path packet.to.0 to.0 ≡ Some packet.from
  back = other_side rule.row.path packet.to packet.from to wire_of.once mate_is

  -- towards the mate the same offer is expected, and one point more
  offer_on : (expected plan rule.row packet.to.0 to.0).offer ≡ (expected plan rule.row packet.from.0 packet.to.0).offer
  offer_on = passes_offer plan rule.row packet.to packet.from to wire_of.once mate_is

  offer_back : (expected plan rule.row to.0 packet.to.0).offer ≡ (expected plan rule.row packet.to.0 packet.from.0).offer
  offer_back = sym (passes_offer plan rule.row packet.to to packet.from wire_of.once back)

  pub more_points : length (expected plan rule.row packet.to.0 to.0).points ≡ length (expected plan rule.row packet.from.0 packet.to.0).points + 1
  more_points =
      ap (λ (l : List PassedPoint). length l) (passes_points plan rule.row packet.to packet.from to wire_of.once mate_is)
      ∙ length-append (expected plan rule.row packet.from.0 packet.to.0).points (point_at plan rule.row packet.to packet.from ∷ [])

  pub few_three : length (expected plan rule.row packet.from.0 packet.to.0).points ≤ 3
  few_three = points_three plan rule.row packet.from.0 packet.to.0 wire_of.once wire_of.most (sym (joins_is rule.row.path packet.from.0 packet.to.0) ∙ rule.joined)

  -- ---- the packet rule

  pub relayed_packed : IsPacked plan rule.row relayed binding.label rule.frame
  relayed_packed = record {
    ttl = rule.packed.ttl - 1;
    vlan = rule.packed.vlan;
    left = left rule.packed.ttl (length (expected plan rule.row packet.from.0 packet.to.0).points) (length (expected plan rule.row packet.to.0 to.0).points) more_points few_three rule.packed.left;
    fits = rule.packed.fits;
    mode = rule.packed.mode ∙ ap (λ (o : Offer). o.tagged) (sym offer_on);
    requested = rule.packed.requested
        ∙ (ap (λ (o : Offer). pushed_vlan o.tagged (expected plan rule.row packet.to.0 packet.from.0).offer.vlan) (sym offer_on)
        ∙ ap (λ (o : Offer). pushed_vlan (expected plan rule.row packet.to.0 to.0).offer.tagged o.vlan) (sym offer_back));
    bytes =
        ap (relabelled binding.label (rule.packed.ttl - 1)) rule.packed.bytes
        ∙ (relabelled_packed binding.label (rule.packed.ttl - 1) rule.label rule.packed.ttl
        (expected plan rule.row packet.from.0 packet.to.0).offer.cword rule.packed.vlan rule.frame rule.is_label.below
        (most rule.packed.ttl (length (expected plan rule.row packet.from.0 packet.to.0).points) rule.packed.left)
        ∙ ap (λ (o : Offer). packed binding.label (rule.packed.ttl - 1) o.cword rule.packed.vlan rule.frame) (sym offer_on));
    same_word = ap (λ (o : Offer). o.cword) offer_back ∙ (rule.packed.same_word ∙ ap (λ (o : Offer). o.cword) (sym offer_on));
    same_mode = ap (λ (o : Offer). o.tagged) offer_back ∙ (rule.packed.same_mode ∙ ap (λ (o : Offer). o.tagged) (sym offer_on));
  }
    where
      left : (t m n : ℕ) → n ≡ m + 1 → m ≤ 3 → t + m ≡ 255 → (t - 1) + n ≡ 255
      left t m n more few is = omega (arith, more, few, is)

      most : (t m : ℕ) → t + m ≡ 255 → t ≤ 255
      most t m is = omega (arith, is)

  pub relay_carried : IsCarried plan network trace relayed
  relay_carried = record {
    row = rule.row;
    is = rule.is;
    joined = joined_on;
    frame = rule.frame;
    entered = rule.entered;
    label = binding.label;
    is_label = planned.is_label;
    packed = relayed_packed;
    named = may_sent (network.edges to.0) packet.wire.0 packet.to.0 0 binding.label planned.may;
  }

  -- its TTL does not end at a switching point
  pub relay_lives : nat_eq rule.packed.ttl 1 ≡ false
  relay_lives = lives rule.packed.ttl (length (expected plan rule.row packet.from.0 packet.to.0).points) few_three rule.packed.left where
    lives : (t m : ℕ) → m ≤ 3 → t + m ≡ 255 → nat_eq t 1 ≡ false
    lives t m few is = grind (arith, nat_tests)

-- ---- what comes of a packet that is passed on

pub same_read : (read : Result StackEntry DropCause) (one other : StackEntry) → read ≡ Ok one → read ≡ Ok other → one ≡ other
same_read read one other first second = cc

module _ (plan : Plan) (network : NetworkState) (trace : List Entry) (packet : Packet) (effects : List Effect) (checked : IsChecked plan) (ruled : IsRuledNetwork plan network) (carried : IsCarried plan network trace packet)
    (at : (network.edges packet.to.0).me ≡ packet.to) (out : PacketIsSwitched plan (network.edges packet.to.0) packet.bytes effects) where
  few : length (expected plan carried.row packet.from.0 packet.to.0).points ≤ 5
  few = few_points plan carried.row packet.from.0 packet.to.0 (wire_fits plan packet.wire carried.row checked carried.is)

  entry : entry_of packet.bytes ≡ Ok (record { label = carried.label; bottom = true; ttl = carried.packed.ttl })
  entry = ap entry_of carried.packed.bytes
      ∙ packed_is_unpacked.entry carried.label carried.packed.ttl true (payload_of (expected plan carried.row packet.from.0 packet.to.0).offer.cword carried.packed.vlan carried.frame) carried.is_label
      (least carried.packed.ttl (length (expected plan carried.row packet.from.0 packet.to.0).points) few carried.packed.left)
      (ttl_most carried.packed.ttl (length (expected plan carried.row packet.from.0 packet.to.0).points) carried.packed.left)
    where
      least : (t m : ℕ) → m ≤ 5 → t + m ≡ 255 → 1 ≤ t
      least t m few is = omega (arith, few, is)

  same_entry : out.entry ≡ record { label = carried.label; bottom = true; ttl = carried.packed.ttl }
  same_entry = same_read (entry_of packet.bytes) out.entry (record { label = carried.label; bottom = true; ttl = carried.packed.ttl }) out.read entry

  owner : IsOwner plan (network.edges packet.to.0) carried.label out.place
  owner = owner_is plan (network.edges packet.to.0) carried.label out.place (ap (λ (e : StackEntry). advertiser plan (network.edges packet.to.0) e.label) (sym same_entry) ∙ out.owner)

  places : (out.place.wire.0 ≡ packet.wire.0) × (out.place.peer.0 ≡ packet.from.0)
  places = carried.named.owner out.place.wire.0 out.place.peer.0 owner.owned

  by_row : out.row ≡ carried.row
  by_row = same_row out.row carried.row (sym out.is ∙ (ap (slice_get plan.wires) places.0 ∙ carried.is))

  mate_is : mate_on carried.row.path packet.to.0 packet.from.0 ≡ Some out.to
  mate_is =
      ap (λ (r : WirePlan). mate_on r.path packet.to.0 packet.from.0) (sym by_row)
      ∙ (ap (λ (k : ℕ). mate_on out.row.path packet.to.0 k) (sym places.1)
      ∙ (ap (λ (e : EdgeId). mate_on out.row.path e.0 out.place.peer.0) (sym at) ∙ out.mate_is))

  bound : ((network.edges packet.to.0).ends packet.wire.0 out.to.0).remote ≡ Some out.binding
  bound = ap (λ (w : ℕ). ((network.edges packet.to.0).ends w out.to.0).remote) (sym places.0) ∙ out.bound

  -- what is sent on, under a number and after hops
  pub goes_on : (number hops : ℕ)
      → IsCarried plan network trace (record {
        number = number;
        wire = out.place.wire;
        from = packet.to;
        to = out.to;
        origin = packet.origin;
        hops = hops;
        age = 0;
        bytes = relabelled out.binding.label (out.entry.ttl - 1) packet.bytes;
      })
  goes_on number hops =
      subst (λ (w : WireId). IsCarried plan network trace
      (record {
        number = number;
        wire = w;
        from = packet.to;
        to = out.to;
        origin = packet.origin;
        hops = hops;
        age = 0;
        bytes = relabelled out.binding.label (out.entry.ttl - 1) packet.bytes;
      })) (same_wire out.place.wire packet.wire places.0)
      (subst (λ (t : ℕ). IsCarried plan network trace
      (record {
        number = number;
        wire = packet.wire;
        from = packet.to;
        to = out.to;
        origin = packet.origin;
        hops = hops;
        age = 0;
        bytes = relabelled out.binding.label (t - 1) packet.bytes;
      })) (ap (λ (e : StackEntry). e.ttl) (sym same_entry))
      (relay_carried plan network trace packet out.to out.binding number hops checked ruled carried mate_is bound))
