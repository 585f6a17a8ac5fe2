-- A ping or an answer under way: how its label stack is read, and how a switching point passes it on.
use Rattle.std.proofs.Common.{◌≡◌, ◌≤◌, ◌+◌, ◌-◌, ◌++◌, ◌∙◌, ℕ, true, false, List, [], ◌∷◌, Some, Ok, length, nat_lt, option_and_then, slice_get, refl, ap, sym, subst, arith}
use Rattle.std.proofs.lemmas.Bool.Decides.{nat_tests}
use Rattle.std.proofs.lemmas.List.{length-append}
use Rattle.net_base.specs.declared.plan.Plan.{Plan}
use Rattle.net_base.specs.declared.plan.offer.Offer.{Offer}
use Rattle.net_base.specs.declared.plan.wire_plan.WirePlan.{WirePlan}
use Rattle.net_base.specs.declared.plan.places.EdgeId.{EdgeId}
use Rattle.net_base.specs.declared.plan.places.WireId.{WireId}
use Rattle.net_base.specs.plan.Accepted.{IsChecked, IsWireOf}
use Rattle.net_base.specs.plan.Paths.{PassedPoint, edge_address, expected, joins, mate_on}
use Rattle.net_base.proofs.PathLemmas.{mate_joined}
use Rattle.net_base.proofs.CommonLemmas.{same_wire}
use Rattle.net_values.specs.Label.{IsLabel}
use Rattle.eth_encap.specs.Packet.{entry_octets, entry_of}
use Rattle.eth_encap.specs.declared.stack_entry.StackEntry.{StackEntry}
use Rattle.eth_encap.proofs.PacketLemmas.{packed_is_unpacked}
use Rattle.pw_signalling.specs.declared.binding.Binding.{Binding}
use Rattle.pw_stitch.specs.Relabelling.{relabelled}
use Rattle.vccv_channel.specs.declared.cc.Cc.{Cc}
use Rattle.vccv_channel.specs.declared.cc.Cc.TheVariants.{Header, Alert, Expiry}
use Rattle.vccv_channel.specs.Channel.{payload}
use Rattle.vccv_channel.specs.LabelStack.{stack_entry}
use Rattle.vccv_channel.specs.Pick.{picked}
use Rattle.edge_model.specs.Copies.{PacketIsSwitched}
use Rattle.edge_model.specs.declared.effect.Effect.{Effect}
use Rattle.edge_model.specs.declared.end_place.EndPlace.{EndPlace}
use Rattle.edge_model.specs.Packet.{advertiser}
use Rattle.network_model.specs.declared.packet.Packet.{Packet}
use Rattle.network_model.specs.State.{NetworkState}
use Rattle.network_model.proofs.PointLemmas.{passes_offer, passes_points, point_at}
use Rattle.flight_laws.proofs.RuledNetworkLemmas.{IsRuledNetwork}
use Rattle.flight_laws.proofs.StableLemmas.{IsPlannedBinding, end_is_planned}
use Rattle.flight_laws.proofs.AcrossLemmas.{other_side}
use Rattle.flight_laws.proofs.PlaceLemmas.{same_row}
use Rattle.flight_laws.proofs.RuledMendLemmas.{wire_fits}
use Rattle.packet_laws.proofs.AgeLemmas.{may_sent}
use Rattle.packet_laws.specs.Echoed.{CountsTtl, IsEchoed, channels_told, echo_stack, planned_channel, points_in_all, source_address}
use Rattle.packet_laws.proofs.ArriveLemmas.{IsAlive, IsOwner, few_left, owner_is}
use Rattle.packet_laws.proofs.PackLemmas.{few_points}
use Rattle.packet_laws.proofs.PathLemmas.{source_kept}
use Rattle.packet_laws.proofs.SwitchLemmas.{relabelled_entry, same_read}

-- ---- the label stack

-- a router alert above another entry
pub alert_entry : (rest : List ℕ) → entry_of (0 ∷ 0 ∷ 16 ∷ 255 ∷ rest) ≡ Ok (record { label = 1; bottom = false; ttl = 255 })
alert_entry rest =
    let long : nat_lt (length (0 ∷ 0 ∷ 16 ∷ 255 ∷ rest)) 4 ≡ false = grind (arith, nat_tests) in
    rw long refl

few_still : (ttl points : ℕ) → points ≤ 5 → ttl ≡ points + 1 → IsAlive ttl
few_still ttl points few left = record { least = omega (arith, left); most = omega (arith, few, left) }

pub alive_by : (plan : Plan) (row : WirePlan) (from to : ℕ) (kind : Cc) (ttl : ℕ) → IsWireOf plan row → CountsTtl plan row from to kind ttl → IsAlive ttl
alive_by plan row from to Header ttl wire left = few_left ttl (length (expected plan row from to).points) (few_points plan row from to wire) left
alive_by plan row from to Alert ttl wire left = few_left ttl (length (expected plan row from to).points) (few_points plan row from to wire) left
alive_by plan row from to Expiry ttl wire left = few_still ttl (length (expected plan row to from).points) (few_points plan row to from wire) left

-- the entry in front of a packet of type 1 or 3 is that of the pseudowire
pub front_entry : (label ttl : ℕ) (rest : List ℕ) → IsLabel label → IsAlive ttl → entry_of (entry_octets label true ttl ++ rest) ≡ Ok (record { label = label; bottom = true; ttl = ttl })
front_entry label ttl rest is_label alive = packed_is_unpacked.entry label ttl true rest is_label alive.least alive.most

-- no end advertises the label of a router alert
pub alert_unowned : (plan : Plan) (network : NetworkState) (me : EdgeId) (place : EndPlace) → IsRuledNetwork plan network → advertiser plan (network.edges me.0) 1 ≡ Some place → ⊥
alert_unowned plan network me place ruled found =
    let owner : IsOwner plan (network.edges me.0) 1 place = owner_is plan (network.edges me.0) 1 place found in
    absurd (omega (arith, (ruled.edges me.0).least.owned place.wire.0 place.peer.0 1 owner.owned))

-- ---- on to the mate

module _ (plan : Plan) (network : NetworkState) (packet : Packet) (to : EdgeId) (binding : Binding) (number hops : ℕ) (checked : IsChecked plan) (ruled : IsRuledNetwork plan network) (echo : IsEchoed plan network packet)
    (mate_is : mate_on echo.row.path packet.to.0 packet.from.0 ≡ Some to) (bound : ((network.edges packet.to.0).ends packet.wire.0 to.0).remote ≡ Some binding) where
  wire_of : IsWireOf plan echo.row
  wire_of = wire_fits plan packet.wire echo.row checked echo.is

  joined_on : joins packet.to.0 to.0 echo.row.path ≡ true
  joined_on = mate_joined echo.row.path packet.to.0 packet.from.0 to mate_is

  planned : IsPlannedBinding plan network packet.to.0 to.0 packet.wire echo.row binding
  planned = (end_is_planned plan network checked ruled packet.to.0 to.0 packet.wire echo.row echo.is joined_on).holds binding bound

  back : mate_on echo.row.path packet.to.0 to.0 ≡ Some packet.from
  back = other_side echo.row.path packet.to packet.from to wire_of.once mate_is

  offer_on : (expected plan echo.row packet.to.0 to.0).offer ≡ (expected plan echo.row packet.from.0 packet.to.0).offer
  offer_on = passes_offer plan echo.row packet.to packet.from to wire_of.once mate_is

  offer_back : (expected plan echo.row to.0 packet.to.0).offer ≡ (expected plan echo.row packet.to.0 packet.from.0).offer
  offer_back = sym (passes_offer plan echo.row packet.to to packet.from wire_of.once back)

  more_points : length (expected plan echo.row packet.to.0 to.0).points ≡ length (expected plan echo.row packet.from.0 packet.to.0).points + 1
  more_points =
      ap (λ (l : List PassedPoint). length l) (passes_points plan echo.row packet.to packet.from to wire_of.once mate_is)
      ∙ length-append (expected plan echo.row packet.from.0 packet.to.0).points (point_at plan echo.row packet.to packet.from ∷ [])

  less_points : length (expected plan echo.row packet.to.0 packet.from.0).points ≡ length (expected plan echo.row to.0 packet.to.0).points + 1
  less_points =
      ap (λ (l : List PassedPoint). length l) (passes_points plan echo.row packet.to to packet.from wire_of.once back)
      ∙ length-append (expected plan echo.row to.0 packet.to.0).points (point_at plan echo.row packet.to to ∷ [])

  -- the wire passes as many points as before, and the same type is picked
  same_points : points_in_all plan echo.row packet.to.0 to.0 ≡ points_in_all plan echo.row packet.from.0 packet.to.0
  same_points = sum _ _ _ _ more_points less_points where
    sum : (m n k l : ℕ) → m ≡ n + 1 → k ≡ l + 1 → m + l ≡ n + k
    sum m n k l one other = omega (arith, one, other)

  channel_on : planned_channel plan echo.row packet.to.0 to.0 ≡ Some echo.kind
  channel_on =
      ap (λ (o : Offer). picked o.vccv (channels_told (expected plan echo.row to.0 packet.to.0).offer) o.cword (points_in_all plan echo.row packet.to.0 to.0)) offer_on
      ∙ (ap (λ (o : Offer). picked (expected plan echo.row packet.from.0 packet.to.0).offer.vccv (channels_told o) (expected plan echo.row packet.from.0 packet.to.0).offer.cword
      (points_in_all plan echo.row packet.to.0 to.0)) offer_back
      ∙ (ap (picked (expected plan echo.row packet.from.0 packet.to.0).offer.vccv (channels_told (expected plan echo.row packet.to.0 packet.from.0).offer)
      (expected plan echo.row packet.from.0 packet.to.0).offer.cword) same_points
      ∙ echo.channel))

  comes_on : source_address plan echo.row packet.to.0 to.0 ≡ Some echo.source
  comes_on = ap (option_and_then (edge_address plan)) (source_kept echo.row.path packet.to.0 packet.from.0 to wire_of.once mate_is) ∙ echo.comes_from

  goes_on_to : source_address plan echo.row to.0 packet.to.0 ≡ Some echo.target
  goes_on_to = ap (option_and_then (edge_address plan)) (sym (source_kept echo.row.path packet.to.0 to.0 packet.from wire_of.once back)) ∙ echo.goes_to

  alive : IsAlive echo.ttl
  alive = alive_by plan echo.row packet.from.0 packet.to.0 echo.kind echo.ttl wire_of echo.left

  counts_on : (kind : Cc) → CountsTtl plan echo.row packet.from.0 packet.to.0 kind echo.ttl → CountsTtl plan echo.row packet.to.0 to.0 kind (echo.ttl - 1)
  counts_on Header left = passed _ _ _ more_points alive.least left where
    passed : (t m n : ℕ) → n ≡ m + 1 → 1 ≤ t → t + m ≡ 255 → (t - 1) + n ≡ 255
    passed t m n more some is = omega (arith, more, some, is)
  counts_on Alert left = passed _ _ _ more_points alive.least left where
    passed : (t m n : ℕ) → n ≡ m + 1 → 1 ≤ t → t + m ≡ 255 → (t - 1) + n ≡ 255
    passed t m n more some is = omega (arith, more, some, is)
  counts_on Expiry left = still _ _ _ less_points left where
    still : (t m n : ℕ) → m ≡ n + 1 → t ≡ m + 1 → t - 1 ≡ n + 1
    still t m n less is = omega (arith, less, is)

  bytes_on : (kind : Cc) → (kind ≡ Alert → ⊥) → packet.bytes ≡ echo_stack kind echo.label echo.ttl ++ payload kind echo.ip
      → relabelled binding.label (echo.ttl - 1) packet.bytes ≡ echo_stack kind binding.label (echo.ttl - 1) ++ payload kind echo.ip
  bytes_on Header other is = ap (relabelled binding.label (echo.ttl - 1)) is ∙ relabelled_entry binding.label (echo.ttl - 1) echo.label echo.ttl (payload Header echo.ip) echo.is_label.below alive.most
  bytes_on Alert other is = absurd (other refl)
  bytes_on Expiry other is = ap (relabelled binding.label (echo.ttl - 1)) is ∙ relabelled_entry binding.label (echo.ttl - 1) echo.label echo.ttl (payload Expiry echo.ip) echo.is_label.below alive.most

  pub relay_echoed : (echo.kind ≡ Alert → ⊥)
      → IsEchoed plan network (record {
        number = number;
        wire = packet.wire;
        from = packet.to;
        to = to;
        origin = packet.origin;
        hops = hops;
        age = 0;
        bytes = relabelled binding.label (echo.ttl - 1) packet.bytes;
      })
  relay_echoed other = record {
    unnumbered = echo.unnumbered;
    row = echo.row;
    is = echo.is;
    joined = joined_on;
    kind = echo.kind;
    channel = channel_on;
    source = echo.source;
    comes_from = comes_on;
    target = echo.target;
    goes_to = goes_on_to;
    ip = echo.ip;
    message = echo.message;
    label = binding.label;
    is_label = planned.is_label;
    ttl = echo.ttl - 1;
    left = counts_on echo.kind echo.left;
    bytes = bytes_on echo.kind other echo.bytes;
    named = may_sent (network.edges to.0) packet.wire.0 packet.to.0 0 binding.label planned.may;
  }

-- ---- what comes of a packet that is passed on

module _ (plan : Plan) (network : NetworkState) (packet : Packet) (effects : List Effect) (checked : IsChecked plan) (ruled : IsRuledNetwork plan network) (echo : IsEchoed plan network packet)
    (at : (network.edges packet.to.0).me ≡ packet.to) (out : PacketIsSwitched plan (network.edges packet.to.0) packet.bytes effects) where
  -- a router alert is passed on by no switching point
  no_alert : echo.kind ≡ Alert → ⊥
  no_alert kind =
      let front : entry_of packet.bytes ≡ Ok (record { label = 1; bottom = false; ttl = 255 }) =
      ap entry_of (echo.bytes ∙ ap (λ (k : Cc). echo_stack k echo.label echo.ttl ++ payload k echo.ip) kind) ∙ alert_entry (stack_entry echo.label true echo.ttl ++ payload Alert echo.ip) in
      let same : out.entry ≡ record { label = 1; bottom = false; ttl = 255 } = same_read (entry_of packet.bytes) out.entry (record { label = 1; bottom = false; ttl = 255 }) out.read front in
      alert_unowned plan network packet.to out.place ruled (ap (λ (e : StackEntry). advertiser plan (network.edges packet.to.0) e.label) (sym same) ∙ out.owner)

  lives : IsAlive echo.ttl
  lives = alive_by plan echo.row packet.from.0 packet.to.0 echo.kind echo.ttl (wire_fits plan packet.wire echo.row checked echo.is) echo.left

  entry_by : (kind : Cc) → (kind ≡ Alert → ⊥) → packet.bytes ≡ echo_stack kind echo.label echo.ttl ++ payload kind echo.ip → entry_of packet.bytes
      ≡ Ok (record { label = echo.label; bottom = true; ttl = echo.ttl })
  entry_by Header other is = ap entry_of is ∙ front_entry echo.label echo.ttl (payload Header echo.ip) echo.is_label lives
  entry_by Alert other is = absurd (other refl)
  entry_by Expiry other is = ap entry_of is ∙ front_entry echo.label echo.ttl (payload Expiry echo.ip) echo.is_label lives

  same_entry : out.entry ≡ record { label = echo.label; bottom = true; ttl = echo.ttl }
  same_entry = same_read (entry_of packet.bytes) out.entry (record { label = echo.label; bottom = true; ttl = echo.ttl }) out.read (entry_by echo.kind no_alert echo.bytes)

  owner : IsOwner plan (network.edges packet.to.0) echo.label out.place
  owner = owner_is plan (network.edges packet.to.0) echo.label out.place (ap (λ (e : StackEntry). advertiser plan (network.edges packet.to.0) e.label) (sym same_entry) ∙ out.owner)

  places : (out.place.wire.0 ≡ packet.wire.0) × (out.place.peer.0 ≡ packet.from.0)
  places = echo.named.owner out.place.wire.0 out.place.peer.0 owner.owned

  by_row : out.row ≡ echo.row
  by_row = same_row out.row echo.row (sym out.is ∙ (ap (slice_get plan.wires) places.0 ∙ echo.is))

  mate_here : mate_on echo.row.path packet.to.0 packet.from.0 ≡ Some out.to
  mate_here =
      ap (λ (r : WirePlan). mate_on r.path packet.to.0 packet.from.0) (sym by_row)
      ∙ (ap (λ (k : ℕ). mate_on out.row.path packet.to.0 k) (sym places.1)
      ∙ (ap (λ (e : EdgeId). mate_on out.row.path e.0 out.place.peer.0) (sym at) ∙ out.mate_is))

  bound_there : ((network.edges packet.to.0).ends packet.wire.0 out.to.0).remote ≡ Some out.binding
  bound_there = ap (λ (w : ℕ). ((network.edges packet.to.0).ends w out.to.0).remote) (sym places.0) ∙ out.bound

  -- it goes on along its wire
  pub goes_there : out.place.wire ≡ packet.wire
  goes_there = ap (λ (n : ℕ). record { 0 = n }) places.0

  pub echo_goes_on : (number hops : ℕ)
      → IsEchoed plan network (record {
        number = number;
        wire = out.place.wire;
        from = packet.to;
        to = out.to;
        origin = packet.origin;
        hops = hops;
        age = 0;
        bytes = relabelled out.binding.label (out.entry.ttl - 1) packet.bytes;
      })
  echo_goes_on number hops =
      subst (λ (w : WireId). IsEchoed plan network
      (record {
        number = number;
        wire = w;
        from = packet.to;
        to = out.to;
        origin = packet.origin;
        hops = hops;
        age = 0;
        bytes = relabelled out.binding.label (out.entry.ttl - 1) packet.bytes;
      })) (same_wire out.place.wire packet.wire places.0)
      (subst (λ (t : ℕ). IsEchoed plan network (record {
        number = number;
        wire = packet.wire;
        from = packet.to;
        to = out.to;
        origin = packet.origin;
        hops = hops;
        age = 0;
        bytes = relabelled out.binding.label (t - 1) packet.bytes;
      })) (ap (λ (e : StackEntry). e.ttl) (sym same_entry))
      (relay_echoed plan network packet out.to out.binding number hops checked ruled echo mate_here bound_there no_alert))
