-- An echo packet that is answered comes in the channel in which it was sent, and its answer goes back as the packet rule says.
use Rattle.std.proofs.Common.{◌≡◌, ◌+◌, ◌++◌, ◌∙◌, ℕ, true, false, List, Some, Ok, length, nat_eq, option_and_then, slice_get, refl, ap, sym, subst}
use Rattle.net_base.specs.declared.plan.Plan.{Plan}
use Rattle.net_base.specs.declared.plan.places.EdgeId.{EdgeId}
use Rattle.net_base.specs.declared.plan.places.WireId.{WireId}
use Rattle.net_base.specs.declared.plan.wire_plan.WirePlan.{WirePlan}
use Rattle.net_base.specs.declared.trace.arrival.Arrival.{Arrival}
use Rattle.net_base.specs.plan.Accepted.{IsChecked, IsWireOf}
use Rattle.net_base.specs.plan.Paths.{edge_address, expected, joins}
use Rattle.net_values.specs.Label.{IsLabel}
use Rattle.net_values.proofs.BoolLemmas.{and_false}
use Rattle.net_values.proofs.NumberLemmas.{ttl_lives}
use Rattle.eth_encap.specs.declared.stack_entry.StackEntry.{StackEntry}
use Rattle.eth_encap.specs.Packet.{entry_of}
use Rattle.vccv_channel.specs.declared.cc.Cc.{Cc}
use Rattle.vccv_channel.specs.declared.cc.Cc.TheVariants.{Header, Alert, Expiry}
use Rattle.vccv_channel.specs.declared.echo.Echo.TheVariants.{Request}
use Rattle.vccv_channel.specs.Channel.{has_header, payload}
use Rattle.vccv_channel.specs.Echo.{answer_packet}
use Rattle.vccv_channel.specs.LabelStack.{stack_entry}
use Rattle.vccv_channel.specs.Reading.{ip_packet_of, reading}
use Rattle.edge_model.specs.Echo.{channel_octets, channel_under, ping_number}
use Rattle.edge_model.specs.EndPlaces.{is_terminal}
use Rattle.edge_model.specs.Local.{SentBack, channel_payload, from_label, has_alert, is_in_channel}
use Rattle.edge_model.specs.Packet.{advertiser, is_channel}
use Rattle.edge_model.specs.Ping.{far_address}
use Rattle.network_model.specs.declared.packet.Packet.{Packet}
use Rattle.network_model.specs.State.{NetworkState}
use Rattle.network_model.proofs.PacketListLemmas.{packet_from}
use Rattle.flight_laws.specs.Ends.{HasTypes}
use Rattle.flight_laws.proofs.RuledNetworkLemmas.{IsRuledNetwork}
use Rattle.flight_laws.proofs.PlaceLemmas.{same_row}
use Rattle.flight_laws.proofs.RuledMendLemmas.{wire_fits}
use Rattle.packet_laws.specs.Channel.{IsBoundEnd}
use Rattle.packet_laws.specs.Echoed.{Answers, CountsTtl, IsEchoMessage, IsEchoed, echo_stack, source_address, packet_source}
use Rattle.packet_laws.proofs.ArriveLemmas.{IsAlive, IsOwner, owner_is}
use Rattle.packet_laws.proofs.EchoSendLemmas.{far_of, sender_echoes}
use Rattle.packet_laws.proofs.EchoSwitchLemmas.{alert_entry, alert_unowned, alive_by, front_entry}
use Rattle.packet_laws.proofs.MessageLemmas.{IsRequestOf, asks_only, cut_of, starts_version}
use Rattle.packet_laws.proofs.PackLemmas.{few_points}
use Rattle.packet_laws.proofs.PathLemmas.{HasTerminals, side_of, terminals}
use Rattle.packet_laws.proofs.SwitchLemmas.{same_read}

-- ---- in which channel it comes

-- an IPv4 packet in the control channel, under a label with this TTL
abbrev pub octets_in : Cc → ℕ → ℕ → List ℕ → List ℕ
octets_in kind label ttl ip = echo_stack kind label ttl ++ payload kind ip

-- the entry is that of the pseudowire, and the channel the one in which it was sent
pub record ComesAsSent (kind other : Cc) (label : ℕ) (entry : StackEntry) : Type 0 where
  pub same : other ≡ kind
  pub label_is : entry.label ≡ label

no_alert : (label ttl : ℕ) → has_alert (Ok (record { label = label; bottom = true; ttl = ttl })) ≡ false
no_alert label ttl = and_false (nat_eq label 1)

module _ (label ttl : ℕ) (ip : List ℕ) (entry : StackEntry) (is : IsLabel label) (alive : IsAlive ttl) (version : is_channel ip ≡ false) (unreserved : entry.label ≡ 1 → ⊥) where
  -- the entry of the pseudowire, behind a router alert where there is one
  entry_read : (kind : Cc) → entry_of (from_label kind (octets_in kind label ttl ip)) ≡ Ok (record { label = label; bottom = true; ttl = ttl })
  entry_read Header = front_entry label ttl (payload Header ip) is alive
  entry_read Alert = front_entry label ttl (payload Alert ip) is alive
  entry_read Expiry = front_entry label ttl (payload Expiry ip) is alive

  as_is : (kind : Cc) → entry_of (from_label kind (octets_in kind label ttl ip)) ≡ Ok entry → entry ≡ record { label = label; bottom = true; ttl = ttl }
  as_is kind read = same_read (entry_of (from_label kind (octets_in kind label ttl ip))) entry (record { label = label; bottom = true; ttl = ttl }) read (entry_read kind)

  as_sent : (kind : Cc) → entry_of (from_label kind (octets_in kind label ttl ip)) ≡ Ok entry → ComesAsSent kind kind label entry
  as_sent kind read = record { same = refl; label_is = ap (λ (e : StackEntry). e.label) (as_is kind read) }

  -- the first entry is a router alert
  alert_in_front : (other : Cc) → entry_of (octets_in Alert label ttl ip) ≡ Ok entry → ComesAsSent Alert other label entry
  alert_in_front other read = absurd (unreserved (ap (λ (e : StackEntry). e.label)
      (same_read (entry_of (octets_in Alert label ttl ip)) entry (record { label = 1; bottom = false; ttl = 255 }) read (alert_entry (stack_entry label true ttl ++ payload Alert ip)))))

  -- the first entry is none
  none_in_front : (kind : Cc) (octets : List ℕ) → entry_of octets ≡ Ok (record { label = label; bottom = true; ttl = ttl }) → has_alert (entry_of octets) ≡ true → ComesAsSent kind Alert label entry
  none_in_front kind octets first alert = absurd (cc (sym (no_alert label ttl) ∙ (ap has_alert (sym first) ∙ alert)))

  pub comes_as_sent : (kind other : Cc) → (kind ≡ Header → nat_eq ttl 1 ≡ false) → entry_of (from_label other (octets_in kind label ttl ip)) ≡ Ok entry
      → is_in_channel other (octets_in kind label ttl ip) entry ≡ true
      → ComesAsSent kind other label entry
  comes_as_sent Header Header living read channel = as_sent Header read
  comes_as_sent Alert Alert living read channel = as_sent Alert read
  comes_as_sent Expiry Expiry living read channel = as_sent Expiry read
  comes_as_sent Header Alert living read channel = none_in_front Header (octets_in Header label ttl ip) (entry_read Header) channel
  comes_as_sent Expiry Alert living read channel = none_in_front Expiry (octets_in Expiry label ttl ip) (entry_read Expiry) channel
  comes_as_sent Alert Header living read channel = alert_in_front Header read
  comes_as_sent Alert Expiry living read channel = alert_in_front Expiry read
  comes_as_sent Header Expiry living read channel =
      absurd (cc (sym (living refl) ∙ (ap (λ (e : StackEntry). nat_eq e.ttl 1) (sym (as_is Header read)) ∙ channel)))
  comes_as_sent Expiry Header living read channel = absurd (cc (sym version ∙ channel))

-- what stands behind it
payload_there : (kind : Cc) (label ttl : ℕ) (ip : List ℕ) → channel_payload kind (octets_in kind label ttl ip) ≡ payload kind ip
payload_there Header label ttl ip = refl
payload_there Alert label ttl ip = refl
payload_there Expiry label ttl ip = refl

-- the TTL of type 1 does not end
long_ttl : (plan : Plan) (row : WirePlan) (from to : ℕ) (kind : Cc) (ttl : ℕ) → IsWireOf plan row → CountsTtl plan row from to kind ttl → kind ≡ Header → nat_eq ttl 1 ≡ false
long_ttl plan row from to kind ttl wire left is =
    ttl_lives ttl (length (expected plan row from to).points) (few_points plan row from to wire) (subst (λ (k : Cc). CountsTtl plan row from to k ttl) is left)

-- ---- the answer

module _ (plan : Plan) (network : NetworkState) (packet : Packet) (peer : EdgeId) (wire : WireId) (came : Arrival) (bytes : List ℕ) (checked : IsChecked plan) (ruled : IsRuledNetwork plan network)
    (echo : IsEchoed plan network packet) (back : SentBack plan (network.edges packet.to.0) packet.bytes peer wire came bytes) where
  at : (network.edges packet.to.0).me ≡ packet.to
  at = (ruled.edges packet.to.0).place

  wire_of : IsWireOf plan echo.row
  wire_of = wire_fits plan packet.wire echo.row checked echo.is

  -- ---- it comes by the end beside its sender, in the channel in which it was sent

  unreserved : back.by.entry.label ≡ 1 → ⊥
  unreserved is = alert_unowned plan network packet.to back.place ruled (ap (advertiser plan (network.edges packet.to.0)) (sym is) ∙ back.by.owner)

  alive : IsAlive echo.ttl
  alive = alive_by plan echo.row packet.from.0 packet.to.0 echo.kind echo.ttl wire_of echo.left

  comes : ComesAsSent echo.kind back.kind echo.label back.by.entry
  comes = comes_as_sent echo.label echo.ttl echo.ip back.by.entry echo.is_label alive (starts_version echo.row echo.source echo.target echo.ip echo.message) unreserved echo.kind back.kind
      (long_ttl plan echo.row packet.from.0 packet.to.0 echo.kind echo.ttl wire_of echo.left)
      (ap (λ (b : List ℕ). entry_of (from_label back.kind b)) (sym echo.bytes) ∙ back.by.read)
      (ap (λ (b : List ℕ). is_in_channel back.kind b back.by.entry) (sym echo.bytes) ∙ back.by.channel)

  owner : IsOwner plan (network.edges packet.to.0) echo.label back.place
  owner = owner_is plan (network.edges packet.to.0) echo.label back.place (ap (advertiser plan (network.edges packet.to.0)) (sym comes.label_is) ∙ back.by.owner)

  places : (back.place.wire.0 ≡ packet.wire.0) × (back.place.peer.0 ≡ packet.from.0)
  places = echo.named.owner back.place.wire.0 back.place.peer.0 owner.owned

  of_row : back.row ≡ echo.row
  of_row = same_row back.row echo.row (sym back.by.is ∙ (ap (slice_get plan.wires) places.0 ∙ echo.is))

  end_row : owner.end.row ≡ back.row
  end_row = same_row owner.end.row back.row (sym owner.end.is ∙ back.by.is)

  bound : IsBoundEnd plan network packet.to back.place back.row back.binding
  bound = record {
    is = back.by.is;
    joined = ap (λ (r : WirePlan). joins packet.to.0 back.place.peer.0 r.path) (sym end_row) ∙ (ap (λ (k : EdgeId). joins k.0 back.place.peer.0 owner.end.row.path) (sym at) ∙ owner.end.joined);
    terminal = ap (λ (r : WirePlan). is_terminal r packet.to) (sym end_row) ∙ (ap (is_terminal owner.end.row) (sym at) ∙ (sym owner.end.terminal ∙ back.by.terminal));
    bound = back.by.bound;
  }

  picked_here : channel_under back.row packet.to back.binding ≡ Some back.kind
  picked_here = ap (λ (k : EdgeId). channel_under back.row k back.binding) (sym at) ∙ back.by.picked

  -- so it stays on the wire
  pub stays_there : wire ≡ packet.wire
  stays_there = back.same ∙ ap (λ (n : ℕ). record { 0 = n }) places.0

  module _ (types : HasTypes plan) where
    -- ---- between the same two terminal edges

    wire_there : IsWireOf plan back.row
    wire_there = wire_fits plan back.place.wire back.row checked back.by.is

    ways : HasTerminals back.row.path packet.to back.place.peer.0
    ways = terminals back.row.path packet.to back.place.peer.0 (side_of back.row.path packet.to.0 back.place.peer.0 wire_there.once bound.joined bound.terminal)

    near : edge_address plan packet.to ≡ Some echo.target
    near = ap (option_and_then (edge_address plan)) (sym ways.near)
        ∙ (ap (λ (r : WirePlan). source_address plan r packet.to.0 back.place.peer.0) of_row
        ∙ (ap (λ (k : ℕ). source_address plan echo.row packet.to.0 k) places.1 ∙ echo.goes_to))

    far : far_address plan packet.to back.row ≡ Some echo.source
    far = ap (option_and_then (edge_address plan)) (sym ways.far)
        ∙ (ap (λ (r : WirePlan). source_address plan r back.place.peer.0 packet.to.0) of_row
        ∙ (ap (λ (k : ℕ). source_address plan echo.row k packet.to.0) places.1 ∙ echo.comes_from))

    -- ---- it was a request

    payload_is : channel_payload back.kind packet.bytes ≡ payload back.kind echo.ip
    payload_is = ap (channel_payload back.kind) echo.bytes
        ∙ (ap (λ (k : Cc). channel_payload back.kind (octets_in k echo.label echo.ttl echo.ip)) (sym comes.same)
        ∙ payload_there back.kind echo.label echo.ttl echo.ip)

    asked : reading (has_header back.kind) (ping_number echo.row) (payload back.kind echo.ip) ≡ Ok (Request back.from back.to back.sequence back.long)
    asked = ap (reading (has_header back.kind) (ping_number echo.row)) (sym payload_is)
        ∙ (ap (λ (r : WirePlan). reading (has_header back.kind) (ping_number r) (channel_payload back.kind packet.bytes)) (sym of_row) ∙ back.asked)

    request : IsRequestOf echo.row echo.source echo.target echo.ip
    request = asks_only echo.row echo.source echo.target back.kind echo.ip back.from back.to back.sequence back.long
        (far_of plan types (packet_source echo.row.path packet.from.0 packet.to.0) echo.source echo.comes_from)
        (far_of plan types (packet_source echo.row.path packet.to.0 packet.from.0) echo.target echo.goes_to) echo.message asked

    answered : bytes ≡ channel_octets back.kind back.binding (answer_packet echo.ip)
    answered = back.answered
        ∙ (ap (λ (l : List ℕ). channel_octets back.kind back.binding (answer_packet (ip_packet_of (has_header back.kind) l))) payload_is
        ∙ ap (λ (l : List ℕ). channel_octets back.kind back.binding (answer_packet l))
        (cut_of echo.row echo.source echo.target back.kind echo.ip
        (far_of plan types (packet_source echo.row.path packet.from.0 packet.to.0) echo.source echo.comes_from)
        (far_of plan types (packet_source echo.row.path packet.to.0 packet.from.0) echo.target echo.goes_to) request))

    says_back : IsEchoMessage back.row echo.target echo.source (answer_packet echo.ip)
    says_back = subst (λ (r : WirePlan). IsEchoMessage r echo.target echo.source (answer_packet echo.ip)) (sym of_row) (Answers request.sequence request.fits (ap answer_packet request.is))

    -- ---- and it is answered

    pub answer_echoes : (hops sent : ℕ) → IsEchoed plan network (packet_from packet.to packet.origin hops sent peer wire bytes)
    answer_echoes hops sent =
        subst (λ (k : EdgeId). IsEchoed plan network (packet_from packet.to packet.origin hops sent k wire bytes)) (sym back.back)
        (subst (λ (w : WireId). IsEchoed plan network (packet_from packet.to packet.origin hops sent back.place.peer w bytes)) (sym back.same)
        (subst (λ (b : List ℕ). IsEchoed plan network (packet_from packet.to packet.origin hops sent back.place.peer back.place.wire b)) (sym answered)
        (sender_echoes plan network packet.to back.place back.row back.binding checked ruled bound packet.origin hops sent back.kind echo.target echo.source
        (answer_packet echo.ip) echo.unnumbered picked_here near far says_back)))
