-- A ping or an answer is never unpacked as a frame, and a packet that carries a frame is never taken for a ping.
use Rattle.std.proofs.Common.{◌≡◌, ◌+◌, ◌++◌, ◌∙◌, ℕ, Bool, true, false, List, [], Some, Ok, length, nat_eq, slice_get, refl, ap, sym, subst}
use Rattle.net_values.proofs.BoolLemmas.{and_false}
use Rattle.net_values.proofs.NumberLemmas.{ttl_lives}
use Rattle.net_base.specs.declared.plan.Plan.{Plan}
use Rattle.net_base.specs.declared.plan.offer.Offer.{Offer}
use Rattle.net_base.specs.declared.plan.places.EdgeId.{EdgeId}
use Rattle.net_base.specs.declared.plan.wire_plan.WirePlan.{WirePlan}
use Rattle.net_base.specs.declared.trace.entry.Entry.{Entry}
use Rattle.net_base.specs.plan.Accepted.{IsChecked}
use Rattle.net_base.specs.plan.Paths.{PassedPoint, expected, joins, offer_of}
use Rattle.eth_encap.specs.declared.stack_entry.StackEntry.{StackEntry}
use Rattle.eth_encap.specs.Packet.{entry_of, payload_of}
use Rattle.pw_signalling.specs.declared.binding.Binding.{Binding}
use Rattle.vccv_channel.specs.declared.cc.Cc.{Cc}
use Rattle.vccv_channel.specs.declared.cc.Cc.TheVariants.{Header, Alert, Expiry}
use Rattle.vccv_channel.specs.Channel.{payload}
use Rattle.vccv_channel.specs.LabelStack.{stack_entry}
use Rattle.edge_model.specs.Apart.{IsForEnd, StaysInChannel}
use Rattle.edge_model.specs.Copies.{PacketIsCopied}
use Rattle.edge_model.specs.declared.effect.Effect.{Effect}
use Rattle.edge_model.specs.declared.end_place.EndPlace.{EndPlace}
use Rattle.edge_model.specs.Echo.{channel_under}
use Rattle.edge_model.specs.EndPlaces.{is_terminal}
use Rattle.edge_model.specs.Local.{ComesInChannel, has_alert}
use Rattle.edge_model.specs.Packet.{advertiser, behind_entry, is_channel}
use Rattle.edge_model.specs.Role.{role_at}
use Rattle.edge_model.proofs.ApartLemmas.{echoes_stay_apart}
use Rattle.edge_model.proofs.PacketLemmas.{HearsAFrame, HearsNone, HearsOne, packet_hears}
use Rattle.network_model.specs.declared.packet.Packet.{Packet}
use Rattle.network_model.specs.Absorb.{taken_all}
use Rattle.network_model.specs.Packet.{packet_work}
use Rattle.network_model.specs.State.{NetworkState}
use Rattle.flight_laws.proofs.RuledNetworkLemmas.{IsRuledNetwork}
use Rattle.flight_laws.proofs.StableLemmas.{IsPlannedBinding, IsPlannedEnd, end_is_planned, terminal_offer}
use Rattle.flight_laws.proofs.TellLemmas.{TellsOwnOffer}
use Rattle.flight_laws.proofs.PlaceLemmas.{same_row}
use Rattle.flight_laws.proofs.RuledMendLemmas.{wire_fits}
use Rattle.net_base.proofs.PathLemmas.{joins_turned}
use Rattle.packet_laws.specs.Carried.{IsCarried}
use Rattle.packet_laws.specs.Echoed.{CountsTtl, IsEchoed, channels_told, echo_stack, planned_channel, points_in_all}
use Rattle.packet_laws.proofs.ArriveLemmas.{IsAlive, IsOwner, few_left, owner_is}
use Rattle.packet_laws.proofs.ChannelLemmas.{channel_turned, header_word, picks_planned}
use Rattle.packet_laws.proofs.EchoSwitchLemmas.{alert_entry, alive_by, front_entry}
use Rattle.packet_laws.proofs.PackLemmas.{HaveSameMode, few_points, forwarding_agrees}
use Rattle.packet_laws.proofs.SwitchLemmas.{same_read}

-- ---- what is no frame

module _ (plan : Plan) (network : NetworkState) (packet : Packet) (effects : List Effect) (checked : IsChecked plan) (ruled : IsRuledNetwork plan network) (echo : IsEchoed plan network packet)
    (out : PacketIsCopied plan (network.edges packet.to.0) packet.bytes effects) where
  at : (network.edges packet.to.0).me ≡ packet.to
  at = (ruled.edges packet.to.0).place

  alive : IsAlive echo.ttl
  alive = alive_by plan echo.row packet.from.0 packet.to.0 echo.kind echo.ttl (wire_fits plan packet.wire echo.row checked echo.is) echo.left

  -- ---- behind a router alert

  alert_apart : packet.bytes ≡ echo_stack Alert echo.label echo.ttl ++ payload Alert echo.ip → StaysInChannel plan (network.edges packet.to.0) packet.bytes (packet_work plan network packet)
  alert_apart is = echoes_stay_apart.alert plan taken_all (network.edges packet.to.0) [] packet.bytes (record { label = 1; bottom = false; ttl = 255 })
      (ap entry_of is ∙ alert_entry (stack_entry echo.label true echo.ttl ++ payload Alert echo.ip)) refl

  -- ---- behind the label of the end

  module _ (front : entry_of packet.bytes ≡ Ok (record { label = echo.label; bottom = true; ttl = echo.ttl })) where
    same_entry : out.comes.entry ≡ record { label = echo.label; bottom = true; ttl = echo.ttl }
    same_entry = same_read (entry_of packet.bytes) out.comes.entry (record { label = echo.label; bottom = true; ttl = echo.ttl }) out.comes.read front

    owner : IsOwner plan (network.edges packet.to.0) echo.label out.place
    owner = owner_is plan (network.edges packet.to.0) echo.label out.place (ap (λ (e : StackEntry). advertiser plan (network.edges packet.to.0) e.label) (sym same_entry) ∙ out.comes.owner)

    places : (out.place.wire.0 ≡ packet.wire.0) × (out.place.peer.0 ≡ packet.from.0)
    places = echo.named.owner out.place.wire.0 out.place.peer.0 owner.owned

    by_row : out.row ≡ echo.row
    by_row = same_row out.row echo.row (sym out.comes.is ∙ (ap (slice_get plan.wires) places.0 ∙ echo.is))

    end_row : owner.end.row ≡ out.row
    end_row = same_row owner.end.row out.row (sym owner.end.is ∙ out.comes.is)

    joined_here : joins packet.to.0 out.place.peer.0 out.row.path ≡ true
    joined_here = ap (λ (r : WirePlan). joins packet.to.0 out.place.peer.0 r.path) (sym end_row) ∙ (ap (λ (k : EdgeId). joins k.0 out.place.peer.0 owner.end.row.path) (sym at) ∙ owner.end.joined)

    terminal_here : is_terminal out.row packet.to ≡ true
    terminal_here = ap (λ (r : WirePlan). is_terminal r packet.to) (sym end_row) ∙ (ap (is_terminal owner.end.row) (sym at) ∙ (sym owner.end.terminal ∙ out.comes.terminal))

    planned : IsPlannedEnd plan network packet.to.0 out.place.peer.0 out.place.wire out.row
    planned = end_is_planned plan network checked ruled packet.to.0 out.place.peer.0 out.place.wire out.row out.comes.is joined_here

    bound_as : IsPlannedBinding plan network packet.to.0 out.place.peer.0 out.place.wire out.row out.binding
    bound_as = planned.holds out.binding out.bound

    own : TellsOwnOffer plan out.row packet.to.0 out.place.peer.0
    own = terminal_offer plan out.place.wire out.row packet.to out.place.peer checked out.comes.is joined_here terminal_here

    modes : HaveSameMode plan out.row packet.to.0 out.place.peer.0
    modes = forwarding_agrees plan network packet.to.0 out.place.peer.0 out.place.wire out.row (role_at plan (network.edges packet.to.0) out.place)
        ((network.edges packet.to.0).bits out.place.wire.0) planned out.comes.forwards

    -- the channel that was picked at the other end
    channel_here : planned_channel plan out.row out.place.peer.0 packet.to.0 ≡ Some echo.kind
    channel_here =
        ap (λ (r : WirePlan). planned_channel plan r out.place.peer.0 packet.to.0) by_row
        ∙ (ap (λ (k : ℕ). planned_channel plan echo.row k packet.to.0) places.1 ∙ echo.channel)

    word_at : (word : Bool) → (expected plan out.row out.place.peer.0 packet.to.0).offer.cword ≡ word → (offer_of out.row (network.edges packet.to.0).me.0).cword ≡ word
    word_at word is =
        ap (λ (k : EdgeId). (offer_of out.row k.0).cword) at
        ∙ (ap (λ (o : Offer). o.cword) (sym own.offer) ∙ (sym modes.word ∙ is))

    for_end : IsForEnd plan (network.edges packet.to.0) packet.bytes out.place out.row out.binding
    for_end = record {
      entry = out.comes.entry;
      read = out.comes.read;
      bottom = ap (λ (e : StackEntry). e.bottom) same_entry;
      owner = out.comes.owner;
      terminal = out.comes.terminal;
      is = out.comes.is;
      bound = out.bound;
    }

    header_apart : echo.kind ≡ Header → packet.bytes ≡ echo_stack Header echo.label echo.ttl ++ payload Header echo.ip
        → StaysInChannel plan (network.edges packet.to.0) packet.bytes (packet_work plan network packet)
    header_apart kind is =
        let word : (expected plan out.row out.place.peer.0 packet.to.0).offer.cword ≡ true =
        header_word (expected plan out.row out.place.peer.0 packet.to.0).offer.vccv (channels_told (expected plan out.row packet.to.0 out.place.peer.0).offer)
        (expected plan out.row out.place.peer.0 packet.to.0).offer.cword
        (points_in_all plan out.row out.place.peer.0 packet.to.0) (channel_here ∙ ap Some kind) in
        echoes_stay_apart.header plan taken_all (network.edges packet.to.0) [] packet.bytes out.place out.row out.binding for_end (word_at true word)
        (ap (λ (b : List ℕ). is_channel (behind_entry b)) is)

    -- both ends pick the same
    picks_same : channel_under out.row (network.edges packet.to.0).me out.binding ≡ Some echo.kind
    picks_same =
        ap (λ (k : EdgeId). channel_under out.row k out.binding) at
        ∙ (picks_planned plan out.row packet.to out.place.peer.0 out.binding own bound_as.tells
        ∙ (channel_turned plan out.row out.place.peer.0 packet.to.0 (sym modes.word) ∙ channel_here))

    last_ttl : echo.kind ≡ Expiry → out.comes.entry.ttl ≡ 1
    last_ttl kind =
        let left : CountsTtl plan echo.row packet.from.0 packet.to.0 Expiry echo.ttl = subst (λ (k : Cc). CountsTtl plan echo.row packet.from.0 packet.to.0 k echo.ttl) kind echo.left in
        ap (λ (e : StackEntry). e.ttl) same_entry
        ∙ (left
        ∙ (ap (λ (k : ℕ). length (expected plan echo.row packet.to.0 k).points + 1) (sym places.1)
        ∙ (ap (λ (r : WirePlan). length (expected plan r packet.to.0 out.place.peer.0).points + 1) (sym by_row)
        ∙ ap (λ (l : List PassedPoint). length l + 1) own.points)))

    expiry_apart : echo.kind ≡ Expiry → StaysInChannel plan (network.edges packet.to.0) packet.bytes (packet_work plan network packet)
    unfolding for_end
    expiry_apart kind = echoes_stay_apart.expiry plan taken_all (network.edges packet.to.0) [] packet.bytes out.place out.row out.binding for_end (last_ttl kind) (picks_same ∙ ap Some kind)

  by_kind : (kind : Cc) → echo.kind ≡ kind → packet.bytes ≡ echo_stack kind echo.label echo.ttl ++ payload kind echo.ip
      → StaysInChannel plan (network.edges packet.to.0) packet.bytes (packet_work plan network packet)
  by_kind Header kind is = header_apart (ap entry_of is ∙ front_entry echo.label echo.ttl (payload Header echo.ip) echo.is_label alive) kind is
  by_kind Alert kind is = alert_apart is
  by_kind Expiry kind is = expiry_apart (ap entry_of is ∙ front_entry echo.label echo.ttl (payload Expiry echo.ip) echo.is_label alive) kind

  -- a ping or an answer that would go out as a frame does not
  pub copied_apart : StaysInChannel plan (network.edges packet.to.0) packet.bytes (packet_work plan network packet)
  copied_apart = by_kind echo.kind refl echo.bytes

-- whatever comes of it, no bridge hears it
pub echo_unheard : (plan : Plan) (network : NetworkState) (packet : Packet) → IsChecked plan → IsRuledNetwork plan network → IsEchoed plan network packet
    → (packet_work plan network packet).edge ≡ network.edges packet.to.0
echo_unheard plan network packet checked ruled echo = by (packet_hears plan taken_all (network.edges packet.to.0) [] packet.bytes) where
  by : HearsAFrame plan (network.edges packet.to.0) packet.bytes (packet_work plan network packet) → (packet_work plan network packet).edge ≡ network.edges packet.to.0
  by (HearsNone same) = same
  by (HearsOne out) = (copied_apart plan network packet (packet_work plan network packet).effects checked ruled echo out).unheard

-- ---- what is no ping

module _ (plan : Plan) (network : NetworkState) (trace : List Entry) (packet : Packet) (checked : IsChecked plan) (ruled : IsRuledNetwork plan network) (carried : IsCarried plan network trace packet) where
  frame_alive : IsAlive carried.packed.ttl
  frame_alive = few_left carried.packed.ttl (length (expected plan carried.row packet.from.0 packet.to.0).points)
      (few_points plan carried.row packet.from.0 packet.to.0 (wire_fits plan packet.wire carried.row checked carried.is)) carried.packed.left

  frame_entry : entry_of packet.bytes ≡ Ok (record { label = carried.label; bottom = true; ttl = carried.packed.ttl })
  frame_entry = ap entry_of carried.packed.bytes ∙ front_entry carried.label carried.packed.ttl
      (payload_of (expected plan carried.row packet.from.0 packet.to.0).offer.cword carried.packed.vlan carried.frame) carried.is_label frame_alive

  no_router_alert : has_alert (entry_of packet.bytes) ≡ false
  no_router_alert = ap has_alert frame_entry ∙ and_false (nat_eq carried.label 1)

  pub frame_ttl : nat_eq carried.packed.ttl 1 ≡ false
  frame_ttl = ttl_lives carried.packed.ttl (length (expected plan carried.row packet.from.0 packet.to.0).points)
      (few_points plan carried.row packet.from.0 packet.to.0 (wire_fits plan packet.wire carried.row checked carried.is)) carried.packed.left

  -- with control word it begins with the nibble 0
  no_header : (word : Bool) → (expected plan carried.row packet.from.0 packet.to.0).offer.cword ≡ word → word ≡ true → is_channel (behind_entry packet.bytes) ≡ false
  no_header word is on =
      ap (λ (b : List ℕ). is_channel (behind_entry b)) carried.packed.bytes
      ∙ ap (λ (c : Bool). is_channel (payload_of c carried.packed.vlan carried.frame)) (is ∙ on)

  -- without one neither end has one, and none picks that type
  no_word : (place : EndPlace) (row : WirePlan) (binding : Binding) → ComesInChannel plan (network.edges packet.to.0) packet.bytes place row Header binding
      → (expected plan carried.row packet.from.0 packet.to.0).offer.cword ≡ false → ⊥
  no_word place row binding by none =
      let me : (network.edges packet.to.0).me ≡ packet.to = (ruled.edges packet.to.0).place in
      let same : by.entry ≡ record { label = carried.label; bottom = true; ttl = carried.packed.ttl } =
      same_read (entry_of packet.bytes) by.entry (record { label = carried.label; bottom = true; ttl = carried.packed.ttl }) by.read frame_entry in
      let owner : IsOwner plan (network.edges packet.to.0) carried.label place =
      owner_is plan (network.edges packet.to.0) carried.label place (ap (λ (e : StackEntry). advertiser plan (network.edges packet.to.0) e.label) (sym same) ∙ by.owner) in
      let places = carried.named.owner place.wire.0 place.peer.0 owner.owned in
      let of_row : row ≡ carried.row = same_row row carried.row (sym by.is ∙ (ap (slice_get plan.wires) places.0 ∙ carried.is)) in
      let end_row : owner.end.row ≡ carried.row = same_row owner.end.row carried.row (sym owner.end.is ∙ (ap (slice_get plan.wires) places.0 ∙ carried.is)) in
      let back : joins packet.to.0 packet.from.0 carried.row.path ≡ true = sym (joins_turned carried.row.path packet.from.0 packet.to.0) ∙ carried.joined in
      let terminal : is_terminal carried.row packet.to ≡ true =
      ap (λ (r : WirePlan). is_terminal r packet.to) (sym end_row) ∙ (ap (is_terminal owner.end.row) (sym me) ∙ (sym owner.end.terminal ∙ by.terminal)) in
      let own : TellsOwnOffer plan carried.row packet.to.0 packet.from.0 = terminal_offer plan packet.wire carried.row packet.to packet.from checked carried.is back terminal in
      let on : (offer_of row (network.edges packet.to.0).me.0).cword ≡ true =
      header_word _ binding.told.vccv (offer_of row (network.edges packet.to.0).me.0).cword (length binding.told.points) by.picked in
      let off : (offer_of row (network.edges packet.to.0).me.0).cword ≡ false =
      ap (λ (r : WirePlan). (offer_of r (network.edges packet.to.0).me.0).cword) of_row
      ∙ (ap (λ (k : EdgeId). (offer_of carried.row k.0).cword) me
      ∙ (ap (λ (o : Offer). o.cword) (sym own.offer) ∙ (carried.packed.same_word ∙ none))) in
      absurd (cc (sym off ∙ on))

  -- a packet that carries a frame comes in no control channel
  pub not_in_channel : (place : EndPlace) (row : WirePlan) (kind : Cc) (binding : Binding) → ComesInChannel plan (network.edges packet.to.0) packet.bytes place row kind binding → ⊥
  not_in_channel place row Header binding by = word (expected plan carried.row packet.from.0 packet.to.0).offer.cword refl where
    word : (b : Bool) → (expected plan carried.row packet.from.0 packet.to.0).offer.cword ≡ b → ⊥
    word true is = absurd (cc (sym (no_header true is refl) ∙ by.channel))
    word false is = no_word place row binding by is
  not_in_channel place row Alert binding by = absurd (cc (sym no_router_alert ∙ by.channel))
  not_in_channel place row Expiry binding by =
      let same : by.entry ≡ record { label = carried.label; bottom = true; ttl = carried.packed.ttl } =
      same_read (entry_of packet.bytes) by.entry (record { label = carried.label; bottom = true; ttl = carried.packed.ttl }) by.read frame_entry in
      absurd (cc (sym frame_ttl ∙ (ap (λ (e : StackEntry). nat_eq e.ttl 1) (sym same) ∙ by.channel)))
