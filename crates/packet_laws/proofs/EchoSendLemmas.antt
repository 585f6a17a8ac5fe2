-- What a terminal edge sends of itself on a wire is a ping or an answer, as the packet rule says.
use Rattle.std.proofs.Common.{◌≡◌, ◌+◌, ◌++◌, ◌∙◌, ◌%◌, ℕ, true, List, Option, Some, None, length, option_map, slice_get, option_and_then, refl, ap, sym, subst, arith}
use Rattle.net_values.specs.declared.addr.Addr.{Addr}
use Rattle.net_values.proofs.BoolLemmas.{second_holds}
use Rattle.net_values.proofs.RowLemmas.{row_holds}
use Rattle.net_base.specs.declared.plan.Plan.{Plan}
use Rattle.net_base.specs.declared.plan.edge_plan.EdgePlan.{EdgePlan}
use Rattle.net_base.specs.declared.plan.places.EdgeId.{EdgeId}
use Rattle.net_base.specs.declared.plan.places.WireId.{WireId}
use Rattle.net_base.specs.declared.plan.wire_plan.WirePlan.{WirePlan}
use Rattle.net_base.specs.declared.trace.arrival.Arrival.TheVariants as arrival
use Rattle.net_base.specs.plan.Accepted.{IsChecked}
use Rattle.net_base.specs.plan.Paths.{edge_address, expected, joins}
use Rattle.net_base.specs.plan.Places.{wire_row}
use Rattle.pw_signalling.specs.declared.binding.Binding.{Binding}
use Rattle.session_core.specs.Laws.{IsAddress}
use Rattle.vccv_channel.specs.declared.cc.Cc.{Cc}
use Rattle.vccv_channel.specs.declared.cc.Cc.TheVariants.{Header, Alert, Expiry}
use Rattle.vccv_channel.specs.Channel.{channel_packet, payload}
use Rattle.vccv_channel.specs.Echo.{request_packet}
use Rattle.edge_model.specs.declared.end_place.EndPlace.{EndPlace}
use Rattle.edge_model.specs.Echo.{channel_octets, channel_under}
use Rattle.edge_model.specs.EndPlaces.{is_of_wire, is_terminal}
use Rattle.edge_model.specs.Ends.{wire_end}
use Rattle.edge_model.specs.Local.{SentAsked}
use Rattle.edge_model.specs.Ping.{far_address, ping_between}
use Rattle.edge_model.specs.State.{end_at}
use Rattle.edge_model.proofs.PlaceLemmas.{IsEndOf}
use Rattle.edge_model.proofs.SyncLemmas as sync
use Rattle.edge_model.proofs.PacketLemmas.{wire_end_is}
use Rattle.network_model.specs.State.{NetworkState}
use Rattle.network_model.proofs.PacketListLemmas.{packet_from}
use Rattle.flight_laws.specs.Ends.{HasTypes}
use Rattle.flight_laws.proofs.RuledNetworkLemmas.{IsRuledNetwork}
use Rattle.flight_laws.proofs.StableLemmas.{IsPlannedBinding, end_is_planned, terminal_offer}
use Rattle.flight_laws.proofs.TellLemmas.{TellsOwnOffer}
use Rattle.flight_laws.proofs.PlaceLemmas.{same_row}
use Rattle.flight_laws.proofs.RuledMendLemmas.{wire_fits}
use Rattle.packet_laws.proofs.AgeLemmas.{may_sent}
use Rattle.packet_laws.specs.Channel.{IsBoundEnd}
use Rattle.packet_laws.specs.Echoed.{Asks, CountsTtl, IsEchoMessage, IsEchoed, echo_stack}
use Rattle.packet_laws.proofs.ChannelLemmas.{picks_planned, told_points}
use Rattle.packet_laws.proofs.MessageLemmas.{IsFour, all_octets, below, request_same}
use Rattle.packet_laws.proofs.PathLemmas.{HasTerminals, side_of, terminals}

-- ---- the end that sends

-- an end of the plan that is terminal, and bound
pub bound_end : (plan : Plan) (network : NetworkState) (me : EdgeId) (place : EndPlace) (row : WirePlan) (binding : Binding) → IsEndOf plan me place → place.terminal ≡ true
    → wire_row plan place.wire ≡ Some row
    → (end_at (network.edges me.0) place).remote ≡ Some binding → IsBoundEnd plan network me place row binding
bound_end plan network me place row binding end terminal is bound =
    let same : end.row ≡ row = same_row end.row row (sym end.is ∙ is) in
    record {
      is = is;
      joined = ap (λ (r : WirePlan). joins me.0 place.peer.0 r.path) (sym same) ∙ end.joined;
      terminal = ap (λ (r : WirePlan). is_terminal r me) (sym same) ∙ (sym end.terminal ∙ terminal);
      bound = bound;
    }

-- ---- what it sends

-- the TTL with which a packet of each type begins its way
first_ttl : Cc → ℕ → ℕ
first_ttl Header points = 255
first_ttl Alert points = 255
first_ttl Expiry points = points + 1

first_stack : (kind : Cc) (label points : ℕ) (ip : List ℕ) → channel_packet kind label points ip ≡ echo_stack kind label (first_ttl kind points) ++ payload kind ip
unfolding first_ttl
first_stack Header label points ip = refl
first_stack Alert label points ip = refl
first_stack Expiry label points ip = refl

module _ (plan : Plan) (network : NetworkState) (me : EdgeId) (place : EndPlace) (row : WirePlan) (binding : Binding) (checked : IsChecked plan) (ruled : IsRuledNetwork plan network) (sender : IsBoundEnd plan network me place row binding) where
  told : IsPlannedBinding plan network me.0 place.peer.0 place.wire row binding
  told = (end_is_planned plan network checked ruled me.0 place.peer.0 place.wire row sender.is sender.joined).holds binding sender.bound

  own : TellsOwnOffer plan row me.0 place.peer.0
  own = terminal_offer plan place.wire row me place.peer checked sender.is sender.joined sender.terminal

  counts_first : (kind : Cc) → CountsTtl plan row me.0 place.peer.0 kind (first_ttl kind (length binding.told.points))
  unfolding first_ttl
  counts_first Header = none (length (expected plan row me.0 place.peer.0).points) (ap length own.points) where
    none : (n : ℕ) → n ≡ 0 → 255 + n ≡ 255
    none n is = omega (arith, is)
  counts_first Alert = none (length (expected plan row me.0 place.peer.0).points) (ap length own.points) where
    none : (n : ℕ) → n ≡ 0 → 255 + n ≡ 255
    none n is = omega (arith, is)
  counts_first Expiry = ap (λ (n : ℕ). n + 1) (told_points plan row place.peer.0 me.0 binding.told told.tells)

  ways : HasTerminals row.path me place.peer.0
  ways = terminals row.path me place.peer.0 (side_of row.path me.0 place.peer.0 (wire_fits plan place.wire row checked sender.is).once sender.joined sender.terminal)

  -- a message from the edge to the other terminal edge, in the channel that the end has picked
  pub sender_echoes : (origin hops sent : ℕ) (kind : Cc) (source target : Addr) (ip : List ℕ) → origin ≡ 0 → channel_under row me binding ≡ Some kind
      → edge_address plan me ≡ Some source → far_address plan me row ≡ Some target → IsEchoMessage row source target ip
      → IsEchoed plan network (packet_from me origin hops sent place.peer place.wire (channel_octets kind binding ip))
  sender_echoes origin hops sent kind source target ip none picks near far message = record {
    unnumbered = none;
    row = row;
    is = sender.is;
    joined = sender.joined;
    kind = kind;
    channel = sym (picks_planned plan row me place.peer.0 binding own told.tells) ∙ picks;
    source = source;
    comes_from = ap (option_and_then (edge_address plan)) ways.near ∙ near;
    target = target;
    goes_to = ap (option_and_then (edge_address plan)) ways.far ∙ far;
    ip = ip;
    message = message;
    label = binding.label;
    is_label = told.is_label;
    ttl = first_ttl kind (length binding.told.points);
    left = counts_first kind;
    bytes = first_stack kind binding.label (length binding.told.points) ip;
    named = may_sent _ _ _ _ _ told.may;
  }

-- ---- addresses

address_of : (plan : Plan) (types : HasTypes plan) (edge : EdgeId) (address : Addr) → edge_address plan edge ≡ Some address → IsFour address
address_of plan types edge address is = by (slice_get plan.edges edge.0) refl is where
  by : (row : Option EdgePlan) → slice_get plan.edges edge.0 ≡ row → option_map (λ (row : EdgePlan). row.address) row ≡ Some address → IsFour address
  by None found is = absurd (cc (is))
  by (Some row) found is =
      let four : IsAddress row.address = row_holds (λ (r : EdgePlan). IsAddress r.address) plan.edges edge.0 row found types.addresses in
      let same : row.address ≡ address = cc (is) in
      subst IsFour same (record { octets = all_octets row.address.0 four.octets; whole = four.four })

pub far_of : (plan : Plan) (types : HasTypes plan) (edge : Option EdgeId) (address : Addr) → option_and_then (edge_address plan) edge ≡ Some address → IsFour address
far_of plan types None address is = absurd (cc (is))
far_of plan types (Some edge) address is = address_of plan types edge address is

-- ---- a ping

pub asked_echoes : (plan : Plan) (network : NetworkState) (me : EdgeId) (hops sent : ℕ) (wire : WireId) (peer : EdgeId) (on : WireId) (bytes : List ℕ) → IsChecked plan → IsRuledNetwork plan network
    → SentAsked plan (network.edges me.0) wire peer on arrival.Own bytes → IsEchoed plan network (packet_from me 0 hops sent peer on bytes)
asked_echoes plan network me hops sent wire peer on bytes checked ruled asked =
    let at : (network.edges me.0).me ≡ me = (ruled.edges me.0).place in
    let here : wire_end plan me wire ≡ Some asked.place = ap (λ (k : EdgeId). wire_end plan k wire) (sym at) ∙ asked.here in
    let terminal : asked.place.terminal ≡ true = second_holds (is_of_wire wire asked.place) asked.place.terminal (sync.wire_end_is plan me wire asked.place here) in
    let sender : IsBoundEnd plan network me asked.place asked.row asked.binding =
    bound_end plan network me asked.place asked.row asked.binding (wire_end_is plan me wire asked.place here) terminal asked.is asked.bound in
    let picks : channel_under asked.row me asked.binding ≡ Some asked.kind = ap (λ (k : EdgeId). channel_under asked.row k asked.binding) (sym at) ∙ asked.picked in
    let near : edge_address plan me ≡ Some asked.from = ap (edge_address plan) (sym at) ∙ asked.near in
    let far : far_address plan me asked.row ≡ Some asked.to = ap (λ (k : EdgeId). far_address plan k asked.row) (sym at) ∙ asked.far in
    let number : ℕ = (network.edges me.0).next_ping asked.place.wire.0 in
    subst (λ (k : EdgeId). IsEchoed plan network (packet_from me 0 hops sent k on bytes)) (sym asked.beside)
    (subst (λ (w : WireId). IsEchoed plan network (packet_from me 0 hops sent asked.place.peer w bytes)) (sym asked.same)
    (subst (λ (b : List ℕ). IsEchoed plan network (packet_from me 0 hops sent asked.place.peer asked.place.wire b)) (sym asked.asked)
    (sender_echoes plan network me asked.place asked.row asked.binding checked ruled sender 0 hops sent asked.kind asked.from asked.to
    (request_packet (ping_between asked.row asked.from asked.to number)) refl picks near far
    (Asks (number % 65536) (below number) (sym (request_same (ping_between asked.row asked.from asked.to number)))))))
