-- A copy that an edge sends on a wire is carried there as the packet rule says.
use Rattle.std.proofs.Common.{◌≡◌, ◌==◌, ◌+◌, ◌++◌, ◌∙◌, ℕ, true, false, List, [], ◌∷◌, Some, None, Ok, length, ap, sym, subst}
use Rattle.std.specs.List.{AllByRecursion}
use Rattle.net_values.proofs.NumberLemmas.{ttl_whole}
use Rattle.net_base.specs.declared.plan.Plan.{Plan}
use Rattle.net_base.specs.declared.plan.offer.Offer.{Offer}
use Rattle.net_base.specs.declared.plan.places.CircuitId.{CircuitId}
use Rattle.net_base.specs.declared.plan.places.EdgeId.{EdgeId}
use Rattle.net_base.specs.declared.plan.places.ServiceId.{ServiceId}
use Rattle.net_base.specs.declared.plan.places.WireId.{WireId}
use Rattle.net_base.specs.declared.plan.wire_plan.WirePlan.{WirePlan}
use Rattle.net_base.specs.declared.trace.arrival.Arrival.{Arrival}
use Rattle.net_base.specs.declared.trace.entry.Entry.{Entry}
use Rattle.net_base.specs.declared.trace.entry.Entry.TheVariants.{In}
use Rattle.net_base.specs.plan.Accepted.{IsChecked}
use Rattle.net_base.specs.plan.Faults.{is_told_within}
use Rattle.net_base.specs.plan.Paths.{expected, joins, offer_of}
use Rattle.net_base.specs.plan.Places.{service_of, wire_row}
use Rattle.net_base.specs.trace.Isolated.{Among, inner_at}
use Rattle.net_base.proofs.TraceLemmas.{among-append}
use Rattle.eth_encap.specs.Packet.{packed}
use Rattle.pw_signalling.specs.declared.binding.Binding.{Binding}
use Rattle.edge_model.specs.Copies.{AllAreCopies, SentCopy}
use Rattle.edge_model.specs.declared.effect.Effect.{Effect}
use Rattle.edge_model.specs.declared.effect.Effect.TheVariants as effect
use Rattle.edge_model.specs.declared.end_place.EndPlace.{EndPlace}
use Rattle.edge_model.specs.EndPlaces.{is_terminal}
use Rattle.edge_model.specs.Ends.{wire_end}
use Rattle.edge_model.specs.Role.{down_at, role_at}
use Rattle.edge_model.specs.Send.{full_ttl, packet_of, pushed_vlan}
use Rattle.edge_model.proofs.PlaceLemmas.{IsEndOf}
use Rattle.edge_model.proofs.PacketLemmas.{wire_end_is}
use Rattle.network_model.specs.State.{NetworkState}
use Rattle.network_model.proofs.PacketListLemmas.{packet_from, packets_of}
use Rattle.flight_laws.proofs.RuledNetworkLemmas.{IsRuledNetwork}
use Rattle.flight_laws.proofs.StableLemmas.{IsPlannedBinding, IsPlannedEnd, end_is_planned, terminal_offer}
use Rattle.flight_laws.proofs.TellLemmas.{TellsOwnOffer}
use Rattle.flight_laws.proofs.PlaceLemmas.{same_row}
use Rattle.flight_laws.proofs.RuledMendLemmas.{wire_fits}
use Rattle.packet_laws.proofs.AgeLemmas.{may_sent}
use Rattle.packet_laws.specs.Carried.{HasEnteredService, IsCarried, IsPacked}
use Rattle.packet_laws.proofs.PackLemmas.{HaveSameMode, expected_offer, forwarding_agrees, pushed_fits, pushed_mode, pushed_same, told_vlan}

-- ---- frames that entered

-- a frame with this number entered in the service, with this inner frame
pub record HasCome (plan : Plan) (trace : List Entry) (service : ServiceId) (origin : ℕ) (frame : List ℕ) : Type 0 where
  pub numbered : (origin == 0) ≡ false
  pub sender : CircuitId
  pub octets : List ℕ
  pub told : Among (In sender origin octets) trace
  pub of_service : service_of plan sender ≡ Some service
  pub formed : inner_at plan sender octets ≡ Ok frame

-- as the frame of a wire of the service
pub entered_of : (plan : Plan) (trace : List Entry) (row : WirePlan) (service : ServiceId) (origin : ℕ) (frame : List ℕ) → row.service ≡ service
    → HasCome plan trace service origin frame → HasEnteredService plan trace row origin frame
entered_of plan trace row service origin frame same come = record {
  numbered = come.numbered;
  sender = come.sender;
  octets = come.octets;
  told = come.told;
  service = come.of_service ∙ ap (λ (s : ServiceId). Some s) (sym same);
  formed = come.formed;
}

pub come_of : (plan : Plan) (trace : List Entry) (row : WirePlan) (origin : ℕ) (frame : List ℕ) → HasEnteredService plan trace row origin frame → HasCome plan trace row.service origin frame
come_of plan trace row origin frame entered = record {
  numbered = entered.numbered;
  sender = entered.sender;
  octets = entered.octets;
  told = entered.told;
  of_service = entered.service;
  formed = entered.formed;
}

-- it has come still when more was told
pub come_on : (plan : Plan) (trace more : List Entry) (service : ServiceId) (origin : ℕ) (frame : List ℕ) → HasCome plan trace service origin frame → HasCome plan (trace ++ more) service origin frame
come_on plan trace more service origin frame come = record {
  numbered = come.numbered;
  sender = come.sender;
  octets = come.octets;
  told = among-append (In come.sender origin come.octets) trace more come.told;
  of_service = come.of_service;
  formed = come.formed;
}

-- ---- the end that sends

-- an edge's terminal end of a wire, which forwards under a binding
pub record IsSender (plan : Plan) (network : NetworkState) (me : EdgeId) (place : EndPlace) (row : WirePlan) (binding : Binding) : Type 0 where
  pub is : wire_row plan place.wire ≡ Some row
  pub joined : joins me.0 place.peer.0 row.path ≡ true
  pub terminal : is_terminal row me ≡ true
  pub bound : ((network.edges me.0).ends place.wire.0 place.peer.0).remote ≡ Some binding
  pub forwards : down_at plan (network.edges me.0) place ≡ None

-- the end of a copy is
pub copy_sender : (plan : Plan) (network : NetworkState) (me : EdgeId) (came : Arrival) (service : ServiceId) (frame : List ℕ) (arrival : ℕ) (peer : EdgeId) (wire : WireId) (of_arrival : Arrival) (bytes : List ℕ)
    → (network.edges me.0).me ≡ me → (copy : SentCopy plan (network.edges me.0) came service frame arrival peer wire of_arrival bytes) → IsSender plan network me copy.place copy.row copy.binding
copy_sender plan network me came service frame arrival peer wire of_arrival bytes at copy =
    let found : wire_end plan me wire ≡ Some copy.place = ap (λ (k : EdgeId). wire_end plan k wire) (sym at) ∙ copy.here in
    let end : IsEndOf plan me copy.place = wire_end_is plan me wire copy.place found in
    let is : wire_row plan copy.place.wire ≡ Some copy.row = ap (wire_row plan) (sym copy.same_wire) ∙ copy.is in
    let row : end.row ≡ copy.row = same_row end.row copy.row (sym end.is ∙ is) in
    record {
      is = is;
      joined = ap (λ (r : WirePlan). joins me.0 copy.place.peer.0 r.path) (sym row) ∙ end.joined;
      terminal = ap (λ (r : WirePlan). is_terminal r me) (sym row) ∙ (sym end.terminal ∙ copy.terminal);
      bound = copy.bound;
      forwards = copy.forwards;
    }

-- ---- what it sends

module _ (plan : Plan) (network : NetworkState) (me : EdgeId) (place : EndPlace) (row : WirePlan) (binding : Binding) (checked : IsChecked plan) (ruled : IsRuledNetwork plan network) (sender : IsSender plan network me place row binding) where
  planned : IsPlannedEnd plan network me.0 place.peer.0 place.wire row
  planned = end_is_planned plan network checked ruled me.0 place.peer.0 place.wire row sender.is sender.joined

  told : IsPlannedBinding plan network me.0 place.peer.0 place.wire row binding
  told = planned.holds binding sender.bound

  own : TellsOwnOffer plan row me.0 place.peer.0
  own = terminal_offer plan place.wire row me place.peer checked sender.is sender.joined sender.terminal

  modes : HaveSameMode plan row me.0 place.peer.0
  modes = forwarding_agrees plan network me.0 place.peer.0 place.wire row (role_at plan (network.edges me.0) place) ((network.edges me.0).bits place.wire.0) planned sender.forwards

  within : is_told_within 0 4095 binding.told.vlan ≡ true
  within =
      ap (is_told_within 0 4095) (told_vlan plan row place.peer.0 me.0 binding.told told.tells)
      ∙ (expected_offer plan row place.peer.0 me.0 (wire_fits plan place.wire row checked sender.is)).vlan

  -- the packet is that of the inner frame, in the mode of the end
  pub sender_packs : (origin hops sent : ℕ) (frame : List ℕ)
      → IsPacked plan row (packet_from me origin hops sent place.peer place.wire (packet_of (offer_of row me.0) binding frame)) binding.label frame
  sender_packs origin hops sent frame = record {
    ttl = full_ttl;
    vlan = pushed_vlan (offer_of row me.0).tagged binding.told.vlan;
    left = ttl_whole (length (expected plan row me.0 place.peer.0).points) (ap length own.points);
    fits = pushed_fits (offer_of row me.0).tagged binding.told.vlan within;
    mode = pushed_mode (offer_of row me.0).tagged binding.told.vlan ∙ ap (λ (o : Offer). o.tagged) (sym own.offer);
    requested = pushed_same (offer_of row me.0).tagged (expected plan row me.0 place.peer.0).offer.tagged binding.told.vlan (expected plan row place.peer.0 me.0).offer.vlan
        (ap (λ (o : Offer). o.tagged) (sym own.offer)) (told_vlan plan row place.peer.0 me.0 binding.told told.tells);
    bytes = ap (λ (o : Offer). packed binding.label full_ttl o.cword (pushed_vlan (offer_of row me.0).tagged binding.told.vlan) frame) (sym own.offer);
    same_word = modes.word;
    same_mode = modes.mode;
  }

  -- and is carried, where the frame has come
  pub sender_carries : (trace : List Entry) (service : ServiceId) (origin hops sent : ℕ) (frame : List ℕ) → row.service ≡ service → HasCome plan trace service origin frame
      → IsCarried plan network trace (packet_from me origin hops sent place.peer place.wire (packet_of (offer_of row me.0) binding frame))
  sender_carries trace service origin hops sent frame same come = record {
    row = row;
    is = sender.is;
    joined = sender.joined;
    frame = frame;
    entered = entered_of plan trace row service origin frame same come;
    label = binding.label;
    is_label = told.is_label;
    packed = sender_packs origin hops sent frame;
    named = may_sent _ _ _ _ _ told.may;
  }

-- ---- the packets of copies

copy_carried : (plan : Plan) (network : NetworkState) (trace : List Entry) (me : EdgeId) (origin hops sent : ℕ) (came : Arrival) (service : ServiceId) (frame : List ℕ) (arrival : ℕ) (peer : EdgeId) (wire : WireId) (of_arrival : Arrival) (bytes : List ℕ)
    → IsChecked plan → IsRuledNetwork plan network → HasCome plan trace service origin frame → SentCopy plan (network.edges me.0) came service frame arrival peer wire of_arrival bytes
    → IsCarried plan network trace (packet_from me origin hops sent peer wire bytes)
copy_carried plan network trace me origin hops sent came service frame arrival peer wire of_arrival bytes checked ruled come copy =
    subst (λ (k : EdgeId). IsCarried plan network trace (packet_from me origin hops sent k wire bytes)) (sym copy.same_peer)
    (subst (λ (w : WireId). IsCarried plan network trace (packet_from me origin hops sent copy.place.peer w bytes)) (sym copy.same_wire)
    (subst (λ (b : List ℕ). IsCarried plan network trace (packet_from me origin hops sent copy.place.peer copy.place.wire b)) (sym is)
    (sender_carries plan network me copy.place copy.row copy.binding checked ruled
    (copy_sender plan network me came service frame arrival peer wire of_arrival bytes at copy) trace service origin hops sent frame copy.same_service come)))
  where
    at : (network.edges me.0).me ≡ me
    at = (ruled.edges me.0).place

    is : bytes ≡ packet_of (offer_of copy.row me.0) copy.binding frame
    is = copy.packed ∙ ap (λ (k : EdgeId). packet_of (offer_of copy.row k.0) copy.binding frame) at

-- each packet of an edge's copies is carried
pub copies_carried : (plan : Plan) (network : NetworkState) (trace : List Entry) (me : EdgeId) (origin hops sent : ℕ) (came : Arrival) (service : ServiceId) (frame : List ℕ) (arrival : ℕ) (es : List Effect)
    → IsChecked plan → IsRuledNetwork plan network → HasCome plan trace service origin frame → AllAreCopies plan (network.edges me.0) came service frame arrival es
    → AllByRecursion (IsCarried plan network trace) (packets_of me origin hops sent es)
copies_carried plan network trace me origin hops sent came service frame arrival [] checked ruled come all = tt
copies_carried plan network trace me origin hops sent came service frame arrival (effect.Sent peer wire of_arrival bytes ∷ es) checked ruled come all = (
  copy_carried plan network trace me origin hops sent came service frame arrival peer wire of_arrival bytes checked ruled come all.0,
  copies_carried plan network trace me origin hops (sent + 1) came service frame arrival es checked ruled come all.1,
)
copies_carried plan network trace me origin hops sent came service frame arrival (e ∷ es) checked ruled come all =
    copies_carried plan network trace me origin hops sent came service frame arrival es checked ruled come all.1
