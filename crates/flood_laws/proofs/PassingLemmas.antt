-- What comes of a packet that is carried at a switching point: it is passed on under the label of the other side, or dropped where that
-- side is not bound or none advertises its label.
use Rattle.std.proofs.Common.{◌⊎◌, inl, inr, ◌≡◌, ◌-◌, ◌∙◌, ℕ, Bool, true, false, cond, List, [], ◌∷◌, Option, Some, None, Ok, Err, nat_eq, slice_get, refl, ap, sym}
use Rattle.std.proofs.lemmas.Bool.{or_parts}
use Rattle.net_base.specs.declared.plan.Plan.{Plan}
use Rattle.net_base.specs.declared.plan.places.EdgeId.{EdgeId}
use Rattle.net_base.specs.declared.plan.places.WireId.{WireId}
use Rattle.net_base.specs.declared.plan.wire_plan.WirePlan.{WirePlan}
use Rattle.net_base.specs.declared.trace.arrival.Arrival.TheVariants as arrival
use Rattle.net_base.specs.declared.trace.drop_cause.DropCause.{DropCause}
use Rattle.net_base.specs.declared.trace.drop_cause.DropCause.TheVariants as cause
use Rattle.net_base.specs.declared.trace.entry.Entry.{Entry}
use Rattle.net_base.specs.plan.Accepted.{IsChecked}
use Rattle.net_base.specs.plan.Paths.{is_first, is_last, mate, mate_on}
use Rattle.net_base.specs.plan.Places.{wire_row}
use Rattle.net_base.proofs.CommonLemmas.{same_option}
use Rattle.eth_encap.specs.declared.stack_entry.StackEntry.{StackEntry}
use Rattle.pw_signalling.specs.declared.binding.Binding.{Binding}
use Rattle.pw_stitch.specs.declared.swap_drop.SwapDrop.TheVariants.{Expired}
use Rattle.pw_stitch.specs.Relabelling.{relabelled}
use Rattle.pw_stitch.specs.Swap.{label_onward}
use Rattle.edge_model.specs.declared.effect.Effect.TheVariants as effect
use Rattle.edge_model.specs.declared.end_place.EndPlace.{EndPlace}
use Rattle.edge_model.specs.EndPlaces.{is_terminal}
use Rattle.edge_model.specs.Packet.{advertiser, behind_entry, owned, switched, switched_by, switched_to, switched_under, terminated, towards}
use Rattle.edge_model.specs.Send.{drops, sends}
use Rattle.edge_model.specs.State.{EdgeState, end_at}
use Rattle.edge_model.specs.Work.{Work, gives, posts}
use Rattle.network_model.specs.declared.packet.Packet.{Packet}
use Rattle.network_model.specs.Absorb.{begin_at, taken_all}
use Rattle.network_model.specs.Packet.{packet_work}
use Rattle.network_model.specs.State.{NetworkState}
use Rattle.network_model.specs.Window.{carried}
use Rattle.network_model.proofs.GoalLemmas.{has_mate}
use Rattle.flight_laws.proofs.RuledNetworkLemmas.{IsRuledNetwork}
use Rattle.flight_laws.proofs.PlaceLemmas.{same_row}
use Rattle.flight_laws.proofs.RuledMendLemmas.{wire_fits}
use Rattle.packet_laws.specs.Carried.{IsCarried}
use Rattle.packet_laws.proofs.ArriveLemmas.{IsOwner, come_sized, owner_is}
use Rattle.packet_laws.proofs.SendLemmas.{come_of}
use Rattle.packet_laws.proofs.SwitchLemmas.{joined_on, relay_lives, relayed, relayed_packed}
use Rattle.flood_laws.proofs.ArrivalLemmas.{arrives_with, opened}
use Rattle.flood_laws.proofs.CarryLemmas.{packed_carried}

-- an end of the packet's wire, beside the edge that sent it, advertises its label
pub record IsSwitchedBy (packet : Packet) (place : EndPlace) : Type 0 where
  pub wire : place.wire ≡ packet.wire
  pub peer : place.peer ≡ packet.from
  pub passes : place.terminal ≡ false

module _ (plan : Plan) (network : NetworkState) (trace : List Entry) (packet : Packet) (checked : IsChecked plan) (ruled : IsRuledNetwork plan network) (rule : IsCarried plan network trace packet) where
  abbrev edge : EdgeState
  edge = network.edges packet.to.0

  abbrev work : Work
  work = begin_at network packet.to

  abbrev entry : StackEntry
  entry = record { label = rule.label; bottom = true; ttl = rule.packed.ttl }

  -- it is passed on to the mate
  pub record PassedOn : Type 0 where
    pub to : EdgeId
    pub mate_is : mate_on rule.row.path packet.to.0 packet.from.0 ≡ Some to
    pub binding : Binding
    pub bound : (edge.ends packet.wire.0 to.0).remote ≡ Some binding
    pub edge : (packet_work plan network packet).edge ≡ network.edges packet.to.0
    pub effects : (packet_work plan network packet).effects ≡ effect.Sent to packet.wire (arrival.Wire packet.wire) (relabelled binding.label (rule.packed.ttl - 1) packet.bytes) ∷ []

  -- or dropped, where no end advertises the label, or the other side is not bound
  pub data Passed : Type 0 where
    IsNotPassed : (why : DropCause) → packet_work plan network packet ≡ drops why work
        → (advertiser plan edge rule.label ≡ None) ⊎ ((to : EdgeId) → mate_on rule.row.path packet.to.0 packet.from.0 ≡ Some to → (edge.ends packet.wire.0 to.0).remote ≡ None) → Passed
    IsPassedOn : PassedOn → Passed

  at : edge.me ≡ packet.to
  at = (ruled.edges packet.to.0).place

  -- what is passed on carries the frame
  pub passed_carries : (on : PassedOn) (number origin hops : ℕ)
      → carried plan (record {
        number = number;
        wire = packet.wire;
        from = packet.to;
        to = on.to;
        origin = origin;
        hops = hops;
        age = 0;
        bytes = relabelled on.binding.label (rule.packed.ttl - 1) packet.bytes;
      }) ≡ carried plan packet
  passed_carries on number origin hops =
      packed_carried plan (relayed plan network trace packet on.to on.binding number hops checked ruled rule on.mate_is on.bound) rule.row on.binding.label rule.frame checked rule.is
      (relayed_packed plan network trace packet on.to on.binding number hops checked ruled rule on.mate_is on.bound)
      (joined_on plan network trace packet on.to on.binding number hops checked ruled rule on.mate_is on.bound)
      (come_sized plan trace rule.row.service packet.origin rule.frame (come_of plan trace rule.row packet.origin rule.frame rule.entered))
      ∙ sym (arrives_with plan network trace packet checked ruled rule)

  module _ (between : is_terminal rule.row packet.to ≡ false) where
    has : (to : EdgeId) × (mate_on rule.row.path packet.to.0 packet.from.0 ≡ Some to)
    has =
        let apart = or_parts (is_first packet.to.0 rule.row.path) (is_last packet.to.0 rule.row.path) between in
        has_mate rule.row.path packet.from packet.to (wire_fits plan packet.wire rule.row checked rule.is).once rule.joined apart.0 apart.1

    owner_beside : (place : EndPlace) → advertiser plan edge rule.label ≡ Some place → IsSwitchedBy packet place
    owner_beside place owner =
        let own : IsOwner plan edge rule.label place = owner_is plan edge rule.label place owner in
        let places = rule.named.owner place.wire.0 place.peer.0 own.owned in
        let row : own.end.row ≡ rule.row = same_row own.end.row rule.row (sym own.end.is ∙ (ap (slice_get plan.wires) places.0 ∙ rule.is)) in
        record {
          wire = ap (λ (n : ℕ). record { 0 = n }) places.0;
          peer = ap (λ (n : ℕ). record { 0 = n }) places.1;
          passes = own.end.terminal ∙ (ap (λ (r : WirePlan). is_terminal r edge.me) row ∙ (ap (is_terminal rule.row) at ∙ between));
        }

    by_side : (place : EndPlace) → IsSwitchedBy packet place → packet_work plan network packet ≡ switched plan taken_all packet.bytes entry place work → (remote : Option Binding)
        → (edge.ends packet.wire.0 has.0.0).remote ≡ remote → Passed
    unfolding gives posts
    by_side place beside is remote held =
        let row : wire_row plan place.wire ≡ Some rule.row = ap (wire_row plan) beside.wire ∙ rule.is in
        let mates : mate rule.row edge.me.0 place.peer.0 ≡ Some has.0 =
        ap (λ (k : EdgeId). mate_on rule.row.path k.0 place.peer.0) at ∙ (ap (λ (k : EdgeId). mate_on rule.row.path packet.to.0 k.0) beside.peer ∙ has.1) in
        let on : (edge.ends place.wire.0 has.0.0).remote ≡ remote = ap (λ (w : WireId). (edge.ends w.0 has.0.0).remote) beside.wire ∙ held in
        let all : packet_work plan network packet ≡ switched_under taken_all packet.bytes entry place has.0 (label_onward remote rule.packed.ttl) work =
        is
        ∙ (ap (λ (r : Option WirePlan). switched_by taken_all packet.bytes entry place r work) row
        ∙ (ap (λ (m : Option EdgeId). switched_to taken_all packet.bytes entry place m work) mates
        ∙ ap (λ (o : Option Binding). switched_under taken_all packet.bytes entry place has.0 (label_onward o rule.packed.ttl) work) on)) in
        outcome remote held all
      where
        outcome : (remote : Option Binding) → (edge.ends packet.wire.0 has.0.0).remote ≡ remote → packet_work plan network packet
            ≡ switched_under taken_all packet.bytes entry place has.0 (label_onward remote rule.packed.ttl) work → Passed
        outcome None held all = IsNotPassed cause.NoBinding all (inr (λ to to_is. ap (λ (k : EdgeId). (edge.ends packet.wire.0 k.0).remote) (same_option to has.0 (sym to_is ∙ has.1)) ∙ held))
        outcome (Some binding) held all =
            let lives : nat_eq rule.packed.ttl 1 ≡ false = relay_lives plan network trace packet has.0 binding 0 0 checked ruled rule has.1 held in
            let goes : packet_work plan network packet ≡ sends taken_all (towards has.0 place) (arrival.Wire place.wire) (relabelled binding.label (rule.packed.ttl - 1) packet.bytes) work =
            all ∙ ap (λ (b : Bool). switched_under taken_all packet.bytes entry place has.0 (cond b (Err Expired) (Ok binding.label)) work) lives in
            IsPassedOn (record {
              to = has.0;
              mate_is = has.1;
              binding = binding;
              bound = held;
              edge = ap (λ (w : Work). w.edge) goes;
              effects = ap (λ (w : Work). w.effects) goes ∙ ap (λ (w : WireId). effect.Sent has.0 w (arrival.Wire w) (relabelled binding.label (rule.packed.ttl - 1) packet.bytes) ∷ []) beside.wire;
            })

    pub passed : Passed
    passed = by (advertiser plan edge rule.label) refl where
      by : (owner : Option EndPlace) → advertiser plan edge rule.label ≡ owner → Passed
      by None owner =
          IsNotPassed cause.NoLabel (opened plan network trace packet checked ruled rule ∙ ap (λ (o : Option EndPlace). owned plan taken_all packet.bytes entry o work) owner) (inl owner)
      by (Some place) owner =
          let beside : IsSwitchedBy packet place = owner_beside place owner in
          by_side place beside
          (opened plan network trace packet checked ruled rule
          ∙ (ap (λ (o : Option EndPlace). owned plan taken_all packet.bytes entry o work) owner
          ∙ ap (λ (b : Bool). cond b (terminated plan taken_all place rule.packed.ttl (wire_row plan place.wire) (end_at edge place).remote (behind_entry packet.bytes) work)
          (switched plan taken_all packet.bytes entry place work)) beside.passes))
          (edge.ends packet.wire.0 has.0.0).remote refl
