-- The events of a stretch after a frame to a known station entered: what is due to the station's site is served.
use Rattle.std.proofs.Common.{◌≡◌, ◌≤◌, ◌+◌, ◌++◌, ℕ, true, false, List, [], ◌∷◌, Option, Some, None, not, refl, ap, inl, inr, arith}
use Rattle.std.proofs.lemmas.Bool.{cases_Bool, and_from, not-true}
use Rattle.std.proofs.lemmas.List.Elements.{All-head, All-tail}
use Rattle.std.specs.List.{All, list_all, list_any}
use Rattle.net_values.proofs.BoolLemmas.{first_holds, second_holds}
use Rattle.net_base.specs.declared.plan.Plan.{Plan}
use Rattle.net_base.specs.declared.plan.places.CircuitId.{CircuitId}
use Rattle.net_base.specs.declared.plan.places.ServiceId.{ServiceId}
use Rattle.net_base.specs.declared.trace.entry.Entry.{Entry}
use Rattle.net_base.specs.declared.trace.event.Event.{Event}
use Rattle.net_base.specs.declared.trace.event.Event.TheVariants.{Frame, Arrive, Discard, Again}
use Rattle.net_base.specs.plan.Accepted.{IsChecked}
use Rattle.net_base.specs.plan.Places.{mtu_of}
use Rattle.net_base.specs.plan.Planned.{IsEventOf}
use Rattle.net_base.specs.plan.Roles.{are_joined_by}
use Rattle.net_base.specs.trace.Frame.{destination_of}
use Rattle.network_model.specs.declared.packet.Packet.{Packet}
use Rattle.network_model.specs.Absorb.{Stepped}
use Rattle.network_model.specs.Calm.{is_calm}
use Rattle.network_model.specs.Packet.{arrive_event, packet_at}
use Rattle.network_model.specs.Reach.{is_site}
use Rattle.network_model.specs.Run.{state_after}
use Rattle.network_model.specs.State.{NetworkState}
use Rattle.network_model.specs.Step.{step}
use Rattle.network_model.specs.Window.{all_spare, is_copy, spares}
use Rattle.network_model.proofs.OtherLemmas.{along, is_of, moves_copy, step_apart, step_counts, same_number}
use Rattle.flight_laws.specs.Ends.{HasTypes}
use Rattle.flight_laws.specs.Laws.{AreSettled}
use Rattle.packet_laws.proofs.ArriveLemmas.{IsSized}
use Rattle.flood_laws.proofs.CountLemmas.{due}
use Rattle.flood_laws.proofs.OriginLemmas.{not_named}
use Rattle.flood_laws.proofs.ServeLemmas.{serves_apart, serves_none}
use Rattle.flood_laws.proofs.StillLemmas.{step_still}
use Rattle.flood_laws.proofs.WindowLemmas.{IsAfter, IsReached, step_reached}
use Rattle.address_laws.specs.Points.{Points}
use Rattle.address_laws.specs.Sites.{Sites}
use Rattle.address_laws.specs.Stretch.{is_of_stretch}
use Rattle.address_laws.proofs.KnownArrivalLemmas.{arriving_serves_site}
use Rattle.address_laws.proofs.KnownServeLemmas.{ServesSite, serves_each, serves_site_then, serves_site_told}

-- an event that spares the copies of a frame is one of a stretch
pub spared_stretch : (network : NetworkState) (origin : ℕ) (event : Event) → spares network origin event ≡ true → is_of_stretch event ≡ true
spared_stretch network origin (Frame circuit octets) spared = refl
spared_stretch network origin (Arrive number) spared = refl
spared_stretch network origin (Discard number) spared = refl
spared_stretch network origin (Again number) spared = refl
spared_stretch network origin event spared = absurd (cc (spared))

-- in each state of the events from here on, those of a stretch, addresses point to their sites
abbrev pub PointOn : Plan → ServiceId → Sites → NetworkState → List Event → Type 0
PointOn plan service site network events = (some rest : List Event) → events ≡ some ++ rest → list_all is_of_stretch some ≡ true → Points plan (state_after plan network some) service site

module _ (plan : Plan) (calm : NetworkState) (service : ServiceId) (site : Sites) (frame : List ℕ) (origin : ℕ) (checked : IsChecked plan) (calmed : is_calm plan calm service ≡ true)
    (settled : (a b : ℕ) → are_joined_by plan service a b ≡ true → AreSettled plan calm a b) (sized : IsSized (mtu_of plan service) frame) (on : is_site plan calm service (site (destination_of frame)) ≡ true) where
  abbrev target : CircuitId
  target = site (destination_of frame)

  -- what is due is owed
  abbrev owes : NetworkState → CircuitId → ℕ
  owes network circuit = due plan calm service circuit origin network

  abbrev Serve : NetworkState → Stepped → Type 0
  Serve network stepped = ServesSite plan calm service target frame origin (owes network) stepped

  -- no copy moves
  apart_serves : (network : NetworkState) (event : Event) → IsAfter plan calm service frame origin network → moves_copy network origin event ≡ false → Serve network (step plan network event)
  apart_serves network event after unmoved =
      serves_each plan calm service target frame origin (owes network) (step plan network event)
      (serves_apart plan calm service frame origin network (step plan network event) after.copies
      (λ circuit. step_apart plan origin circuit network event after.numbered unmoved (λ same entered. later after.issued same)))
    where
      later : origin ≤ network.entered → network.entered + 1 ≡ origin → ⊥
      later issued same = absurd (omega (arith, issued, same))

  -- a packet arrives
  arrive_serves : (network : NetworkState) (trace : List Entry) (number : ℕ) (found : Option Packet) → packet_at network number ≡ found → is_of origin found ≡ true
      → IsReached plan network trace → IsAfter plan calm service frame origin network → Points plan (arrive_event plan found network).state service site
      → Serve network (arrive_event plan found network)
  arrive_serves network trace number None is own reached after points = absurd (cc (own))
  arrive_serves network trace number (Some packet) is own reached after points =
      arriving_serves_site plan calm network trace service site frame origin number packet checked calmed settled sized reached.ruled reached.rule after.still on points after.copies is own (same_number packet.origin origin own after.numbered)

  unmoved : (network : NetworkState) (number : ℕ) → not (list_any (is_copy origin number) network.under_way) ≡ true → is_of origin (packet_at network number) ≡ false
  unmoved network number spared = not_named origin number network.under_way (not-true (list_any (is_copy origin number) network.under_way) spared)

  step_serves : (network : NetworkState) (trace : List Entry) (event : Event) → IsReached plan network trace → IsAfter plan calm service frame origin network
      → Points plan (step plan network event).state service site → spares network origin event ≡ true → Serve network (step plan network event)
  step_serves network trace (Frame circuit octets) reached after points spared = apart_serves network (Frame circuit octets) after refl
  step_serves network trace (Arrive number) reached after points spared = elim (cases_Bool (is_of origin (packet_at network number))) [
    | inl own ↦
        serves_site_told plan calm service target frame origin (owes network) (Arrive number) (arrive_event plan (packet_at network number) network)
        (arrive_serves network trace number (packet_at network number) refl own reached after points)
    | inr other ↦ apart_serves network (Arrive number) after other
  ]
  step_serves network trace (Discard number) reached after points spared = apart_serves network (Discard number) after (unmoved network number spared)
  step_serves network trace (Again number) reached after points spared = apart_serves network (Again number) after (unmoved network number spared)
  step_serves network trace event reached after points spared = absurd (cc (spared))

  -- each event serves what was due before it, or leaves it due
  pub window_serves_site : (network : NetworkState) (trace : List Entry) (events : List Event) → HasTypes plan → All (IsEventOf plan) events → IsReached plan network trace
      → IsAfter plan calm service frame origin network
      → PointOn plan service site network events → all_spare plan origin network events ≡ true → Serve network (along plan network events)
  window_serves_site network trace [] types planned reached after points spared =
      serves_each plan calm service target frame origin (owes network) (along plan network []) (serves_none plan calm service frame origin network after.copies)
  window_serves_site network trace (e ∷ es) types planned reached after points spared =
      let first : Stepped = step plan network e in
      let here : spares network origin e ≡ true = first_holds (spares network origin e) (all_spare plan origin first.state es) spared in
      let stretch : is_of_stretch e ≡ true = spared_stretch network origin e here in
      let serves : Serve network first = step_serves network trace e reached after (points (e ∷ []) es refl (and_from (is_of_stretch e) true stretch refl)) here in
      let next : IsAfter plan calm service frame origin first.state = record {
        still = step_still plan calm network trace origin e checked reached.ruled reached.rule here after.still;
        copies = serves.serves.copies;
        issued = omega (arith, after.issued, step_counts plan network e);
        numbered = after.numbered;
      } in
      serves_site_then plan calm service target frame origin (owes network) first (along plan first.state es) on serves
      (window_serves_site first.state (trace ++ first.entries) es types (All-tail (IsEventOf plan) e es planned)
      (step_reached plan network trace e checked types (All-head (IsEventOf plan) e es planned) reached) next
      (λ some rest split all. points (e ∷ some) rest (ap (λ (l : List Event). e ∷ l) split) (and_from (is_of_stretch e) (list_all is_of_stretch some) stretch all))
      (second_holds (spares network origin e) (all_spare plan origin first.state es) spared))
