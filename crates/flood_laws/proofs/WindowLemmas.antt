-- The events of a window, one after another: what is due by the copies under way is served.
use Rattle.std.proofs.Common.{◌≡◌, ◌≤◌, ◌+◌, ◌++◌, ◌⊎◌, ℕ, Bool, true, false, List, [], ◌∷◌, Option, Some, None, not, refl, inl, inr, arith, nat_eq}
use Rattle.std.proofs.lemmas.Bool.{cases_Bool, not-true}
use Rattle.std.proofs.lemmas.List.Elements.{All-head, All-tail}
use Rattle.std.specs.List.{All, AllByRecursion, list_any}
use Rattle.net_values.proofs.BoolLemmas.{first_holds, second_holds, second_fails, first_fails}
use Rattle.net_base.specs.declared.plan.Plan.{Plan}
use Rattle.net_base.specs.declared.plan.places.CircuitId.{CircuitId}
use Rattle.net_base.specs.declared.plan.places.ServiceId.{ServiceId}
use Rattle.net_base.specs.declared.trace.entry.Entry.{Entry}
use Rattle.net_base.specs.declared.trace.event.Event.{Event}
use Rattle.net_base.specs.declared.trace.event.Event.TheVariants.{Frame, Arrive, Discard, Again}
use Rattle.net_base.specs.plan.Accepted.{IsChecked}
use Rattle.net_base.specs.plan.Places.{mtu_of}
use Rattle.net_base.specs.plan.Planned.{IsEventOf}
use Rattle.net_base.specs.plan.Roles.{are_joined_by}
use Rattle.net_base.specs.trace.Frame.{destination_of, goes_to_group}
use Rattle.network_model.specs.declared.packet.Packet.{Packet}
use Rattle.network_model.specs.Absorb.{Stepped}
use Rattle.network_model.specs.Packet.{arrive_event, packet_at}
use Rattle.network_model.specs.State.{NetworkState}
use Rattle.network_model.specs.Step.{step}
use Rattle.network_model.specs.Window.{all_spare, is_copy, some_teach, spares, teaches}
use Rattle.network_model.proofs.AbsorbLemmas.{of_origin}
use Rattle.network_model.proofs.OtherLemmas.{along, is_of, moves_copy, step_apart, step_counts, same_number}
use Rattle.flight_laws.specs.Ends.{HasTypes, IsOrdered}
use Rattle.flight_laws.specs.Laws.{AreSettled}
use Rattle.flight_laws.proofs.RuledNetworkLemmas.{IsRuledNetwork}
use Rattle.flight_laws.proofs.RuledRunLemmas.{brings_ruled}
use Rattle.flight_laws.proofs.RunLemmas.{step_keeps}
use Rattle.packet_laws.specs.Carried.{KeepsPacketRule}
use Rattle.packet_laws.proofs.ArriveLemmas.{IsSized}
use Rattle.packet_laws.proofs.StepLemmas.{step_keeps_rule}
use Rattle.flood_laws.specs.Copy.{IsStill}
use Rattle.flood_laws.proofs.ServeArrivalLemmas.{arriving_serves}
use Rattle.flood_laws.proofs.CountLemmas.{due}
use Rattle.flood_laws.proofs.JoinedLemmas.{IsSteady}
use Rattle.flood_laws.proofs.OriginLemmas.{not_named}
use Rattle.flood_laws.proofs.ServeLemmas.{IsNearCopy, Serves, serves_apart, serves_none, serves_then, serves_told}
use Rattle.flood_laws.proofs.StillLemmas.{IsUnlearned, step_still, step_unlearned}

-- ---- the states of a run

-- what holds of the state after some events, which told so much
pub record IsReached (plan : Plan) (network : NetworkState) (trace : List Entry) : Type 0 where
  pub ordered : IsOrdered plan network
  pub ruled : IsRuledNetwork plan network
  pub rule : KeepsPacketRule plan network trace

-- it holds after one more event
pub step_reached : (plan : Plan) (network : NetworkState) (trace : List Entry) (event : Event) → IsChecked plan → HasTypes plan → IsEventOf plan event → IsReached plan network trace
    → IsReached plan (step plan network event).state (trace ++ (step plan network event).entries)
step_reached plan network trace event checked types planned reached = record {
  ordered = (step_keeps plan event network checked types planned reached.ordered).ordered;
  ruled = brings_ruled plan event network checked types planned reached.ordered reached.ruled;
  rule = step_keeps_rule plan network trace event checked types planned reached.ordered reached.ruled reached.rule;
}

-- ---- the frame goes on to be flooded

-- it goes to a group, or to an address that is unlearned and that no event teaches
abbrev pub StaysUnknown : Plan → ServiceId → List ℕ → NetworkState → List Event → Type 0
StaysUnknown plan service frame network events =
    (goes_to_group frame ≡ true) ⊎ (IsUnlearned plan service (destination_of frame) network × (some_teach plan network service (destination_of frame) events ≡ false))

-- and so it does after one event
step_unknown : (plan : Plan) (network : NetworkState) (trace : List Entry) (origin : ℕ) (service : ServiceId) (frame : List ℕ) (event : Event) (events : List Event)
    → IsChecked plan → IsReached plan network trace → spares network origin event ≡ true → StaysUnknown plan service frame network (event ∷ events)
    → StaysUnknown plan service frame (step plan network event).state events
step_unknown plan network trace origin service frame event events checked reached spared (inl group) = inl group
step_unknown plan network trace origin service frame event events checked reached spared (inr unlearned) =
    let here : Bool = teaches plan network service (destination_of frame) event in
    let later : Bool = some_teach plan (step plan network event).state service (destination_of frame) events in
    inr (
      step_unlearned plan network trace origin service (destination_of frame) event checked reached.ruled reached.rule spared (first_fails here later unlearned.1) unlearned.0,
      second_fails here later unlearned.1,
    )

-- ---- one event

-- what has changed since the frame entered
pub record IsAfter (plan : Plan) (calm : NetworkState) (service : ServiceId) (frame : List ℕ) (origin : ℕ) (network : NetworkState) : Type 0 where
  pub still : IsStill calm network
  pub copies : AllByRecursion (IsNearCopy plan calm service frame) (of_origin origin network.under_way)
  pub issued : origin ≤ network.entered
  pub numbered : nat_eq 0 origin ≡ false

module _ (plan : Plan) (calm : NetworkState) (service : ServiceId) (frame : List ℕ) (origin : ℕ) (checked : IsChecked plan) (steady : IsSteady plan calm service)
    (settled : (a b : ℕ) → are_joined_by plan service a b ≡ true → AreSettled plan calm a b) (sized : IsSized (mtu_of plan service) frame) where
  -- what is due is owed
  abbrev owes : NetworkState → CircuitId → ℕ
  owes network circuit = due plan calm service circuit origin network

  -- no copy moves
  apart_serves : (network : NetworkState) (event : Event) → IsAfter plan calm service frame origin network → moves_copy network origin event ≡ false
      → Serves plan calm service frame origin (owes network) (step plan network event)
  apart_serves network event after unmoved =
      serves_apart plan calm service frame origin network (step plan network event) after.copies
      (λ circuit. step_apart plan origin circuit network event after.numbered unmoved (λ same entered. later after.issued same))
    where
      later : origin ≤ network.entered → network.entered + 1 ≡ origin → ⊥
      later issued same = absurd (omega (arith, issued, same))

  -- a packet arrives
  arrive_serves : (network : NetworkState) (trace : List Entry) (number : ℕ) (found : Option Packet) → packet_at network number ≡ found → is_of origin found ≡ true
      → IsReached plan network trace → IsAfter plan calm service frame origin network → (goes_to_group frame ≡ true) ⊎ IsUnlearned plan service (destination_of frame) network
      → Serves plan calm service frame origin (owes network) (arrive_event plan found network)
  arrive_serves network trace number None is own reached after unlearned = absurd (cc (own))
  arrive_serves network trace number (Some packet) is own reached after unlearned =
      arriving_serves plan calm network trace service frame origin number packet checked steady settled sized reached.ruled reached.rule after.still after.copies is own
      (same_number packet.origin origin own after.numbered) unlearned

  unlearned_now : (network : NetworkState) (events : List Event) → StaysUnknown plan service frame network events → (goes_to_group frame ≡ true)
      ⊎ IsUnlearned plan service (destination_of frame) network
  unlearned_now network events (inl group) = inl group
  unlearned_now network events (inr unlearned) = inr unlearned.0

  unmoved : (network : NetworkState) (number : ℕ) → not (list_any (is_copy origin number) network.under_way) ≡ true → is_of origin (packet_at network number) ≡ false
  unmoved network number spared = not_named origin number network.under_way (not-true (list_any (is_copy origin number) network.under_way) spared)

  step_serves : (network : NetworkState) (trace : List Entry) (event : Event) (events : List Event) → IsReached plan network trace → IsAfter plan calm service frame origin network
      → StaysUnknown plan service frame network (event ∷ events) → spares network origin event ≡ true → Serves plan calm service frame origin (owes network) (step plan network event)
  step_serves network trace (Frame circuit octets) events reached after unknown spared = apart_serves network (Frame circuit octets) after refl
  step_serves network trace (Arrive number) events reached after unknown spared = elim (cases_Bool (is_of origin (packet_at network number))) [
    | inl own ↦
        serves_told plan calm service frame origin (owes network) (Arrive number) (arrive_event plan (packet_at network number) network)
        (arrive_serves network trace number (packet_at network number) refl own reached after (unlearned_now network (Arrive number ∷ events) unknown))
    | inr other ↦ apart_serves network (Arrive number) after other
  ]
  step_serves network trace (Discard number) events reached after unknown spared = apart_serves network (Discard number) after (unmoved network number spared)
  step_serves network trace (Again number) events reached after unknown spared = apart_serves network (Again number) after (unmoved network number spared)
  step_serves network trace event events reached after unknown spared = absurd (cc (spared))

  -- ---- all events of the window

  -- each of them serves what was due before it, or leaves it due
  pub window_serves : (network : NetworkState) (trace : List Entry) (events : List Event) → HasTypes plan → All (IsEventOf plan) events → IsReached plan network trace
      → IsAfter plan calm service frame origin network
      → StaysUnknown plan service frame network events → all_spare plan origin network events ≡ true → Serves plan calm service frame origin (owes network) (along plan network events)
  window_serves network trace [] types planned reached after unknown spared = serves_none plan calm service frame origin network after.copies
  window_serves network trace (e ∷ es) types planned reached after unknown spared =
      let first : Stepped = step plan network e in
      let here : spares network origin e ≡ true = first_holds (spares network origin e) (all_spare plan origin first.state es) spared in
      let serves : Serves plan calm service frame origin (owes network) first = step_serves network trace e es reached after unknown here in
      let next : IsAfter plan calm service frame origin first.state = record {
        still = step_still plan calm network trace origin e checked reached.ruled reached.rule here after.still;
        copies = serves.copies;
        issued = omega (arith, after.issued, step_counts plan network e);
        numbered = after.numbered;
      } in
      serves_then plan calm service frame origin (owes network) first (along plan first.state es) serves
      (window_serves first.state (trace ++ first.entries) es types (All-tail (IsEventOf plan) e es planned)
      (step_reached plan network trace e checked types (All-head (IsEventOf plan) e es planned) reached) next
      (step_unknown plan network trace origin service frame e es checked reached here unknown)
      (second_holds (spares network origin e) (all_spare plan origin first.state es) spared))
