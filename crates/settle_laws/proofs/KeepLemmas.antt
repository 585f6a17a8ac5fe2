-- Deliveries keep what is sound.
use Rattle.std.proofs.Common.{◌≡◌, ◌⊎◌, ◌+◌, ◌&&◌, ◌||◌, ◌==◌, ◌++◌, ◌∙◌, ℕ, Bool, true, false, cond, not, map, nat_eq, length, take, drop, List, [], ◌∷◌, Option, Some, None, option_map, option_and_then, slice_get, inl, inr, refl, sym, ap, subst}
use Rattle.std.specs.List.{list_all}
use Rattle.std.proofs.lemmas.Bool.{cases_Bool, eqb-true}
use Rattle.net_values.proofs.BoolLemmas.{clash, first_holds, second_holds}
use Rattle.net_base.specs.declared.plan.Plan.{Plan}
use Rattle.net_base.specs.declared.plan.places.EdgeId.{EdgeId}
use Rattle.net_base.specs.declared.plan.places.ServiceId.{ServiceId}
use Rattle.net_base.specs.declared.plan.wire_plan.WirePlan.{WirePlan}
use Rattle.net_base.specs.declared.trace.event.Event.{Event}
use Rattle.net_base.specs.declared.trace.event.Event.TheVariants.{Deliver}
use Rattle.net_base.specs.plan.Accepted.{IsChecked}
use Rattle.net_base.specs.plan.Places.{wire_row}
use Rattle.net_base.specs.plan.Roles.{is_core_edge, is_spoke_edge}
use Rattle.spoke_redundancy.specs.declared.spoke.Spoke.{Spoke}
use Rattle.spoke_redundancy.specs.Choice.{chosen}
use Rattle.edge_model.specs.declared.end_place.EndPlace.{EndPlace}
use Rattle.edge_model.specs.Spokes.{spoke_places}
use Rattle.edge_model.specs.State.{EdgeState}
use Rattle.edge_model.specs.Work.{Work}
use Rattle.edge_model.proofs.SignalLemmas.{IsSignalled, lost_signals, octets_signal}
use Rattle.network_model.specs.Absorb.{absorb, begin_at, idle, taken_all}
use Rattle.network_model.specs.Connection.{deliver_event, delivering, hearing_work, is_deliverable, is_drained_pipe, losing, losing_work}
use Rattle.network_model.specs.Run.{state_after}
use Rattle.network_model.specs.State.{NetworkState, empty_network, stands, with_edge, with_pipe}
use Rattle.network_model.specs.Step.{step}
use Rattle.network_model.proofs.AbsorbLemmas.{all_keep}
use Rattle.network_model.proofs.RunLemmas.{after-append}
use Rattle.connection_laws.specs.Laws.{connects_them}
use Rattle.connection_laws.proofs.NetworkLemmas.{come_by_connections}
use Rattle.flight_laws.specs.Ends.{HasTypes, IsOrdered}
use Rattle.flood_laws.specs.Deliveries.{is_delivery}
use Rattle.flight_laws.specs.Laws.{BothStand, IsRun, network_after}
use Rattle.flight_laws.proofs.EventLemmas.{deliver_keeps, pipe_edges}
use Rattle.flight_laws.proofs.RunLemmas.{run_ordered}
use Rattle.flight_laws.proofs.StayLemmas.{deliver_stays}
use Rattle.settle_laws.specs.Sound.{are_connected, first_is_clear, has_sound_meshes, has_sound_spokes, is_clear, is_connected, is_on_along, is_sound, is_sound_mesh, is_sound_row, is_sound_service, is_sound_spoke, last_is_clear, sound_choice, sound_spoke_at}
use Rattle.settle_laws.proofs.CalmLemmas.{any_same, below_same, same_tests}

-- the settings of each edge, and which connections stand at both ends
record KeepsSettings (old new : NetworkState) : Type 0 where
  wires : (k : ℕ) → (new.edges k).wire_on ≡ (old.edges k).wire_on
  bits : (k : ℕ) → (new.edges k).bits ≡ (old.edges k).bits
  priorities : (k : ℕ) → (new.edges k).priority ≡ (old.edges k).priority
  connected : (a b : ℕ) → are_connected new a b ≡ are_connected old a b

-- a service is sound in one state where it is so in another one, and each spoke edge would choose the same sound spoke
pub record IsSoundAlike (plan : Plan) (service : ServiceId) (old new : NetworkState) : Type 0 where
  pub sound : is_sound_service plan new service ≡ is_sound_service plan old service
  pub choice : (edge : ℕ) → sound_choice plan new service edge ≡ sound_choice plan old service edge

both_same : {a b c d : Bool} → a ≡ b → c ≡ d → a && c ≡ b && d
both_same {a} {b} {c} {d} one other = ap (λ (x : Bool). x && c) one ∙ ap (λ (y : Bool). b && y) other

-- ---- what is sound hangs on them alone

module _ (old new : NetworkState) (keeps : KeepsSettings old new) where
  on_same : (wire : ℕ) (path : List EdgeId) → is_on_along new wire path ≡ is_on_along old wire path
  on_same wire [] = refl
  on_same wire (edge ∷ rest) = both_same (ap (λ (f : ℕ → Bool). f wire) (keeps.wires edge.0)) (on_same wire rest)

  connected_same : (path : List EdgeId) → is_connected new path ≡ is_connected old path
  connected_same [] = refl
  connected_same (last ∷ []) = refl
  connected_same (first ∷ next ∷ rest) = both_same (keeps.connected first.0 next.0) (connected_same (next ∷ rest))

  clear_same : (wire : ℕ) (edge : EdgeId) → is_clear new wire edge ≡ is_clear old wire edge
  clear_same wire edge = ap (λ (f : ℕ → ℕ). f wire == 0) (keeps.bits edge.0)

  first_same : (wire : ℕ) (path : List EdgeId) → first_is_clear new wire path ≡ first_is_clear old wire path
  first_same wire [] = refl
  first_same wire (first ∷ rest) = clear_same wire first

  last_same : (wire : ℕ) (path : List EdgeId) → last_is_clear new wire path ≡ last_is_clear old wire path
  last_same wire [] = refl
  last_same wire (last ∷ []) = clear_same wire last
  last_same wire (first ∷ next ∷ rest) = last_same wire (next ∷ rest)

  sound_same : (wire : ℕ) (row : WirePlan) → is_sound new wire row ≡ is_sound old wire row
  sound_same wire row =
      both_same (both_same (on_same wire row.path) (connected_same row.path))
      (both_same (both_same (first_same wire row.path) (last_same wire row.path)) refl)

  meshes_same : (plan : Plan) (service : ServiceId) → has_sound_meshes plan new service ≡ has_sound_meshes plan old service
  meshes_same plan service = below_same (length plan.edges) _ _ (λ a. below_same (length plan.edges) _ _ (λ b.
      ap (λ (some : Bool). not (is_core_edge plan service a && is_core_edge plan service b) || (a == b || some))
      (any_same (is_sound_mesh new service a b) (is_sound_mesh old service a b) 0 plan.wires (λ k row is. mesh_same service a b (0 + k) row))))
    where
      mesh_same : (service : ServiceId) (a b wire : ℕ) (row : WirePlan) → is_sound_mesh new service a b wire row ≡ is_sound_mesh old service a b wire row
      mesh_same service a b wire row = both_same refl (sound_same wire row)

  spokes_same : (plan : Plan) (service : ServiceId) → has_sound_spokes plan new service ≡ has_sound_spokes plan old service
  spokes_same plan service = below_same (length plan.edges) _ _ (λ edge.
      ap (λ (some : Bool). not (is_spoke_edge plan service edge) || some)
      (any_same (is_sound_spoke new service edge) (is_sound_spoke old service edge) 0 plan.wires (λ k row is. spoke_same service edge (0 + k) row)))
    where
      spoke_same : (service : ServiceId) (edge wire : ℕ) (row : WirePlan) → is_sound_spoke new service edge wire row ≡ is_sound_spoke old service edge wire row
      spoke_same service edge wire row = both_same refl (sound_same wire row)

  row_same : (wire : ℕ) (row : Option WirePlan) → is_sound_row new wire row ≡ is_sound_row old wire row
  row_same wire None = refl
  row_same wire (Some row) = sound_same wire row

  at_same : (plan : Plan) (edge : ℕ) (place : EndPlace) → sound_spoke_at plan new edge place ≡ sound_spoke_at plan old edge place
  at_same plan edge place =
      ap (λ (n : ℕ). record { priority = n; usable = is_sound_row new place.wire.0 (wire_row plan place.wire) }) (ap (λ (f : ℕ → ℕ). f place.wire.0) (keeps.priorities edge))
      ∙ ap (λ (b : Bool). record { priority = (old.edges edge).priority place.wire.0; usable = b }) (row_same place.wire.0 (wire_row plan place.wire))

  all_same : (plan : Plan) (edge : ℕ) (places : List EndPlace) → map (sound_spoke_at plan new edge) places ≡ map (sound_spoke_at plan old edge) places
  all_same plan edge [] = refl
  all_same plan edge (place ∷ places) =
      ap (λ (x : Spoke). x ∷ map (sound_spoke_at plan new edge) places) (at_same plan edge place)
      ∙ ap (λ (l : List Spoke). sound_spoke_at plan old edge place ∷ l) (all_same plan edge places)

  settings_keep : (plan : Plan) (service : ServiceId) → IsSoundAlike plan service old new
  settings_keep plan service = record {
    sound = both_same (meshes_same plan service) (spokes_same plan service);
    choice = λ edge. ap (λ (spokes : List Spoke). option_map (λ (place : EndPlace). place.wire) (option_and_then (slice_get (spoke_places plan (record { 0 = edge }) service)) (chosen spokes)))
        (all_same plan edge (spoke_places plan (record { 0 = edge }) service));
  }

-- ---- a delivery keeps them

-- one edge alone was at work
absorbed_same : {X : Type 0} → (of : EdgeState → X) (me : EdgeId) (work : Work) (before network : NetworkState) → network.edges ≡ before.edges → of work.edge ≡ of (before.edges me.0) → (k : ℕ)
    → of ((absorb me 0 0 work network).state.edges k) ≡ of (before.edges k)
unfolding with_edge
absorbed_same {X} of me work before network same here k = ap (λ (edges : ℕ → EdgeState). of (edges k)) (all_keep me 0 0 work.effects (with_edge me work.edge network)).edges
    ∙ elim (cases_Bool (nat_eq k me.0)) [
      | inl is ↦ rw is (here ∙ ap (λ (n : ℕ). of (before.edges n)) (sym (eqb-true k me.0 is)))
      | inr other ↦ rw other (ap (λ (edges : ℕ → EdgeState). of (edges k)) same)
    ]

-- the settings of each edge alone
record KeepsSet (old new : NetworkState) : Type 0 where
  wires : (k : ℕ) → (new.edges k).wire_on ≡ (old.edges k).wire_on
  bits : (k : ℕ) → (new.edges k).bits ≡ (old.edges k).bits
  priorities : (k : ℕ) → (new.edges k).priority ≡ (old.edges k).priority

absorbed_set : (me : EdgeId) (work : Work) (before network : NetworkState) → network.edges ≡ before.edges → IsSignalled (before.edges me.0) work.edge → KeepsSet before (absorb me 0 0 work network).state
absorbed_set me work before network same signalled = record {
  wires = absorbed_same (λ (e : EdgeState). e.wire_on) me work before network same signalled.wires;
  bits = absorbed_same (λ (e : EdgeState). e.bits) me work before network same signalled.bits;
  priorities = absorbed_same (λ (e : EdgeState). e.priority) me work before network same signalled.priorities;
}

delivered_set : (plan : Plan) (from to : EdgeId) (count : ℕ) (network : NetworkState) → KeepsSet network (deliver_event plan from to count network).state
delivered_set plan from to count network = by (is_deliverable network from.0 to.0) (is_drained_pipe network from.0 to.0) where
  by : (applies drained : Bool) → KeepsSet network (cond applies (cond drained (losing plan to from network) (delivering plan from to count network)) (idle network)).state
  by true true = absorbed_set to (losing_work plan network to from) network network refl (lost_signals plan taken_all from (begin_at network to)).edge
  by true false =
      absorbed_set to (hearing_work plan network from to (take count (network.pipes from.0 to.0))) network (with_pipe from to (drop count (network.pipes from.0 to.0)) network)
      (pipe_edges from to (drop count (network.pipes from.0 to.0)) network)
      (octets_signal plan taken_all from (take count (network.pipes from.0 to.0)) ((network.edges to.0).peering from.0) (begin_at network to)).edge
  by false drained = record { wires = λ k. refl; bits = λ k. refl; priorities = λ k. refl }

both_true : (p q : Bool) → p ≡ true → q ≡ true → p && q ≡ true
both_true p q one other = rw (one, other) refl

delivery_keeps : (plan : Plan) (from to : EdgeId) (count : ℕ) (network : NetworkState) → IsChecked plan → HasTypes plan → IsOrdered plan network
    → KeepsSettings network (step plan network (Deliver from to count)).state
delivery_keeps plan from to count network checked types ordered =
    let set : KeepsSet network (deliver_event plan from to count network).state = delivered_set plan from to count network in
    record { wires = set.wires; bits = set.bits; priorities = set.priorities; connected = λ a b. same_tests (are_connected new a b) (are_connected network a b) (were a b) (are a b) }
  where
    new : NetworkState
    new = (step plan network (Deliver from to count)).state

    stood : (a b : ℕ) → stands new a b ≡ true → stands network a b ≡ true
    stood a b up = by (come_by_connections plan network (Deliver from to count) a b up) where
      by : (stands network a b ≡ true) ⊎ (connects_them (Deliver from to count) a b ≡ true) → stands network a b ≡ true
      by (inl is) = is
      by (inr is) = clash is

    were : (a b : ℕ) → are_connected new a b ≡ true → are_connected network a b ≡ true
    were a b up = both_true (stands network a b) (stands network b a) (stood a b (first_holds (stands new a b) (stands new b a) up)) (stood b a (second_holds (stands new a b) (stands new b a) up))

    are : (a b : ℕ) → are_connected network a b ≡ true → are_connected new a b ≡ true
    are a b up =
        let both : BothStand new a b = deliver_stays plan from to count network checked types ordered a b
        (record { one = first_holds (stands network a b) (stands network b a) up; other = second_holds (stands network a b) (stands network b a) up }) in
        both_true (stands new a b) (stands new b a) both.one both.other

-- ---- and so do many

all_keep_sound : (plan : Plan) (service : ServiceId) (deliveries : List Event) (network : NetworkState) → IsChecked plan → HasTypes plan → IsOrdered plan network → list_all is_delivery deliveries ≡ true
    → IsSoundAlike plan service network (state_after plan network deliveries)
all_keep_sound plan service [] network checked types ordered are = record { sound = refl; choice = λ edge. refl }
all_keep_sound plan service (Deliver from to count ∷ rest) network checked types ordered are =
    let now : NetworkState = (step plan network (Deliver from to count)).state in
    let one : IsSoundAlike plan service network now = settings_keep network now (delivery_keeps plan from to count network checked types ordered) plan service in
    let others : IsSoundAlike plan service now (state_after plan now rest) =
    all_keep_sound plan service rest now checked types (deliver_keeps plan from to count network checked types ordered).ordered are in
    record { sound = others.sound ∙ one.sound; choice = λ edge. others.choice edge ∙ one.choice edge }
all_keep_sound plan service (event ∷ rest) network checked types ordered are = clash are

pub deliveries_sound : (plan : Plan) (events deliveries : List Event) → IsRun plan events → list_all is_delivery deliveries ≡ true → (service : ServiceId)
    → IsSoundAlike plan service (network_after plan events) (network_after plan (events ++ deliveries))
deliveries_sound plan events deliveries run are service =
    subst (IsSoundAlike plan service (network_after plan events)) (sym (after-append plan (empty_network plan) events deliveries))
    (all_keep_sound plan service deliveries (network_after plan events) run.checked run.types (run_ordered plan events run) are)
