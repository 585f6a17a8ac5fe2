-- After a move to another spoke, each learned address points to its site again.
use Rattle.address_laws.specs.Sites.{Sites}
use Rattle.flight_laws.proofs.RunLemmas.{run_ordered}
use Rattle.flight_laws.specs.Ends.{HasTypes}
use Rattle.flight_laws.specs.Laws.{IsRun, network_after}
use Rattle.flood_laws.specs.Deliveries.{is_delivery}
use Rattle.move_laws.proofs.DeliverHealLemmas.{HasMeshes, deliver_heals}
use Rattle.move_laws.proofs.EndHealLemmas.{end_points}
use Rattle.move_laws.proofs.MoveHealLemmas.{move_heals}
use Rattle.move_laws.proofs.StartHealLemmas.{all_meshes, run_tells, start_begins}
use Rattle.move_laws.specs.Healing.{HealsLive}
use Rattle.move_laws.specs.Laws.{RunsHealMoves}
use Rattle.net_base.specs.declared.plan.Plan.{Plan}
use Rattle.net_base.specs.declared.plan.places.ServiceId.{ServiceId}
use Rattle.net_base.specs.declared.trace.event.Event.TheVariants.{Deliver}
use Rattle.net_base.specs.declared.trace.event.Event.{Event}
use Rattle.net_base.specs.plan.Accepted.{IsChecked}
use Rattle.net_base.specs.plan.Planned.{IsEventOf}
use Rattle.network_model.proofs.RunLemmas.{after-append}
use Rattle.network_model.specs.State.{NetworkState, empty_network}
use Rattle.std.proofs.Common.{List, [], subst, sym, true, ◌++◌, ◌∷◌, ◌≡◌, append-nil, append_assoc, ◌∙◌}
use Rattle.std.proofs.lemmas.List.Elements.{All-cons, All-head, All-nil, All-tail}
use Rattle.std.specs.List.{All, list_all}
use Rattle.net_values.proofs.BoolLemmas.{clash}

-- the events before a place, and the one there
planned_before : (plan : Plan) (before later : List Event) → All (IsEventOf plan) (before ++ later) → All (IsEventOf plan) before × All (IsEventOf plan) later
planned_before plan [] later all = (All-nil (IsEventOf plan), all)
planned_before plan (event ∷ events) later all =
    let rest = planned_before plan events later (All-tail (IsEventOf plan) event (events ++ later) all) in
    (All-cons (IsEventOf plan) event events (All-head (IsEventOf plan) event (events ++ later) all) rest.0, rest.1)

-- ---- deliveries

module _ (plan : Plan) (service : ServiceId) (site : Sites) (calm : NetworkState) (checked : IsChecked plan) (types : HasTypes plan) (meshed : HasMeshes plan service) where
  -- after deliveries behind other events of a run
  deliveries_heal : (done events : List Event) → All (IsEventOf plan) (done ++ events) → list_all is_delivery events ≡ true
      → HealsLive plan service site calm (network_after plan done) → HealsLive plan service site calm (network_after plan (done ++ events))
  deliveries_heal done [] planned all heals = subst (λ (es : List Event). HealsLive plan service site calm (network_after plan es)) (sym (append-nil done)) heals
  deliveries_heal done (Deliver from to count ∷ events) planned all heals =
      let parts = planned_before plan done (Deliver from to count ∷ events) planned in
      let run : IsRun plan done = record { checked = checked; types = types; planned = parts.0 } in
      let again : (done ++ Deliver from to count ∷ []) ++ events ≡ done ++ Deliver from to count ∷ events = append_assoc done (Deliver from to count ∷ []) events in
      subst (λ (es : List Event). HealsLive plan service site calm (network_after plan es)) again
      (deliveries_heal (done ++ Deliver from to count ∷ []) events (subst (All (IsEventOf plan)) (sym again) planned) all
      (subst (HealsLive plan service site calm) (sym (after-append plan (empty_network plan) done (Deliver from to count ∷ [])))
      (deliver_heals plan service site calm (network_after plan done) checked types (run_ordered plan done run) (run_tells plan done run) meshed heals from to count)))
  deliveries_heal done (event ∷ events) planned all heals = clash all

pub runs_heal_moves : RunsHealMoves
runs_heal_moves plan events run before move deliveries after service site are starts moves all calm =
    let parts = planned_before plan before (move ∷ (deliveries ++ after)) (subst (All (IsEventOf plan)) are run.planned) in
    let shift : (before ++ move ∷ []) ++ deliveries ≡ before ++ move ∷ deliveries = append_assoc before (move ∷ []) deliveries in
    let front : All (IsEventOf plan) (before ++ move ∷ deliveries) =
    (planned_before plan (before ++ move ∷ deliveries) after (subst (All (IsEventOf plan)) (are ∙ sym (append_assoc before (move ∷ deliveries) after)) run.planned)).0 in
    let first : IsRun plan before = record { checked = run.checked; types = run.types; planned = parts.0 } in
    let network : NetworkState = network_after plan before in
    let planned : IsEventOf plan move = All-head (IsEventOf plan) move (deliveries ++ after) parts.1 in
    let begun : HealsLive plan service site network (network_after plan (before ++ move ∷ [])) =
    subst (HealsLive plan service site network) (sym (after-append plan (empty_network plan) before (move ∷ [])))
    (move_heals plan service site network move run.checked run.types planned (run_ordered plan before first) (start_begins plan before service site first starts) moves) in
    let last : HealsLive plan service site network (network_after plan (before ++ move ∷ deliveries)) =
    subst (λ (es : List Event). HealsLive plan service site network (network_after plan es)) shift
    (deliveries_heal plan service site network run.checked run.types (all_meshes plan network service run.checked starts.calm) (before ++ move ∷ []) deliveries
    (subst (All (IsEventOf plan)) (sym shift) front) all begun) in
    end_points plan service site network (network_after plan (before ++ move ∷ deliveries)) run.checked
    (run_ordered plan (before ++ move ∷ deliveries) (record { checked = run.checked; types = run.types; planned = front })) calm last
