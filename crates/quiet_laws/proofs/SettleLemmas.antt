-- So many next deliveries leave nothing on its way, and what is calm then was sound before.
use Rattle.std.proofs.Common.{◌≡◌, ◌≤◌, ◌++◌, ◌∙◌, ℕ, true, List, [], ◌∷◌, None, length, refl, sym, ap, subst}
use Rattle.std.proofs.lemmas.List.Elements.{All-cons, All-nil}
use Rattle.std.specs.List.{All, list_all}
use Rattle.net_values.proofs.BoolLemmas.{first_holds, second_holds}
use Rattle.net_base.specs.declared.plan.Plan.{Plan}
use Rattle.net_base.specs.declared.trace.event.Event.{Event}
use Rattle.net_base.specs.plan.Planned.{IsEventOf}
use Rattle.network_model.specs.Delivery.{next_delivery}
use Rattle.network_model.specs.State.{NetworkState, empty_network}
use Rattle.network_model.specs.Step.{step}
use Rattle.network_model.proofs.RunLemmas.{after-append}
use Rattle.flight_laws.specs.Laws.{IsRun, network_after}
use Rattle.flight_laws.proofs.RunLemmas.{run_ordered}
use Rattle.flood_laws.specs.Deliveries.{is_delivery}
use Rattle.rest_laws.specs.Rest.{AreNext, RestsWithin, all_deliver, delivers}
use Rattle.rest_laws.proofs.RestLemmas.{next_deliver, settles_within}
use Rattle.settle_laws.proofs.RunLemmas.{runs_come_to_calm}
use Rattle.quiet_laws.specs.Laws.{RunsSettleByMeasure, SettlesAfter}
use Rattle.quiet_laws.proofs.RunLemmas.{Further, delivers_planned, further, measure_of, measure_same, rests_within}

-- events of the plan, and deliveries
record AreDeliveries (plan : Plan) (events : List Event) : Type 0 where
  planned : All (IsEventOf plan) events
  are : list_all is_delivery events ≡ true

are_deliveries : (plan : Plan) (deliveries events : List Event) → IsRun plan events → all_deliver plan (network_after plan events) deliveries ≡ true → AreDeliveries plan deliveries
are_deliveries plan [] events run all = record { planned = All-nil (IsEventOf plan); are = refl }
are_deliveries plan (event ∷ deliveries) events run all =
    let does : delivers (network_after plan events) event ≡ true = first_holds (delivers (network_after plan events) event) (all_deliver plan (step plan (network_after plan events) event).state deliveries) all in
    let next : Further plan events run event = further plan events run event does in
    let rest : AreDeliveries plan deliveries = are_deliveries plan deliveries (events ++ event ∷ []) next.later
    (subst (λ (s : NetworkState). all_deliver plan s deliveries ≡ true) (sym next.state)
    (second_holds (delivers (network_after plan events) event) (all_deliver plan (step plan (network_after plan events) event).state deliveries) all)) in
    let here = delivers_planned plan events run event does in
    record { planned = All-cons (IsEventOf plan) event deliveries here.0 rest.planned; are = rw (here.1, rest.are) refl }

settles_after : (plan : Plan) (events : List Event) → IsRun plan events → (most : ℕ) → RestsWithin plan (network_after plan events) most → SettlesAfter plan events most
settles_after plan events run most ends = record {
  rests = rests;
  calm = λ deliveries next enough service labels.
      let all : AreDeliveries plan deliveries = are_deliveries plan deliveries events run (next_deliver plan (network_after plan events) deliveries next) in
      runs_come_to_calm plan events run deliveries all.planned all.are (rests deliveries next enough) service labels;
}
  where
    rests : (deliveries : List Event) → AreNext plan (network_after plan events) deliveries → most ≤ length deliveries → next_delivery plan (network_after plan (events ++ deliveries)) ≡ None
    rests deliveries next enough =
        ap (next_delivery plan) (after-append plan (empty_network plan) events deliveries) ∙ settles_within plan (network_after plan events) most ends deliveries next enough

pub runs_settle_by_measure : RunsSettleByMeasure
runs_settle_by_measure plan events run messages ways =
    subst (SettlesAfter plan events) (sym (measure_same plan (network_after plan events) (run_ordered plan events run) messages ways))
    (settles_after plan events run (measure_of plan events run) (rests_within plan events run))
