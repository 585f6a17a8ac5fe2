-- `settle` done often enough leaves nothing on its way.
use Rattle.std.proofs.Common.{◌≡◌, ◌∙◌, ◌≤◌, ◌+◌, ◌++◌, ◌⊎◌, ℕ, zero, suc, true, List, [], ◌∷◌, Option, Some, None, length, option_map, refl, sym, ap, subst, append_assoc, append-nil, inl, inr, ⊎_elim, arith}
use Rattle.std.proofs.lemmas.List.{length-append}
use Rattle.std.proofs.lemmas.Option.{same_Some}
use Rattle.std.specs.List.{All, list_all}
use Rattle.net_values.proofs.RowLemmas.{front_all}
use Rattle.net_base.specs.declared.plan.Plan.{Plan}
use Rattle.net_base.specs.declared.plan.places.ServiceId.{ServiceId}
use Rattle.net_base.specs.declared.trace.event.Event.{Event}
use Rattle.net_base.specs.plan.Planned.{IsEventOf}
use Rattle.network_model.specs.Calm.{is_calm}
use Rattle.network_model.specs.Delivery.{delivery_of, first_pair, next_delivery}
use Rattle.network_model.specs.Connection.{is_deliverable}
use Rattle.network_model.specs.Run.{state_after}
use Rattle.network_model.specs.State.{NetworkState, empty_network}
use Rattle.network_model.specs.Step.{step}
use Rattle.network_model.proofs.RunLemmas.{after-append}
use Rattle.flight_laws.specs.Laws.{IsRun, network_after}
use Rattle.flood_laws.specs.Deliveries.{is_delivery}
use Rattle.settle_laws.specs.Laws.{HasLabels}
use Rattle.settle_laws.specs.Sound.{is_sound_service}
use Rattle.settle_laws.proofs.RunLemmas.{runs_come_to_calm}
use Rattle.rest_laws.specs.Rest.{AreNext, RestsWithin}
use Rattle.rest_laws.proofs.RestLemmas.{next_deliver}
use Rattle.psn_net.specs.declared.net_stop.NetStop.{NetStop}
use Rattle.psn_net.specs.Lists.{NetLists, network_seen}
use Rattle.command_text.specs.declared.command.Command.{Command}
use Rattle.command_text.specs.declared.command.Command.TheVariants.{Settle}
use Rattle.command_run.specs.Made.{captures_after, deliveries, event_and, made, made_by, turns}
use Rattle.command_run.proofs.PlannedLemmas.{deliveries_planned}
use Rattle.scenario_text.specs.declared.scenario.Scenario.{Scenario}
use Rattle.settle_bounds.proofs.SettleLemmas.{next_within}
use Rattle.vplsnet.specs.RunOver.{IsRunOver}
use Rattle.vplsnet.specs.ScenarioRun.{events_of}
use Rattle.vplsnet.specs.Settled.{HasSettled, NextWithin, SettlesAll, SettlesAtLast, SettlesByBound, SettlesCalm, settled_by}

-- what `settle` does are next deliveries
are_next : (plan : Plan) (count : ℕ) (network : NetworkState) → AreNext plan network (deliveries plan count network)
are_next plan zero network = tt
are_next plan (suc n) network = by (next_delivery plan network) refl (are_next plan n) where
  by : (found : Option Event) → next_delivery plan network ≡ found → ((later : NetworkState) → AreNext plan later (deliveries plan n later))
      → AreNext plan network (event_and found (λ event. turns plan (next_delivery plan) n (step plan network event).state))
  by None is later = tt
  by (Some event) is later = (is, later (step plan network event).state)

one_more : (event : Event) (events : List Event) (n : ℕ) → length events ≡ n → length (event ∷ events) ≡ suc n
one_more event events n same = ap suc same

-- they are so many, or there is no further one
all_or_none : (plan : Plan) (count : ℕ) (network : NetworkState)
    → (length (deliveries plan count network) ≡ count) ⊎ (next_delivery plan (state_after plan network (deliveries plan count network)) ≡ None)
all_or_none plan zero network = inl refl
all_or_none plan (suc n) network = by (next_delivery plan network) refl (all_or_none plan n) where
  by : (found : Option Event) → next_delivery plan network ≡ found
      → ((later : NetworkState) → (length (deliveries plan n later) ≡ n) ⊎ (next_delivery plan (state_after plan later (deliveries plan n later)) ≡ None))
      → (length (event_and found (λ event. turns plan (next_delivery plan) n (step plan network event).state)) ≡ suc n)
      ⊎ (next_delivery plan (state_after plan network (event_and found (λ event. turns plan (next_delivery plan) n (step plan network event).state))) ≡ None)
  by None is later = inr is
  by (Some event) is later = ⊎_elim (λ same. inl (one_more event (deliveries plan n (step plan network event).state) n same)) (λ none. inr none) (later (step plan network event).state)

-- one more
next_more : (plan : Plan) (network : NetworkState) (events : List Event) (event : Event) → AreNext plan network events → next_delivery plan (state_after plan network events) ≡ Some event
    → AreNext plan network (events ++ event ∷ [])
next_more plan network [] event are is = (is, tt)
next_more plan network (first ∷ events) event are is = (are.0, next_more plan (step plan network first).state events event are.1 is)

settled_none : (plan : Plan) (network : NetworkState) (most count : ℕ) → NextWithin plan network most → most ≤ count
    → next_delivery plan (state_after plan network (deliveries plan count network)) ≡ None
settled_none plan network most count ends enough = ⊎_elim (λ same. by (next_delivery plan (state_after plan network all)) refl same) (λ none. none) (all_or_none plan count network) where
  all : List Event
  all = deliveries plan count network

  too_many : (n k : ℕ) → n ≡ count → k ≡ n + 1 → k ≤ most → ⊥
  too_many n k same more few = omega (arith, same, more, few, enough)

  by : (found : Option Event) → next_delivery plan (state_after plan network all) ≡ found → length all ≡ count → next_delivery plan (state_after plan network all) ≡ None
  by None is same = is
  by (Some event) is same =
      absurd (too_many (length all) (length (all ++ event ∷ [])) same (length-append all (event ∷ [])) (ends (all ++ event ∷ []) (next_more plan network all event (are_next plan count network) is)))

-- next deliveries are deliveries
rests_next : (plan : Plan) (network : NetworkState) (most : ℕ) → RestsWithin plan network most → NextWithin plan network most
rests_next plan network most ends events are = ends events (next_deliver plan network events are)

pub settles_all : (plan : Plan) (events : List Event) → SettlesAll plan events
settles_all plan events most count ends enough =
    ap (next_delivery plan) (after-append plan (empty_network plan) events (deliveries plan count (network_after plan events)))
    ∙ settled_none plan (network_after plan events) most count (rests_next plan (network_after plan events) most ends) enough

-- ---- and a service is calm exactly where it was sound

-- a next delivery is a delivery
next_is : (plan : Plan) (network : NetworkState) (event : Event) → next_delivery plan network ≡ Some event → is_delivery event ≡ true
next_is plan network event found = by (first_pair (is_deliverable network) (length plan.edges) 0 (length plan.edges)) found where
  by : (pair : Option (ℕ × ℕ)) → option_map delivery_of pair ≡ Some event → is_delivery event ≡ true
  by None none = absurd (cc (none))
  by (Some pair) is = sym (ap is_delivery (same_Some (delivery_of pair) event is))

are_deliveries : (plan : Plan) (network : NetworkState) (events : List Event) → AreNext plan network events → list_all is_delivery events ≡ true
are_deliveries plan network [] are = refl
are_deliveries plan network (event ∷ events) are = rw (next_is plan network event are.0, are_deliveries plan (step plan network event).state events are.1) refl

settled_calm : (plan : Plan) (events : List Event) → IsRun plan events → (count : ℕ) → next_delivery plan (network_after plan (settled_by plan events count)) ≡ None
    → (service : ServiceId) → HasLabels plan (network_after plan (settled_by plan events count)) service
    → is_calm plan (network_after plan (settled_by plan events count)) service ≡ is_sound_service plan (network_after plan events) service
settled_calm plan events run count none service labels =
    runs_come_to_calm plan events run (deliveries plan count (network_after plan events)) (deliveries_planned plan count (network_after plan events))
    (are_deliveries plan (network_after plan events) (deliveries plan count (network_after plan events)) (are_next plan count (network_after plan events)))
    none service labels

pub settles_calm : (plan : Plan) (events : List Event) → IsRun plan events → SettlesCalm plan events
settles_calm plan events run most count ends enough service labels =
    settled_calm plan events run count (settles_all plan events most count ends enough) service labels

-- ---- in the end of a scenario

made_settle : (plan : Plan) (network : NetworkState) (captures : List (List (List ℕ))) (front : List Command) (count : ℕ)
    → made plan network captures (front ++ Settle count ∷ []) ≡ made plan network captures front ++ deliveries plan count (state_after plan network (made plan network captures front))
made_settle plan network captures [] count = append-nil (deliveries plan count network)
made_settle plan network captures (command ∷ commands) count =
    let first : List Event = made_by plan network captures command in
    let later : NetworkState = state_after plan network first in
    let rest : List Event = made plan later (captures_after command captures) commands in
    ap (λ (l : List Event). first ++ l) (made_settle plan later (captures_after command captures) commands count)
    ∙ (sym (append_assoc first rest (deliveries plan count (state_after plan later rest)))
    ∙ ap (λ (s : NetworkState). (first ++ rest) ++ deliveries plan count s) (sym (after-append plan network first rest)))

pub settles_at_last : (scenario : Scenario) (captures : List (List (List ℕ))) (left : NetLists) (reason : Option NetStop) → IsRun scenario.plan (events_of scenario captures)
    → IsRunOver scenario.plan (events_of scenario captures) left reason → SettlesAtLast scenario captures left reason
settles_at_last scenario captures left (Some reason) run over front most count none last ends enough = absurd (cc (none))
settles_at_last scenario captures left None run over front most count none last ends enough = subst (HasSettled plan (network_after plan before)) (sym state) (record {
  rests = rests;
  calm = λ service labels. settled_calm plan before first count rests service labels;
})
  where
    plan : Plan
    plan = scenario.plan

    before : List Event
    before = made plan (empty_network plan) captures front

    joined : events_of scenario captures ≡ settled_by plan before count
    joined = ap (made plan (empty_network plan) captures) last ∙ made_settle plan (empty_network plan) captures front count

    first : IsRun plan before
    first = record {
      checked = run.checked;
      types = run.types;
      planned = front_all (IsEventOf plan) before (deliveries plan count (network_after plan before)) (subst (λ (es : List Event). All (IsEventOf plan) es) joined run.planned);
    }

    state : network_seen left ≡ network_after plan (settled_by plan before count)
    state = over.state_is ∙ ap (state_after plan (empty_network plan)) (sym over.are_done ∙ joined)

    rests : next_delivery plan (network_after plan (settled_by plan before count)) ≡ None
    rests = ap (next_delivery plan) (after-append plan (empty_network plan) before (deliveries plan count (network_after plan before)))
        ∙ settled_none plan (network_after plan before) most count ends enough

-- ---- by the bound

pub settles_by_bound : (plan : Plan) (events : List Event) → IsRun plan events → SettlesByBound plan events
settles_by_bound plan events run most has = record {
  within = next_within plan events run most has;
  settles = λ count enough. record { rests = rests count enough; calm = λ service labels. settled_calm plan events run count (rests count enough) service labels };
}
  where
    rests : (count : ℕ) → most ≤ count → next_delivery plan (network_after plan (settled_by plan events count)) ≡ None
    rests count enough = ap (next_delivery plan) (after-append plan (empty_network plan) events (deliveries plan count (network_after plan events)))
        ∙ settled_none plan (network_after plan events) most count (next_within plan events run most has) enough
