-- Where deliveries come to an end, so many next deliveries as can follow each other leave no further one.
use Rattle.std.proofs.Common.{◌≡◌, ◌∙◌, ◌++◌, ◌+◌, ℕ, zero, suc, Bool, true, false, cond, length, List, [], ◌∷◌, Option, Some, None, option_map, refl, sym, ap, subst, arith}
use Rattle.std.proofs.lemmas.List.{length-append}
use Rattle.std.proofs.lemmas.Option.{same_Some}
use Rattle.net_values.proofs.BoolLemmas.{first_holds, second_holds}
use Rattle.net_base.specs.declared.plan.Plan.{Plan}
use Rattle.net_base.specs.declared.trace.event.Event.{Event}
use Rattle.network_model.specs.Connection.{is_deliverable}
use Rattle.network_model.specs.Delivery.{delivery_of, first_from, first_pair, next_delivery, pair_or}
use Rattle.network_model.specs.Run.{state_after}
use Rattle.network_model.specs.State.{NetworkState}
use Rattle.network_model.specs.Step.{step}
use Rattle.rest_laws.specs.Rest.{AreNext, SettlesWithin, all_deliver, delivers}

-- ---- a next delivery delivers

-- the place that is found passes the test
place_passes : (test : ℕ → Bool) (place count k : ℕ) → first_from test place count ≡ Some k → test k ≡ true
place_passes test place zero k found = absurd (cc (found))
place_passes test place (suc count) k found = by (test place) refl found (place_passes test (place + 1) count k) where
  by : (b : Bool) → test place ≡ b → cond b (Some place) (first_from test (place + 1) count) ≡ Some k → (first_from test (place + 1) count ≡ Some k → test k ≡ true) → test k ≡ true
  by true is here rest = ap test (sym (same_Some place k here)) ∙ is
  by false is here rest = rest here

-- and so does the pair
pair_passes : (test : ℕ → ℕ → Bool) (size place count : ℕ) (pair : ℕ × ℕ) → first_pair test size place count ≡ Some pair → test pair.0 pair.1 ≡ true
pair_passes test size place zero pair found = absurd (cc (found))
pair_passes test size place (suc count) pair found = by (first_from (test place) 0 size) refl found (pair_passes test size (place + 1) count pair) where
  by : (here : Option ℕ) → first_from (test place) 0 size ≡ here → pair_or place here (first_pair test size (place + 1) count) ≡ Some pair
      → (first_pair test size (place + 1) count ≡ Some pair → test pair.0 pair.1 ≡ true) → test pair.0 pair.1 ≡ true
  by None is this again = again this
  by (Some k) is this again = subst (λ (p : ℕ × ℕ). test p.0 p.1 ≡ true) (same_Some (place, k) pair this) (place_passes (test place) 0 size k is)

delivery_delivers : (network : NetworkState) (pair : Option (ℕ × ℕ)) (event : Event) → ((p : ℕ × ℕ) → pair ≡ Some p → is_deliverable network p.0 p.1 ≡ true)
    → option_map delivery_of pair ≡ Some event → delivers network event ≡ true
delivery_delivers network None event passes found = absurd (cc (found))
delivery_delivers network (Some pair) event passes found =
    subst (λ (e : Event). delivers network e ≡ true) (same_Some (delivery_of pair) event found) (rw (passes pair refl) refl)

pub next_delivers : (plan : Plan) (network : NetworkState) (event : Event) → next_delivery plan network ≡ Some event → delivers network event ≡ true
next_delivers plan network event found =
    delivery_delivers network (first_pair (is_deliverable network) (length plan.edges) 0 (length plan.edges)) event
    (λ p is. pair_passes (is_deliverable network) (length plan.edges) 0 (length plan.edges) p is) found

-- ---- next deliveries all deliver, and one more behind them does

pub next_deliver : (plan : Plan) (network : NetworkState) (events : List Event) → AreNext plan network events → all_deliver plan network events ≡ true
next_deliver plan network [] are = refl
next_deliver plan network (event ∷ events) are =
    rw (next_delivers plan network event are.0, next_deliver plan (step plan network event).state events are.1) refl

deliver_more : (plan : Plan) (network : NetworkState) (events : List Event) (event : Event) → all_deliver plan network events ≡ true
    → delivers (state_after plan network events) event ≡ true → all_deliver plan network (events ++ event ∷ []) ≡ true
deliver_more plan network [] event all more = rw (more) refl
deliver_more plan network (first ∷ events) event all more =
    rw (
      first_holds (delivers network first) (all_deliver plan (step plan network first).state events) all,
      deliver_more plan (step plan network first).state events event (second_holds (delivers network first) (all_deliver plan (step plan network first).state events) all) more,
    ) refl

pub settles_within : SettlesWithin
settles_within plan network most ends events are enough = by (next_delivery plan (state_after plan network events)) refl where
  by : (found : Option Event) → next_delivery plan (state_after plan network events) ≡ found → next_delivery plan (state_after plan network events) ≡ None
  by None is = is
  by (Some event) is =
      let all : all_deliver plan network (events ++ event ∷ []) ≡ true =
      deliver_more plan network events event (next_deliver plan network events are) (next_delivers plan (state_after plan network events) event is) in
      absurd (omega (arith, enough, length-append events (event ∷ []), ends (events ++ event ∷ []) all))
