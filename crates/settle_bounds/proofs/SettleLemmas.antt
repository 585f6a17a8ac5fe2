-- So many next deliveries as the bound says leave nothing on its way, and what is calm then was sound before.
use Rattle.std.proofs.Common.{◌≡◌, ◌≤◌, ◌<◌, ◌+◌, ◌-◌, ◌++◌, ◌∙◌, ◌||◌, ◌==◌, ℕ, suc, Bool, true, false, cond, not, nat_eq, option_map, List, [], ◌∷◌, Option, Some, None, length, refl, sym, ap, subst, arith}
use Rattle.std.proofs.lemmas.List.{length-append}
use Rattle.std.proofs.lemmas.List.Elements.{All-append, All-cons, All-nil}
use Rattle.std.proofs.lemmas.Option.{same_Some}
use Rattle.std.specs.List.{All, list_all}
use Rattle.net_values.proofs.BoolLemmas.{first_holds}
use Rattle.net_base.specs.declared.plan.Plan.{Plan}
use Rattle.net_base.specs.declared.trace.event.Event.{Event}
use Rattle.net_base.specs.plan.Planned.{IsEventOf}
use Rattle.ldp_grammar.specs.declared.message.Message.{Message}
use Rattle.network_model.specs.Connection.{is_deliverable, is_drained_pipe}
use Rattle.network_model.specs.Delivery.{delivery_of, first_pair, next_delivery}
use Rattle.network_model.specs.Run.{state_after}
use Rattle.network_model.specs.State.{NetworkState, empty_network, stands}
use Rattle.network_model.specs.Step.{step}
use Rattle.network_model.proofs.RunLemmas.{after-append}
use Rattle.flight_laws.specs.Ends.{IsOrdered, ends_at}
use Rattle.flight_laws.specs.Laws.{IsRun, network_after}
use Rattle.flight_laws.specs.Pair.{AreFit}
use Rattle.flight_laws.proofs.EventLemmas.{stands_apart}
use Rattle.flight_laws.proofs.ReadyLemmas.{all_ready, same_messages}
use Rattle.flight_laws.proofs.RunLemmas.{run_ordered}
use Rattle.flood_laws.specs.Deliveries.{is_delivery}
use Rattle.rest_laws.specs.Rest.{AreNext, delivers}
use Rattle.rest_laws.proofs.RestLemmas.{next_delivers}
use Rattle.settle_laws.proofs.RunLemmas.{runs_come_to_calm}
use Rattle.quiet_laws.specs.Laws.{SettlesAfter}
use Rattle.quiet_laws.specs.Measure.{AreOnWays}
use Rattle.quiet_laws.proofs.RunLemmas.{delivers_planned, fits_of, messages_of, ways_of}
use Rattle.quiet_laws.proofs.SumLemmas.{same_sums}
use Rattle.settle_bounds.specs.Bound.{IsBound, bound, end_worth, fall_cost, flight_worth, messages_worth, rise_cost}
use Rattle.settle_bounds.specs.Laws.{NextDeliveriesLower, RunsHaveBounds, RunsSettleByBound}
use Rattle.settle_bounds.proofs.RunLemmas.{lowers}

-- ---- by whichever messages

-- there is one list of messages on their way to each end that stands, so that the bound is one number
module _ (plan : Plan) (network : NetworkState) (ordered : IsOrdered plan network) (messages : ℕ → ℕ → List Message) (ways : AreOnWays plan network messages) where
  flight_same : (a b : ℕ) → flight_worth plan network messages a b ≡ flight_worth plan network (messages_of plan network ordered) a b
  flight_same a b = by (stands network b a) refl where
    by : (up : Bool) → stands network b a ≡ up → flight_worth plan network messages a b ≡ flight_worth plan network (messages_of plan network ordered) a b
    by false down =
        ap (λ (s : Bool). cond s (messages_worth plan network.edges a b (messages a b)) 0) down
        ∙ sym (ap (λ (s : Bool). cond s (messages_worth plan network.edges a b (messages_of plan network ordered a b)) 0) down)
    by true up =
        let gone : nat_eq a b ≡ false = stands_apart plan network a b ordered up in
        let fit : AreFit (ends_at plan a b) = fits_of plan network ordered a b gone up in
        let same : messages a b ≡ messages_of plan network ordered a b =
        same_messages (ends_at plan a b) (messages a b) (messages_of plan network ordered a b) (all_ready (ends_at plan a b) (messages a b) fit (ways a b gone).said)
        (all_ready (ends_at plan a b) (messages_of plan network ordered a b) fit (ways_of plan network ordered a b gone).said) (sym (ways a b gone).octets ∙ (ways_of plan network ordered a b gone).octets) in
        ap (λ (ms : List Message). cond (stands network b a) (messages_worth plan network.edges a b ms) 0) same

  pub bound_same : bound plan network messages ≡ bound plan network (messages_of plan network ordered)
  bound_same = same_sums _ _ (length plan.edges) (λ a. same_sums _ _ (length plan.edges) (λ b.
      ap (λ (f : ℕ). end_worth (stands network b a) (rise_cost plan network.edges (record { 0 = a }) b) (fall_cost plan network.edges (record { 0 = a }) b) ((network.edges a).peering b) + f) (flight_same a b)))

-- ---- a next delivery

-- which one it is
record IsNext (network : NetworkState) (event : Event) : Type 0 where
  pair : ℕ × ℕ
  is : event ≡ delivery_of pair
  applies : is_deliverable network pair.0 pair.1 ≡ true

next_is : (plan : Plan) (network : NetworkState) (event : Event) → next_delivery plan network ≡ Some event → IsNext network event
next_is plan network event found = by (first_pair (is_deliverable network) (length plan.edges) 0 (length plan.edges)) found where
  by : (o : Option (ℕ × ℕ)) → option_map delivery_of o ≡ Some event → IsNext network event
  by None is = absurd (cc (is))
  by (Some pair) is =
      let same : delivery_of pair ≡ event = same_Some (delivery_of pair) event is in
      record {
        pair = pair;
        is = sym same;
        applies = first_holds (is_deliverable network pair.0 pair.1) (not (65535 == 0)) (ap (delivers network) same ∙ next_delivers plan network event found);
      }

pub next_deliveries_lower : NextDeliveriesLower
next_deliveries_lower plan events run event found before after ways later =
    let next : IsNext (network_after plan events) event = next_is plan (network_after plan events) event found in
    let network : NetworkState = network_after plan events in
    let up : stands network next.pair.1 next.pair.0 ≡ true =
    first_holds (stands network next.pair.1 next.pair.0) (not (is_drained_pipe network next.pair.0 next.pair.1) || not (stands network next.pair.0 next.pair.1)) next.applies in
    subst (λ (n : ℕ). bound plan (step plan network event).state after < n) (sym (bound_same plan network (run_ordered plan events run) before ways))
    (subst (λ (e : Event). (messages : ℕ → ℕ → List Message) → AreOnWays plan (step plan network e).state messages
    → bound plan (step plan network e).state messages < bound plan network (messages_of plan network (run_ordered plan events run))) (sym next.is)
    (λ messages way. lowers plan events run (record { 0 = next.pair.0 }) (record { 0 = next.pair.1 }) up next.applies messages way) after later)

-- ---- many of them

abbrev bound_of : (plan : Plan) (events : List Event) → IsRun plan events → ℕ
bound_of plan events run = bound plan (network_after plan events) (messages_of plan (network_after plan events) (run_ordered plan events run))

-- one takes away one at least
record Further (plan : Plan) (events : List Event) (run : IsRun plan events) (event : Event) : Type 0 where
  later : IsRun plan (events ++ event ∷ [])
  state : network_after plan (events ++ event ∷ []) ≡ (step plan (network_after plan events) event).state
  less : bound_of plan (events ++ event ∷ []) later < bound_of plan events run
  planned : IsEventOf plan event
  is : is_delivery event ≡ true

further : (plan : Plan) (events : List Event) (run : IsRun plan events) (event : Event) → next_delivery plan (network_after plan events) ≡ Some event → Further plan events run event
further plan events run event found = record {
  later = next;
  state = state;
  less = subst (λ (n : ℕ). n < bound_of plan events run) (sym (ap (λ (s : NetworkState). bound plan s messages) state))
      (next_deliveries_lower plan events run event found (messages_of plan (network_after plan events) (run_ordered plan events run)) messages
      (ways_of plan (network_after plan events) (run_ordered plan events run))
      (subst (λ (s : NetworkState). AreOnWays plan s messages) state (ways_of plan (network_after plan (events ++ event ∷ [])) ordered)));
  planned = here.0;
  is = here.1;
}
  where
    here : IsEventOf plan event × (is_delivery event ≡ true)
    here = delivers_planned plan events run event (next_delivers plan (network_after plan events) event found)

    next : IsRun plan (events ++ event ∷ [])
    next = record {
      checked = run.checked;
      types = run.types;
      planned = All-append (IsEventOf plan) events (event ∷ []) run.planned (All-cons (IsEventOf plan) event [] here.0 (All-nil (IsEventOf plan)));
    }

    ordered : IsOrdered plan (network_after plan (events ++ event ∷ []))
    ordered = run_ordered plan (events ++ event ∷ []) next

    messages : ℕ → ℕ → List Message
    messages = messages_of plan (network_after plan (events ++ event ∷ [])) ordered

    state : network_after plan (events ++ event ∷ []) ≡ (step plan (network_after plan events) event).state
    state = after-append plan (empty_network plan) events (event ∷ [])

-- events of the plan, and deliveries, no more than the bound says
record AreFew (plan : Plan) (events : List Event) (run : IsRun plan events) (deliveries : List Event) : Type 0 where
  planned : All (IsEventOf plan) deliveries
  are : list_all is_delivery deliveries ≡ true
  few : length deliveries ≤ bound_of plan events run

are_few : (plan : Plan) (deliveries events : List Event) (run : IsRun plan events) → AreNext plan (network_after plan events) deliveries → AreFew plan events run deliveries
are_few plan [] events run next = record { planned = All-nil (IsEventOf plan); are = refl; few = none (bound_of plan events run) } where
  none : (n : ℕ) → 0 ≤ n
  none n = omega arith
are_few plan (event ∷ deliveries) events run next =
    let one : Further plan events run event = further plan events run event next.0 in
    let rest : AreFew plan (events ++ event ∷ []) one.later deliveries =
    are_few plan deliveries (events ++ event ∷ []) one.later (subst (λ (s : NetworkState). AreNext plan s deliveries) (sym one.state) next.1) in
    record {
      planned = All-cons (IsEventOf plan) event deliveries one.planned rest.planned;
      are = rw (one.is, rest.are) refl;
      few = sum (length deliveries) (bound_of plan (events ++ event ∷ []) one.later) (bound_of plan events run) rest.few one.less;
    }
  where
    sum : (l a b : ℕ) → l ≤ a → a < b → suc l ≤ b
    sum l a b one other = omega (arith, one, other)

next_more : (plan : Plan) (network : NetworkState) (events : List Event) (event : Event) → AreNext plan network events → next_delivery plan (state_after plan network events) ≡ Some event
    → AreNext plan network (events ++ event ∷ [])
next_more plan network [] event next found = (found, tt)
next_more plan network (first ∷ events) event next found = (next.0, next_more plan (step plan network first).state events event next.1 found)

settles_after : (plan : Plan) (events : List Event) (run : IsRun plan events) → SettlesAfter plan events (bound_of plan events run)
settles_after plan events run = record {
  rests = rests;
  calm = λ deliveries next enough service labels.
      let all : AreFew plan events run deliveries = are_few plan deliveries events run next in
      runs_come_to_calm plan events run deliveries all.planned all.are (rests deliveries next enough) service labels;
}
  where
    over : (l a b : ℕ) → b ≡ l + 1 → b ≤ a → a ≤ l → ⊥
    over l a b is few enough = omega (arith, is, few, enough)

    rests : (deliveries : List Event) → AreNext plan (network_after plan events) deliveries → bound_of plan events run ≤ length deliveries → next_delivery plan (network_after plan (events ++ deliveries)) ≡ None
    rests deliveries next enough = ap (next_delivery plan) (after-append plan (empty_network plan) events deliveries) ∙ by (next_delivery plan (state_after plan (network_after plan events) deliveries)) refl where
      by : (o : Option Event) → next_delivery plan (state_after plan (network_after plan events) deliveries) ≡ o → next_delivery plan (state_after plan (network_after plan events) deliveries) ≡ None
      by None is = is
      by (Some event) is = absurd (over (length deliveries) (bound_of plan events run) (length (deliveries ++ event ∷ [])) (length-append deliveries (event ∷ []))
          (are_few plan (deliveries ++ event ∷ []) events run (next_more plan (network_after plan events) deliveries event next is)).few enough)

-- no more next deliveries follow each other than the bound says
pub next_within : (plan : Plan) (events : List Event) → IsRun plan events → (most : ℕ) → IsBound plan (network_after plan events) most → (deliveries : List Event)
    → AreNext plan (network_after plan events) deliveries → length deliveries ≤ most
next_within plan events run most has deliveries next =
    subst (λ (n : ℕ). length deliveries ≤ n) (sym (has.is ∙ bound_same plan (network_after plan events) (run_ordered plan events run) has.messages has.on_way)) (are_few plan deliveries events run next).few

pub runs_have_bounds : RunsHaveBounds
runs_have_bounds plan events run = record {
  most = bound_of plan events run;
  is = record {
    messages = messages_of plan (network_after plan events) (run_ordered plan events run);
    on_way = ways_of plan (network_after plan events) (run_ordered plan events run);
    is = refl;
  };
}

pub runs_settle_by_bound : RunsSettleByBound
runs_settle_by_bound plan events run most has =
    subst (SettlesAfter plan events) (sym (has.is ∙ bound_same plan (network_after plan events) (run_ordered plan events run) has.messages has.on_way)) (settles_after plan events run)
