-- In every run each delivery makes the measure fall, so that deliveries alone come to an end.
use Rattle.std.proofs.Common.{◌≡◌, ◌≤◌, ◌<◌, ◌+◌, ◌*◌, ◌-◌, ◌++◌, ◌||◌, ◌∙◌, ◌==◌, ℕ, zero, suc, Bool, true, false, cond, not, nat_eq, List, [], ◌∷◌, Option, Some, None, slice_get, length, take, drop, refl, sym, ap, subst, inr, append_assoc, arith}
use Rattle.std.proofs.lemmas.Bool.Decides.{nat_tests}
use Rattle.std.proofs.lemmas.List.{length-drop, take-append-drop}
use Rattle.net_values.proofs.BoolLemmas.{clash, first_holds, second_holds}
use Rattle.net_values.proofs.NumberLemmas.{apart_back}
use Rattle.std.proofs.lemmas.List.Elements.{All-append, All-cons, All-nil}
use Rattle.net_base.specs.declared.plan.Plan.{Plan}
use Rattle.net_base.specs.declared.plan.edge_plan.EdgePlan.{EdgePlan}
use Rattle.net_base.specs.declared.plan.places.EdgeId.{EdgeId}
use Rattle.net_base.specs.declared.trace.event.Event.{Event}
use Rattle.net_base.specs.declared.trace.event.Event.TheVariants.{Deliver}
use Rattle.net_base.specs.declared.trace.state_name.Reason.TheVariants as reason
use Rattle.net_base.specs.plan.Planned.{IsEventOf}
use Rattle.ldp_grammar.specs.declared.message.Message.{Message}
use Rattle.session_core.specs.Phase.{Phase}
use Rattle.session_core.specs.Phase as phase
use Rattle.session_core.specs.State.{is_active}
use Rattle.session_core.specs.Table.{Closed, Ends, outcome_of, table}
use Rattle.edge_model.specs.declared.effect.Effect.{Effect}
use Rattle.edge_model.specs.EndPlaces.{end_places}
use Rattle.edge_model.specs.Hear.{hears, octets_input}
use Rattle.edge_model.specs.Mend.{mends}
use Rattle.edge_model.specs.Session.{happens, happens_with_ends}
use Rattle.edge_model.specs.State.{Peering, is_there}
use Rattle.edge_model.specs.Work.{Work}
use Rattle.edge_model.proofs.HeldLemmas.{clears_keep, ended_gone}
use Rattle.edge_model.proofs.SignalLemmas.{ended_signals, hears_signals, mends_signals}
use Rattle.network_model.specs.Absorb.{absorb, begin_at, idle, taken_all}
use Rattle.network_model.specs.Connection.{delivering, hearing_work, is_deliverable, is_drained_pipe, losing}
use Rattle.network_model.specs.State.{NetworkState, empty_network, stands, with_pipe}
use Rattle.network_model.specs.Step.{step}
use Rattle.network_model.proofs.RunLemmas.{after-append}
use Rattle.flight_laws.specs.Across.{IsMappingTaken, TakesAll}
use Rattle.flight_laws.specs.Ends.{IsOrdered, WorksOn, ends_at}
use Rattle.flight_laws.specs.Facts.{flight}
use Rattle.flight_laws.specs.Laws.{AreOnWay, IsRun, network_after}
use Rattle.flight_laws.specs.Messages.{octets_of_all}
use Rattle.flight_laws.specs.Pair.{AreFit, ArePaired, IsStanding, StandsIf}
use Rattle.flight_laws.specs.Rules.{AllMessages}
use Rattle.flight_laws.proofs.AcrossLemmas.{runs_take_mappings}
use Rattle.flight_laws.proofs.EventBindingLemmas.{happens_is}
use Rattle.flight_laws.proofs.EventLemmas.{hears_begin, losing_is, pipe_edges, stands_apart}
use Rattle.flight_laws.proofs.HearingLemmas.{HasHeard, few_heard}
use Rattle.flight_laws.proofs.MendedRunLemmas.{run_mended_at}
use Rattle.flight_laws.proofs.MendingLemmas.{mends_keep}
use Rattle.flight_laws.proofs.MentionLemmas.{all_kept}
use Rattle.flight_laws.proofs.PipeLemmas.{pipe_from, pipe_there, pipe_to}
use Rattle.flight_laws.proofs.ReadyLemmas.{IsReadyBetween, all_ready, same_messages}
use Rattle.flight_laws.proofs.RuledLemmas.{IsRuled}
use Rattle.flight_laws.proofs.RuledNetworkLemmas.{IsRuledNetwork, RulesTo, held_at, ruled_begin}
use Rattle.flight_laws.proofs.RuledRunLemmas.{run_ruled}
use Rattle.flight_laws.proofs.RunLemmas.{run_ordered}
use Rattle.flight_laws.proofs.SteadyLemmas.{steady_rows}
use Rattle.flight_laws.proofs.WorksLemmas.{works_begin, works_kept, works_steady}
use Rattle.spelling_laws.proofs.WorkLemmas.{works_standing}
use Rattle.flood_laws.specs.Deliveries.{is_delivery}
use Rattle.rest_laws.specs.Delivered.{weight}
use Rattle.rest_laws.specs.Rest.{RestsWithin, RunsComeToRest, all_deliver, delivers}
use Rattle.rest_laws.specs.Rises.{most_put, said_count}
use Rattle.rest_laws.proofs.CountLemmas.{all_few_said, mends_few_said}
use Rattle.quiet_laws.specs.Laws.{DeliveriesLower, RunsRestByMeasure}
use Rattle.quiet_laws.specs.Measure.{AreOnWays, end_rank, few_of, flight_worth, measure, message_worth, phase_rank, puts_most, state_worth}
use Rattle.quiet_laws.proofs.CostLemmas.{costs, costs_few}
use Rattle.quiet_laws.proofs.FallLemmas.{Falls, HasFallen, fallen_all, falls_messages, one_time, some_rank, times_more}
use Rattle.quiet_laws.proofs.NetworkLemmas.{HasWorked, measure_falls, worth_left}
use Rattle.quiet_laws.proofs.SumLemmas.{place_less, same_sums}
use Rattle.quiet_laws.proofs.ToldLemmas.{AreTold, IsPlainOutcome, MovesOn, Telling, TellsFew, TellsMore, event_few, event_on, moves_not, moves_then, telling_steady, tells_not, tells_then}

-- ---- edges of the plan

place_below : (xs : List EdgePlan) (k : ℕ) (x : EdgePlan) → slice_get xs k ≡ Some x → k < length xs
place_below [] k x is = absurd (cc (is))
place_below (y ∷ ys) zero x is = omega arith
place_below (y ∷ ys) (suc k) x is = more k (length ys) (place_below ys k x is) where
  more : (a b : ℕ) → a < b → suc a < suc b
  more a b le = omega (arith, le)

no_address : (n : ℕ) → n ≡ 0 → n ≡ 4 → ⊥
no_address n none four = omega (arith, none, four)

-- an end that fits is one of the plan's
pub fit_below : (plan : Plan) (a b : ℕ) → AreFit (ends_at plan a b) → (a < length plan.edges) × (b < length plan.edges)
fit_below plan a b fit = by (slice_get plan.edges a) refl (slice_get plan.edges b) refl fit where
  by : (one : Option EdgePlan) → slice_get plan.edges a ≡ one → (other : Option EdgePlan) → slice_get plan.edges b ≡ other → AreFit (Rattle.flight_laws.specs.Ends.ends_between one other)
      → (a < length plan.edges) × (b < length plan.edges)
  by None is other is' fit = absurd (no_address 0 refl fit.me.four)
  by (Some x) is None is' fit = absurd (no_address 0 refl fit.me.four)
  by (Some x) is (Some y) is' fit = (place_below plan.edges a x is, place_below plan.edges b y is')

-- ---- a network in order

module _ (plan : Plan) (network : NetworkState) (ordered : IsOrdered plan network) where
  no_less : {b : Bool} → b ≡ true → b ≡ false → ⊥
  no_less {b} one other = clash (sym other ∙ one)

  found : (a b : ℕ) (same : Bool) → nat_eq a b ≡ same → List Message
  found a b true is = []
  found a b false is = (ordered.two a b is).messages

  -- the messages on their way between each two edges
  pub messages_of : ℕ → ℕ → List Message
  messages_of a b = found a b (nat_eq a b) refl

  pub ways_of : AreOnWays plan network messages_of
  unfolding messages_of found
  ways_of a b gone = by (nat_eq a b) refl where
    by : (same : Bool) → (is : nat_eq a b ≡ same) → AreOnWay plan network a b (found a b same is)
    by true is = absurd (no_less is gone)
    by false is = record { octets = (ordered.two a b is).out_is; said = (ordered.two a b is).talk.said }

  pub standing_of : (a b : ℕ) (kept : Peering) → nat_eq a b ≡ false → (network.edges a).peering b ≡ Some kept → IsStanding (ends_at plan a b) (ends_at plan b a) kept
  standing_of a b kept gone at = subst (StandsIf (ends_at plan a b) (ends_at plan b a)) at (ordered.two a b gone).talk.here

  there_is : (o : Option Peering) → is_there o ≡ true → (A : Type 0) → ((kept : Peering) → o ≡ Some kept → A) → A
  there_is None up A some = clash up
  there_is (Some kept) up A some = some kept refl

  -- the ends between which one stands
  pub fits_of : (a b : ℕ) → nat_eq a b ≡ false → stands network b a ≡ true → AreFit (ends_at plan a b)
  fits_of a b gone up = there_is ((network.edges b).peering a) up (AreFit (ends_at plan a b)) (λ kept at. (standing_of b a kept (apart_back a b gone) at).between.two)

-- ---- what an edge may put

ends_most : (plan : Plan) (me : EdgeId) → me.0 < length plan.edges → 3 * length (end_places plan me) ≤ puts_most plan
ends_most plan me below =
    less (3 * length (end_places plan me)) (length plan.circuits + length plan.wires) (most_put plan me) (puts_most plan) refl (place_less (λ k. most_put plan (record { 0 = k })) me.0 (length plan.edges) below)
  where
    less : (e c m p : ℕ) → m ≡ suc c + e → m ≤ p → e ≤ p
    less e c m p is le = omega (arith, is, le)

puts_under : (plan : Plan) (me : EdgeId) → me.0 < length plan.edges → most_put plan me ≤ puts_most plan
puts_under plan me below = place_less (λ k. most_put plan (record { 0 = k })) me.0 (length plan.edges) below

-- ---- one delivery

module _ (plan : Plan) (events : List Event) (run : IsRun plan events) (from to : EdgeId) (count : ℕ) (up : stands (network_after plan events) to.0 from.0 ≡ true) where
  abbrev network : NetworkState
  network = network_after plan events

  abbrev ordered : IsOrdered plan network
  ordered = run_ordered plan events run

  ruled : IsRuledNetwork plan network
  ruled = run_ruled plan events run

  apart : nat_eq from.0 to.0 ≡ false
  apart = stands_apart plan network from.0 to.0 ordered up

  back_apart : nat_eq to.0 from.0 ≡ false
  back_apart = apart_back from.0 to.0 apart

  abbrev pipe : List ℕ
  pipe = network.pipes from.0 to.0

  abbrev later : NetworkState
  later = with_pipe from to (drop count pipe) network

  fit : AreFit (ends_at plan from.0 to.0)
  fit = fits_of plan network ordered from.0 to.0 apart up

  below : (from.0 < length plan.edges) × (to.0 < length plan.edges)
  below = fit_below plan from.0 to.0 fit

  abbrev few : ℕ
  few = few_of plan

  abbrev old_messages : ℕ → ℕ → List Message
  old_messages = messages_of plan network ordered

  itself : (n : ℕ) → n ≤ n
  itself n = omega arith

  -- ---- octets are heard

  module _ (kept : Peering) (at : (network.edges to.0).peering from.0 ≡ Some kept) where
    pair : ArePaired (ends_at plan to.0 from.0) (ends_at plan from.0 to.0) (Some kept) ((network.edges from.0).peering to.0) (flight network to.0 from.0) (kept.held ++ pipe)
    pair = rw at at (ordered.two to.0 from.0 back_apart)

    on_way : AreOnWay plan network from.0 to.0 pair.answers
    on_way = record { octets = ap (λ (o : Option Peering). Rattle.network_model.specs.State.held_by o ++ pipe) at ∙ pair.back_is; said = pair.talk.answered }

    ready_all : AllMessages (IsReadyBetween (ends_at plan from.0 to.0)) pair.answers
    ready_all = all_ready (ends_at plan from.0 to.0) pair.answers fit pair.talk.answered

    back : RulesTo plan from.0 to.0 (network.edges from.0) (network.edges to.0) (flight network from.0 to.0)
    back = (ruled.two to.0 from.0 back_apart).1

    to_hear : AllMessages (IsRuled plan from.0 to.0 (network.edges from.0) (network.edges to.0)) pair.answers
    to_hear = subst (AllMessages (IsRuled plan from.0 to.0 (network.edges from.0) (network.edges to.0)))
        (same_messages (ends_at plan from.0 to.0) back.messages pair.answers
        (all_kept (IsRuled plan from.0 to.0 (network.edges from.0) (network.edges to.0)) (IsReadyBetween (ends_at plan from.0 to.0)) back.messages (λ m is. record { fit = is.fit; is = is.ready }) back.ruled)
        ready_all (sym back.octets ∙ on_way.octets)) back.ruled

    takes : TakesAll plan network from.0 to.0
    takes = runs_take_mappings plan events run from.0 to.0 apart

    taken : AllMessages (IsMappingTaken plan to.0 from.0) pair.answers
    taken = subst (AllMessages (IsMappingTaken plan to.0 from.0))
        (same_messages (ends_at plan from.0 to.0) takes.messages pair.answers (all_ready (ends_at plan from.0 to.0) takes.messages fit takes.on_way.said) ready_all (sym takes.on_way.octets ∙ on_way.octets)) takes.taken

    -- they are those of the measure
    same_ones : pair.answers ≡ old_messages from.0 to.0
    same_ones = same_messages (ends_at plan from.0 to.0) pair.answers (old_messages from.0 to.0) ready_all
        (all_ready (ends_at plan from.0 to.0) (old_messages from.0 to.0) fit (ways_of plan network ordered from.0 to.0 apart).said) (sym on_way.octets ∙ (ways_of plan network ordered from.0 to.0 apart).octets)

    abbrev octets : List ℕ
    octets = kept.held ++ take count pipe

    whole : octets ++ drop count pipe ≡ octets_of_all (ends_at plan from.0 to.0).me pair.answers
    whole = append_assoc kept.held (take count pipe) (drop count pipe) ∙ (ap (λ (l : List ℕ). kept.held ++ l) (take-append-drop count pipe) ∙ pair.back_is)

    abbrev all : ℕ
    all = phase_rank kept.session.phase * state_worth plan + weight plan network.edges from.0 to.0 few pair.answers

    abbrev Fell : List Message → Work → Type 0
    Fell = Falls plan run.checked run.types later to from back_apart apart network.edges (network.edges to.0) (held_at network to.0) (ruled.edges from.0).place (network.edges to.0).peering few (puts_most plan)
        (itself few) (ends_most plan to below.1) all

    start : Fell pair.answers (begin_at network to)
    start = record {
      hears = hears_begin plan from to (drop count pipe) network kept ordered apart at pair;
      told = [];
      are = tt;
      on = λ k. moves_not ((network.edges to.0).peering k);
      light = subst (λ (o : Option Peering). Rattle.quiet_laws.proofs.FallLemmas.near_worth plan run.checked run.types later to from back_apart apart network.edges (network.edges to.0) (held_at network to.0) (ruled.edges from.0).place
          (network.edges to.0).peering few (puts_most plan) (itself few) (ends_most plan to below.1) all o
          + (0 + Rattle.quiet_laws.proofs.FallLemmas.weight_left plan run.checked run.types later to from back_apart apart network.edges (network.edges to.0) (held_at network to.0) (ruled.edges from.0).place
          (network.edges to.0).peering few (puts_most plan) (itself few) (ends_most plan to below.1) all o pair.answers) ≤ all) (sym at)
          (as_much (phase_rank kept.session.phase * state_worth plan) (weight plan network.edges from.0 to.0 few pair.answers));
      facts = inr (record {
        ruled = record { works = ruled_begin plan network to ruled; to_hear = to_hear };
        mended = run_mended_at plan events run to.0;
        bits = refl;
        taken = taken;
        short = all_few_said plan to (ends_at plan from.0 to.0) (puts_most plan) (puts_under plan to below.1) pair.answers pair.talk.answered;
      });
    }
      where
        as_much : (r w : ℕ) → r + (0 + w) ≤ r + w
        as_much r w = omega arith

    abbrev result : Work
    result = hears plan taken_all from octets (begin_at network to)

    heard : HasHeard from (ends_at plan from.0 to.0) Fell (later.pipes from.0 to.0) result
    heard = subst (λ (l : List ℕ). HasHeard from (ends_at plan from.0 to.0) Fell l result) (sym (pipe_there from to (drop count pipe) network))
        (few_heard plan from (ends_at plan from.0 to.0) fit Fell
        (falls_messages plan run.checked run.types later to from back_apart apart network.edges (network.edges to.0) (held_at network to.0) (ruled.edges from.0).place (network.edges to.0).peering few (puts_most plan)
        (itself few) (ends_most plan to below.1) all)
        (suc (length octets)) octets (drop count pipe) pair.answers (begin_at network to) pair.talk.answered whole start)

    work_is : hearing_work plan network from to (take count pipe) ≡ mends plan taken_all result
    work_is = ap (λ (o : Option Peering). octets_input plan taken_all from (take count pipe) o (begin_at network to)) at

    fallen : HasFallen plan run.checked run.types later to from back_apart apart network.edges (network.edges to.0) (held_at network to.0) (ruled.edges from.0).place (network.edges to.0).peering few (puts_most plan)
        (itself few) (ends_most plan to below.1) all (mends plan taken_all result)
    fallen = fallen_all plan run.checked run.types later to from back_apart apart network.edges (network.edges to.0) (held_at network to.0) (ruled.edges from.0).place (network.edges to.0).peering few (puts_most plan)
        (itself few) (ends_most plan to below.1) all result heard

    shorter : not (count == 0) ≡ true → not (length pipe == 0) ≡ true → length (drop count pipe) < length pipe
    shorter some there = subst (λ (n : ℕ). n < length pipe) (sym (length-drop count pipe)) (less count (length pipe) some there) where
      less : (c n : ℕ) → not (c == 0) ≡ true → not (n == 0) ≡ true → n - c < n
      less c n some there = grind (arith, nat_tests)

    worked : not (count == 0) ≡ true → not (length pipe == 0) ≡ true → HasWorked plan network later to from old_messages (mends plan taken_all result)
    worked some there = record {
      works = fallen.works;
      told = fallen.told;
      are = fallen.are;
      others_on = fallen.others_on;
      bits = (mends_signals plan taken_all result).edge.bits ∙ (hears_signals plan taken_all from octets (begin_at network to)).edge.bits;
      left = fallen.left;
      said = fallen.said;
      behind = λ kept at'. ap (λ (l : List ℕ). l ++ later.pipes from.0 to.0) (fallen.holding kept at') ∙ fallen.behind;
      lighter = by ((mends plan taken_all result).edge.peering from.0) fallen.light;
    }
      where
        flight_is : flight_worth plan network old_messages from.0 to.0 ≡ weight plan network.edges from.0 to.0 few pair.answers + length pipe
        flight_is = ap (λ (s : Bool). cond s (weight plan network.edges from.0 to.0 few (old_messages from.0 to.0) + length pipe) 0) up
            ∙ ap (λ (ms : List Message). weight plan network.edges from.0 to.0 few ms + length pipe) (sym same_ones)

        rank_is : end_rank ((network.edges to.0).peering from.0) * state_worth plan ≡ phase_rank kept.session.phase * state_worth plan
        rank_is = ap (λ (o : Option Peering). end_rank o * state_worth plan) at

        pipe_is : length (later.pipes from.0 to.0) ≡ length (drop count pipe)
        pipe_is = ap (λ (l : List ℕ). length l) (pipe_there from to (drop count pipe) network)

        gone_less : (r c a rank f w n : ℕ) → r + (c + 0) ≤ a → a ≡ rank + w → f ≡ w + n → 0 < n → suc (r + (c + 0)) ≤ rank + f
        gone_less r c a rank f w n light is flights some = omega (arith, light, is, flights, some)

        left_less : (r c l a rank f w n p q : ℕ) → r + (c + l) ≤ a → a ≡ rank + w → f ≡ w + n → p ≡ q → q < n → suc (r + (c + (l + p))) ≤ rank + f
        left_less r c l a rank f w n p q light is flights same less = omega (arith, light, is, flights, same, less)

        some_octets : (q n : ℕ) → q < n → 0 < n
        some_octets q n less = omega (arith, less)

        by : (near : Option Peering) → end_rank near * state_worth plan + (costs plan network.edges to.0 few fallen.told
            + Rattle.quiet_laws.proofs.FallLemmas.weight_left plan run.checked run.types later to from back_apart apart network.edges (network.edges to.0) (held_at network to.0) (ruled.edges from.0).place
            (network.edges to.0).peering few (puts_most plan) (itself few) (ends_most plan to below.1) all near fallen.left) ≤ all
            → suc (end_rank near * state_worth plan + (costs plan network.edges to.0 few fallen.told + worth_left plan network.edges from.0 to.0 few (length (later.pipes from.0 to.0)) near fallen.left))
            ≤ end_rank ((network.edges to.0).peering from.0) * state_worth plan + flight_worth plan network old_messages from.0 to.0
        by None light = gone_less (0 * state_worth plan) (costs plan network.edges to.0 few fallen.told) all (end_rank ((network.edges to.0).peering from.0) * state_worth plan)
            (flight_worth plan network old_messages from.0 to.0) (weight plan network.edges from.0 to.0 few pair.answers) (length pipe) light
            (ap (λ (r : ℕ). r + weight plan network.edges from.0 to.0 few pair.answers) (sym rank_is)) flight_is (some_octets (length (drop count pipe)) (length pipe) (shorter some there))
        by (Some now) light = left_less (phase_rank now.session.phase * state_worth plan) (costs plan network.edges to.0 few fallen.told) (weight plan network.edges from.0 to.0 few fallen.left) all
            (end_rank ((network.edges to.0).peering from.0) * state_worth plan) (flight_worth plan network old_messages from.0 to.0) (weight plan network.edges from.0 to.0 few pair.answers) (length pipe)
            (length (later.pipes from.0 to.0)) (length (drop count pipe)) light
            (ap (λ (r : ℕ). r + weight plan network.edges from.0 to.0 few pair.answers) (sym rank_is)) flight_is pipe_is (shorter some there)

  -- ---- an end is lost

  module _ (kept : Peering) (at : (network.edges to.0).peering from.0 ≡ Some kept) where
    abbrev event_work : Work
    event_work = happens_with_ends taken_all from (Closed reason.Closed) (begin_at network to)

    works : WorksOn plan network to event_work
    works = (works_kept plan network to run.checked run.types).closed from (begin_at network to) (works_begin plan network to ordered)

    abbrev lost : Work
    lost = mends plan taken_all event_work

    abbrev Lost : Work → Type 0
    Lost = Telling plan to event_work.effects event_work.edge.peering (WorksOn plan network to) (works_steady plan network to) (works_standing plan network to)

    ends : Lost lost
    ends = mends_keep plan to Lost
        (steady_rows plan to run.checked run.types Lost (telling_steady plan to event_work.effects event_work.edge.peering (WorksOn plan network to) (works_steady plan network to) (works_standing plan network to))) event_work
        (works, (tells_not plan to.0 event_work.effects, λ k. moves_not (event_work.edge.peering k)))

    begun : WorksOn plan network to (begin_at network to)
    begun = works_begin plan network to ordered

    closed_outcome : outcome_of kept.session (Closed reason.Closed) ≡ Ends reason.Closed []
    closed_outcome = by kept.session.phase refl where
      by : (p : Phase) → kept.session.phase ≡ p → outcome_of kept.session (Closed reason.Closed) ≡ Ends reason.Closed []
      by phase.Initialized is = ap (λ (p : Phase). table p (Closed reason.Closed) (is_active kept.session.peers) kept.session) is
      by phase.OpenSent is = ap (λ (p : Phase). table p (Closed reason.Closed) (is_active kept.session.peers) kept.session) is
      by phase.OpenRec is = ap (λ (p : Phase). table p (Closed reason.Closed) (is_active kept.session.peers) kept.session) is
      by phase.Operational is = ap (λ (p : Phase). table p (Closed reason.Closed) (is_active kept.session.peers) kept.session) is

    event_tells : TellsFew plan to.0 2 [] event_work.effects
    event_tells = event_few plan to from (Closed reason.Closed) kept (begin_at network to) at (works_standing plan network to (begin_at network to) begun from.0 kept at)
        (subst (IsPlainOutcome (ends_at plan to.0 from.0)) (sym closed_outcome) refl)

    tells : TellsMore plan to.0 [] lost.effects
    tells = tells_then plan to.0 [] event_work.effects lost.effects event_tells.tells ends.1.0

    gone : event_work.edge.peering from.0 ≡ None
    gone = ap (λ (f : ℕ → Option Peering). f from.0) (clears_keep from (happens taken_all from (Closed reason.Closed) (begin_at network to)))
        ∙ (ap (λ (w : Work). w.edge.peering from.0) (happens_is from (Closed reason.Closed) kept (Ends reason.Closed []) (begin_at network to) at closed_outcome)
        ∙ ended_gone from reason.Closed (begin_at network to))

    only_none : (o : Option Peering) → MovesOn None o → o ≡ None
    only_none None on = refl
    only_none (Some now) on = absurd on

    gone_then : lost.edge.peering from.0 ≡ None
    gone_then = only_none (lost.edge.peering from.0) (subst (λ (o : Option Peering). MovesOn o (lost.edge.peering from.0)) gone (ends.1.1 from.0))

    none_some : {kept : Peering} → None ≡ Some kept → ⊥
    none_some e = cc

    lost_few : said_count tells.more ≤ 2 + puts_most plan
    lost_few = sum (said_count event_work.effects) (said_count lost.effects) (said_count tells.more) (3 * length (end_places plan to)) (puts_most plan) event_tells.few
        (subst (λ (k : EdgeId). said_count lost.effects ≤ said_count event_work.effects + 3 * length (end_places plan k)) works.fine.place (mends_few_said plan event_work))
        (ap said_count tells.joined) (ends_most plan to below.1)
      where
        sum : (b c x e p : ℕ) → b ≤ 0 + 2 → c ≤ b + e → c ≡ x → e ≤ p → x ≤ 2 + p
        sum b c x e p one two is few = omega (arith, one, two, is, few)

    lost_costs : costs plan network.edges to.0 few tells.told ≤ (2 + puts_most plan) * message_worth plan
    lost_costs = both (costs plan network.edges to.0 few tells.told) (said_count tells.more * message_worth plan) ((2 + puts_most plan) * message_worth plan)
        (costs_few plan network.edges to.0 few tells.more tells.told tells.are) (times_more (said_count tells.more) (2 + puts_most plan) (message_worth plan) lost_few)
      where
        both : (a b c : ℕ) → a ≤ b → b ≤ c → a ≤ c
        both a b c one other = omega (arith, one, other)

    lost_worked : HasWorked plan network network to from old_messages lost
    lost_worked = record {
      works = ends.0;
      told = tells.told;
      are = subst (λ (es : List Effect). AreTold plan to.0 es tells.told) (sym tells.joined) tells.are;
      others_on = λ k away. moves_then ((network.edges to.0).peering k) (event_work.edge.peering k) (lost.edge.peering k)
          (event_on plan network to from back_apart run.checked run.types (Closed reason.Closed) (begin_at network to)
          (subst (MovesOn ((network.edges to.0).peering from.0)) (sym gone) tt) k) (ends.1.1 k);
      bits = (ended_signals plan taken_all from (begin_at network to)).edge.bits;
      left = [];
      said = tt;
      behind = λ kept there. absurd (none_some (sym gone_then ∙ there));
      lighter = subst (λ (o : Option Peering). suc (end_rank o * state_worth plan + (costs plan network.edges to.0 few tells.told + worth_left plan network.edges from.0 to.0 few (length (network.pipes from.0 to.0)) o []))
          ≤ end_rank ((network.edges to.0).peering from.0) * state_worth plan + flight_worth plan network old_messages from.0 to.0) (sym gone_then)
          (less (0 * state_worth plan) (costs plan network.edges to.0 few tells.told) ((2 + puts_most plan) * message_worth plan) (puts_most plan * message_worth plan) (state_worth plan)
          (end_rank ((network.edges to.0).peering from.0) * state_worth plan) (flight_worth plan network old_messages from.0 to.0) (zero_times (state_worth plan)) lost_costs refl
          (subst (λ (o : Option Peering). state_worth plan ≤ end_rank o * state_worth plan) (sym at) (one_time (phase_rank kept.session.phase) (state_worth plan) (some_rank kept.session.phase))));
    }
      where
        zero_times : (j : ℕ) → 0 * j ≡ 0
        zero_times j = omega arith

        less : (z c x k j r f : ℕ) → z ≡ 0 → c ≤ x → j ≡ suc (x + k) → j ≤ r → suc (z + (c + 0)) ≤ r + f
        less z c x k j r f none few is le = omega (arith, none, few, is, le)

  -- ---- in the network

  alone_of : (a : ℕ) → (network.edges a).peering a ≡ None
  alone_of = ordered.alone

  abbrev Lowers : NetworkState → Type 0
  Lowers after = (messages : ℕ → ℕ → List Message) → AreOnWays plan after messages → measure plan after messages < measure plan network old_messages

  heard_lowers : (kept : Peering) → (network.edges to.0).peering from.0 ≡ Some kept → not (count == 0) ≡ true → not (length pipe == 0) ≡ true → Lowers (delivering plan from to count network).state
  heard_lowers kept at some there = subst (λ (w : Work). Lowers (absorb to 0 0 w later).state) (sym (work_is kept at))
      (λ messages ways. measure_falls plan network later to from back_apart (pipe_edges from to (drop count pipe) network) (λ a b away. pipe_from from to (drop count pipe) network a b away)
      (λ a b away. pipe_to from to (drop count pipe) network a b away) old_messages messages (mends plan taken_all (result kept at)) (worked kept at some there) (ways_of plan network ordered) ways
      (fits_of plan network ordered) alone_of below.1 below.0)

  lost_lowers : (kept : Peering) → (network.edges to.0).peering from.0 ≡ Some kept → Lowers (losing plan to from network).state
  lost_lowers kept at = subst (λ (w : Work). Lowers (absorb to 0 0 w network).state) (sym (losing_is plan to from network up))
      (λ messages ways. measure_falls plan network network to from back_apart refl (λ a b away. refl) (λ a b away. refl) old_messages messages (lost kept at) (lost_worked kept at) (ways_of plan network ordered) ways
      (fits_of plan network ordered) alone_of below.1 below.0)

  by_end : (near : Option Peering) → (network.edges to.0).peering from.0 ≡ near → not (count == 0) ≡ true → (drained : Bool) → is_drained_pipe network from.0 to.0 ≡ drained
      → Lowers (cond drained (losing plan to from network) (delivering plan from to count network)).state
  by_end None at some drained is = clash (sym (ap is_there at) ∙ up)
  by_end (Some kept) at some true is = lost_lowers kept at
  by_end (Some kept) at some false is = heard_lowers kept at some (ap not is)

  -- each delivery lowers the measure
  pub lowers : is_deliverable network from.0 to.0 ≡ true → not (count == 0) ≡ true → Lowers (step plan network (Deliver from to count)).state
  lowers applies some = by (is_deliverable network from.0 to.0) applies where
    by : (b : Bool) → b ≡ true → Lowers (cond b (cond (is_drained_pipe network from.0 to.0) (losing plan to from network) (delivering plan from to count network)) (idle network)).state
    by true is = by_end ((network.edges to.0).peering from.0) refl some (is_drained_pipe network from.0 to.0) refl
    by false is = clash is

  pub planned_of : (from.0 < length plan.edges) × (to.0 < length plan.edges)
  planned_of = below

-- ---- deliveries alone

-- an event that is no idle delivery speaks of the plan
pub delivers_planned : (plan : Plan) (events : List Event) → IsRun plan events → (event : Event) → delivers (network_after plan events) event ≡ true → IsEventOf plan event × (is_delivery event ≡ true)
delivers_planned plan events run (Deliver from to count) does = (planned_of plan events run from to count up, refl) where
  up : stands (network_after plan events) to.0 from.0 ≡ true
  up = first_holds (stands (network_after plan events) to.0 from.0) (not (is_drained_pipe (network_after plan events) from.0 to.0) || not (stands (network_after plan events) from.0 to.0))
      (first_holds (is_deliverable (network_after plan events) from.0 to.0) (not (count == 0)) does)
delivers_planned plan events run event does = clash does

abbrev pub measure_of : (plan : Plan) (events : List Event) → IsRun plan events → ℕ
measure_of plan events run = measure plan (network_after plan events) (messages_of plan (network_after plan events) (run_ordered plan events run))

run_further : (plan : Plan) (events : List Event) (event : Event) → IsRun plan events → IsEventOf plan event → IsRun plan (events ++ event ∷ [])
run_further plan events event run planned = record {
  checked = run.checked;
  types = run.types;
  planned = All-append (IsEventOf plan) events (event ∷ []) run.planned (All-cons (IsEventOf plan) event [] planned (All-nil (IsEventOf plan)));
}

-- one delivery takes away one at least
pub record Further (plan : Plan) (events : List Event) (run : IsRun plan events) (event : Event) : Type 0 where
  pub later : IsRun plan (events ++ event ∷ [])
  pub state : network_after plan (events ++ event ∷ []) ≡ (step plan (network_after plan events) event).state
  pub less : measure_of plan (events ++ event ∷ []) later < measure_of plan events run

pub further : (plan : Plan) (events : List Event) (run : IsRun plan events) (event : Event) → delivers (network_after plan events) event ≡ true → Further plan events run event
further plan events run (Deliver from to count) does = record {
  later = next;
  state = state;
  less = subst (λ (n : ℕ). n < measure plan (network_after plan events) (messages_of plan (network_after plan events) (run_ordered plan events run))) (sym same)
      (lowers plan events run from to count up applies some messages (subst (λ (s : NetworkState). AreOnWays plan s messages) state (ways_of plan (network_after plan (events ++ Deliver from to count ∷ [])) ordered)));
}
  where
    applies : is_deliverable (network_after plan events) from.0 to.0 ≡ true
    applies = first_holds (is_deliverable (network_after plan events) from.0 to.0) (not (count == 0)) does

    some : not (count == 0) ≡ true
    some = second_holds (is_deliverable (network_after plan events) from.0 to.0) (not (count == 0)) does

    up : stands (network_after plan events) to.0 from.0 ≡ true
    up = first_holds (stands (network_after plan events) to.0 from.0) (not (is_drained_pipe (network_after plan events) from.0 to.0) || not (stands (network_after plan events) from.0 to.0)) applies

    next : IsRun plan (events ++ Deliver from to count ∷ [])
    next = run_further plan events (Deliver from to count) run (planned_of plan events run from to count up)

    ordered : IsOrdered plan (network_after plan (events ++ Deliver from to count ∷ []))
    ordered = run_ordered plan (events ++ Deliver from to count ∷ []) next

    messages : ℕ → ℕ → List Message
    messages = messages_of plan (network_after plan (events ++ Deliver from to count ∷ [])) ordered

    state : network_after plan (events ++ Deliver from to count ∷ []) ≡ (step plan (network_after plan events) (Deliver from to count)).state
    state = after-append plan (empty_network plan) events (Deliver from to count ∷ [])

    same : measure plan (network_after plan (events ++ Deliver from to count ∷ [])) messages ≡ measure plan (step plan (network_after plan events) (Deliver from to count)).state messages
    same = ap (λ (s : NetworkState). measure plan s messages) state
further plan events run event does = clash does

rests : (plan : Plan) (deliveries : List Event) (events : List Event) (run : IsRun plan events) (n : ℕ) → all_deliver plan (network_after plan events) deliveries ≡ true → measure_of plan events run ≤ n
    → length deliveries ≤ n
rests plan [] events run n all le = none n where
  none : (n : ℕ) → 0 ≤ n
  none n = omega arith
rests plan (event ∷ deliveries) events run n all le =
    let does : delivers (network_after plan events) event ≡ true = first_holds (delivers (network_after plan events) event) (all_deliver plan (step plan (network_after plan events) event).state deliveries) all in
    let next : Further plan events run event = further plan events run event does in
    one (length deliveries) n (measure_of plan (events ++ event ∷ []) next.later) (measure_of plan events run) next.less le
    (rests plan deliveries (events ++ event ∷ []) next.later (n - 1)
    (subst (λ (s : NetworkState). all_deliver plan s deliveries ≡ true) (sym next.state)
    (second_holds (delivers (network_after plan events) event) (all_deliver plan (step plan (network_after plan events) event).state deliveries) all))
    (lower n (measure_of plan (events ++ event ∷ []) next.later) (measure_of plan events run) next.less le))
  where
    lower : (n a b : ℕ) → a < b → b ≤ n → a ≤ n - 1
    lower n a b less le = omega (arith, less, le)

    one : (l n a b : ℕ) → a < b → b ≤ n → l ≤ n - 1 → suc l ≤ n
    one l n a b less le rest = omega (arith, less, le, rest)

pub rests_within : (plan : Plan) (events : List Event) (run : IsRun plan events) → RestsWithin plan (network_after plan events) (measure_of plan events run)
rests_within plan events run deliveries all = rests plan deliveries events run (measure_of plan events run) all (itself_less (measure_of plan events run)) where
  itself_less : (n : ℕ) → n ≤ n
  itself_less n = omega arith

pub runs_come_to_rest : RunsComeToRest
runs_come_to_rest plan events run = record { most = measure_of plan events run; ends = rests_within plan events run }

pub runs_rest_by_measure : RunsRestByMeasure
runs_rest_by_measure plan events run = record {
  messages = messages_of plan (network_after plan events) (run_ordered plan events run);
  on_way = ways_of plan (network_after plan events) (run_ordered plan events run);
  ends = rests_within plan events run;
}

-- ---- by whichever messages

-- there is one list of messages on their way to each end that stands, so that the measure is one number
module _ (plan : Plan) (network : NetworkState) (ordered : IsOrdered plan network) (messages : ℕ → ℕ → List Message) (ways : AreOnWays plan network messages) where
  flight_same : (a b : ℕ) → flight_worth plan network messages a b ≡ flight_worth plan network (messages_of plan network ordered) a b
  flight_same a b = by (stands network b a) refl where
    by : (up : Bool) → stands network b a ≡ up → flight_worth plan network messages a b ≡ flight_worth plan network (messages_of plan network ordered) a b
    by false down =
        ap (λ (s : Bool). cond s (weight plan network.edges a b (few_of plan) (messages a b) + length (network.pipes a b)) 0) down
        ∙ sym (ap (λ (s : Bool). cond s (weight plan network.edges a b (few_of plan) (messages_of plan network ordered a b) + length (network.pipes a b)) 0) down)
    by true up =
        let gone : nat_eq a b ≡ false = stands_apart plan network a b ordered up in
        let fit : AreFit (ends_at plan a b) = fits_of plan network ordered a b gone up in
        let same : messages a b ≡ messages_of plan network ordered a b =
        same_messages (ends_at plan a b) (messages a b) (messages_of plan network ordered a b) (all_ready (ends_at plan a b) (messages a b) fit (ways a b gone).said)
        (all_ready (ends_at plan a b) (messages_of plan network ordered a b) fit (ways_of plan network ordered a b gone).said) (sym (ways a b gone).octets ∙ (ways_of plan network ordered a b gone).octets) in
        ap (λ (ms : List Message). cond (stands network b a) (weight plan network.edges a b (few_of plan) ms + length (network.pipes a b)) 0) same

  pub measure_same : measure plan network messages ≡ measure plan network (messages_of plan network ordered)
  measure_same = same_sums _ _ (length plan.edges) (λ a. same_sums _ _ (length plan.edges) (λ b. ap (λ (f : ℕ). end_rank ((network.edges a).peering b) * state_worth plan + f) (flight_same a b)))

pub deliveries_lower : DeliveriesLower
deliveries_lower plan events run (Deliver from to count) does before after ways later =
    subst (λ (n : ℕ). measure plan (step plan (network_after plan events) (Deliver from to count)).state after < n)
    (sym (measure_same plan (network_after plan events) (run_ordered plan events run) before ways))
    (lowers plan events run from to count up applies some after later)
  where
    applies : is_deliverable (network_after plan events) from.0 to.0 ≡ true
    applies = first_holds (is_deliverable (network_after plan events) from.0 to.0) (not (count == 0)) does

    some : not (count == 0) ≡ true
    some = second_holds (is_deliverable (network_after plan events) from.0 to.0) (not (count == 0)) does

    up : stands (network_after plan events) to.0 from.0 ≡ true
    up = first_holds (stands (network_after plan events) to.0 from.0) (not (is_drained_pipe (network_after plan events) from.0 to.0) || not (stands (network_after plan events) from.0 to.0)) applies
deliveries_lower plan events run event does before after ways later = clash does
