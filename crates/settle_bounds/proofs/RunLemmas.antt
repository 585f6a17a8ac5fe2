-- In every run each next delivery makes the bound fall.
use Rattle.std.proofs.Common.{◌≡◌, ◌≤◌, ◌<◌, ◌+◌, ◌-◌, ◌++◌, ◌||◌, ◌∙◌, ◌==◌, ◌⊎◌, ℕ, suc, Bool, true, false, cond, not, nat_eq, List, [], ◌∷◌, Option, Some, None, length, drop, take, append_assoc, refl, sym, ap, subst, inr, ⊎_elim, arith}
use Rattle.std.proofs.lemmas.Bool.Decides.{nat_tests}
use Rattle.std.proofs.lemmas.List.{length-append, length-drop, take-append-drop}
use Rattle.net_values.proofs.BoolLemmas.{clash, second_holds}
use Rattle.net_values.proofs.NumberLemmas.{apart_back}
use Rattle.net_base.specs.declared.plan.Plan.{Plan}
use Rattle.net_base.specs.declared.plan.places.EdgeId.{EdgeId}
use Rattle.net_base.specs.declared.trace.event.Event.{Event}
use Rattle.net_base.specs.declared.trace.event.Event.TheVariants.{Deliver}
use Rattle.net_base.specs.declared.trace.state_name.Reason.TheVariants as reason
use Rattle.ldp_grammar.specs.declared.message.Message.{Message}
use Rattle.ldp_grammar.specs.Octets.{two}
use Rattle.ldp_grammar.specs.Written.{written}
use Rattle.session_core.specs.Phase.{Phase}
use Rattle.session_core.specs.Phase as phase
use Rattle.session_core.specs.State.{is_active}
use Rattle.session_core.specs.Table.{Closed, Ends, outcome_of, table}
use Rattle.pw_messages.specs.Sender.{platform_of}
use Rattle.edge_model.specs.declared.effect.Effect.{Effect}
use Rattle.edge_model.specs.Hear.{hears, octets_input}
use Rattle.edge_model.specs.Mend.{mends}
use Rattle.edge_model.specs.Session.{happens, happens_with_ends}
use Rattle.edge_model.specs.State.{EdgeState, Peering, is_there}
use Rattle.edge_model.specs.Work.{Work}
use Rattle.edge_model.proofs.HeldLemmas.{clears_keep, ended_gone}
use Rattle.edge_model.proofs.SignalLemmas.{ended_signals, hears_signals, mends_signals}
use Rattle.network_model.specs.Absorb.{absorb, begin_at, idle, taken_all}
use Rattle.network_model.specs.Connection.{delivering, hearing_work, is_deliverable, is_drained_pipe, losing}
use Rattle.network_model.specs.State.{NetworkState, stands, with_edge, with_pipe}
use Rattle.network_model.specs.Step.{step}
use Rattle.flight_laws.specs.Across.{IsMappingTaken, TakesAll}
use Rattle.flight_laws.specs.Ends.{IsOrdered, WorksOn, ends_at}
use Rattle.flight_laws.specs.Facts.{flight}
use Rattle.flight_laws.specs.Laws.{AreOnWay, IsRun, network_after}
use Rattle.flight_laws.specs.Messages.{AreSaid, octets_of_all}
use Rattle.flight_laws.specs.Pair.{AreFit, ArePaired}
use Rattle.flight_laws.specs.Rules.{AllMessages}
use Rattle.flight_laws.proofs.AcrossLemmas.{runs_take_mappings}
use Rattle.flight_laws.proofs.EventBindingLemmas.{happens_is}
use Rattle.flight_laws.proofs.EventLemmas.{hears_begin, losing_is, pipe_edges, stands_apart}
use Rattle.flight_laws.proofs.HearingLemmas.{HasHeard}
use Rattle.flight_laws.proofs.MendedRunLemmas.{IsMendedAt, run_mended_at}
use Rattle.flight_laws.proofs.MendingLemmas.{mends_keep}
use Rattle.flight_laws.proofs.MentionLemmas.{all_kept}
use Rattle.flight_laws.proofs.PipeLemmas.{all_edges, pipe_from, pipe_there, pipe_to}
use Rattle.flight_laws.proofs.ReadyLemmas.{IsReadyBetween, all_ready, same_messages}
use Rattle.flight_laws.proofs.RuledLemmas.{IsRuled}
use Rattle.flight_laws.proofs.RuledNetworkLemmas.{IsRuledNetwork, RulesTo, held_at, ruled_begin}
use Rattle.flight_laws.proofs.RuledRunLemmas.{run_ruled}
use Rattle.flight_laws.proofs.RunLemmas.{run_ordered}
use Rattle.flight_laws.proofs.SaidLemmas.{ready}
use Rattle.flight_laws.proofs.SettleLemmas.{edge_there}
use Rattle.flight_laws.proofs.SteadyLemmas.{steady_rows}
use Rattle.flight_laws.proofs.StayLemmas.{deliveries_end_none}
use Rattle.flight_laws.proofs.WorksLemmas.{works_begin, works_kept, works_steady}
use Rattle.spelling_laws.proofs.WorkLemmas.{works_standing}
use Rattle.quiet_laws.proofs.NetworkLemmas.{short_pdu}
use Rattle.quiet_laws.specs.Measure.{AreOnWays}
use Rattle.quiet_laws.proofs.RunLemmas.{fits_of, messages_of, ways_of, fit_below}
use Rattle.quiet_laws.proofs.ToldLemmas.{IsPlainOutcome, MovesOn, Telling, event_on, moves_not, moves_then, telling_steady, tells_not}
use Rattle.settle_bounds.specs.Bound.{allowed, bound, end_worth, fall_cost, flight_worth, lone_worth, may_fall, messages_worth, phase_worth, rise_cost}
use Rattle.settle_bounds.specs.Worth.{mend_cost, message_worth}
use Rattle.settle_bounds.proofs.EventLemmas.{fall_like, fall_puts, mending_pays, next_me}
use Rattle.settle_bounds.proofs.HearLemmas.{worth_some}
use Rattle.settle_bounds.proofs.HeardLemmas.{Fell, HasFallen, fallen_all, left_worth, whole_fall}
use Rattle.settle_bounds.proofs.NetworkLemmas.{HasWorked, bound_falls, worth_left}
use Rattle.settle_bounds.proofs.ReplyLemmas.{TellsWorth, event_worth, worth_then}
use Rattle.settle_bounds.proofs.WorthLemmas.{paid}

-- ---- edges of the plan

-- ---- one delivery

module _ (plan : Plan) (events : List Event) (run : IsRun plan events) (from to : EdgeId) (up : stands (network_after plan events) to.0 from.0 ≡ true) where
  abbrev network : NetworkState
  network = network_after plan events

  abbrev count : ℕ
  count = 65535

  abbrev ordered : IsOrdered plan network
  ordered = run_ordered plan events run

  ruled : IsRuledNetwork plan network
  ruled = run_ruled plan events run

  apart : nat_eq from.0 to.0 ≡ false
  apart = stands_apart plan network from.0 to.0 ordered up

  back_apart : nat_eq to.0 from.0 ≡ false
  back_apart = apart_back from.0 to.0 apart

  abbrev pipe : List ℕ
  pipe = network.pipes from.0 to.0

  abbrev later : NetworkState
  later = with_pipe from to (drop count pipe) network

  fit : AreFit (ends_at plan from.0 to.0)
  fit = fits_of plan network ordered from.0 to.0 apart up

  below : (from.0 < length plan.edges) × (to.0 < length plan.edges)
  below = fit_below plan from.0 to.0 fit

  abbrev old_messages : ℕ → ℕ → List Message
  old_messages = messages_of plan network ordered

  -- the far end stands
  abbrev far : Bool
  far = stands network from.0 to.0

  abbrev rise : ℕ
  rise = rise_cost plan network.edges to from.0

  abbrev fall : ℕ
  fall = fall_cost plan network.edges to from.0

  -- both ends of a connection that stood stand then
  abbrev Stay : NetworkState → Type 0
  Stay after = (a b : ℕ) → stands network a b ≡ true → stands network b a ≡ true → stands after b a ≡ true

  step_stays : Stay (step plan network (Deliver from to count)).state
  step_stays a b one other = (deliveries_end_none plan events run from to count a b (record { one = one; other = other })).other

  -- ---- octets are heard

  module _ (kept : Peering) (at : (network.edges to.0).peering from.0 ≡ Some kept) where
    pair : ArePaired (ends_at plan to.0 from.0) (ends_at plan from.0 to.0) (Some kept) ((network.edges from.0).peering to.0) (flight network to.0 from.0) (kept.held ++ pipe)
    pair = rw at at (ordered.two to.0 from.0 back_apart)

    on_way : AreOnWay plan network from.0 to.0 pair.answers
    on_way = record { octets = ap (λ (o : Option Peering). Rattle.network_model.specs.State.held_by o ++ pipe) at ∙ pair.back_is; said = pair.talk.answered }

    ready_all : AllMessages (IsReadyBetween (ends_at plan from.0 to.0)) pair.answers
    ready_all = all_ready (ends_at plan from.0 to.0) pair.answers fit pair.talk.answered

    back : RulesTo plan from.0 to.0 (network.edges from.0) (network.edges to.0) (flight network from.0 to.0)
    back = (ruled.two to.0 from.0 back_apart).1

    to_hear : AllMessages (IsRuled plan from.0 to.0 (network.edges from.0) (network.edges to.0)) pair.answers
    to_hear = subst (AllMessages (IsRuled plan from.0 to.0 (network.edges from.0) (network.edges to.0)))
        (same_messages (ends_at plan from.0 to.0) back.messages pair.answers
        (all_kept (IsRuled plan from.0 to.0 (network.edges from.0) (network.edges to.0)) (IsReadyBetween (ends_at plan from.0 to.0)) back.messages (λ m is. record { fit = is.fit; is = is.ready }) back.ruled)
        ready_all (sym back.octets ∙ on_way.octets)) back.ruled

    takes : TakesAll plan network from.0 to.0
    takes = runs_take_mappings plan events run from.0 to.0 apart

    taken : AllMessages (IsMappingTaken plan to.0 from.0) pair.answers
    taken = subst (AllMessages (IsMappingTaken plan to.0 from.0))
        (same_messages (ends_at plan from.0 to.0) takes.messages pair.answers (all_ready (ends_at plan from.0 to.0) takes.messages fit takes.on_way.said) ready_all (sym takes.on_way.octets ∙ on_way.octets)) takes.taken

    -- they are those of the bound
    same_ones : pair.answers ≡ old_messages from.0 to.0
    same_ones = same_messages (ends_at plan from.0 to.0) pair.answers (old_messages from.0 to.0) ready_all
        (all_ready (ends_at plan from.0 to.0) (old_messages from.0 to.0) fit (ways_of plan network ordered from.0 to.0 apart).said) (sym on_way.octets ∙ (ways_of plan network ordered from.0 to.0 apart).octets)

    abbrev octets : List ℕ
    octets = kept.held ++ take count pipe

    whole : octets ++ drop count pipe ≡ octets_of_all (ends_at plan from.0 to.0).me pair.answers
    whole = append_assoc kept.held (take count pipe) (drop count pipe) ∙ (ap (λ (l : List ℕ). kept.held ++ l) (take-append-drop count pipe) ∙ pair.back_is)

    abbrev Fallen : ℕ → List Message → Work → Type 0
    Fallen all = Fell plan run.checked run.types later to from back_apart apart network.edges (network.edges to.0) (held_at network to.0) (ruled.edges from.0).place (network.edges to.0).peering far all

    start : (all : ℕ) (messages : List Message) → pair.answers ≡ messages → (phase_worth kept.session.phase rise + lone_worth far fall) + messages_worth plan network.edges from.0 to.0 messages ≤ all
        → Fallen all messages (begin_at network to)
    start all messages is le = subst (λ (ms : List Message). Fallen all ms (begin_at network to)) is (record {
      hears = hears_begin plan from to (drop count pipe) network kept ordered apart at pair;
      told = [];
      are = tt;
      on = λ k. moves_not ((network.edges to.0).peering k);
      mended = run_mended_at plan events run to.0;
      bits = refl;
      facts = inr (record {
        ruled = record { works = ruled_begin plan network to ruled; to_hear = to_hear };
        taken = taken;
      });
      light = inr (subst (λ (o : Option Peering). end_worth far rise fall o
          + (0 + left_worth plan run.checked run.types later to from back_apart apart network.edges (network.edges to.0) (held_at network to.0) (ruled.edges from.0).place (network.edges to.0).peering far o pair.answers) ≤ all) (sym at)
          (as_much (phase_worth kept.session.phase rise + lone_worth far fall) (messages_worth plan network.edges from.0 to.0 pair.answers)
          (subst (λ (ms : List Message). (phase_worth kept.session.phase rise + lone_worth far fall) + messages_worth plan network.edges from.0 to.0 ms ≤ all) (sym is) le)));
    })
      where
        as_much : (r w : ℕ) → r + w ≤ all → r + (0 + w) ≤ all
        as_much r w le = omega (arith, le)

    abbrev result : Work
    result = hears plan taken_all from octets (begin_at network to)

    abbrev total : ℕ
    total = (phase_worth kept.session.phase rise + lone_worth far fall) + messages_worth plan network.edges from.0 to.0 pair.answers

    -- one message at least is there whole
    enough : (m : Message) (ms : List Message) → pair.answers ≡ m ∷ ms → length (written m (platform_of (ends_at plan from.0 to.0).me)) ≤ length octets
    enough m ms are =
        fits (length octets) (length (drop count pipe)) (length (written m (platform_of (ends_at plan from.0 to.0).me))) (length (octets_of_all (ends_at plan from.0 to.0).me ms)) (length pipe) (length kept.held) (length (take count pipe))
        (sym (length-append octets (drop count pipe)) ∙ (ap (λ (l : List ℕ). length l) (whole ∙ ap (octets_of_all (ends_at plan from.0 to.0).me) are)
        ∙ length-append (written m (platform_of (ends_at plan from.0 to.0).me)) (octets_of_all (ends_at plan from.0 to.0).me ms)))
        (length-drop count pipe) (length-append kept.held (take count pipe))
        (sym (length-append (take count pipe) (drop count pipe)) ∙ ap (λ (l : List ℕ). length l) (take-append-drop count pipe))
        (short_pdu (ends_at plan from.0 to.0) m fit (subst (AreSaid (ends_at plan from.0 to.0)) are pair.talk.answered).0)
      where
        fits : (l d w r p h t : ℕ) → l + d ≡ w + r → d ≡ p - 65535 → l ≡ h + t → t + d ≡ p → w ≤ 260 → w ≤ l
        fits l d w r p h t one two three four short = omega (arith, one, two, three, four, short)

    some_pipe : not (length pipe == 0) ≡ true → pair.answers ≡ [] → ⊥
    some_pipe some none = gone (length pipe) (length kept.held) some (sym (length-append kept.held pipe) ∙ ap (λ (l : List ℕ). length l) (pair.back_is ∙ ap (octets_of_all (ends_at plan from.0 to.0).me) none)) where
      gone : (p h : ℕ) → not (p == 0) ≡ true → h + p ≡ 0 → ⊥
      gone p h some none = grind (arith, nat_tests)

    heard : not (length pipe == 0) ≡ true → HasHeard from (ends_at plan from.0 to.0) (Fallen (total - 1)) (later.pipes from.0 to.0) result
    heard some = subst (λ (l : List ℕ). HasHeard from (ends_at plan from.0 to.0) (Fallen (total - 1)) l result) (sym (pipe_there from to (drop count pipe) network)) (by pair.answers refl) where
      by : (messages : List Message) → pair.answers ≡ messages → HasHeard from (ends_at plan from.0 to.0) (Fallen (total - 1)) (drop count pipe) result
      by [] none = absurd (some_pipe some none)
      by (m ∷ ms) are = whole_fall plan run.checked run.types later to from back_apart apart network.edges (network.edges to.0) (held_at network to.0) (ruled.edges from.0).place (network.edges to.0).peering far
          fit (total - 1) (length octets) octets (drop count pipe) m ms kept (begin_at network to) at (subst (AreSaid (ends_at plan from.0 to.0)) are pair.talk.answered)
          (whole ∙ ap (octets_of_all (ends_at plan from.0 to.0).me) are) (enough m ms are)
          (start (suc (total - 1)) (m ∷ ms) are
          (subst (λ (ms' : List Message). (phase_worth kept.session.phase rise + lone_worth far fall) + messages_worth plan network.edges from.0 to.0 ms' ≤ suc (total - 1)) are
          (one_more total)))
        where
          one_more : (n : ℕ) → n ≤ suc (n - 1)
          one_more n = omega arith

    work_is : hearing_work plan network from to (take count pipe) ≡ mends plan taken_all result
    work_is = ap (λ (o : Option Peering). octets_input plan taken_all from (take count pipe) o (begin_at network to)) at

    abbrev final : Work
    final = mends plan taken_all result

    total_some : not (length pipe == 0) ≡ true → 1 ≤ total
    total_some some = by pair.answers refl where
      more : (a w b : ℕ) → 1 ≤ w → 1 ≤ a + (w + b)
      more a w b some = omega (arith, some)

      by : (messages : List Message) → pair.answers ≡ messages → 1 ≤ (phase_worth kept.session.phase rise + lone_worth far fall) + messages_worth plan network.edges from.0 to.0 pair.answers
      by [] none = absurd (some_pipe some none)
      by (m ∷ ms) are = subst (λ (ms' : List Message). 1 ≤ (phase_worth kept.session.phase rise + lone_worth far fall) + messages_worth plan network.edges from.0 to.0 ms') (sym are)
          (more (phase_worth kept.session.phase rise + lone_worth far fall) (message_worth plan network.edges from.0 to.0 m) (messages_worth plan network.edges from.0 to.0 ms) (worth_some plan network.edges from.0 to.0 m))

    worked : not (length pipe == 0) ≡ true → Stay (absorb to 0 0 final later).state → HasWorked plan run.checked network later to from old_messages final
    worked some stays = record {
      works = fallen.works;
      told = fallen.told;
      are = fallen.are;
      others_on = fallen.others_on;
      bits = (mends_signals plan taken_all result).edge.bits ∙ (hears_signals plan taken_all from octets (begin_at network to)).edge.bits;
      left = fallen.left;
      said = fallen.said;
      behind = λ now at'. ap (λ (l : List ℕ). l ++ later.pipes from.0 to.0) (fallen.holding now at') ∙ fallen.behind;
      lighter = ⊎_elim (λ ended. absurd (both_ended ended.0 ended.1)) (λ light. by (final.edge.peering from.0) light) fallen.light;
    }
      where
        fallen : HasFallen plan run.checked run.types later to from back_apart apart network.edges (network.edges to.0) (held_at network to.0) (ruled.edges from.0).place (network.edges to.0).peering far (total - 1) final
        fallen = fallen_all plan run.checked run.types later to from back_apart apart network.edges (network.edges to.0) (held_at network to.0) (ruled.edges from.0).place (network.edges to.0).peering far (total - 1) result (heard some)

        own_edge : (absorb to 0 0 final later).state.edges to.0 ≡ final.edge
        own_edge = ap (λ (f : ℕ → EdgeState). f to.0) (all_edges to 0 0 final.effects (with_edge to final.edge later)) ∙ edge_there to final.edge later

        -- the edge's end stands where both did
        both_ended : far ≡ true → final.edge.peering from.0 ≡ None → ⊥
        both_ended both none = clash (sym (ap is_there (ap (λ (e : EdgeState). e.peering from.0) own_edge ∙ none)) ∙ stays from.0 to.0 both up)

        flight_is : flight_worth plan network old_messages from.0 to.0 ≡ messages_worth plan network.edges from.0 to.0 pair.answers
        flight_is = ap (λ (s : Bool). cond s (messages_worth plan network.edges from.0 to.0 (old_messages from.0 to.0)) 0) up
            ∙ ap (messages_worth plan network.edges from.0 to.0) (sym same_ones)

        end_is : end_worth far rise fall ((network.edges to.0).peering from.0) ≡ phase_worth kept.session.phase rise + lone_worth far fall
        end_is = ap (end_worth far rise fall) at

        less : (r c l e f k w : ℕ) → r + (c + l) ≤ (k + w) - 1 → 1 ≤ k + w → e ≡ k → f ≡ w → suc (r + (c + l)) ≤ e + f
        less r c l e f k w light some one two = omega (arith, light, some, one, two)

        by : (near : Option Peering) → end_worth far rise fall near + (paid plan run.checked network.edges to fallen.told
            + left_worth plan run.checked run.types later to from back_apart apart network.edges (network.edges to.0) (held_at network to.0) (ruled.edges from.0).place (network.edges to.0).peering far near fallen.left) ≤ total - 1
            → suc (end_worth far rise fall near + (paid plan run.checked network.edges to fallen.told + worth_left plan network.edges from.0 to.0 near fallen.left))
            ≤ end_worth far rise fall ((network.edges to.0).peering from.0) + flight_worth plan network old_messages from.0 to.0
        by None light = less 0 (paid plan run.checked network.edges to fallen.told) 0 (end_worth far rise fall ((network.edges to.0).peering from.0)) (flight_worth plan network old_messages from.0 to.0)
            (phase_worth kept.session.phase rise + lone_worth far fall) (messages_worth plan network.edges from.0 to.0 pair.answers) light (total_some some) end_is flight_is
        by (Some now) light = less (phase_worth now.session.phase rise + lone_worth far fall) (paid plan run.checked network.edges to fallen.told) (messages_worth plan network.edges from.0 to.0 fallen.left)
            (end_worth far rise fall ((network.edges to.0).peering from.0)) (flight_worth plan network old_messages from.0 to.0)
            (phase_worth kept.session.phase rise + lone_worth far fall) (messages_worth plan network.edges from.0 to.0 pair.answers) light (total_some some) end_is flight_is

  -- ---- an end is lost

  module _ (kept : Peering) (at : (network.edges to.0).peering from.0 ≡ Some kept) (lone : far ≡ false) where
    abbrev event_work : Work
    event_work = happens_with_ends taken_all from (Closed reason.Closed) (begin_at network to)

    works : WorksOn plan network to event_work
    works = (works_kept plan network to run.checked run.types).closed from (begin_at network to) (works_begin plan network to ordered)

    abbrev lost : Work
    lost = mends plan taken_all event_work

    abbrev Lost : Work → Type 0
    Lost = Telling plan to event_work.effects event_work.edge.peering (WorksOn plan network to) (works_steady plan network to) (works_standing plan network to)

    ends : Lost lost
    ends = mends_keep plan to Lost
        (steady_rows plan to run.checked run.types Lost (telling_steady plan to event_work.effects event_work.edge.peering (WorksOn plan network to) (works_steady plan network to) (works_standing plan network to))) event_work
        (works, (tells_not plan to.0 event_work.effects, λ k. moves_not (event_work.edge.peering k)))

    begun : WorksOn plan network to (begin_at network to)
    begun = works_begin plan network to ordered

    closed_outcome : outcome_of kept.session (Closed reason.Closed) ≡ Ends reason.Closed []
    closed_outcome = by kept.session.phase refl where
      by : (p : Phase) → kept.session.phase ≡ p → outcome_of kept.session (Closed reason.Closed) ≡ Ends reason.Closed []
      by phase.Initialized is = ap (λ (p : Phase). table p (Closed reason.Closed) (is_active kept.session.peers) kept.session) is
      by phase.OpenSent is = ap (λ (p : Phase). table p (Closed reason.Closed) (is_active kept.session.peers) kept.session) is
      by phase.OpenRec is = ap (λ (p : Phase). table p (Closed reason.Closed) (is_active kept.session.peers) kept.session) is
      by phase.Operational is = ap (λ (p : Phase). table p (Closed reason.Closed) (is_active kept.session.peers) kept.session) is

    event_tells : TellsWorth plan run.checked network.edges to from 0 [] event_work.effects
    event_tells = subst (λ (n : ℕ). TellsWorth plan run.checked network.edges to from n [] event_work.effects)
        (ap (Rattle.settle_bounds.proofs.ReplyLemmas.outcome_worth plan run.checked network.edges to from) closed_outcome)
        (event_worth plan run.checked network.edges to from (Closed reason.Closed) kept (begin_at network to) at (works_standing plan network to (begin_at network to) begun from.0 kept at)
        (subst (IsPlainOutcome (ends_at plan to.0 from.0)) (sym closed_outcome) refl))

    gone : event_work.edge.peering from.0 ≡ None
    gone = ap (λ (f : ℕ → Option Peering). f from.0) (clears_keep from (happens taken_all from (Closed reason.Closed) (begin_at network to)))
        ∙ (ap (λ (w : Work). w.edge.peering from.0) (happens_is from (Closed reason.Closed) kept (Ends reason.Closed []) (begin_at network to) at closed_outcome)
        ∙ ended_gone from reason.Closed (begin_at network to))

    mended : IsMendedAt plan to.0 (begin_at network to).edge
    mended = run_mended_at plan events run to.0

    mend_tells : TellsWorth plan run.checked network.edges to from (mend_cost plan to (allowed plan network.edges to (may_fall plan to from.0))) event_work.effects lost.effects
    mend_tells = record {
      tells = ends.1.0;
      worth = mending_pays plan run.checked network.edges to (may_fall plan to from.0) (fall_like plan to from.0) event_work (next_me plan run.checked to from (Closed reason.Closed) (begin_at network to) mended)
          (fall_puts plan run.checked to from (Closed reason.Closed) (begin_at network to) mended gone) ends.1.0;
    }

    tells : TellsWorth plan run.checked network.edges to from (0 + mend_cost plan to (allowed plan network.edges to (may_fall plan to from.0))) [] lost.effects
    tells = worth_then plan run.checked network.edges to from [] event_work.effects lost.effects 0 (mend_cost plan to (allowed plan network.edges to (may_fall plan to from.0))) event_tells mend_tells

    only_none : (o : Option Peering) → MovesOn None o → o ≡ None
    only_none None on = refl
    only_none (Some now) on = absurd on

    gone_then : lost.edge.peering from.0 ≡ None
    gone_then = only_none (lost.edge.peering from.0) (subst (λ (o : Option Peering). MovesOn o (lost.edge.peering from.0)) gone (ends.1.1 from.0))

    none_some : {k : Peering} → None ≡ Some k → ⊥
    none_some e = cc

    lost_worked : HasWorked plan run.checked network network to from old_messages lost
    lost_worked = record {
      works = ends.0;
      told = tells.tells.told;
      are = subst (λ (es : List Effect). Rattle.quiet_laws.proofs.ToldLemmas.AreTold plan to.0 es tells.tells.told) (sym tells.tells.joined) tells.tells.are;
      others_on = λ k away. moves_then ((network.edges to.0).peering k) (event_work.edge.peering k) (lost.edge.peering k)
          (event_on plan network to from back_apart run.checked run.types (Closed reason.Closed) (begin_at network to)
          (subst (MovesOn ((network.edges to.0).peering from.0)) (sym gone) tt) k) (ends.1.1 k);
      bits = (ended_signals plan taken_all from (begin_at network to)).edge.bits;
      left = [];
      said = tt;
      behind = λ now there. absurd (none_some (sym gone_then ∙ there));
      lighter = subst (λ (o : Option Peering). suc (end_worth far rise fall o + (paid plan run.checked network.edges to tells.tells.told + worth_left plan network.edges from.0 to.0 o []))
          ≤ end_worth far rise fall ((network.edges to.0).peering from.0) + flight_worth plan network old_messages from.0 to.0) (sym gone_then)
          (less (paid plan run.checked network.edges to tells.tells.told) (mend_cost plan to (allowed plan network.edges to (may_fall plan to from.0))) fall (phase_worth kept.session.phase rise) (lone_worth far fall)
          (end_worth far rise fall ((network.edges to.0).peering from.0)) (flight_worth plan network old_messages from.0 to.0) tells.worth refl (ap (λ (b : Bool). lone_worth b fall) lone) (ap (end_worth far rise fall) at));
    }
      where
        less : (c x f p l e w : ℕ) → c ≤ 0 + x → f ≡ suc x → l ≡ f → e ≡ p + l → suc (0 + (c + 0)) ≤ e + w
        less c x f p l e w few is one two = omega (arith, few, is, one, two)

  -- ---- in the network

  abbrev Lowers : NetworkState → Type 0
  Lowers after = (messages : ℕ → ℕ → List Message) → AreOnWays plan after messages → bound plan after messages < bound plan network old_messages

  heard_lowers : (kept : Peering) → (network.edges to.0).peering from.0 ≡ Some kept → not (length pipe == 0) ≡ true → Stay (delivering plan from to count network).state → Lowers (delivering plan from to count network).state
  heard_lowers kept at there = subst (λ (w : Work). Stay (absorb to 0 0 w later).state → Lowers (absorb to 0 0 w later).state) (sym (work_is kept at))
      (λ stays messages ways. bound_falls plan run.checked network later to from back_apart (pipe_edges from to (drop count pipe) network) (λ a b away. pipe_from from to (drop count pipe) network a b away)
      (λ a b away. pipe_to from to (drop count pipe) network a b away) old_messages messages (mends plan taken_all (result kept at)) (worked kept at there stays) (ways_of plan network ordered) ways
      (fits_of plan network ordered) ordered.alone stays below.1 below.0)

  lost_lowers : (kept : Peering) → (network.edges to.0).peering from.0 ≡ Some kept → far ≡ false → Stay (losing plan to from network).state → Lowers (losing plan to from network).state
  lost_lowers kept at lone = subst (λ (w : Work). Stay (absorb to 0 0 w network).state → Lowers (absorb to 0 0 w network).state) (sym (losing_is plan to from network up))
      (λ stays messages ways. bound_falls plan run.checked network network to from back_apart refl (λ a b away. refl) (λ a b away. refl) old_messages messages (lost kept at lone) (lost_worked kept at lone)
      (ways_of plan network ordered) ways (fits_of plan network ordered) ordered.alone stays below.1 below.0)

  -- what applies where nothing is left in the pipe: the far end is gone
  alone_then : is_deliverable network from.0 to.0 ≡ true → is_drained_pipe network from.0 to.0 ≡ true → far ≡ false
  alone_then applies drained = by far refl (second_holds (stands network to.0 from.0) (not (is_drained_pipe network from.0 to.0) || not far) applies) where
    by : (b : Bool) → far ≡ b → not (is_drained_pipe network from.0 to.0) || not far ≡ true → b ≡ false
    by true is either = clash (sym (rw (drained, is) refl) ∙ either)
    by false is either = refl

  by_end : is_deliverable network from.0 to.0 ≡ true → (near : Option Peering) → (network.edges to.0).peering from.0 ≡ near → (drained : Bool) → is_drained_pipe network from.0 to.0 ≡ drained
      → Stay (cond drained (losing plan to from network) (delivering plan from to count network)).state → Lowers (cond drained (losing plan to from network) (delivering plan from to count network)).state
  by_end applies None at drained is = clash (sym (ap is_there at) ∙ up)
  by_end applies (Some kept) at true is = lost_lowers kept at (alone_then applies is)
  by_end applies (Some kept) at false is = heard_lowers kept at (ap not is)

  -- each next delivery lowers the bound
  pub lowers : is_deliverable network from.0 to.0 ≡ true → Lowers (step plan network (Deliver from to count)).state
  lowers applies = by (is_deliverable network from.0 to.0) applies step_stays where
    by : (b : Bool) → b ≡ true → Stay (cond b (cond (is_drained_pipe network from.0 to.0) (losing plan to from network) (delivering plan from to count network)) (idle network)).state
        → Lowers (cond b (cond (is_drained_pipe network from.0 to.0) (losing plan to from network) (delivering plan from to count network)) (idle network)).state
    by true is = by_end applies ((network.edges to.0).peering from.0) refl (is_drained_pipe network from.0 to.0) refl
    by false is = clash is
