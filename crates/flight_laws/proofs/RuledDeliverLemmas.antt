-- Deliveries and connections keep the rules of labels and of told contents.
use Rattle.std.proofs.Common.{◌≡◌, ◌++◌, ◌&&◌, ◌||◌, ◌∙◌, ℕ, Bool, true, false, cond, not, nat_eq, take, drop, List, [], ◌∷◌, Option, Some, None, slice_get, refl, sym, ap, subst, append_assoc, inl, ⊎_elim, arith}
use Rattle.std.proofs.lemmas.Bool.{eqb-true}
use Rattle.std.proofs.lemmas.List.{take-append-drop}
use Rattle.net_values.proofs.BoolLemmas.{first_holds, clash, second_holds}
use Rattle.net_values.proofs.NumberLemmas.{same_number, apart_back}
use Rattle.net_base.specs.declared.plan.Plan.{Plan}
use Rattle.net_base.specs.declared.plan.edge_plan.EdgePlan.{EdgePlan}
use Rattle.net_base.specs.declared.plan.places.EdgeId.{EdgeId}
use Rattle.net_base.specs.plan.Accepted.{IsChecked}
use Rattle.net_base.specs.plan.Paths.{are_joined}
use Rattle.ldp_grammar.specs.declared.message.Message.{Message}
use Rattle.pw_signalling.specs.declared.binding.Binding.{Binding}
use Rattle.pw_signalling.specs.End.{EndState}
use Rattle.session_core.specs.declared.peers.Peers.{Peers}
use Rattle.edge_model.specs.Connection.{connects, connects_between, opened_with, peers_of}
use Rattle.edge_model.specs.Hear.{hears, octets_input}
use Rattle.edge_model.specs.Labels.{meeting}
use Rattle.edge_model.specs.Mend.{is_up_with, mends}
use Rattle.edge_model.specs.State.{EdgeState, Peering, is_there, with_kept}
use Rattle.edge_model.specs.Work.{Work, changes, idles}
use Rattle.network_model.specs.Absorb.{absorb_all, begin_at, idle, taken_all}
use Rattle.network_model.specs.Connection.{connect_event, connected_work, connecting, deliver_event, delivering, hearing_work, is_drained_pipe, losing}
use Rattle.network_model.specs.State.{NetworkState, held_by, stands, with_edge, with_pipe}
use Rattle.flight_laws.specs.Ends.{HasTypes, IsOrdered, IsPaired, ends_at}
use Rattle.flight_laws.specs.Facts.{FromBoth, LeavesTo, flight}
use Rattle.flight_laws.specs.Meeting.{closes, said_to}
use Rattle.flight_laws.specs.Messages.{AreSaid, octets_of_all}
use Rattle.flight_laws.specs.Pair.{AreFit, StandsIf}
use Rattle.flight_laws.specs.Rules.{AllMessages, BindsGiven}
use Rattle.flight_laws.specs.Sound.{IsSoundEnd, point_limit}
use Rattle.flight_laws.proofs.BetweenLemmas.{LeavesOthers, back_between, connected_two, out_between}
use Rattle.flight_laws.proofs.ConnectLemmas.{connected_is, none_on_way}
use Rattle.flight_laws.proofs.MentionLemmas.{KeepsMentions, all_kept, all_more}
use Rattle.flight_laws.proofs.NameLemmas.{KeepsNames, meeting_carried, meeting_named, meeting_rekept, names_same, rekept_has, rekept_least, rekept_owned, split}
use Rattle.flight_laws.proofs.PipeLemmas.{all_edges, pipe_from, pipe_to}
use Rattle.flight_laws.proofs.PlanLemmas.{ends_are, joined_apart, joined_turned}
use Rattle.flight_laws.proofs.ReadyLemmas.{IsReadyBetween, all_ready, same_messages}
use Rattle.flight_laws.proofs.RuledEventLemmas.{losing_ruled}
use Rattle.flight_laws.proofs.RuledInputLemmas.{idle_ruled}
use Rattle.flight_laws.proofs.RuledLemmas.{IsFitEnd, IsRuled, IsRuledEdge, IsRuledFor, WorksRuled, holds_of}
use Rattle.flight_laws.proofs.RuledNetworkLemmas.{Carries, IsRuledNetwork, OutRules, RulesTo, StaysRuled, carries_same, held_again, held_at, held_is, leaves_ruled, octets_held, ruled_begin, ruled_far, ruled_settle, rules_mentioned, stays_ruled}
use Rattle.flight_laws.proofs.RuledOctetsLemmas.{HasHeardRuled, connects_ruled, held_now, octets_ruled}
use Rattle.flight_laws.proofs.SaidLemmas.{all_joined}
use Rattle.flight_laws.proofs.SettleLemmas.{both_turn, edge_else, edge_there}

-- ---- messages are those that were said

ruled_ready : (plan : Plan) (a b : ℕ) (one other : EdgeState) (ms : List Message) → AllMessages (IsRuled plan a b one other) ms → AllMessages (IsReadyBetween (ends_at plan a b)) ms
ruled_ready plan a b one other ms ruled = all_kept (IsRuled plan a b one other) (IsReadyBetween (ends_at plan a b)) ms (λ m is. record { fit = is.fit; is = is.ready }) ruled

no_message : {P : Type 0} (ends : Peers) (m : Message) (ms : List Message) → [] ≡ octets_of_all ends.me (m ∷ ms) → P
no_message ends m ms e = absurd (cc)

-- of messages with the same octets, where one list of them was said, the other one was
pub ruled_said : (plan : Plan) (a b : ℕ) (one other : EdgeState) (ms said : List Message) → AllMessages (IsRuled plan a b one other) ms → AreSaid (ends_at plan a b) said
    → octets_of_all (ends_at plan a b).me ms ≡ octets_of_all (ends_at plan a b).me said → AreSaid (ends_at plan a b) ms
ruled_said plan a b one other [] said ruled are e = tt
ruled_said plan a b one other (m ∷ ms) said ruled are e =
    subst (AreSaid (ends_at plan a b)) (sym (same_messages (ends_at plan a b) (m ∷ ms) said (ruled_ready plan a b one other (m ∷ ms) ruled) (all_ready (ends_at plan a b) said ruled.0.fit are) e)) are

module _ (plan : Plan) (checked : IsChecked plan) (types : HasTypes plan) where
  -- ---- octets are delivered

  fit_of : (own other : Peers) (kept : Peering) (near : Option Peering) → near ≡ Some kept → StandsIf own other near → AreFit other
  fit_of own other kept None is stands = absurd (cc)
  fit_of own other kept (Some k) is stands = stands.between.two

  -- the rules speak of the edges, and those are the same with other octets on their way
  piped : (from to : EdgeId) (octets : List ℕ) (network after : NetworkState) → StaysRuled plan (with_pipe from to octets network) after → StaysRuled plan network after
  unfolding with_pipe
  piped from to octets network after stays = record { ruled = stays.ruled; keeps = stays.keeps }

  delivering_ruled : (from to : EdgeId) (count : ℕ) (network : NetworkState) (kept : Peering)
      → IsPaired plan to.0 from.0 (network.edges to.0) (network.edges from.0) (flight network to.0 from.0) (flight network from.0 to.0)
      → IsRuledNetwork plan network → nat_eq from.0 to.0 ≡ false → (network.edges to.0).peering from.0 ≡ Some kept → StaysRuled plan network (delivering plan from to count network).state
  unfolding with_pipe
  delivering_ruled from to count network kept pair ruled apart at =
      piped from to (drop count pipe) network _ (ruled_settle plan (with_pipe from to (drop count pipe) network) to 0 0 (network.edges to.0)
      (held_now from.0 heard.rest (held_at network to.0)) (hearing_work plan network from to (take count pipe))
      (λ a b differ away gone. (
        subst (RulesTo plan a b (network.edges a) (network.edges b))
            (ap (λ (l : List ℕ). held_by ((network.edges b).peering a) ++ l) (sym (pipe_to from to (drop count pipe) network a b gone))) (ruled.two a b differ).0,
        subst (RulesTo plan b a (network.edges b) (network.edges a))
            (ap (λ (l : List ℕ). held_by ((network.edges a).peering b) ++ l) (sym (pipe_to from to (drop count pipe) network b a away))) (ruled.two a b differ).1,
      ))
      (λ a away. ruled.edges a) (ruled.edges to.0).place
      (subst (WorksRuled plan network.edges to.0 (network.edges to.0) (held_now from.0 heard.rest (held_at network to.0))) (sym work_is) heard.works)
      (λ place away. subst (RulesTo plan to.0 place (network.edges to.0) (network.edges place))
      (ap (λ (l : List ℕ). held_by ((network.edges place).peering to.0) ++ l) (sym (pipe_from from to (drop count pipe) network to.0 place (apart_back from.0 to.0 apart))))
      (ruled.two to.0 place (apart_back place to.0 away)).0)
      (λ place away. split {P = Back place} (nat_eq place from.0)
      (λ is. subst (λ (k : ℕ). Back k) (sym (eqb-true place from.0 is)) from_peer)
      (λ other. from_other place away other))
      (names_same (network.edges to.0)))
    where
      pipe : List ℕ
      pipe = network.pipes from.0 to.0

      back : RulesTo plan from.0 to.0 (network.edges from.0) (network.edges to.0) (flight network from.0 to.0)
      back = (ruled.two to.0 from.0 (apart_back from.0 to.0 apart)).1

      whole : (kept.held ++ take count pipe) ++ drop count pipe ≡ octets_of_all (ends_at plan from.0 to.0).me back.messages
      whole = append_assoc kept.held (take count pipe) (drop count pipe)
          ∙ (ap (λ (l : List ℕ). kept.held ++ l) (take-append-drop count pipe) ∙ (ap (λ (o : Option Peering). held_by o ++ pipe) (sym at) ∙ back.octets))

      said : AreSaid (ends_at plan from.0 to.0) back.messages
      said = ruled_said plan from.0 to.0 (network.edges from.0) (network.edges to.0) back.messages pair.answers back.ruled pair.talk.answered (sym back.octets ∙ pair.back_is)

      heard : HasHeardRuled plan network.edges to.0 from.0 (network.edges to.0) (held_at network to.0) (drop count pipe)
          (mends plan taken_all (hears plan taken_all from (kept.held ++ take count pipe) (begin_at network to)))
      heard = octets_ruled plan checked types network.edges to from (network.edges to.0) (held_at network to.0) kept.held (kept.held ++ take count pipe) (drop count pipe) back.messages
          (begin_at network to) apart
          (ruled.edges from.0).place (ap (λ (o : Option Peering). holds_of o) at)
          (fit_of (ends_at plan to.0 from.0) (ends_at plan from.0 to.0) kept ((network.edges to.0).peering from.0) at pair.talk.here) said whole back.ruled (ruled_begin plan network to ruled)

      work_is : hearing_work plan network from to (take count pipe) ≡ mends plan taken_all (hears plan taken_all from (kept.held ++ take count pipe) (begin_at network to))
      work_is = ap (λ (o : Option Peering). octets_input plan taken_all from (take count pipe) o (begin_at network to)) at

      Back : ℕ → Type 0
      Back place = RulesTo plan place to.0 (network.edges place) (network.edges to.0)
          (octets_held (held_now from.0 heard.rest (held_at network to.0) place) ++ (with_pipe from to (drop count pipe) network).pipes place to.0)

      from_peer : Back from.0
      from_peer = rw (same_number from.0, same_number to.0) (record { messages = heard.later; octets = heard.behind; ruled = heard.ruled; bound = back.bound })

      from_other : (place : ℕ) → nat_eq place to.0 ≡ false → nat_eq place from.0 ≡ false → Back place
      from_other place away other = rw other
          (subst (λ (l : List ℕ). RulesTo plan place to.0 (network.edges place) (network.edges to.0) (l ++ network.pipes place to.0)) (held_again ((network.edges to.0).peering place))
          (ruled.two to.0 place (apart_back place to.0 away)).1)

  no_own_end : (a : ℕ) (network : NetworkState) (kept : Peering) → (network.edges a).peering a ≡ None → (network.edges a).peering a ≡ Some kept → ⊥
  no_own_end a network kept none is = clash2 (sym none ∙ is)
    where
      clash2 : {x : Peering} → None ≡ Some x → ⊥
      clash2 e = cc

  pub deliver_event_ruled : (from to : EdgeId) (count : ℕ) (network : NetworkState) → IsOrdered plan network → IsRuledNetwork plan network
      → StaysRuled plan network (deliver_event plan from to count network).state
  deliver_event_ruled from to count network ordered ruled = by_end ((network.edges to.0).peering from.0) refl where
    other : Bool
    other = not (is_drained_pipe network from.0 to.0) || not (stands network from.0 to.0)

    by_drained : (kept : Peering) → (network.edges to.0).peering from.0 ≡ Some kept → (b : Bool)
        → StaysRuled plan network (cond b (losing plan to from network) (delivering plan from to count network)).state
    by_drained kept at true = losing_ruled plan checked types to from network ruled
    by_drained kept at false = split {P = StaysRuled plan network (delivering plan from to count network).state} (nat_eq from.0 to.0)
        (λ is. absurd (no_own_end to.0 network kept (ordered.alone to.0) (ap (λ (k : ℕ). (network.edges to.0).peering k) (sym (eqb-true from.0 to.0 is)) ∙ at)))
        (λ apart. delivering_ruled from to count network kept (ordered.two to.0 from.0 (apart_back from.0 to.0 apart)) ruled apart at)

    by_test : (kept : Peering) → (network.edges to.0).peering from.0 ≡ Some kept → (b : Bool)
        → StaysRuled plan network (cond b (cond (is_drained_pipe network from.0 to.0) (losing plan to from network) (delivering plan from to count network)) (idle network)).state
    by_test kept at true = by_drained kept at (is_drained_pipe network from.0 to.0)
    by_test kept at false = stays_ruled plan network ruled

    by_end : (near : Option Peering) → (network.edges to.0).peering from.0 ≡ near → StaysRuled plan network (deliver_event plan from to count network).state
    by_end None at = rw (ap (λ (o : Option Peering). is_there o) at) (stays_ruled plan network ruled)
    by_end (Some kept) at = by_test kept at (stands network to.0 from.0 && other)

-- ---- a connection comes up

-- the edges in which the two have met: the rules hold between them with what is on its way now
pub record HasMet (plan : Plan) (network : NetworkState) (met : ℕ → EdgeState) (a b : ℕ) : Type 0 where
  pub edges : (k : ℕ) → IsRuledEdge plan k (met k)
  pub peering : (k : ℕ) → (met k).peering ≡ (network.edges k).peering
  pub rules : (x y : ℕ) → nat_eq x y ≡ false → RulesTo plan x y (met x) (met y) (flight network x y)
  pub carries : (k : ℕ) → Carries (network.edges k) (met k)
  pub else : (k : ℕ) → nat_eq k a ≡ false → nat_eq k b ≡ false → met k ≡ network.edges k

met_turned : (plan : Plan) (network : NetworkState) (met : ℕ → EdgeState) (a b : ℕ) → HasMet plan network met a b → HasMet plan network met b a
met_turned plan network met a b is = record { edges = is.edges; peering = is.peering; rules = is.rules; carries = is.carries; else = λ k one two. is.else k two one }

-- where nothing comes of it, the edges are as they were
met_none : (plan : Plan) (network : NetworkState) (a b : ℕ) → IsRuledNetwork plan network → HasMet plan network network.edges a b
met_none plan network a b ruled = record {
  edges = ruled.edges;
  peering = λ k. refl;
  rules = λ x y apart. (ruled.two x y apart).0;
  carries = λ k. carries_same (network.edges k);
  else = λ k one two. refl;
}

nand : (a b : Bool) → a && b ≡ false → a ≡ true → b ≡ false
nand true b none is = none
nand false b none is = clash is

contra : (a b : Bool) → (a ≡ true → b ≡ false) → b ≡ true → a ≡ false
contra true b next is = clash (sym (next refl) ∙ is)
contra false b next is = refl

meeting_is : (beside : EdgeId) (edge : EdgeState) → ((meeting beside edge).me ≡ edge.me) × ((meeting beside edge).ends ≡ edge.ends) × ((meeting beside edge).peering ≡ edge.peering)
unfolding with_kept
meeting_is beside edge = (refl, refl, refl)

meeting_edge : (plan : Plan) (me : ℕ) (beside : EdgeId) (edge : EdgeState) → IsRuledEdge plan me edge → IsRuledEdge plan me (meeting beside edge)
unfolding with_kept
meeting_edge plan me beside edge ruled = record {
  place = ruled.place;
  owned = rekept_owned edge (meeting beside edge) (meeting_rekept beside edge) ruled.rests ruled.owned;
  rests = rekept_has edge (meeting beside edge) (meeting_rekept beside edge) ruled.rests;
  least = rekept_least 16 edge (meeting beside edge) (meeting_rekept beside edge) ruled.least;
  most = ruled.most;
  bits = ruled.bits;
  tells = ruled.tells;
  sessions = ruled.sessions;
}

module _ (plan : Plan) (network : NetworkState) (from to : EdgeId) (apart : nat_eq from.0 to.0 ≡ false) (ordered : IsOrdered plan network) (ruled : IsRuledNetwork plan network)
    (one : (network.edges from.0).peering to.0 ≡ None) (other : (network.edges to.0).peering from.0 ≡ None) where
  -- both edges have met
  abbrev pub met : ℕ → EdgeState
  met k = cond (nat_eq k from.0) (meeting to (network.edges k)) (cond (nat_eq k to.0) (meeting from (network.edges k)) (network.edges k))

  met_fact : (P : EdgeState → Type 0) (k : ℕ) → P (network.edges k) → ((beside : EdgeId) → P (meeting beside (network.edges k))) → P (met k)
  met_fact P k stays meets = by (nat_eq k from.0) (nat_eq k to.0) where
    by : (x y : Bool) → P (cond x (meeting to (network.edges k)) (cond y (meeting from (network.edges k)) (network.edges k)))
    by true y = meets to
    by false true = meets from
    by false false = stays

  met_mentions : (k p : ℕ) → (nat_eq k from.0 ≡ true → nat_eq p to.0 ≡ false) → (nat_eq k to.0 ≡ true → nat_eq p from.0 ≡ false) → KeepsMentions p (network.edges k) (met k)
  met_mentions k p away gone = by (nat_eq k from.0) refl (nat_eq k to.0) refl where
    by : (x : Bool) → nat_eq k from.0 ≡ x → (y : Bool) → nat_eq k to.0 ≡ y
        → KeepsMentions p (network.edges k) (cond x (meeting to (network.edges k)) (cond y (meeting from (network.edges k)) (network.edges k)))
    by true is y too = λ wire label may. meeting_named to (network.edges k) wire p label None (away is) may
    by false is true too = λ wire label may. meeting_named from (network.edges k) wire p label None (gone too) may
    by false is false too = λ wire label may. may

  met_me : (k : ℕ) → (met k).me ≡ (network.edges k).me
  met_me k = met_fact (λ e. e.me ≡ (network.edges k).me) k refl (λ beside. (meeting_is beside (network.edges k)).0)

  met_ends : (k : ℕ) → (met k).ends ≡ (network.edges k).ends
  met_ends k = met_fact (λ e. e.ends ≡ (network.edges k).ends) k refl (λ beside. (meeting_is beside (network.edges k)).1)

  -- between edges that did not meet each other
  rules_else : (x y : ℕ) → nat_eq x y ≡ false → (nat_eq x from.0 ≡ true → nat_eq y to.0 ≡ false) → (nat_eq x to.0 ≡ true → nat_eq y from.0 ≡ false)
      → RulesTo plan x y (met x) (met y) (flight network x y)
  rules_else x y differ away gone =
      rules_mentioned plan x y (network.edges x) (met x) (network.edges y) (met y) (flight network x y) (met_me x) (met_me y) (met_ends y)
      (met_mentions x y away gone)
      (met_mentions y x (contra (nat_eq x to.0) (nat_eq y from.0) gone) (contra (nat_eq x from.0) (nat_eq y to.0) away))
      (ruled.two x y differ).0

  -- between the two: nothing is on its way, and nothing is bound
  held_none : (near : Option Peering) → near ≡ None → held_by near ≡ []
  held_none None is = refl
  held_none (Some kept) is = absurd (cc)

  none_held : (limit : ℕ) (near : Option Peering) (e : EndState) → near ≡ None → IsSoundEnd limit (is_up_with near) e → e.remote ≡ None
  none_held limit None e is sound = sound.1
  none_held limit (Some kept) e is sound = absurd (cc)

  binds_none : (edge : EdgeState) (wire peer : ℕ) (held : Option Binding) → held ≡ None → BindsGiven edge wire peer held
  binds_none edge wire peer None is = tt
  binds_none edge wire peer (Some binding) is = absurd (cc)

  silent : (x y : ℕ) → nat_eq x y ≡ false → (network.edges x).peering y ≡ None → (network.edges y).peering x ≡ None → RulesTo plan x y (met x) (met y) (flight network x y)
  silent x y differ near far = record {
    messages = [];
    octets = ap (λ (l : List ℕ). l ++ network.pipes x y) (held_none ((network.edges y).peering x) far) ∙ none_on_way plan network x y ordered differ near far;
    ruled = tt;
    bound = λ wire. binds_none (met x) wire y ((met y).ends wire x).remote
        (ap (λ (f : ℕ → ℕ → EndState). (f wire x).remote) (met_ends y)
        ∙ none_held (point_limit plan y wire) ((network.edges y).peering x) ((network.edges y).ends wire x) far ((ordered.sound y).ends wire x));
  }

  moved : (x y a b : ℕ) → nat_eq x a ≡ true → nat_eq y b ≡ true → (network.edges a).peering b ≡ None → (network.edges x).peering y ≡ None
  moved x y a b same too is = ap (λ (n : ℕ). (network.edges n).peering y) (eqb-true x a same) ∙ (ap (λ (n : ℕ). (network.edges a).peering n) (eqb-true y b too) ∙ is)

  met_rules : (x y : ℕ) → nat_eq x y ≡ false → RulesTo plan x y (met x) (met y) (flight network x y)
  met_rules x y differ = by (nat_eq x from.0 && nat_eq y to.0) refl (nat_eq x to.0 && nat_eq y from.0) refl where
    by : (here : Bool) → nat_eq x from.0 && nat_eq y to.0 ≡ here → (there : Bool) → nat_eq x to.0 && nat_eq y from.0 ≡ there → RulesTo plan x y (met x) (met y) (flight network x y)
    by true is there too =
        let same : nat_eq x from.0 ≡ true = first_holds (nat_eq x from.0) (nat_eq y to.0) is in
        let also : nat_eq y to.0 ≡ true = second_holds (nat_eq x from.0) (nat_eq y to.0) is in
        silent x y differ (moved x y from.0 to.0 same also one) (moved y x to.0 from.0 also same other)
    by false is true too =
        let same : nat_eq x to.0 ≡ true = first_holds (nat_eq x to.0) (nat_eq y from.0) too in
        let also : nat_eq y from.0 ≡ true = second_holds (nat_eq x to.0) (nat_eq y from.0) too in
        silent x y differ (moved x y to.0 from.0 same also other) (moved y x from.0 to.0 also same one)
    by false is false too = rules_else x y differ (nand (nat_eq x from.0) (nat_eq y to.0) is) (nand (nat_eq x to.0) (nat_eq y from.0) too)

  pub have_met : HasMet plan network met from.0 to.0
  have_met = record {
    edges = λ k. met_fact (IsRuledEdge plan k) k (ruled.edges k) (λ beside. meeting_edge plan k beside (network.edges k) (ruled.edges k));
    peering = λ k. met_fact (λ e. e.peering ≡ (network.edges k).peering) k refl (λ beside. (meeting_is beside (network.edges k)).2);
    rules = met_rules;
    carries = λ k. met_fact (Carries (network.edges k)) k (carries_same (network.edges k)) (λ beside wire peer age label may. meeting_carried beside (network.edges k) wire peer age label may);
    else = λ k away gone. rw (away, gone) refl;
  }

  pub met_from : met from.0 ≡ meeting to (network.edges from.0)
  met_from = rw (same_number from.0) refl

  pub met_to : met to.0 ≡ meeting from (network.edges to.0)
  met_to = rw (apart_back from.0 to.0 apart, same_number to.0) refl

-- an edge begins, where it has met
met_begin : (plan : Plan) (network : NetworkState) (met : ℕ → EdgeState) (a b : ℕ) (me : EdgeId) (work : Work) → HasMet plan network met a b → work.edge ≡ met me.0 → work.effects ≡ []
    → WorksRuled plan met me.0 (met me.0) (held_at network me.0) work
met_begin plan network met a b me work is same none = record {
  edge = subst (IsRuledEdge plan me.0) (sym same) (is.edges me.0);
  keeps = subst (λ (e : EdgeState). KeepsNames (met me.0) e) (sym same) (names_same (met me.0));
  left = λ place away. record {
    messages = [];
    octets = ap (said_to place) none;
    ruled = tt;
    bound = λ wire. subst (λ (e : EdgeState). BindsGiven (met place) wire me.0 (e.ends wire place).remote) (sym same) ((is.rules place me.0 away).bound wire);
    inward = inl (ap (λ (e : EdgeState). holds_of (e.peering place)) same ∙ ap (λ (f : ℕ → Option Peering). holds_of (f place)) (is.peering me.0), ap (closes place) none);
  };
}

-- the work of an edge whose end may have come to stand: it holds nothing of the peer
pub record HasConnected (plan : Plan) (network : NetworkState) (met : ℕ → EdgeState) (me peer : EdgeId) (work : Work) : Type 0 where
  pub held : ℕ → Option (List ℕ)
  pub works : WorksRuled plan met me.0 (met me.0) held work
  pub same : (place : ℕ) → nat_eq place peer.0 ≡ false → held place ≡ held_at network me.0 place
  pub none : octets_held (held peer.0) ≡ []
  pub carries : Carries (network.edges me.0) work.edge

no_octets_held : (near : Option Peering) → is_there near ≡ false → octets_held (holds_of near) ≡ []
no_octets_held None none = refl
no_octets_held (Some kept) none = clash (sym none)

pub no_octets_by : (near : Option Peering) → is_there near ≡ false → held_by near ≡ []
no_octets_by None none = refl
no_octets_by (Some kept) none = clash (sym none)

carries_on : (plan : Plan) (network : NetworkState) (met : ℕ → EdgeState) (a b me : ℕ) (held : ℕ → Option (List ℕ)) (work : Work) → HasMet plan network met a b
    → WorksRuled plan met me (met me) held work → Carries (network.edges me) work.edge
carries_on plan network met a b me held work is works wire peer age label may = works.keeps.names wire peer label (Some age) (is.carries me wire peer age label may)

module _ (plan : Plan) (checked : IsChecked plan) (types : HasTypes plan) where
  -- nothing comes of it
  idle_connected : (a b : ℕ) (me peer : EdgeId) (network : NetworkState) → stands network me.0 peer.0 ≡ false → IsRuledNetwork plan network
      → HasConnected plan network network.edges me peer (idles (begin_at network me))
  idle_connected a b me peer network none ruled =
      let works : WorksRuled plan network.edges me.0 (network.edges me.0) (held_at network me.0) (idles (begin_at network me)) =
      idle_ruled plan checked types network.edges me (network.edges me.0) (held_at network me.0) (begin_at network me) (ruled_begin plan network me ruled) in
      record {
        held = held_at network me.0;
        works = works;
        same = λ place away. refl;
        none = no_octets_held ((network.edges me.0).peering peer.0) none;
        carries = carries_on plan network network.edges a b me.0 (held_at network me.0) (idles (begin_at network me)) (met_none plan network a b ruled) works;
      }

  began_is : (me peer : EdgeId) (network : NetworkState) → ((changes (meeting peer) (begin_at network me)).edge ≡ meeting peer (network.edges me.0))
      × ((changes (meeting peer) (begin_at network me)).effects ≡ [])
  unfolding changes
  began_is me peer network = (refl, refl)

  -- its end stands
  up_connected : (met : ℕ → EdgeState) (a b : ℕ) (me peer : EdgeId) (network : NetworkState) (own other : EdgePlan) → HasMet plan network met a b → met me.0
      ≡ meeting peer (network.edges me.0) → nat_eq me.0 peer.0 ≡ false
      → slice_get plan.edges me.0 ≡ Some own → slice_get plan.edges peer.0 ≡ Some other
      → HasConnected plan network met me peer (mends plan taken_all (connects taken_all peer (opened_with own other) (begin_at network me)))
  up_connected met a b me peer network own other is at apart row too =
      let began = began_is me peer network in
      let result : Work = mends plan taken_all (connects taken_all peer (opened_with own other) (begin_at network me)) in
      let works : WorksRuled plan met me.0 (met me.0) (held_now peer.0 [] (held_at network me.0)) result =
      connects_ruled plan checked types met me peer (met me.0) (held_at network me.0) (opened_with own other) (begin_at network me) refl refl fits
      (met_begin plan network met a b me (changes (meeting peer) (begin_at network me)) is (began.0 ∙ sym at) began.1) in
      record {
        held = held_now peer.0 [] (held_at network me.0);
        works = works;
        same = λ place away. rw away refl;
        none = rw (same_number peer.0) refl;
        carries = carries_on plan network met a b me.0 (held_now peer.0 [] (held_at network me.0)) result is works;
      }
    where
      ends_is : ends_at plan me.0 peer.0 ≡ peers_of own other
      ends_is = rw (row, too) refl

      fits : IsFitEnd (ends_at plan me.0 peer.0) (opened_with own other)
      fits = record {
        session = record { peers = sym ends_is; least = omega arith; most = omega arith };
        fit = subst AreFit (sym ends_is) (ends_are plan me.0 peer.0 own other checked types row too apart).one;
        numbered = omega arith;
      }

-- what is between two edges of which both have worked
between_rules : (plan : Plan) (a b : ℕ) (network : NetworkState) (one other : Work) (near far : EdgeState) → RulesTo plan a b near far (network.pipes a b) → one.edge.me ≡ near.me
    → other.edge.me ≡ far.me
    → Rattle.flight_laws.proofs.NameLemmas.KeepsNames near one.edge → Rattle.flight_laws.proofs.NameLemmas.KeepsNames far other.edge → (said : Option (List ℕ))
    → IsRuledFor plan a b far said one → (wire_bound : (wire : ℕ) → BindsGiven near wire b (other.edge.ends wire a).remote)
    → RulesTo plan a b one.edge other.edge (network.pipes a b ++ said_to b one.effects)
between_rules plan a b network one other near far pipe same too keeps kept held left bound = record {
  messages = pipe.messages ++ left.messages;
  octets = ap (λ (l : List ℕ). l ++ said_to b one.effects) pipe.octets
      ∙ (ap (λ (l : List ℕ). octets_of_all (ends_at plan a b).me pipe.messages ++ l) left.octets ∙ sym (all_joined (ends_at plan a b).me pipe.messages left.messages));
  ruled = all_more (IsRuled plan a b one.edge other.edge) pipe.messages left.messages
      (all_kept (IsRuled plan a b near far) (IsRuled plan a b one.edge other.edge) pipe.messages
      (λ m ruled. Rattle.flight_laws.proofs.RuledLemmas.ruled_kept plan a b near one.edge other.edge m same keeps (ruled_far plan a b near far other.edge m too kept ruled)) pipe.ruled)
      (all_kept (IsRuled plan a b one.edge far) (IsRuled plan a b one.edge other.edge) left.messages (λ m ruled. ruled_far plan a b one.edge far other.edge m too kept ruled) left.ruled);
  bound = λ wire. Rattle.flight_laws.proofs.MentionLemmas.binds_kept near one.edge wire b (other.edge.ends wire a).remote keeps (bound wire);
}

-- the same, where nothing more was taken
between_still : (plan : Plan) (a b : ℕ) (network : NetworkState) (one other : Work) (near far : EdgeState) → RulesTo plan a b near far (network.pipes a b) → one.edge.me ≡ near.me
    → other.edge.me ≡ far.me
    → Rattle.flight_laws.proofs.NameLemmas.KeepsNames near one.edge → Rattle.flight_laws.proofs.NameLemmas.KeepsNames far other.edge
    → (wire_bound : (wire : ℕ) → BindsGiven near wire b (other.edge.ends wire a).remote)
    → RulesTo plan a b one.edge other.edge (network.pipes a b)
between_still plan a b network one other near far pipe same too keeps kept bound = record {
  messages = pipe.messages;
  octets = pipe.octets;
  ruled = all_kept (IsRuled plan a b near far) (IsRuled plan a b one.edge other.edge) pipe.messages
      (λ m ruled. Rattle.flight_laws.proofs.RuledLemmas.ruled_kept plan a b near one.edge other.edge m same keeps (ruled_far plan a b near far other.edge m too kept ruled)) pipe.ruled;
  bound = λ wire. Rattle.flight_laws.proofs.MentionLemmas.binds_kept near one.edge wire b (other.edge.ends wire a).remote keeps (bound wire);
}

-- nothing is on its way
between_none : (plan : Plan) (a b : ℕ) (one other : Work) (near : EdgeState) → Rattle.flight_laws.proofs.NameLemmas.KeepsNames near one.edge
    → (wire_bound : (wire : ℕ) → BindsGiven near wire b (other.edge.ends wire a).remote) → RulesTo plan a b one.edge other.edge []
between_none plan a b one other near keeps bound = record {
  messages = [];
  octets = refl;
  ruled = tt;
  bound = λ wire. Rattle.flight_laws.proofs.MentionLemmas.binds_kept near one.edge wire b (other.edge.ends wire a).remote keeps (bound wire);
}

module _ (plan : Plan) (a b : EdgeId) (network : NetworkState) (met : ℕ → EdgeState) (one other : Work) (up : HasConnected plan network met a b one) (too : HasConnected plan network met b a other) (apart : nat_eq a.0 b.0 ≡ false)
    (is_met : HasMet plan network met a.0 b.0) (none : stands network b.0 a.0 ≡ false) where
  base : RulesTo plan a.0 b.0 (met a.0) (met b.0) (network.pipes a.0 b.0)
  base = subst (λ (l : List ℕ). RulesTo plan a.0 b.0 (met a.0) (met b.0) (l ++ network.pipes a.0 b.0)) (no_octets_by ((network.edges b.0).peering a.0) none) (is_met.rules a.0 b.0 apart)

  bound_is : (wire : ℕ) → BindsGiven (met a.0) wire b.0 (other.edge.ends wire a.0).remote
  bound_is wire = (too.works.left a.0 apart).bound wire

  one_me : one.edge.me ≡ (met a.0).me
  one_me = up.works.edge.place ∙ sym (is_met.edges a.0).place

  other_me : other.edge.me ≡ (met b.0).me
  other_me = too.works.edge.place ∙ sym (is_met.edges b.0).place

  -- where the other end still stands
  stands_between : (there : Bool) → RulesTo plan a.0 b.0 one.edge other.edge (cond there (network.pipes a.0 b.0 ++ said_to b.0 one.effects) (network.pipes a.0 b.0))
  stands_between true = between_rules plan a.0 b.0 network one other (met a.0) (met b.0) base one_me other_me up.works.keeps too.works.keeps (up.held b.0)
      (up.works.left b.0 (apart_back a.0 b.0 apart)) bound_is
  stands_between false = between_still plan a.0 b.0 network one other (met a.0) (met b.0) base one_me other_me up.works.keeps too.works.keeps bound_is

  none_between : RulesTo plan a.0 b.0 one.edge other.edge []
  none_between = between_none plan a.0 b.0 one other (met a.0) up.works.keeps bound_is

  pub between_ruled : RulesTo plan a.0 b.0 one.edge other.edge
      (held_by (other.edge.peering a.0) ++ cond (closes a.0 other.effects) [] (cond (is_there (other.edge.peering a.0)) (network.pipes a.0 b.0 ++ said_to b.0 one.effects) (network.pipes a.0 b.0)))
  between_ruled = ⊎_elim
      (λ (stays : (holds_of (other.edge.peering a.0) ≡ too.held a.0) × (closes a.0 other.effects ≡ false)).
      subst (RulesTo plan a.0 b.0 one.edge other.edge)
      (sym (ap (λ (c : Bool). held_by (other.edge.peering a.0) ++ cond c [] more) stays.1 ∙ ap (λ (l : List ℕ). l ++ more) (held_is (other.edge.peering a.0) (too.held a.0) stays.0 ∙ too.none)))
      (stands_between (is_there (other.edge.peering a.0))))
      (λ (gone : (other.edge.peering a.0 ≡ None) × (closes a.0 other.effects ≡ true)).
      subst (RulesTo plan a.0 b.0 one.edge other.edge)
      (sym (ap (λ (c : Bool). held_by (other.edge.peering a.0) ++ cond c [] more) gone.1 ∙ ap (λ (o : Option Peering). held_by o ++ []) gone.0))
      none_between)
      (too.works.left a.0 apart).inward
    where
      more : List ℕ
      more = cond (is_there (other.edge.peering a.0)) (network.pipes a.0 b.0 ++ said_to b.0 one.effects) (network.pipes a.0 b.0)

  pub behind_ruled : RulesTo plan a.0 b.0 one.edge other.edge
      (held_by (other.edge.peering a.0) ++ cond (is_there (other.edge.peering a.0)) (cond (closes a.0 other.effects) [] (network.pipes a.0 b.0) ++ said_to b.0 one.effects)
      (cond (closes a.0 other.effects) [] (network.pipes a.0 b.0)))
  behind_ruled = ⊎_elim
      (λ (stays : (holds_of (other.edge.peering a.0) ≡ too.held a.0) × (closes a.0 other.effects ≡ false)).
      subst (RulesTo plan a.0 b.0 one.edge other.edge)
      (sym (ap (λ (c : Bool). held_by (other.edge.peering a.0) ++ more c (is_there (other.edge.peering a.0))) stays.1
      ∙ ap (λ (l : List ℕ). l ++ more false (is_there (other.edge.peering a.0))) (held_is (other.edge.peering a.0) (too.held a.0) stays.0 ∙ too.none)))
      (stands_between (is_there (other.edge.peering a.0))))
      (λ (gone : (other.edge.peering a.0 ≡ None) × (closes a.0 other.effects ≡ true)).
      subst (RulesTo plan a.0 b.0 one.edge other.edge)
      (sym (ap (λ (c : Bool). held_by (other.edge.peering a.0) ++ more c (is_there (other.edge.peering a.0))) gone.1 ∙ ap (λ (o : Option Peering). held_by o ++ more true (is_there o)) gone.0))
      none_between)
      (too.works.left a.0 apart).inward
    where
      more : Bool → Bool → List ℕ
      more closed there = cond there (cond closed [] (network.pipes a.0 b.0) ++ said_to b.0 one.effects) (cond closed [] (network.pipes a.0 b.0))

module _ (plan : Plan) (checked : IsChecked plan) (types : HasTypes plan) where
  -- for every other edge
  others_ruled : (met : ℕ → EdgeState) (me peer : EdgeId) (network : NetworkState) (work : Work) → HasMet plan network met me.0 peer.0 → HasConnected plan network met me peer work
      → LeavesOthers (FromBoth (OutRules plan)) network me peer work
  others_ruled met me peer network work is up place away gone =
      subst (λ (e : EdgeState). LeavesTo (FromBoth (OutRules plan)) me place e (flight network me.0 place) (network.pipes place me.0) work) (is.else place away gone)
      (leaves_ruled plan me place (met me.0) (met place) (flight network me.0 place) (network.pipes place me.0) (up.held place) work (is.rules me.0 place (apart_back place me.0 away))
      (subst (λ (o : Option (List ℕ)). RulesTo plan place me.0 (met place) (met me.0) (octets_held o ++ network.pipes place me.0)) (sym (up.same place gone))
      (subst (λ (l : List ℕ). RulesTo plan place me.0 (met place) (met me.0) (l ++ network.pipes place me.0)) (held_again ((network.edges me.0).peering place)) (is.rules place me.0 away)))
      (up.works.edge.place ∙ sym (is.edges me.0).place) up.works.keeps (up.works.left place away))

  connecting_ruled : (from to : EdgeId) (network : NetworkState) (met : ℕ → EdgeState) (first second : Work) → HasMet plan network met from.0 to.0 → nat_eq from.0 to.0 ≡ false
      → stands network from.0 to.0 ≡ false → stands network to.0 from.0 ≡ false → IsRuledNetwork plan network
      → HasConnected plan network met from to first → HasConnected plan network met to from second → StaysRuled plan network (connecting from first to second network).state
  unfolding out_between back_between
  connecting_ruled from to network met first second is_met apart none_here none_there ruled up too = record {
    ruled = record {
      edges = λ a. split {P = IsRuledEdge plan a (after.edges a)} (nat_eq a to.0)
          (λ is. subst (λ (k : ℕ). IsRuledEdge plan k (after.edges k)) (sym (eqb-true a to.0 is)) (subst (IsRuledEdge plan to.0) (sym second_edge) too.works.edge))
          (λ here. split {P = IsRuledEdge plan a (after.edges a)} (nat_eq a from.0)
          (λ is. subst (λ (k : ℕ). IsRuledEdge plan k (after.edges k)) (sym (eqb-true a from.0 is)) (subst (IsRuledEdge plan from.0) (sym first_edge) up.works.edge))
          (λ away. subst (IsRuledEdge plan a) (sym (other_edge a away here)) (ruled.edges a)));
      two = connected_two (FromBoth (OutRules plan)) network from to first second (both_turn (OutRules plan)) apart ruled.two
          (others_ruled met from to network first is_met up) (others_ruled met to from network second (met_turned plan network met from.0 to.0 is_met) too) (
            between_ruled plan from to network met first second up too apart is_met none_there,
            behind_ruled plan to from network met second first too up (apart_back from.0 to.0 apart) (met_turned plan network met from.0 to.0 is_met) none_here,
          );
    };
    keeps = λ k. split {P = Carries (network.edges k) (after.edges k)} (nat_eq k to.0)
        (λ is. subst (λ (n : ℕ). Carries (network.edges n) (after.edges n)) (sym (eqb-true k to.0 is)) (subst (Carries (network.edges to.0)) (sym second_edge) too.carries))
        (λ here. split {P = Carries (network.edges k) (after.edges k)} (nat_eq k from.0)
        (λ is. subst (λ (n : ℕ). Carries (network.edges n) (after.edges n)) (sym (eqb-true k from.0 is)) (subst (Carries (network.edges from.0)) (sym first_edge) up.carries))
        (λ away. subst (Carries (network.edges k)) (sym (other_edge k away here)) (carries_same (network.edges k))));
  }
    where
      begun : NetworkState
      begun = with_edge to second.edge (with_edge from first.edge network)

      middle : NetworkState
      middle = absorb_all from 0 0 first.effects begun

      after : NetworkState
      after = absorb_all to 0 0 second.effects middle

      edges : after.edges ≡ begun.edges
      edges = all_edges to 0 0 second.effects middle ∙ all_edges from 0 0 first.effects begun

      first_edge : after.edges from.0 ≡ first.edge
      first_edge = ap (λ (f : ℕ → EdgeState). f from.0) edges ∙ (edge_else to second.edge (with_edge from first.edge network) from.0 apart ∙ edge_there from first.edge network)

      second_edge : after.edges to.0 ≡ second.edge
      second_edge = ap (λ (f : ℕ → EdgeState). f to.0) edges ∙ edge_there to second.edge (with_edge from first.edge network)

      other_edge : (a : ℕ) → nat_eq a from.0 ≡ false → nat_eq a to.0 ≡ false → after.edges a ≡ network.edges a
      other_edge a away here = ap (λ (f : ℕ → EdgeState). f a) edges ∙ (edge_else to second.edge (with_edge from first.edge network) a here ∙ edge_else from first.edge network a away)

  still : (from to : EdgeId) (network : NetworkState) → nat_eq from.0 to.0 ≡ false → stands network from.0 to.0 ≡ false → stands network to.0 from.0 ≡ false → IsRuledNetwork plan network
      → StaysRuled plan network (connecting from (idles (begin_at network from)) to (idles (begin_at network to)) network).state
  still from to network apart none_here none_there ruled =
      connecting_ruled from to network network.edges (idles (begin_at network from)) (idles (begin_at network to)) (met_none plan network from.0 to.0 ruled) apart none_here none_there ruled
      (idle_connected plan checked types from.0 to.0 from to network none_here ruled) (idle_connected plan checked types from.0 to.0 to from network none_there ruled)

  none_there_is : (near : Option Peering) → is_there near ≡ false → near ≡ None
  none_there_is None none = refl
  none_there_is (Some kept) none = clash (sym none)

  -- both rows are there, or nothing comes of it at either end
  rows_ruled : (from to : EdgeId) (network : NetworkState) (one two : Option EdgePlan) → slice_get plan.edges from.0 ≡ one → slice_get plan.edges to.0 ≡ two → nat_eq from.0 to.0
      ≡ false → stands network from.0 to.0 ≡ false → stands network to.0 from.0 ≡ false
      → IsOrdered plan network → IsRuledNetwork plan network
      → StaysRuled plan network (connecting from (connects_between plan taken_all to one two (begin_at network from)) to
      (connects_between plan taken_all from two one (begin_at network to)) network).state
  rows_ruled from to network (Some own) (Some other) is too apart none_here none_there ordered ruled =
      let here : (network.edges from.0).peering to.0 ≡ None = none_there_is ((network.edges from.0).peering to.0) none_here in
      let there : (network.edges to.0).peering from.0 ≡ None = none_there_is ((network.edges to.0).peering from.0) none_there in
      let both : ℕ → EdgeState = met plan network from to apart ordered ruled here there in
      let have : HasMet plan network both from.0 to.0 = have_met plan network from to apart ordered ruled here there in
      connecting_ruled from to network both _ _ have apart none_here none_there ruled
      (up_connected plan checked types both from.0 to.0 from to network own other have (met_from plan network from to apart ordered ruled here there) apart is too)
      (up_connected plan checked types both from.0 to.0 to from network other own have (met_to plan network from to apart ordered ruled here there) (apart_back from.0 to.0 apart) too is)
  rows_ruled from to network (Some own) None is too apart none_here none_there ordered ruled = still from to network apart none_here none_there ruled
  rows_ruled from to network None (Some other) is too apart none_here none_there ordered ruled = still from to network apart none_here none_there ruled
  rows_ruled from to network None None is too apart none_here none_there ordered ruled = still from to network apart none_here none_there ruled

  pub connect_event_ruled : (from to : EdgeId) (network : NetworkState) → IsOrdered plan network → IsRuledNetwork plan network → StaysRuled plan network (connect_event plan from to network).state
  connect_event_ruled from to network ordered ruled = by_joined (are_joined plan from.0 to.0) refl (stands network from.0 to.0) refl (stands network to.0 from.0) refl where
    by_joined : (j : Bool) → are_joined plan from.0 to.0 ≡ j → (x : Bool) → stands network from.0 to.0 ≡ x → (y : Bool) → stands network to.0 from.0 ≡ y
        → StaysRuled plan network (cond (j && (not x && not y)) (connecting from (connected_work plan network from to) to (connected_work plan network to from) network) (idle network)).state
    by_joined true is false one false other =
        let apart : nat_eq from.0 to.0 ≡ false = joined_apart plan from.0 to.0 checked is in
        subst (λ (w : Work). StaysRuled plan network (connecting from w to (connected_work plan network to from) network).state) (sym (connected_is plan network from to ordered is one))
        (subst (λ (w : Work). StaysRuled plan network
        (connecting from (connects_between plan taken_all to (slice_get plan.edges from.0) (slice_get plan.edges to.0) (begin_at network from)) to w network).state)
        (sym (connected_is plan network to from ordered (sym (joined_turned plan from.0 to.0) ∙ is) other))
        (rows_ruled from to network (slice_get plan.edges from.0) (slice_get plan.edges to.0) refl refl apart one other ordered ruled))
    by_joined true is true one y other = stays_ruled plan network ruled
    by_joined true is false one true other = stays_ruled plan network ruled
    by_joined false is x one y other = stays_ruled plan network ruled
