-- Deliveries end no session between two ends that stand.
use Rattle.std.proofs.Common.{◌≡◌, ◌++◌, ◌&&◌, ◌||◌, ◌∙◌, ℕ, suc, Bool, true, false, cond, not, nat_eq, length, take, drop, List, ◌∷◌, Option, Some, None, refl, sym, ap, subst, arith, append_assoc}
use Rattle.std.proofs.Common.{inl, inr}
use Rattle.std.proofs.lemmas.Bool.{cases_Bool, eqb-true}
use Rattle.std.proofs.lemmas.List.{take-append-drop}
use Rattle.net_values.proofs.BoolLemmas.{clash, first_holds, second_holds}
use Rattle.net_values.proofs.NumberLemmas.{apart_back}
use Rattle.net_base.specs.declared.plan.Plan.{Plan}
use Rattle.net_base.specs.declared.plan.places.EdgeId.{EdgeId}
use Rattle.net_base.specs.declared.trace.state_name.Reason.TheVariants as reason
use Rattle.net_base.specs.plan.Accepted.{IsChecked}
use Rattle.ldp_grammar.specs.declared.message.Message.{Message}
use Rattle.session_core.specs.declared.peers.Peers.{Peers}
use Rattle.session_core.specs.Parameters.{proposal}
use Rattle.session_core.specs.Phase.{Phase, Initialized, OpenSent, OpenRec, Operational}
use Rattle.session_core.specs.Reasons.{is_fatal}
use Rattle.session_core.specs.State.{is_active}
use Rattle.session_core.specs.Table.{SessionEvent, Outcome, Stay, Goes, Ends, Closed, Heard, Received, outcome_of}
use Rattle.pw_messages.specs.Sender.{following, platform_of}
use Rattle.ldp_grammar.specs.declared.message.Message.TheVariants.{Initialization, KeepAlive}
use Rattle.edge_model.specs.Hear.{hears_few, holds, octets_input}
use Rattle.edge_model.specs.Mend.{is_operational, mends}
use Rattle.edge_model.specs.Session.{happens, happens_with_ends, says}
use Rattle.edge_model.specs.State.{EdgeState, Peering, is_there, with_peering}
use Rattle.edge_model.specs.Work.{Work, changes}
use Rattle.edge_model.proofs.HeldLemmas.{clears_keep}
use Rattle.network_model.specs.Absorb.{absorb, begin_at, idle, taken_all}
use Rattle.network_model.specs.Connection.{deliver_event, delivering, hearing_work, is_drained_pipe, losing, losing_work}
use Rattle.network_model.specs.State.{NetworkState, stands, with_edge, with_pipe}
use Rattle.network_model.proofs.AbsorbLemmas.{all_keep}
use Rattle.flight_laws.specs.Ends.{HasTypes, IsOrdered, WorksOn, ends_at}
use Rattle.flight_laws.specs.Facts.{flight}
use Rattle.flight_laws.specs.Flight.{is_row}
use Rattle.flight_laws.specs.Coming.{is_row_for}
use Rattle.flight_laws.specs.Laws.{BothStand, DeliveriesEndNone, network_after}
use Rattle.flight_laws.specs.Meeting.{IsFine, closes, said_to}
use Rattle.flight_laws.specs.Messages.{octets_of_all}
use Rattle.flight_laws.specs.Pair.{ArePaired, AreTalking, phase_of}
use Rattle.flight_laws.proofs.ActLemmas.{steady_acts}
use Rattle.flight_laws.proofs.CommonLemmas.{platform_is}
use Rattle.flight_laws.proofs.EventBindingLemmas.{event_spare, goes_on, happens_is}
use Rattle.flight_laws.proofs.EventLemmas.{hears_begin, losing_is, pipe_edges, stands_apart}
use Rattle.flight_laws.proofs.HearLemmas.{HearsOn, heard_works, hears_kept, hears_steady}
use Rattle.flight_laws.proofs.HearingLemmas.{HasHeard, KeptByHearing, few_heard, message_heard}
use Rattle.flight_laws.proofs.MeetLemmas.{goes_shows}
use Rattle.flight_laws.proofs.MendingLemmas.{KeptByRows, mends_keep}
use Rattle.flight_laws.proofs.PipeLemmas.{pipe_there}
use Rattle.flight_laws.proofs.ReactLemmas.{acceptable}
use Rattle.flight_laws.proofs.RunLemmas.{run_ordered}
use Rattle.flight_laws.proofs.SaidLemmas.{active_init, keep_alive, keeping_form, opening_form, passive_init, said_sender, stays_up}
use Rattle.flight_laws.proofs.SayLemmas.{says_spares}
use Rattle.flight_laws.proofs.SpokenLemmas.{says_spoken}
use Rattle.flight_laws.proofs.SteadyLemmas.{IsSteady, steady_rows}
use Rattle.flight_laws.proofs.TalkLemmas.{opens_initialized, opens_sent, rises}
use Rattle.flight_laws.proofs.WorksLemmas.{changed_edge, gives_spares, works_begin, works_kept, works_steady}

-- ---- no fatal message is on its way between two ends that stand

active_plain : (a p : Phase) (out back : List Message) (m : Message) → is_row a p out (m ∷ back) ≡ true → is_fatal m ≡ false
active_plain OpenSent Initialized out back m h = grind arith
active_plain OpenSent OpenRec out back m h = grind arith
active_plain OpenRec OpenRec out back m h = grind arith
active_plain Operational OpenRec out back m h = grind arith
active_plain OpenRec Operational out back m h = grind arith
active_plain Operational Operational out back m h = grind arith
active_plain a p out back m h = clash h

passive_plain : (a p : Phase) (out back : List Message) (m : Message) → is_row a p (m ∷ out) back ≡ true → is_fatal m ≡ false
passive_plain OpenSent Initialized out back m h = grind arith
passive_plain OpenSent OpenRec out back m h = clash h
passive_plain OpenRec OpenRec out back m h = grind arith
passive_plain Operational OpenRec out back m h = grind arith
passive_plain OpenRec Operational out back m h = grind arith
passive_plain Operational Operational out back m h = grind arith
passive_plain a p out back m h = clash h

row_plain : (active : Bool) (own other : Phase) (out back : List Message) (m : Message) → is_row_for active own other out (m ∷ back) ≡ true → is_fatal m ≡ false
row_plain true own other out back m h = active_plain own other out back m h
row_plain false own other out back m h = passive_plain other own back out m h

-- a session goes on with what its peer, whose end stands, has said
pub received_goes : (own other : Peers) (kept far : Peering) (out back : List Message) (m : Message) → AreTalking own other (Some kept) (Some far) out (m ∷ back)
    → goes_on (outcome_of kept.session (Received m)) ≡ true
received_goes own other kept far out back m t = by_phase kept.session.phase refl where
  plain : is_fatal m ≡ false
  plain = row_plain (is_active own) kept.session.phase far.session.phase out back m t.steps

  opened : kept.session.phase ≡ Initialized → goes_on (outcome_of kept.session (Received m)) ≡ true
  opened at =
      let passive : is_active own ≡ false = t.here.passive at in
      let init : Message = Initialization kept.next_id (proposal kept.session.peers) in
      let alive : Message = KeepAlive (following kept.next_id) in
      let both = opens_initialized (Some (phase_of far)) out back m init alive plain refl refl (rw (passive, at) at t.steps) in
      let form = opening_form other m t.answered.0 (first_holds _ _ both) in
      ap goes_on (ap (λ (x : Message). outcome_of kept.session (Received x)) form.is
      ∙ passive_init kept.session form.id (proposal other) at (rw t.here.peers passive) (acceptable own other kept t.here))

  sent : kept.session.phase ≡ OpenSent → goes_on (outcome_of kept.session (Received m)) ≡ true
  sent at =
      let both = opens_sent (is_active own) (Some (phase_of far)) out back m (KeepAlive kept.next_id) plain refl (rw at at t.steps) in
      let form = opening_form other m t.answered.0 (first_holds _ _ both) in
      ap goes_on (ap (λ (x : Message). outcome_of kept.session (Received x)) form.is ∙ active_init kept.session form.id (proposal other) at (acceptable own other kept t.here))

  agreed : kept.session.phase ≡ OpenRec → goes_on (outcome_of kept.session (Received m)) ≡ true
  agreed at =
      let both = rises (is_active own) (Some (phase_of far)) out back m plain (rw at at t.steps) in
      let form = keeping_form m (first_holds _ _ both) in
      ap goes_on (ap (λ (x : Message). outcome_of kept.session (Received x)) form.is ∙ keep_alive kept.session form.id at)

  by_phase : (p : Phase) → kept.session.phase ≡ p → goes_on (outcome_of kept.session (Received m)) ≡ true
  by_phase Initialized at = opened at
  by_phase OpenSent at = sent at
  by_phase OpenRec at = agreed at
  by_phase Operational at = ap goes_on (stays_up kept.session other m at t.answered.0 plain)

-- ---- ends that stand at an edge at work

-- the edge's end towards each of these places stands
abbrev pub KeepsEach : (ℕ → Bool) → Work → Type 0
KeepsEach which work = (place : ℕ) → which place ≡ true → is_there (work.edge.peering place) ≡ true

says_stays : (place : ℕ) (peer : EdgeId) (message : ℕ → Message) (work : Work) → is_there (work.edge.peering place) ≡ true
    → is_there ((says taken_all peer message work).work.edge.peering place) ≡ true
says_stays place peer message work there = elim (cases_Bool (nat_eq place peer.0)) [
  | inl same ↦ subst (λ (k : ℕ). is_there ((says taken_all peer message work).work.edge.peering k) ≡ true) (sym (eqb-true place peer.0 same))
      (here (work.edge.peering peer.0) refl (subst (λ (k : ℕ). is_there (work.edge.peering k) ≡ true) (eqb-true place peer.0 same) there))
  | inr apart ↦ subst (λ (o : Option Peering). is_there o ≡ true) (sym (says_spares place peer message work apart).kept) there
]
  where
    here : (near : Option Peering) → work.edge.peering peer.0 ≡ near → is_there (work.edge.peering peer.0) ≡ true → is_there ((says taken_all peer message work).work.edge.peering peer.0) ≡ true
    here None at is = clash (sym (ap is_there at) ∙ is)
    here (Some kept) at is = ap is_there (says_spoken peer kept message work at).here

-- calm steps keep them
stay_steady : (plan : Plan) (me : EdgeId) (I : Work → Type 0) (which : ℕ → Bool) → IsSteady plan me I → IsSteady plan me (λ work. I work × KeepsEach which work)
stay_steady plan me I which steady = record {
  placed = λ work i. steady.placed work i.0;
  sound = λ work i. steady.sound work i.0;
  changes = λ change work kept place sound i. (
    steady.changes change work kept place sound i.0,
    λ k is. subst (λ (o : Option Peering). is_there o ≡ true) (sym (ap (λ (e : EdgeState). e.peering k) (changed_edge change work) ∙ ap (λ (f : ℕ → Option Peering). f k) kept)) (i.1 k is),
  );
  gives = λ e work silent i. (steady.gives e work silent i.0, λ k is. subst (λ (o : Option Peering). is_there o ≡ true) (sym (gives_spares k e work silent).kept) (i.1 k is));
  says = λ peer message work up is i. (steady.says peer message work up is i.0, λ k here. says_stays k peer message work (i.1 k here));
}

-- an event after which a session goes on
event_there : (me peer : EdgeId) (event : SessionEvent) (kept : Peering) (work : Work) → IsFine me work → work.edge.peering peer.0 ≡ Some kept → closes peer.0 work.effects ≡ false
    → goes_on (outcome_of kept.session event) ≡ true → is_there ((happens_with_ends taken_all peer event work).edge.peering peer.0) ≡ true
event_there me peer event kept work fine at unclosed goes =
    ap (λ (f : ℕ → Option Peering). is_there (f peer.0)) (clears_keep peer (happens taken_all peer event work)) ∙ by_outcome (outcome_of kept.session event) refl goes
  where
    by_outcome : (o : Outcome) → outcome_of kept.session event ≡ o → goes_on o ≡ true → is_there ((happens taken_all peer event work).edge.peering peer.0) ≡ true
    by_outcome Stay is on = ap (λ (w : Work). is_there (w.edge.peering peer.0)) (happens_is peer event kept Stay work at is) ∙ ap is_there at
    by_outcome (Goes next replies) is on =
        ap (λ (w : Work). is_there (w.edge.peering peer.0)) (happens_is peer event kept (Goes next replies) work at is)
        ∙ ap is_there (goes_shows me peer kept next replies (said_to peer.0 work.effects) work (record { keeps = at; says = refl; ended = unclosed }) fine).0.keeps
    by_outcome (Ends why replies) is on = clash on

-- ---- an edge that hears a neighbour

module _ (plan : Plan) (network : NetworkState) (me peer : EdgeId) (apart : nat_eq me.0 peer.0 ≡ false) (checked : IsChecked plan) (types : HasTypes plan) (which : ℕ → Bool) (faces : which peer.0 ≡ true
    → is_there ((network.edges peer.0).peering me.0) ≡ true) where
  abbrev pub StaysHearing : List Message → Work → Type 0
  StaysHearing messages work = HearsOn plan network me peer messages work × KeepsEach which work

  event_stays : (messages : List Message) (event : SessionEvent) (work : Work) → HearsOn plan network me peer messages work
      → ((kept : Peering) → work.edge.peering peer.0 ≡ Some kept → which peer.0 ≡ true → goes_on (outcome_of kept.session event) ≡ true)
      → KeepsEach which work → KeepsEach which (happens_with_ends taken_all peer event work)
  event_stays messages event work hears goes keeps place is = elim (cases_Bool (nat_eq place peer.0)) [
    | inl same ↦ subst (λ (k : ℕ). is_there ((happens_with_ends taken_all peer event work).edge.peering k) ≡ true) (sym (eqb-true place peer.0 same))
        (here (work.edge.peering peer.0) refl (subst (λ (k : ℕ). which k ≡ true) (eqb-true place peer.0 same) is))
    | inr other ↦ subst (λ (o : Option Peering). is_there o ≡ true) (sym (event_spare place peer event work other).spares.kept) (keeps place is)
  ]
    where
      here : (near : Option Peering) → work.edge.peering peer.0 ≡ near → which peer.0 ≡ true → is_there ((happens_with_ends taken_all peer event work).edge.peering peer.0) ≡ true
      here None at one = clash (sym (ap is_there at) ∙ keeps peer.0 one)
      here (Some kept) at one = event_there me peer event kept work hears.meets.fine at (hears.meets.ended ∙ ap (λ (o : Option Peering). not (is_there o)) at) (goes kept at one)

  received_stays : (m : Message) (messages : List Message) (work : Work) → StaysHearing (m ∷ messages) work → KeepsEach which (happens_with_ends taken_all peer (Received m) work)
  received_stays m messages work stays = event_stays (m ∷ messages) (Received m) work stays.0 (λ kept at one. by_far kept at one ((network.edges peer.0).peering me.0) refl) stays.1 where
    by_far : (kept : Peering) → work.edge.peering peer.0 ≡ Some kept → which peer.0 ≡ true → (far : Option Peering) → (network.edges peer.0).peering me.0 ≡ far
        → goes_on (outcome_of kept.session (Received m)) ≡ true
    by_far kept at one None there = clash (sym (ap is_there there) ∙ faces one)
    by_far kept at one (Some far) there =
        let talk : AreTalking (ends_at plan me.0 peer.0) (ends_at plan peer.0 me.0) (Some kept) ((network.edges peer.0).peering me.0) stays.0.meets.messages (m ∷ messages) =
        rw at at stays.0.meets.talk in
        received_goes (ends_at plan me.0 peer.0) (ends_at plan peer.0 me.0) kept far stays.0.meets.messages messages m
        (subst (λ (o : Option Peering). AreTalking (ends_at plan me.0 peer.0) (ends_at plan peer.0 me.0) (Some kept) o stays.0.meets.messages (m ∷ messages)) there talk)

  sender_stays : (messages : List Message) (work : Work) → StaysHearing messages work → KeepsEach which (happens_with_ends taken_all peer (Heard (platform_of (ends_at plan peer.0 me.0).me)) work)
  sender_stays messages work stays = event_stays messages (Heard (platform_of (ends_at plan peer.0 me.0).me)) work stays.0 (λ kept at one. goes kept at) stays.1 where
    goes : (kept : Peering) → work.edge.peering peer.0 ≡ Some kept → goes_on (outcome_of kept.session (Heard (platform_of (ends_at plan peer.0 me.0).me))) ≡ true
    goes kept at =
        let talk : AreTalking (ends_at plan me.0 peer.0) (ends_at plan peer.0 me.0) (Some kept) ((network.edges peer.0).peering me.0) stays.0.meets.messages messages = rw at at stays.0.meets.talk in
        ap goes_on (said_sender kept.session (ends_at plan peer.0 me.0).me (platform_is (ends_at plan me.0 peer.0) (ends_at plan peer.0 me.0) kept talk.here))

  steady_stays : (messages : List Message) → IsSteady plan me (StaysHearing messages)
  steady_stays messages = stay_steady plan me (HearsOn plan network me peer messages) which (hears_steady plan network me peer apart messages)

  pub stay_kept : KeptByHearing plan me peer (ends_at plan peer.0 me.0) StaysHearing
  stay_kept =
      let base : KeptByHearing plan me peer (ends_at plan peer.0 me.0) (HearsOn plan network me peer) = hears_kept plan network me peer apart checked types in
      record {
        window = λ messages kept work at stays. base.window messages kept work at stays.0;
        sender = λ messages work stays. (base.sender messages work stays.0, sender_stays messages work stays);
        gone = λ m messages work at stays. (base.gone m messages work at stays.0, stays.1);
        event = λ m messages kept work at said ends stays. (base.event m messages kept work at said ends stays.0, received_stays m messages work stays);
        acts = λ m messages kept work at up said plain pseudowires stays. (
          base.acts m messages kept work at up said plain pseudowires stays.0,
          (steady_acts plan me peer (ends_at plan peer.0 me.0) (StaysHearing (m ∷ messages)) (steady_stays (m ∷ messages)) m work said pseudowires (rw at (ap is_operational up)) stays).1,
        );
        goes_by = λ m messages kept work at up said addresses stays. (base.goes_by m messages kept work at up said addresses stays.0, stays.1);
        mends = λ messages. steady_rows plan me checked types (StaysHearing messages) (steady_stays messages);
      }

  -- what it holds of the peer then
  holding_stays : (rest : List ℕ) (near : Option Peering) (work : Work) → KeepsEach which work → KeepsEach which (holds peer rest near work)
  unfolding changes with_peering
  holding_stays rest None work keeps place is = keeps place is
  holding_stays rest (Some kept) work keeps place is = elim (cases_Bool (nat_eq place peer.0)) [
    | inl same ↦ rw same refl
    | inr other ↦ rw other (keeps place is)
  ]

  -- once the octets are heard
  pub heard_stays : (result : Work) → HasHeard peer (ends_at plan peer.0 me.0) StaysHearing (network.pipes peer.0 me.0) result → WorksOn plan network me result × KeepsEach which result
  heard_stays result heard = (
    heard_works plan network me peer apart result
        (record { later = heard.later; rest = heard.rest; last = heard.last; keeps = heard.keeps.0; said = heard.said; behind = heard.behind; is = heard.is }),
    subst (KeepsEach which) (sym heard.is) (holding_stays heard.rest (heard.last.edge.peering peer.0) heard.last heard.keeps.1),
  )

-- an edge at work, and the same
module _ (plan : Plan) (network : NetworkState) (me : EdgeId) (checked : IsChecked plan) (types : HasTypes plan) (which : ℕ → Bool) where
  abbrev pub StaysAtWork : Work → Type 0
  StaysAtWork work = WorksOn plan network me work × KeepsEach which work

  pub works_rows : KeptByRows plan me StaysAtWork
  works_rows = steady_rows plan me checked types StaysAtWork (stay_steady plan me (WorksOn plan network me) which (works_steady plan network me))

  -- a connection with a place that is none of these is lost
  pub lost_stays : (peer : EdgeId) (work : Work) → which peer.0 ≡ false → StaysAtWork work → StaysAtWork (mends plan taken_all (happens_with_ends taken_all peer (Closed reason.Closed) work))
  lost_stays peer work none stays =
      mends_keep plan me StaysAtWork works_rows (happens_with_ends taken_all peer (Closed reason.Closed) work) (
        (works_kept plan network me checked types).closed peer work stays.0,
        λ place is. elim (cases_Bool (nat_eq place peer.0)) [
          | inl same ↦ clash (sym none ∙ subst (λ (k : ℕ). which k ≡ true) (eqb-true place peer.0 same) is)
          | inr other ↦ subst (λ (o : Option Peering). is_there o ≡ true) (sym (event_spare place peer (Closed reason.Closed) work other).spares.kept) (stays.1 place is)
        ],
      )

-- ---- in the network

-- both ends of the connection of an edge with a place stand
abbrev both_at : NetworkState → EdgeId → ℕ → Bool
both_at network me place = stands network me.0 place && stands network place me.0

begins_stays : (network : NetworkState) (me : EdgeId) → KeepsEach (both_at network me) (begin_at network me)
begins_stays network me place is = first_holds (stands network me.0 place) (stands network place me.0) is

-- an end stands still where only one edge was at work, and its end stands
absorbed_stands : (me : EdgeId) (work : Work) (network : NetworkState) (a b : ℕ) → stands network a b ≡ true → (nat_eq a me.0 ≡ true → is_there (work.edge.peering b) ≡ true)
    → stands (absorb me 0 0 work network).state a b ≡ true
unfolding with_edge
absorbed_stands me work network a b up here = subst (λ (edges : ℕ → EdgeState). is_there ((edges a).peering b) ≡ true) (sym (all_keep me 0 0 work.effects (with_edge me work.edge network)).edges)
    (elim (cases_Bool (nat_eq a me.0)) [
      | inl same ↦ rw same (here same)
      | inr other ↦ rw other up
    ])

-- both ends stand still where the edge keeps those that do
both_stay : (me : EdgeId) (work : Work) (before network : NetworkState) (a b : ℕ) → network.edges ≡ before.edges → KeepsEach (both_at before me) work → BothStand before a b
    → BothStand (absorb me 0 0 work network).state a b
both_stay me work before network a b same keeps both = record {
  one = absorbed_stands me work network a b (as_before a b both.one) (λ is. keeps b (at_edge a b is both.one both.other));
  other = absorbed_stands me work network b a (as_before b a both.other) (λ is. keeps a (at_edge b a is both.other both.one));
}
  where
    as_before : (x y : ℕ) → stands before x y ≡ true → stands network x y ≡ true
    as_before x y up = ap (λ (edges : ℕ → EdgeState). is_there ((edges x).peering y)) same ∙ up

    both_hold : (p q : Bool) → p ≡ true → q ≡ true → p && q ≡ true
    both_hold p q one other = rw (one, other) refl

    at_edge : (x y : ℕ) → nat_eq x me.0 ≡ true → stands before x y ≡ true → stands before y x ≡ true → both_at before me y ≡ true
    at_edge x y is one other =
        both_hold (stands before me.0 y) (stands before y me.0) (subst (λ (k : ℕ). stands before k y ≡ true) (eqb-true x me.0 is) one)
        (subst (λ (k : ℕ). stands before y k ≡ true) (eqb-true x me.0 is) other)

module _ (plan : Plan) (from to : EdgeId) (count : ℕ) (network : NetworkState) (checked : IsChecked plan) (types : HasTypes plan) (ordered : IsOrdered plan network) where
  hearing_stays : (apart : nat_eq from.0 to.0 ≡ false) (kept : Peering) → (network.edges to.0).peering from.0 ≡ Some kept
      → KeepsEach (both_at network to) (octets_input plan taken_all from (take count (network.pipes from.0 to.0)) (Some kept) (begin_at network to))
  hearing_stays apart kept at =
      (mends_keep plan to (StaysAtWork plan later to checked types which) (works_rows plan later to checked types which) (hears_few plan taken_all from (suc (length octets)) octets begun)
      (heard_stays plan later to from (apart_back from.0 to.0 apart) checked types which faces (hears_few plan taken_all from (suc (length octets)) octets begun)
      (rw (pipe_there from to (drop count pipe) network) (few_heard plan from (ends_at plan from.0 to.0) pair.talk.here.between.two Stays
      (message_heard plan to from (ends_at plan from.0 to.0) Stays (stay_kept plan later to from (apart_back from.0 to.0 apart) checked types which faces))
      (suc (length octets)) octets (drop count pipe) pair.answers begun pair.talk.answered whole
      (hears_begin plan from to (drop count pipe) network kept ordered apart at pair, begins_stays network to))))).1
    where
      which : ℕ → Bool
      which = both_at network to

      pipe : List ℕ
      pipe = network.pipes from.0 to.0

      octets : List ℕ
      octets = kept.held ++ take count pipe

      begun : Work
      begun = begin_at network to

      later : NetworkState
      later = with_pipe from to (drop count pipe) network

      faces : which from.0 ≡ true → is_there ((later.edges from.0).peering to.0) ≡ true
      faces is = rw (pipe_edges from to (drop count pipe) network) (second_holds (stands network to.0 from.0) (stands network from.0 to.0) is)

      Stays : List Message → Work → Type 0
      Stays = StaysHearing plan later to from (apart_back from.0 to.0 apart) checked types which faces

      pair : ArePaired (ends_at plan to.0 from.0) (ends_at plan from.0 to.0) (Some kept) ((network.edges from.0).peering to.0) (flight network to.0 from.0) (kept.held ++ pipe)
      pair = rw at at (ordered.two to.0 from.0 (apart_back from.0 to.0 apart))

      whole : octets ++ drop count pipe ≡ octets_of_all (ends_at plan from.0 to.0).me pair.answers
      whole = append_assoc kept.held (take count pipe) (drop count pipe) ∙ ap (λ (l : List ℕ). kept.held ++ l) (take-append-drop count pipe) ∙ pair.back_is

  delivering_stays : (a b : ℕ) (near : Option Peering) → (network.edges to.0).peering from.0 ≡ near → is_there near ≡ true → nat_eq from.0 to.0 ≡ false → BothStand network a b
      → BothStand (delivering plan from to count network).state a b
  delivering_stays a b None at up apart both = clash up
  delivering_stays a b (Some kept) at up apart both =
      both_stay to (hearing_work plan network from to (take count (network.pipes from.0 to.0))) network (with_pipe from to (drop count (network.pipes from.0 to.0)) network) a b
      (pipe_edges from to (drop count (network.pipes from.0 to.0)) network) (λ place is. rw at (hearing_stays apart kept at place is)) both

  losing_stays : (a b : ℕ) → stands network to.0 from.0 ≡ true → stands network from.0 to.0 ≡ false → BothStand network a b → BothStand (losing plan to from network).state a b
  losing_stays a b up gone both =
      both_stay to (losing_work plan network to from) network network a b refl
      (subst (KeepsEach (both_at network to)) (sym (losing_is plan to from network up))
      (lost_stays plan network to checked types (both_at network to) from (begin_at network to) (rw (up, gone) refl) (works_begin plan network to ordered, begins_stays network to)).1) both

  pub deliver_stays : (a b : ℕ) → BothStand network a b → BothStand (deliver_event plan from to count network).state a b
  deliver_stays a b both = by_stand (stands network to.0 from.0) (stands network from.0 to.0) (is_drained_pipe network from.0 to.0) refl refl where
    heard : stands network to.0 from.0 ≡ true → BothStand (delivering plan from to count network).state a b
    heard is = delivering_stays a b ((network.edges to.0).peering from.0) refl is (stands_apart plan network from.0 to.0 ordered is) both

    by_stand : (up other drained : Bool) → stands network to.0 from.0 ≡ up → stands network from.0 to.0 ≡ other
        → BothStand (cond (up && (not drained || not other)) (cond drained (losing plan to from network) (delivering plan from to count network)) (idle network)).state a b
    by_stand true true true is is' = both
    by_stand true true false is is' = heard is
    by_stand true false true is is' = losing_stays a b is is' both
    by_stand true false false is is' = heard is
    by_stand false other drained is is' = both

pub deliveries_end_none : DeliveriesEndNone
deliveries_end_none plan events run from to count a b both =
    deliver_stays plan from to count (network_after plan events) run.checked run.types (run_ordered plan events run) a b both
