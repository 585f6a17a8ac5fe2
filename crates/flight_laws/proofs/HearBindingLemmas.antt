-- An edge hears messages of a neighbour: what is left of the ends of wires is kept, for every place.
use Rattle.std.proofs.Common.{◌≡◌, ◌⊎◌, ◌∙◌, ℕ, Bool, true, false, cond, not, nat_eq, List, [], ◌∷◌, Option, Some, None, refl, sym, ap, subst, inl, inr}
use Rattle.std.proofs.lemmas.Bool.{cases_Bool, eqb-true}
use Rattle.net_values.proofs.BoolLemmas.{clash}
use Rattle.net_values.proofs.NumberLemmas.{same_number, apart_back}
use Rattle.net_base.specs.declared.plan.Plan.{Plan}
use Rattle.net_base.specs.declared.plan.places.EdgeId.{EdgeId}
use Rattle.net_base.specs.plan.Accepted.{IsChecked}
use Rattle.ldp_grammar.specs.declared.message.Message.{Message}
use Rattle.ldp_grammar.specs.declared.message.Message.TheVariants.{Notification, Initialization, KeepAlive, AddressWithdraw, LabelMapping, LabelWithdraw, LabelRelease}
use Rattle.ldp_grammar.specs.declared.status_code.StatusCode.{StatusCode}
use Rattle.pw_tlvs.specs.declared.pw_fec.PwFec.{PwFec}
use Rattle.pw_tlvs.specs.declared.pw_status.PwStatus.{PwStatus}
use Rattle.pw_signalling.specs.declared.binding.Binding.{Binding}
use Rattle.pw_signalling.specs.End.{EndState}
use Rattle.pw_signalling.specs.Rows.{status_part}
use Rattle.session_core.specs.declared.peers.Peers.{Peers}
use Rattle.session_core.specs.Phase.{Phase}
use Rattle.session_core.specs.Phase as phase
use Rattle.session_core.specs.Reasons.{is_fatal}
use Rattle.session_core.specs.State.{SessionState}
use Rattle.session_core.specs.Table.{SessionEvent, Heard, Received, outcome_of}
use Rattle.pw_messages.specs.Content.{pw_status_code}
use Rattle.pw_messages.specs.Sender.{platform_of}
use Rattle.edge_model.specs.Hear.{acts_on, is_up_phase}
use Rattle.edge_model.specs.Mend.{is_operational, is_up_with}
use Rattle.edge_model.specs.Session.{happens_with_ends}
use Rattle.edge_model.specs.State.{EdgeState, Peering, is_there}
use Rattle.edge_model.specs.Work.{Work}
use Rattle.network_model.specs.Absorb.{taken_all}
use Rattle.network_model.specs.State.{NetworkState}
use Rattle.flight_laws.specs.Binding.{heard_of, where_named}
use Rattle.flight_laws.specs.Bound.{AreBound, HasSaid, LeavesBound, is_withdrawal_of}
use Rattle.flight_laws.specs.Ends.{HasTypes, ends_at}
use Rattle.flight_laws.specs.Facts.{flight}
use Rattle.flight_laws.specs.Messages.{IsSaidAcross}
use Rattle.flight_laws.specs.Pair.{AreTalking, StayInStep}
use Rattle.flight_laws.specs.Rules.{AllMessages, TellsPlan}
use Rattle.flight_laws.specs.Sound.{IsSoundEnd, point_limit}
use Rattle.flight_laws.proofs.ActBindingLemmas.{acts_leaves, acts_spare, spared_leaves, unchanged_leaves}
use Rattle.flight_laws.proofs.EventBindingLemmas.{event_spare, goes_on, leaves_event, leaves_no_event}
use Rattle.flight_laws.proofs.HeardBindingLemmas.{HearsAs, bound_hears}
use Rattle.flight_laws.proofs.HearingLemmas.{KeptByHearing, withdraws_addresses}
use Rattle.flight_laws.proofs.HearLemmas.{HearsOn, hears_kept, hears_steady}
use Rattle.flight_laws.proofs.LeaveLemmas.{leaves_none}
use Rattle.flight_laws.proofs.MendingLemmas.{KeptByRows}
use Rattle.flight_laws.proofs.ReactLemmas.{heard_in_step, received_in_step}
use Rattle.flight_laws.proofs.RowBindingLemmas.{LeavesAll, SaysAll, rows_leave}
use Rattle.flight_laws.proofs.SaidLemmas.{fatal_ends}
use Rattle.flight_laws.proofs.SteadyLemmas.{steady_rows}

-- ---- what a session that is not up hears, and goes on

abbrev pub is_session : Message → Bool
is_session (Initialization id params) = true
is_session (KeepAlive id) = true
is_session (Notification id code status fec) = true
is_session m = false

-- it is no message of labels
pub session_goes : (s : SessionState) (other : Peers) (m : Message) → is_up_phase s.phase ≡ false → IsSaidAcross other m → goes_on (outcome_of s (Received m)) ≡ true → is_session m ≡ true
session_goes s other (Initialization id params) up said goes = refl
session_goes s other (KeepAlive id) up said goes = refl
session_goes s other (Notification id code status fec) up said goes = refl
session_goes s other (AddressWithdraw id addresses fec macs) up said goes = by_phase s.phase refl up where
  by_phase : (p : Phase) → s.phase ≡ p → is_up_phase p ≡ false → false ≡ true
  by_phase phase.Initialized at up = rw at at goes
  by_phase phase.OpenSent at up = rw at at goes
  by_phase phase.OpenRec at up = rw at at goes
  by_phase phase.Operational at up = sym up
session_goes s other (LabelMapping id fec label status points) up said goes = by_phase s.phase refl up where
  by_phase : (p : Phase) → s.phase ≡ p → is_up_phase p ≡ false → false ≡ true
  by_phase phase.Initialized at up = rw at at goes
  by_phase phase.OpenSent at up = rw at at goes
  by_phase phase.OpenRec at up = rw at at goes
  by_phase phase.Operational at up = sym up
session_goes s other (LabelWithdraw id fec label) up said goes = by_phase s.phase refl up where
  by_phase : (p : Phase) → s.phase ≡ p → is_up_phase p ≡ false → false ≡ true
  by_phase phase.Initialized at up = rw at at goes
  by_phase phase.OpenSent at up = rw at at goes
  by_phase phase.OpenRec at up = rw at at goes
  by_phase phase.Operational at up = sym up
session_goes s other (LabelRelease id fec label) up said goes = by_phase s.phase refl up where
  by_phase : (p : Phase) → s.phase ≡ p → is_up_phase p ≡ false → false ≡ true
  by_phase phase.Initialized at up = rw at at goes
  by_phase phase.OpenSent at up = rw at at goes
  by_phase phase.OpenRec at up = rw at at goes
  by_phase phase.Operational at up = sym up
session_goes s other m up said goes = absurd said

-- of nothing a status makes nothing
none_stated : (pw_id : ℕ) (id : ℕ) (code : StatusCode) (status : Option PwStatus) (fec : Option PwFec) → heard_of pw_id (Notification id code status fec) None ≡ None
none_stated pw_id id code None fec = refl
none_stated pw_id id code (Some status) None = refl
none_stated pw_id id code (Some status) (Some fec) = by_code (nat_eq code.code pw_status_code) (by_name fec.pw_id) where
  by_name : (name : Option ℕ) → where_named pw_id fec name (status_part status None) (status_part status None) None ≡ None
  by_name None = refl
  by_name (Some n) = either (nat_eq n pw_id)
    where
      either : (b : Bool) → cond b (status_part status None) None ≡ None
      either true = refl
      either false = refl

  by_code : (b : Bool) {x : Option Binding} → x ≡ None → cond b x None ≡ None
  by_code true is = is
  by_code false is = refl

-- and an edge that holds nothing of the peer makes nothing of it
pub session_heard_as : (plan : Plan) (me peer : EdgeId) (m : Message) (edge : EdgeState) → is_session m ≡ true → ((wire : ℕ) → (edge.ends wire peer.0).remote ≡ None) → HearsAs plan me peer m edge edge
session_heard_as plan me peer (Initialization id params) edge is none = record { label = λ label given. given; local = λ wire row at joined. refl; remote = λ wire row next near at joined alone. refl }
session_heard_as plan me peer (KeepAlive id) edge is none = record { label = λ label given. given; local = λ wire row at joined. refl; remote = λ wire row next near at joined alone. refl }
session_heard_as plan me peer (Notification id code status fec) edge is none = record {
  label = λ label given. given;
  local = λ wire row at joined. refl;
  remote = λ wire row next near at joined alone. none wire.0 ∙ (sym (none_stated row.pw_id id code status fec) ∙ ap (heard_of row.pw_id (Notification id code status fec)) (sym (none wire.0)));
}
session_heard_as plan me peer m edge is none = clash is

session_says_none : (m : Message) (pw_id label : ℕ) → is_session m ≡ true → is_withdrawal_of pw_id label m ≡ false
session_says_none (LabelWithdraw id fec label) pw_id own is = clash is
session_says_none m pw_id own is = refl

-- rows keep what does not go by the work
rows_beside : (plan : Plan) (me : EdgeId) (I : Work → Type 0) (Q : Type 0) → KeptByRows plan me I → KeptByRows plan me (λ work. I work × Q)
rows_beside plan me I Q rows = record {
  placed = λ work both. rows.placed work both.0;
  advertises = λ place label content work at is wished given both. (rows.advertises place label content work at is wished given both.0, both.1);
  withdraws = λ place label content work at is changed both. (rows.withdraws place label content work at is changed both.0, both.1);
  tells = λ place label content last work at is told other both. (rows.tells place label content last work at is told other both.0, both.1);
  clears = λ place label content addresses work at is piece both. (rows.clears place label content addresses work at is piece both.0, both.1);
  tells_down = λ place down work at both. (rows.tells_down place down work at both.0, both.1);
  others = λ change work keeps peering both. (rows.others change work keeps peering both.0, both.1);
}

module _ (plan : Plan) (network : NetworkState) (me peer : EdgeId) (apart : nat_eq me.0 peer.0 ≡ false) (checked : IsChecked plan) (types : HasTypes plan) (others : ℕ → List Message) where
  -- what the edge is still to hear of each place: these of the peer
  abbrev pub answers_for : List Message → ℕ → List Message
  answers_for messages place = cond (nat_eq place peer.0) messages (others place)

  abbrev pub LeavesFor : List Message → Work → Type 0
  LeavesFor messages work = LeavesAll plan me checked network.edges (flight network me.0) (answers_for messages) work

  -- an edge that hears the peer, and keeps the ends of wires of each place bound
  abbrev pub HearsLeaving : List Message → Work → Type 0
  HearsLeaving messages work = HearsOn plan network me peer messages work × LeavesFor messages work

  -- and that is still to hear what is planned
  abbrev pub HearsBound : List Message → Work → Type 0
  HearsBound messages work = HearsLeaving messages work × AllMessages (TellsPlan plan peer.0 me.0) messages

  Bound : ℕ → List Message → Work → Type 0
  Bound place messages work = LeavesBound plan me place (network.edges place) (flight network me.0 place) messages work

  away : nat_eq peer.0 me.0 ≡ false
  away = apart_back me.0 peer.0 apart

  -- for the peer and for every other place
  at_peer : (messages : List Message) (work : Work) → LeavesFor messages work → Bound peer.0 messages work
  unfolding Bound
  at_peer messages work leaves = subst (λ (l : List Message). LeavesBound plan me peer.0 (network.edges peer.0) (flight network me.0 peer.0) l work) (rw (same_number peer.0) refl) (leaves peer.0 away)

  by_place : (before after : List Message) (old new : Work) → (Bound peer.0 before old → Bound peer.0 after new)
      → ((place : ℕ) → nat_eq place peer.0 ≡ false → Bound place (others place) old → Bound place (others place) new) → LeavesFor before old → LeavesFor after new
  unfolding Bound
  by_place before after old new own else_ leaves place off = elim (cases_Bool (nat_eq place peer.0)) [
    | inl same ↦ rw same (subst (λ (k : ℕ). LeavesBound plan me k (network.edges k) (flight network me.0 k) after new) (sym (eqb-true place peer.0 same)) (own (at_peer before old leaves)))
    | inr there ↦ rw there (else_ place there (rw there at (leaves place off)))
  ]

  said_all : (messages : List Message) (work : Work) → HearsOn plan network me peer messages work → SaysAll plan me checked network.edges (flight network me.0) (answers_for messages) work
  said_all messages work hears place off = elim (cases_Bool (nat_eq place peer.0)) [
    | inl same ↦ subst (λ (k : ℕ). HasSaid plan me k (network.edges k) (flight network me.0 k) work) (sym (eqb-true place peer.0 same))
        (record { messages = hears.meets.messages; answers = cond (is_there (work.edge.peering peer.0)) messages []; out_is = hears.meets.out_is; talk = hears.meets.talk })
    | inr there ↦ (let left = (hears.left place off there).leaves in record { messages = left.messages; answers = left.answers; out_is = left.out_is; talk = left.talk })
  ]

  -- an event of the session
  event_leaves : (before after : List Message) (event : SessionEvent) (work : Work)
      → ((kept : Peering) (messages : List Message) → AreTalking (ends_at plan me.0 peer.0) (ends_at plan peer.0 me.0) (Some kept) ((network.edges peer.0).peering me.0) messages before
      → StayInStep (ends_at plan me.0 peer.0) (ends_at plan peer.0 me.0) kept ((network.edges peer.0).peering me.0) messages after (outcome_of kept.session event))
      → ((kept : Peering) → work.edge.peering peer.0 ≡ Some kept → goes_on (outcome_of kept.session event) ≡ true → (ms : List Message)
      → AreBound plan me.0 peer.0 work.edge (network.edges peer.0) ms before → AreBound plan me.0 peer.0 work.edge (network.edges peer.0) ms after)
      → HearsOn plan network me peer before work → LeavesFor before work → LeavesFor after (happens_with_ends taken_all peer event work)
  unfolding Bound
  event_leaves before after event work step follows hears leaves =
      by_place before after work (happens_with_ends taken_all peer event work) (by_end (work.edge.peering peer.0) refl)
      (λ place there bound. spared_leaves plan me place (network.edges place) (flight network me.0 place) (others place) work (happens_with_ends taken_all peer event work)
      (event_spare place peer event work there) bound) leaves
    where
      by_end : (near : Option Peering) → work.edge.peering peer.0 ≡ near → Bound peer.0 before work → Bound peer.0 after (happens_with_ends taken_all peer event work)
      by_end None at bound = leaves_no_event plan me peer (network.edges peer.0) (flight network me.0 peer.0) after event work at
      by_end (Some kept) at bound =
          let talk : AreTalking (ends_at plan me.0 peer.0) (ends_at plan peer.0 me.0) (Some kept) ((network.edges peer.0).peering me.0) hears.meets.messages before = rw at at hears.meets.talk in
          leaves_event plan me peer (network.edges peer.0) (flight network me.0 peer.0) before after after event kept work
          (record { messages = hears.meets.messages; answers = before; out_is = hears.meets.out_is; talk = rw at talk }) hears.meets.fine at
          (hears.meets.ended ∙ ap (λ (o : Option Peering). not (is_there o)) at)
          (step kept hears.meets.messages talk) (follows kept at) bound

  not_up : (phase : Phase) → is_up_phase phase ≡ false → is_operational phase ≡ false
  not_up phase.Initialized up = refl
  not_up phase.OpenSent up = refl
  not_up phase.OpenRec up = refl
  not_up phase.Operational up = up

  none_held : (limit : ℕ) (up : Bool) (e : EndState) → up ≡ false → IsSoundEnd limit up e → e.remote ≡ None
  none_held limit true e is sound = clash (sym is)
  none_held limit false e is sound = sound.1

  received_leaves : (m : Message) (messages : List Message) (kept : Peering) (work : Work) → work.edge.peering peer.0 ≡ Some kept → IsSaidAcross (ends_at plan peer.0 me.0) m
      → (is_up_phase kept.session.phase ≡ false) ⊎ (is_fatal m ≡ true)
      → HearsLeaving (m ∷ messages) work → LeavesFor messages (happens_with_ends taken_all peer (Received m) work)
  received_leaves m messages kept work at said ends hears =
      event_leaves (m ∷ messages) messages (Received m) work (λ k ms t. received_in_step (ends_at plan me.0 peer.0) (ends_at plan peer.0 me.0) k ((network.edges peer.0).peering me.0) ms messages m t)
      (λ k there goes ms bound. follows k there goes ms bound ends) hears.0 hears.1
    where
      same_kept : (k : Peering) → work.edge.peering peer.0 ≡ Some k → kept ≡ k
      same_kept k there = same (sym at ∙ there)
        where
          same : Some kept ≡ Some k → kept ≡ k
          same e = cc

      follows : (k : Peering) → work.edge.peering peer.0 ≡ Some k → goes_on (outcome_of k.session (Received m)) ≡ true → (ms : List Message)
          → AreBound plan me.0 peer.0 work.edge (network.edges peer.0) ms (m ∷ messages)
          → (is_up_phase kept.session.phase ≡ false) ⊎ (is_fatal m ≡ true) → AreBound plan me.0 peer.0 work.edge (network.edges peer.0) ms messages
      follows k there goes ms bound (inr fatal) = clash (sym (ap goes_on (fatal_ends k.session (ends_at plan peer.0 me.0) m said fatal)) ∙ goes)
      follows k there goes ms bound (inl up) =
          let is : is_session m ≡ true = session_goes k.session (ends_at plan peer.0 me.0) m (ap (λ (p : Peering). is_up_phase p.session.phase) (sym (same_kept k there)) ∙ up) said goes in
          bound_hears plan me peer m work.edge work.edge (network.edges peer.0) ms messages (λ pw_id own. session_says_none m pw_id own is)
          (session_heard_as plan me peer m work.edge is
          (λ wire. none_held (point_limit plan me.0 wire) (is_up_with (work.edge.peering peer.0)) (work.edge.ends wire peer.0) (ap is_up_with at ∙ not_up kept.session.phase up)
          (hears.0.sound.ends wire peer.0))) bound

  acting_leaves : (m : Message) (messages : List Message) (kept : Peering) (work : Work) → work.edge.peering peer.0 ≡ Some kept → IsSaidAcross (ends_at plan peer.0 me.0) m → withdraws_addresses m ≡ false
      → TellsPlan plan peer.0 me.0 m → HearsLeaving (m ∷ messages) work → LeavesFor messages (acts_on plan taken_all peer m work)
  unfolding Bound
  acting_leaves m messages kept work at said plain tells hears =
      by_place (m ∷ messages) messages work (acts_on plan taken_all peer m work)
      (λ bound. own bound) (λ place there bound. spared_leaves plan me place (network.edges place) (flight network me.0 place) (others place) work (acts_on plan taken_all peer m work)
      (acts_spare plan peer place there m (ends_at plan peer.0 me.0) work said plain) bound) hears.1
    where
      Acts : EdgeId → Type 0
      Acts k = TellsPlan plan peer.0 k.0 m → HasSaid plan k peer.0 (network.edges peer.0) (flight network me.0 peer.0) work
          → LeavesBound plan k peer.0 (network.edges peer.0) (flight network me.0 peer.0) (m ∷ messages) work
          → LeavesBound plan k peer.0 (network.edges peer.0) (flight network me.0 peer.0) messages (acts_on plan taken_all peer m work)

      as_placed : Acts work.edge.me
      as_placed planned has leaves = acts_leaves plan peer checked (network.edges peer.0) (flight network me.0 peer.0) messages kept work has at m (ends_at plan peer.0 me.0) said plain planned leaves

      own : LeavesBound plan me peer.0 (network.edges peer.0) (flight network me.0 peer.0) (m ∷ messages) work
          → LeavesBound plan me peer.0 (network.edges peer.0) (flight network me.0 peer.0) messages (acts_on plan taken_all peer m work)
      own leaves = subst Acts hears.0.meets.fine.place as_placed tells
          (record { messages = hears.0.meets.messages; answers = cond (is_there (work.edge.peering peer.0)) (m ∷ messages) []; out_is = hears.0.meets.out_is; talk = hears.0.meets.talk }) leaves

  -- a MAC withdraw says nothing of the ends of wires
  by_leaves : (m : Message) (messages : List Message) (work : Work) → withdraws_addresses m ≡ true → LeavesFor (m ∷ messages) work → LeavesFor messages work
  unfolding Bound
  by_leaves (AddressWithdraw id addresses fec macs) messages work is leaves =
      by_place (AddressWithdraw id addresses fec macs ∷ messages) messages work work
      (λ bound. unchanged_leaves plan me peer (network.edges peer.0) (flight network me.0 peer.0) (AddressWithdraw id addresses fec macs) messages work (λ pw_id own. refl)
      (record { label = λ label given. given; local = λ wire row at joined. refl; remote = λ wire row next near at joined alone. refl }) bound) (λ place there bound. bound) leaves
  by_leaves m messages work is leaves = clash is

  pub bound_kept : KeptByHearing plan me peer (ends_at plan peer.0 me.0) HearsBound
  unfolding Bound
  bound_kept =
      let base : KeptByHearing plan me peer (ends_at plan peer.0 me.0) (HearsOn plan network me peer) = hears_kept plan network me peer apart checked types in
      record {
        window = λ messages kept work at hears. base.window messages kept work at hears.0.0;
        sender = λ messages work hears. (
          (
            base.sender messages work hears.0.0,
            event_leaves messages messages (Heard (platform_of (ends_at plan peer.0 me.0).me)) work
                (λ kept ms t. heard_in_step (ends_at plan me.0 peer.0) (ends_at plan peer.0 me.0) kept ((network.edges peer.0).peering me.0) ms messages t)
                (λ kept at goes ms bound. bound) hears.0.0 hears.0.1,
          ),
          hears.1,
        );
        gone = λ m messages work at hears. (
          (
            base.gone m messages work at hears.0.0,
            by_place (m ∷ messages) messages work work (λ bound. leaves_none plan me peer.0 (network.edges peer.0) (flight network me.0 peer.0) messages work at)
                (λ place there bound. bound) hears.0.1,
          ),
          hears.1.1,
        );
        event = λ m messages kept work at said ends hears. ((base.event m messages kept work at said ends hears.0.0, received_leaves m messages kept work at said ends hears.0), hears.1.1);
        acts = λ m messages kept work at up said plain pseudowires hears.
            ((base.acts m messages kept work at up said plain pseudowires hears.0.0, acting_leaves m messages kept work at said pseudowires hears.1.0 hears.0), hears.1.1);
        goes_by = λ m messages kept work at up said addresses hears. ((base.goes_by m messages kept work at up said addresses hears.0.0, by_leaves m messages work addresses hears.0.1), hears.1.1);
        mends = λ messages. rows_beside plan me (HearsLeaving messages) (AllMessages (TellsPlan plan peer.0 me.0) messages)
            (rows_leave plan me checked network.edges (flight network me.0) (answers_for messages) types (HearsOn plan network me peer messages)
            (steady_rows plan me checked types (HearsOn plan network me peer messages) (hears_steady plan network me peer apart messages)) (λ work hears. hears.sound)
            (λ work hears. said_all messages work hears));
      }
