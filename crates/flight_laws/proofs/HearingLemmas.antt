-- Octets of a neighbour are its messages, one by one: what each message keeps, each front of the octets keeps.
use Rattle.std.proofs.Common.{◌≡◌, ◌≤◌, ◌++◌, ◌⊎◌, ◌∙◌, ℕ, zero, suc, Bool, true, false, cond, List, [], ◌∷◌, Option, Some, None, refl, sym, ap, subst, inl, inr, ⊎_elim}
use Rattle.std.proofs.lemmas.Bool.{cases_Bool}
use Rattle.net_values.proofs.BoolLemmas.{clash}
use Rattle.net_base.specs.declared.plan.Plan.{Plan}
use Rattle.net_base.specs.declared.plan.places.EdgeId.{EdgeId}
use Rattle.net_base.specs.declared.trace.state_name.Reason.TheVariants as reason
use Rattle.ldp_grammar.specs.declared.message.Message.{Message}
use Rattle.ldp_grammar.specs.declared.message.Message.TheVariants.{AddressWithdraw}
use Rattle.ldp_stream.specs.FrontOf.{More, front_of}
use Rattle.session_core.specs.declared.peers.Peers.{Peers}
use Rattle.session_core.specs.Phase.{Phase}
use Rattle.session_core.specs.Phase as phase
use Rattle.session_core.specs.Reasons.{is_fatal}
use Rattle.session_core.specs.Table.{Heard, Received}
use Rattle.pw_messages.specs.LinkAnswers.{Answers}
use Rattle.pw_messages.specs.Sender.{platform_of}
use Rattle.edge_model.specs.Hear.{acts, acts_on, hears_few, hears_message, hears_one, hears_pdu, hears_within, holds, is_up_phase, was_up}
use Rattle.edge_model.specs.Mend.{mends}
use Rattle.edge_model.specs.Session.{clears_ends, ends, happens_with_ends}
use Rattle.edge_model.specs.State.{Peering, has_end, is_there, with_ends_beside, with_kept}
use Rattle.edge_model.specs.Work.{Work, changes}
use Rattle.edge_model.proofs.HeldLemmas.{ended_gone}
use Rattle.network_model.specs.Absorb.{taken_all}
use Rattle.flight_laws.specs.Messages.{AreSaid, IsSaidAcross, octets_of_all}
use Rattle.flight_laws.specs.Pair.{AreFit}
use Rattle.flight_laws.proofs.FrontLemmas.{HasNext, front_is}
use Rattle.flight_laws.proofs.MendingLemmas.{KeptByRows, mends_keep}
use Rattle.flight_laws.proofs.PassingLemmas.{withdraw_keeps}
use Rattle.flight_laws.proofs.PieceLemmas.{heard_are}
use Rattle.flight_laws.proofs.SaidLemmas.{fatal_ends, stays_up}

-- ---- octets

-- what is kept of an edge at work, with the messages that it is still to hear of a peer
pub record KeptByMessages (plan : Plan) (peer : EdgeId) (other : Peers) (J : List Message → Work → Type 0) : Type 0 where
  -- the maximum of the session has room for each message
  pub window : (messages : List Message) (kept : Peering) (work : Work) → work.edge.peering peer.0 ≡ Some kept → J messages work → (256 ≤ kept.session.max_pdu) × (kept.session.max_pdu ≤ 4096)
  -- the sender of a PDU
  pub sender : (messages : List Message) (work : Work) → J messages work → J messages (happens_with_ends taken_all peer (Heard (platform_of other.me)) work)
  pub message : (m : Message) (messages : List Message) (work : Work) → IsSaidAcross other m → AreSaid other messages → J (m ∷ messages) work → J messages (hears_message plan taken_all peer m work)

-- some of the messages were heard, and the first octets of the others are held, where the session still stands
pub record HasHeard (peer : EdgeId) (other : Peers) (J : List Message → Work → Type 0) (more : List ℕ) (result : Work) : Type 0 where
  pub later : List Message
  pub rest : List ℕ
  pub last : Work
  pub keeps : J later last
  pub said : AreSaid other later
  pub behind : rest ++ more ≡ octets_of_all other.me later
  pub is : result ≡ holds peer rest (last.edge.peering peer.0) last

module _ (plan : Plan) (peer : EdgeId) (other : Peers) (fit : AreFit other) (J : List Message → Work → Type 0) (kept : KeptByMessages plan peer other J) where
  pub few_heard : (n : ℕ) (octets more : List ℕ) (messages : List Message) (work : Work) → AreSaid other messages → octets ++ more ≡ octets_of_all other.me messages → J messages work
      → HasHeard peer other J more (hears_few plan taken_all peer n octets work)
  few_heard zero octets more messages work said e j = record { later = messages; rest = octets; last = work; keeps = j; said = said; behind = e; is = refl }
  few_heard (suc n) octets more messages work said e j =
      by_end (λ rest later next said' e' j'. few_heard n rest more later next said' e' j') (work.edge.peering peer.0) refl
    where
      stopped : (near : Option Peering) → work.edge.peering peer.0 ≡ near → HasHeard peer other J more (holds peer octets near work)
      stopped near at = record { later = messages; rest = octets; last = work; keeps = j; said = said; behind = e; is = rw at refl }

      next_said : (max : ℕ) → (h : HasNext other.me messages octets more max) → AreSaid other (h.message ∷ h.later)
      next_said max h = subst (AreSaid other) h.are said

      by_end : ((rest : List ℕ) (later : List Message) (next : Work) → AreSaid other later → rest ++ more ≡ octets_of_all other.me later → J later next
          → HasHeard peer other J more (hears_few plan taken_all peer n rest next))
          → (near : Option Peering) → work.edge.peering peer.0 ≡ near → HasHeard peer other J more (hears_within plan taken_all peer (hears_few plan taken_all peer n) octets near work)
      by_end on None at = stopped None at
      by_end on (Some end) at = ⊎_elim
          (λ (h : front_of end.session.max_pdu octets ≡ More). rw h (stopped (Some end) at))
          (λ (h : HasNext other.me messages octets more end.session.max_pdu). rw h.front
          (on h.rest h.later (hears_pdu plan taken_all peer (record { id = platform_of other.me; messages = h.message ∷ [] }) work) (next_said end.session.max_pdu h).1 h.behind
          (kept.message h.message h.later (happens_with_ends taken_all peer (Heard (platform_of other.me)) work) (next_said end.session.max_pdu h).0 (next_said end.session.max_pdu h).1
          (kept.sender (h.message ∷ h.later) work (subst (λ (ms : List Message). J ms work) h.are j)))))
          (front_is other messages octets more end.session.max_pdu fit said e (kept.window messages end work at j).0 (kept.window messages end work at j).1)

-- ---- one message

-- the message withdraws addresses
abbrev pub withdraws_addresses : Message → Bool
withdraws_addresses (AddressWithdraw id addresses fec macs) = true
withdraws_addresses m = false

-- a message that is said: the session has it and ends or goes on, or is up and acts on it; then the edge mends its ends
pub record KeptByHearing (plan : Plan) (me peer : EdgeId) (other : Peers) (J : List Message → Work → Type 0) : Type 0 where
  pub window : (messages : List Message) (kept : Peering) (work : Work) → work.edge.peering peer.0 ≡ Some kept → J messages work → (256 ≤ kept.session.max_pdu) × (kept.session.max_pdu ≤ 4096)
  pub sender : (messages : List Message) (work : Work) → J messages work → J messages (happens_with_ends taken_all peer (Heard (platform_of other.me)) work)
  -- nothing is heard any more where the end is gone
  pub gone : (m : Message) (messages : List Message) (work : Work) → work.edge.peering peer.0 ≡ None → J (m ∷ messages) work → J messages work
  -- a session that is not up has it, or one that ends by it
  pub event : (m : Message) (messages : List Message) (kept : Peering) (work : Work) → work.edge.peering peer.0 ≡ Some kept → IsSaidAcross other m → (is_up_phase kept.session.phase ≡ false)
      ⊎ (is_fatal m ≡ true) → J (m ∷ messages) work
      → J messages (happens_with_ends taken_all peer (Received m) work)
  -- a session that is up, and stays so
  pub acts : (m : Message) (messages : List Message) (kept : Peering) (work : Work) → work.edge.peering peer.0 ≡ Some kept → kept.session.phase ≡ phase.Operational → IsSaidAcross other m
      → is_fatal m ≡ false → withdraws_addresses m ≡ false
      → J (m ∷ messages) work → J messages (acts_on plan taken_all peer m work)
  -- a MAC withdraw alone makes nothing of what is kept
  pub goes_by : (m : Message) (messages : List Message) (kept : Peering) (work : Work) → work.edge.peering peer.0 ≡ Some kept → kept.session.phase ≡ phase.Operational → IsSaidAcross other m
      → withdraws_addresses m ≡ true
      → J (m ∷ messages) work → J messages work
  pub mends : (messages : List Message) → KeptByRows plan me (J messages)

none_acts : (plan : Plan) (told : Answers) (peer : EdgeId) (m : Message) (up : Bool) (work : Work) → work.edge.peering peer.0 ≡ None → acts plan told peer m up work ≡ work
none_acts plan told peer m false work at = refl
none_acts plan told peer m true work at = rw at refl

cleared_none : (peer : EdgeId) (work : Work) → work.edge.peering peer.0 ≡ None → (clears_ends peer work).edge.peering peer.0 ≡ None
unfolding changes with_ends_beside with_kept
cleared_none peer work at = rw (at, at) refl

-- a fatal message ends the session
pub fatal_gone : (other : Peers) (peer : EdgeId) (m : Message) (kept : Peering) (work : Work) → work.edge.peering peer.0 ≡ Some kept → IsSaidAcross other m → is_fatal m ≡ true
    → (happens_with_ends taken_all peer (Received m) work).edge.peering peer.0 ≡ None
fatal_gone other peer m kept work at said fatal = rw (at, fatal_ends kept.session other m said fatal) (cleared_none peer (ends peer reason.PeerFatal work) (ended_gone peer reason.PeerFatal work))

-- a session that is up goes on as it is
pub stays_same : (other : Peers) (peer : EdgeId) (m : Message) (kept : Peering) (work : Work) → work.edge.peering peer.0 ≡ Some kept → kept.session.phase ≡ phase.Operational
    → IsSaidAcross other m → is_fatal m ≡ false
    → happens_with_ends taken_all peer (Received m) work ≡ work
stays_same other peer m kept work at up said plain = rw (at, stays_up kept.session other m up said plain, at) refl

-- it acts on what it hears
pub up_heard : (plan : Plan) (other : Peers) (peer : EdgeId) (m : Message) (kept : Peering) (work : Work) → work.edge.peering peer.0 ≡ Some kept → kept.session.phase
    ≡ phase.Operational → IsSaidAcross other m → is_fatal m ≡ false
    → hears_one plan taken_all peer m work ≡ acts_on plan taken_all peer m work
up_heard plan other peer m kept work at up said plain =
    ap (acts plan taken_all peer m (was_up (work.edge.peering peer.0))) (stays_same other peer m kept work at up said plain)
    ∙ act (was_up (work.edge.peering peer.0)) (rw (at, up) refl) (ap is_there at)
  where
    either : (there : Bool) → there ≡ true → cond there (acts_on plan taken_all peer m work) work ≡ acts_on plan taken_all peer m work
    either true e = refl
    either false e = clash e

    act : (b : Bool) → b ≡ true → has_end work.edge peer ≡ true → acts plan taken_all peer m b work ≡ acts_on plan taken_all peer m work
    act true e f = either (has_end work.edge peer) f
    act false e f = clash e

-- a session that is not up has what it hears, and nothing else
pub session_heard : (plan : Plan) (peer : EdgeId) (m : Message) (kept : Peering) (work : Work) → work.edge.peering peer.0 ≡ Some kept → is_up_phase kept.session.phase ≡ false
    → hears_one plan taken_all peer m work ≡ happens_with_ends taken_all peer (Received m) work
session_heard plan peer m kept work at up = no_act (happens_with_ends taken_all peer (Received m) work) (was_up (work.edge.peering peer.0)) (rw at up) where
  no_act : (next : Work) (b : Bool) → b ≡ false → acts plan taken_all peer m b next ≡ next
  no_act next true e = clash (sym e)
  no_act next false e = refl

pub fatal_heard : (plan : Plan) (other : Peers) (peer : EdgeId) (m : Message) (kept : Peering) (work : Work) → work.edge.peering peer.0 ≡ Some kept → IsSaidAcross other m → is_fatal m ≡ true
    → hears_one plan taken_all peer m work ≡ happens_with_ends taken_all peer (Received m) work
fatal_heard plan other peer m kept work at said fatal =
    none_acts plan taken_all peer m (was_up (work.edge.peering peer.0)) (happens_with_ends taken_all peer (Received m) work) (fatal_gone other peer m kept work at said fatal)

-- what a session that is up acts on: a MAC withdraw is passed on as rows are mended
acts_kept : (plan : Plan) (me peer : EdgeId) (other : Peers) (J : List Message → Work → Type 0) → KeptByHearing plan me peer other J
    → (m : Message) (messages : List Message) (kept : Peering) (work : Work) → work.edge.peering peer.0 ≡ Some kept → kept.session.phase ≡ phase.Operational → IsSaidAcross other m → is_fatal m ≡ false
    → J (m ∷ messages) work → J messages (acts_on plan taken_all peer m work)
acts_kept plan me peer other J keeps (AddressWithdraw id None (Some fec) (Some macs)) messages kept work at up said plain j =
    withdraw_keeps plan me (J messages) (keeps.mends messages) peer fec macs (heard_are id fec macs said.0) work
    (keeps.goes_by (AddressWithdraw id None (Some fec) (Some macs)) messages kept work at up said refl j)
acts_kept plan me peer other J keeps (AddressWithdraw id addresses fec macs) messages kept work at up said plain j = absurd said.1
acts_kept plan me peer other J keeps m messages kept work at up said plain j = keeps.acts m messages kept work at up said plain refl j

pub one_heard : (plan : Plan) (me peer : EdgeId) (other : Peers) (J : List Message → Work → Type 0) → KeptByHearing plan me peer other J
    → (m : Message) (messages : List Message) (kept : Peering) (work : Work) → work.edge.peering peer.0 ≡ Some kept → IsSaidAcross other m → J (m ∷ messages) work
    → J messages (hears_one plan taken_all peer m work)
one_heard plan me peer other J keeps m messages kept work at said j = elim (cases_Bool (is_fatal m)) [
  | inl fatal ↦ subst (J messages) (sym (fatal_heard plan other peer m kept work at said fatal)) (keeps.event m messages kept work at said (inr fatal) j)
  | inr plain ↦ by_phase plain kept.session.phase refl
]
  where
    not_up : is_up_phase kept.session.phase ≡ false → J messages (hears_one plan taken_all peer m work)
    not_up up = subst (J messages) (sym (session_heard plan peer m kept work at up)) (keeps.event m messages kept work at said (inl up) j)

    by_phase : is_fatal m ≡ false → (p : Phase) → kept.session.phase ≡ p → J messages (hears_one plan taken_all peer m work)
    by_phase plain phase.Initialized is = not_up (ap is_up_phase is)
    by_phase plain phase.OpenSent is = not_up (ap is_up_phase is)
    by_phase plain phase.OpenRec is = not_up (ap is_up_phase is)
    by_phase plain phase.Operational is = subst (J messages) (sym (up_heard plan other peer m kept work at is said plain))
        (acts_kept plan me peer other J keeps m messages kept work at is said plain j)

pub message_heard : (plan : Plan) (me peer : EdgeId) (other : Peers) (J : List Message → Work → Type 0) → KeptByHearing plan me peer other J → KeptByMessages plan peer other J
message_heard plan me peer other J keeps = record {
  window = keeps.window;
  sender = keeps.sender;
  message = λ m messages work said others j. by_end m messages work said j (work.edge.peering peer.0) refl;
}
  where
    by_end : (m : Message) (messages : List Message) (work : Work) → IsSaidAcross other m → J (m ∷ messages) work → (near : Option Peering) → work.edge.peering peer.0 ≡ near
        → J messages (hears_message plan taken_all peer m work)
    by_end m messages work said j None at = where_gone (has_end work.edge peer) (ap is_there at) where
      where_gone : (b : Bool) → b ≡ false → J messages (cond b (mends plan taken_all (hears_one plan taken_all peer m work)) work)
      where_gone true e = clash (sym e)
      where_gone false e = keeps.gone m messages work at j
    by_end m messages work said j (Some kept) at = where_there (has_end work.edge peer) (ap is_there at) where
      where_there : (b : Bool) → b ≡ true → J messages (cond b (mends plan taken_all (hears_one plan taken_all peer m work)) work)
      where_there true e = mends_keep plan me (J messages) (keeps.mends messages) (hears_one plan taken_all peer m work) (one_heard plan me peer other J keeps m messages kept work at said j)
      where_there false e = clash e
