-- What sessions leave of an edge as it was, and what alone they have it give out.
use Rattle.std.proofs.Common.{◌≡◌, ◌+◌, ◌++◌, ◌&&◌, ◌∙◌, ℕ, zero, suc, Bool, true, false, List, [], ◌∷◌, Option, Some, None, cond, refl, sym, ap, nat_eq, append_assoc, append-nil, inl, inr}
use Rattle.std.proofs.lemmas.Bool.{cases_Bool, eqb-true}
use Rattle.net_base.specs.declared.plan.places.EdgeId.{EdgeId}
use Rattle.net_base.specs.declared.trace.state_name.Reason.{Reason}
use Rattle.net_base.specs.declared.trace.state_name.Reason.TheVariants as reason
use Rattle.net_base.specs.declared.trace.state_name.StateName.TheVariants as name
use Rattle.ldp_grammar.specs.declared.message.Message.{Message}
use Rattle.session_core.specs.declared.reply.Reply.{Reply}
use Rattle.session_core.specs.Phase.{Phase}
use Rattle.session_core.specs.Session.{phase_name}
use Rattle.session_core.specs.Table as table
use Rattle.session_core.specs.Table.{SessionEvent, Outcome, Stay, Goes, Ends, Ticked, outcome_of}
use Rattle.pw_messages.specs.LinkAnswers.{Answers}
use Rattle.edge_model.specs.Connection.{connects, restart_input}
use Rattle.edge_model.specs.declared.effect.Effect.{Effect}
use Rattle.edge_model.specs.declared.effect.Effect.TheVariants as effect
use Rattle.edge_model.specs.Hear.{advises, holds}
use Rattle.edge_model.specs.Put.{Spoken, message_octets_of, octets_of, put_octets, put_replies, put_reply, put_reply_to, puts_on, with_spoken}
use Rattle.edge_model.specs.Session.{clears_ends, comes_of, ends, had_put, had_said, happens, happens_to, happens_with_ends, is_same_phase, says, says_to, tells_change, went_on, with_session, losing_ends}
use Rattle.edge_model.specs.State.{EdgeState, Peering, has_end, with_ends_beside, with_learned, with_peering, without_ends, without_peerings, with_kept}
use Rattle.edge_model.specs.Tick.{ticks_sessions}
use Rattle.edge_model.specs.Work.{Work, changes, gives, next_answer, puts}
use Rattle.edge_model.specs.Labels.{meeting}

-- an effect of the session with one of these peers: the link took octets of LDP, a state is told, or the end is gone
abbrev pub is_of_session : (ℕ → Bool) → Effect → Bool
is_of_session mine (effect.Said peer bytes) = mine peer.0
is_of_session mine (effect.Session peer state) = mine peer.0
is_of_session mine (effect.Closed peer) = mine peer.0
is_of_session mine e = false

-- each one passes the test
abbrev pub are_all : (Effect → Bool) → List Effect → Bool
are_all test [] = true
are_all test (e ∷ es) = test e && are_all test es

abbrev pub are_of_sessions : (ℕ → Bool) → List Effect → Bool
are_of_sessions mine es = are_all (is_of_session mine) es

pub are_all-append : (test : Effect → Bool) (xs ys : List Effect) → are_all test xs ≡ true → are_all test ys ≡ true → are_all test (xs ++ ys) ≡ true
are_all-append test [] ys front back = back
are_all-append test (x ∷ xs) ys front back = by (test x) front (λ own. are_all-append test xs ys own back) where
  by : (b : Bool) → b && are_all test xs ≡ true → (are_all test xs ≡ true → are_all test (xs ++ ys) ≡ true) → b && are_all test (xs ++ ys) ≡ true
  by true own rest = rest own
  by false own rest = own

-- of the edge, all stays but what is kept for these peers, and the ends beside them
pub record IsBesides (mine : ℕ → Bool) (old new : EdgeState) : Type 0 where
  pub me : new.me ≡ old.me
  pub circuits : new.circuit_on ≡ old.circuit_on
  pub learned : new.learned ≡ old.learned
  pub ticks : new.ticks ≡ old.ticks
  pub others : (k : ℕ) → mine k ≡ false → new.peering k ≡ old.peering k
  pub wires : new.wire_on ≡ old.wire_on
  pub bits : new.bits ≡ old.bits
  pub ends : (wire k : ℕ) → mine k ≡ false → new.ends wire k ≡ old.ends wire k
  pub downs : new.told_down ≡ old.told_down
  pub priorities : new.priority ≡ old.priority
  pub chosen : new.chosen ≡ old.chosen
  pub labels : new.next_label ≡ old.next_label

-- what is given out beside what was, passes the test
pub record GivesOnly (test : Effect → Bool) (old new : List Effect) : Type 0 where
  pub more : List Effect
  pub given : new ≡ old ++ more
  pub own : are_all test more ≡ true

-- it is of the sessions with these peers
abbrev pub GivesOwn : (ℕ → Bool) → List Effect → List Effect → Type 0
GivesOwn mine old new = GivesOnly (is_of_session mine) old new

-- work of the sessions with these peers
pub record IsSessionWork (mine : ℕ → Bool) (old new : Work) : Type 0 where
  pub edge : IsBesides mine old.edge new.edge
  pub effects : GivesOwn mine old.effects new.effects
  pub idle : new.idle ≡ old.idle

-- all that is given out on an input
pub own_effects : (test : Effect → Bool) (es : List Effect) → GivesOnly test [] es → are_all test es ≡ true
own_effects test es gives = ap (are_all test) gives.given ∙ gives.own

besides_still : (mine : ℕ → Bool) (edge : EdgeState) → IsBesides mine edge edge
besides_still mine edge = record {
  me = refl;
  circuits = refl;
  learned = refl;
  ticks = refl;
  others = λ k apart. refl;
  wires = refl;
  bits = refl;
  ends = λ wire k apart. refl;
  downs = refl;
  priorities = refl;
  chosen = refl;
  labels = refl;
}

pub gives_none : (test : Effect → Bool) (es : List Effect) → GivesOnly test es es
gives_none test es = record { more = []; given = sym (append-nil es); own = refl }

pub works_not : (mine : ℕ → Bool) (work : Work) → IsSessionWork mine work work
works_not mine work = record { edge = besides_still mine work.edge; effects = gives_none (is_of_session mine) work.effects; idle = refl }

besides_then : (mine : ℕ → Bool) (a b c : EdgeState) → IsBesides mine a b → IsBesides mine b c → IsBesides mine a c
besides_then mine a b c first next = record {
  me = next.me ∙ first.me;
  circuits = next.circuits ∙ first.circuits;
  learned = next.learned ∙ first.learned;
  ticks = next.ticks ∙ first.ticks;
  others = λ k apart. next.others k apart ∙ first.others k apart;
  wires = next.wires ∙ first.wires;
  bits = next.bits ∙ first.bits;
  ends = λ wire k apart. next.ends wire k apart ∙ first.ends wire k apart;
  downs = next.downs ∙ first.downs;
  priorities = next.priorities ∙ first.priorities;
  chosen = next.chosen ∙ first.chosen;
  labels = next.labels ∙ first.labels;
}

pub gives_then : (test : Effect → Bool) (a b c : List Effect) → GivesOnly test a b → GivesOnly test b c → GivesOnly test a c
gives_then test a b c first next = record {
  more = first.more ++ next.more;
  given = next.given ∙ (ap (λ (l : List Effect). l ++ next.more) first.given ∙ append_assoc a first.more next.more);
  own = are_all-append test first.more next.more first.own next.own;
}

pub works_then : (mine : ℕ → Bool) (a b c : Work) → IsSessionWork mine a b → IsSessionWork mine b c → IsSessionWork mine a c
works_then mine a b c first next = record {
  edge = besides_then mine a.edge b.edge c.edge first.edge next.edge;
  effects = gives_then (is_of_session mine) a.effects b.effects c.effects first.effects next.effects;
  idle = next.idle ∙ first.idle;
}

-- ---- what an edge at work does

-- a peer is none of the others
pub is_apart : (mine : ℕ → Bool) (k p : ℕ) → mine p ≡ true → mine k ≡ false → nat_eq k p ≡ false
is_apart mine k p own apart = elim (cases_Bool (nat_eq k p)) [
  | inl same ↦
      (let wrong : true ≡ false = sym own ∙ (ap mine (sym (eqb-true k p same)) ∙ apart) in
      absurd (cc (wrong)))
  | inr other ↦ other
]

peering_works : (mine : ℕ → Bool) (peer : EdgeId) (kept : Option Peering) (work : Work) → mine peer.0 ≡ true → IsSessionWork mine work (changes (with_peering peer kept) work)
unfolding changes with_peering
peering_works mine peer kept work own = record {
  edge = record {
    me = refl;
    circuits = refl;
    learned = refl;
    ticks = refl;
    others = λ k apart. rw (is_apart mine k peer.0 own apart) refl;
    wires = refl;
    bits = refl;
    ends = λ wire k apart. refl;
    downs = refl;
    priorities = refl;
    chosen = refl;
    labels = refl;
  };
  effects = gives_none (is_of_session mine) work.effects;
  idle = refl;
}

gives_works : (mine : ℕ → Bool) (e : Effect) (work : Work) → is_of_session mine e ≡ true → IsSessionWork mine work (gives e work)
unfolding gives
gives_works mine e work own = record {
  edge = besides_still mine work.edge;
  effects = record { more = e ∷ []; given = refl; own = rw own refl };
  idle = refl;
}

puts_works : (mine : ℕ → Bool) (peer : EdgeId) (bytes : List ℕ) (taken : Bool) (work : Work) → IsSessionWork mine work (puts peer bytes taken work)
unfolding puts
puts_works mine peer bytes taken work = record { edge = besides_still mine work.edge; effects = gives_none (is_of_session mine) work.effects; idle = refl }

spoken_works : (mine : ℕ → Bool) (peer : EdgeId) (work : Work) → mine peer.0 ≡ true → IsSessionWork mine work (changes (with_spoken peer) work)
unfolding changes with_peering with_spoken
spoken_works mine peer work own = record {
  edge = record {
    me = refl;
    circuits = refl;
    learned = refl;
    ticks = refl;
    others = λ k apart. rw (is_apart mine k peer.0 own apart) refl;
    wires = refl;
    bits = refl;
    ends = λ wire k apart. refl;
    downs = refl;
    priorities = refl;
    chosen = refl;
    labels = refl;
  };
  effects = gives_none (is_of_session mine) work.effects;
  idle = refl;
}

-- ---- messages are put

put_octets_works : (mine : ℕ → Bool) (peer : EdgeId) (bytes : List ℕ) (taken : Bool) (work : Work) → mine peer.0 ≡ true → IsSessionWork mine work (put_octets peer bytes taken work).work
put_octets_works mine peer bytes false work own = puts_works mine peer bytes false work
put_octets_works mine peer bytes true work own =
    let called : Work = puts peer bytes true work in
    let spoken : Work = changes (with_spoken peer) called in
    works_then mine work called (gives (effect.Said peer bytes) spoken) (puts_works mine peer bytes true work)
    (works_then mine called spoken (gives (effect.Said peer bytes) spoken) (spoken_works mine peer called own) (gives_works mine (effect.Said peer bytes) spoken own))

put_reply_works : (told : Answers) (mine : ℕ → Bool) (peer : EdgeId) (reply : Reply) (kept : Option Peering) (work : Work) → mine peer.0 ≡ true
    → IsSessionWork mine work (put_reply_to told peer reply kept work).work
put_reply_works told mine peer reply None work own = works_not mine work
put_reply_works told mine peer reply (Some kept) work own = put_octets_works mine peer (octets_of kept reply) (next_answer told work) work own

pub put_replies_work : (told : Answers) (mine : ℕ → Bool) (peer : EdgeId) (replies : List Reply) (work : Work) → mine peer.0 ≡ true → IsSessionWork mine work (put_replies told peer replies work).work
put_replies_work told mine peer [] work own = works_not mine work
put_replies_work told mine peer (reply ∷ replies) work own =
    works_then mine work (put_reply told peer reply work).work _ (put_reply_works told mine peer reply (work.edge.peering peer.0) work own)
    (on (put_reply told peer reply work).failed (put_replies_work told mine peer replies (put_reply told peer reply work).work own))
  where
    on : (failed : Bool) → IsSessionWork mine (put_reply told peer reply work).work (put_replies told peer replies (put_reply told peer reply work).work).work
        → IsSessionWork mine (put_reply told peer reply work).work (puts_on (put_replies told peer replies) failed (put_reply told peer reply work).work).work
    on true rest = works_not mine (put_reply told peer reply work).work
    on false rest = rest

-- ---- a session

pub ends_work : (mine : ℕ → Bool) (peer : EdgeId) (why : Reason) (work : Work) → mine peer.0 ≡ true → IsSessionWork mine work (ends peer why work)
ends_work mine peer why work own =
    let gone : Work = changes (with_peering peer None) work in
    let said : Work = gives (effect.Session peer (name.Ended why)) gone in
    works_then mine work gone (ends peer why work) (peering_works mine peer None work own)
    (works_then mine gone said (ends peer why work) (gives_works mine (effect.Session peer (name.Ended why)) gone own) (gives_works mine (effect.Closed peer) said own))

tells_work : (mine : ℕ → Bool) (peer : EdgeId) (old new : Phase) (work : Work) → mine peer.0 ≡ true → IsSessionWork mine work (tells_change peer old new work)
tells_work mine peer old new work own = by (is_same_phase old new) where
  by : (same : Bool) → IsSessionWork mine work (cond same work (gives (effect.Session peer (phase_name new)) work))
  by true = works_not mine work
  by false = gives_works mine (effect.Session peer (phase_name new)) work own

went_on_works : (mine : ℕ → Bool) (peer : EdgeId) (old new : Phase) (put : Spoken) → mine peer.0 ≡ true → IsSessionWork mine put.work (went_on peer old new put)
went_on_works mine peer old new put own = by put.failed where
  by : (failed : Bool) → IsSessionWork mine put.work (cond failed (ends peer reason.LinkFault put.work) (tells_change peer old new put.work))
  by true = ends_work mine peer reason.LinkFault put.work own
  by false = tells_work mine peer old new put.work own

comes_of_works : (told : Answers) (mine : ℕ → Bool) (peer : EdgeId) (kept : Peering) (outcome : Outcome) (work : Work) → mine peer.0 ≡ true
    → IsSessionWork mine work (comes_of told peer kept outcome work)
comes_of_works told mine peer kept Stay work own = works_not mine work
comes_of_works told mine peer kept (Goes next replies) work own =
    let gone : Work = changes (with_peering peer (Some (with_session next kept))) work in
    let put : Spoken = put_replies told peer replies gone in
    works_then mine work gone (went_on peer kept.session.phase next.phase put) (peering_works mine peer (Some (with_session next kept)) work own)
    (works_then mine gone put.work (went_on peer kept.session.phase next.phase put) (put_replies_work told mine peer replies gone own) (went_on_works mine peer kept.session.phase next.phase put own))
comes_of_works told mine peer kept (Ends why replies) work own =
    let put : Spoken = put_replies told peer replies work in
    works_then mine work put.work (ends peer why put.work) (put_replies_work told mine peer replies work own) (ends_work mine peer why put.work own)

happens_to_works : (told : Answers) (mine : ℕ → Bool) (peer : EdgeId) (event : SessionEvent) (kept : Option Peering) (work : Work) → mine peer.0 ≡ true
    → IsSessionWork mine work (happens_to told peer event kept work)
happens_to_works told mine peer event None work own = works_not mine work
happens_to_works told mine peer event (Some kept) work own = comes_of_works told mine peer kept (outcome_of kept.session event) work own

-- whatever happens to the session with a peer
pub happens_works : (told : Answers) (mine : ℕ → Bool) (peer : EdgeId) (event : SessionEvent) (work : Work) → mine peer.0 ≡ true → IsSessionWork mine work (happens told peer event work)
happens_works told mine peer event work own = happens_to_works told mine peer event (work.edge.peering peer.0) work own

-- ---- no event of a session by itself changes an end

put_octets_ends : (peer : EdgeId) (bytes : List ℕ) (taken : Bool) (work : Work) → (put_octets peer bytes taken work).work.edge.ends ≡ work.edge.ends
unfolding changes gives puts with_peering with_spoken
put_octets_ends peer bytes true work = refl
put_octets_ends peer bytes false work = refl

put_reply_ends : (told : Answers) (peer : EdgeId) (reply : Reply) (kept : Option Peering) (work : Work) → (put_reply_to told peer reply kept work).work.edge.ends ≡ work.edge.ends
put_reply_ends told peer reply None work = refl
put_reply_ends told peer reply (Some kept) work = put_octets_ends peer (octets_of kept reply) (next_answer told work) work

pub put_replies_ends : (told : Answers) (peer : EdgeId) (replies : List Reply) (work : Work) → (put_replies told peer replies work).work.edge.ends ≡ work.edge.ends
put_replies_ends told peer [] work = refl
put_replies_ends told peer (reply ∷ replies) work = on (put_reply told peer reply work).failed (put_replies_ends told peer replies (put_reply told peer reply work).work) ∙ put_reply_ends told peer reply (work.edge.peering peer.0) work where
  put : Work
  put = (put_reply told peer reply work).work

  on : (failed : Bool) → (put_replies told peer replies put).work.edge.ends ≡ put.edge.ends → (puts_on (put_replies told peer replies) failed put).work.edge.ends ≡ put.edge.ends
  on true rest = refl
  on false rest = rest

went_on_ends : (peer : EdgeId) (old new : Phase) (put : Spoken) → (went_on peer old new put).edge.ends ≡ put.work.edge.ends
unfolding changes gives with_peering
went_on_ends peer old new put = by put.failed (is_same_phase old new) where
  by : (failed same : Bool) → (cond failed (ends peer reason.LinkFault put.work) (cond same put.work (gives (effect.Session peer (phase_name new)) put.work))).edge.ends ≡ put.work.edge.ends
  by true same = refl
  by false true = refl
  by false false = refl

comes_of_ends : (told : Answers) (peer : EdgeId) (kept : Peering) (outcome : Outcome) (work : Work) → (comes_of told peer kept outcome work).edge.ends ≡ work.edge.ends
unfolding changes gives with_peering
comes_of_ends told peer kept Stay work = refl
comes_of_ends told peer kept (Goes next replies) work =
    let gone : Work = changes (with_peering peer (Some (with_session next kept))) work in
    went_on_ends peer kept.session.phase next.phase (put_replies told peer replies gone) ∙ put_replies_ends told peer replies gone
comes_of_ends told peer kept (Ends why replies) work = put_replies_ends told peer replies work

pub happens_ends : (told : Answers) (peer : EdgeId) (event : SessionEvent) (work : Work) → (happens told peer event work).edge.ends ≡ work.edge.ends
happens_ends told peer event work = by (work.edge.peering peer.0) where
  by : (kept : Option Peering) → (happens_to told peer event kept work).edge.ends ≡ work.edge.ends
  by None = refl
  by (Some kept) = comes_of_ends told peer kept (outcome_of kept.session event) work

-- ---- and with the ends beside the peer

-- the ends beside a peer are lost where its session does not stand
pub clears_works : (mine : ℕ → Bool) (peer : EdgeId) (work : Work) → mine peer.0 ≡ true → IsSessionWork mine work (clears_ends peer work)
unfolding changes with_ends_beside with_kept
clears_works mine peer work own = by (has_end work.edge peer) where
  by : (stands : Bool) → IsSessionWork mine work (cond stands work (changes (losing_ends peer) work))
  by true = works_not mine work
  by false = record {
    edge = record {
      me = refl;
      circuits = refl;
      learned = refl;
      ticks = refl;
      others = λ k apart. refl;
      wires = refl;
      bits = refl;
      ends = λ wire k apart. rw (is_apart mine k peer.0 own apart) refl;
      downs = refl;
      priorities = refl;
      chosen = refl;
      labels = refl;
    };
    effects = gives_none (is_of_session mine) work.effects;
    idle = refl;
  }

pub happens_with_ends_works : (told : Answers) (mine : ℕ → Bool) (peer : EdgeId) (event : SessionEvent) (work : Work) → mine peer.0 ≡ true
    → IsSessionWork mine work (happens_with_ends told peer event work)
happens_with_ends_works told mine peer event work own =
    let happened : Work = happens told peer event work in
    works_then mine work happened (clears_ends peer happened) (happens_works told mine peer event work own) (clears_works mine peer happened own)

-- ---- a message is put apart from the events of the session

had_put_works : (mine : ℕ → Bool) (peer : EdgeId) (put : Spoken) → mine peer.0 ≡ true → IsSessionWork mine put.work (had_put peer put)
had_put_works mine peer put own = by put.failed where
  by : (failed : Bool) → IsSessionWork mine put.work (cond failed (ends peer reason.LinkFault put.work) put.work)
  by true = ends_work mine peer reason.LinkFault put.work own
  by false = works_not mine put.work

-- a message up to where the ends beside the peer are lost
pub message_works : (told : Answers) (mine : ℕ → Bool) (peer : EdgeId) (message : ℕ → Message) (kept : Peering) (work : Work) → mine peer.0 ≡ true
    → IsSessionWork mine work (had_put peer (put_octets peer (message_octets_of kept message) (next_answer told work) work))
message_works told mine peer message kept work own =
    let put : Spoken = put_octets peer (message_octets_of kept message) (next_answer told work) work in
    works_then mine work put.work (had_put peer put) (put_octets_works mine peer (message_octets_of kept message) (next_answer told work) work own) (had_put_works mine peer put own)

-- and a reply
pub reply_works : (told : Answers) (mine : ℕ → Bool) (peer : EdgeId) (reply : Reply) (work : Work) → mine peer.0 ≡ true → IsSessionWork mine work (had_put peer (put_reply told peer reply work))
reply_works told mine peer reply work own =
    let put : Spoken = put_reply told peer reply work in
    works_then mine work put.work (had_put peer put) (put_reply_works told mine peer reply (work.edge.peering peer.0) work own) (had_put_works mine peer put own)

says_to_works : (told : Answers) (mine : ℕ → Bool) (peer : EdgeId) (message : ℕ → Message) (kept : Option Peering) (work : Work) → mine peer.0 ≡ true
    → IsSessionWork mine work (says_to told peer message kept work).work
says_to_works told mine peer message None work own = works_not mine work
says_to_works told mine peer message (Some kept) work own =
    let said : Work = had_put peer (put_octets peer (message_octets_of kept message) (next_answer told work) work) in
    works_then mine work said (clears_ends peer said) (message_works told mine peer message kept work own) (clears_works mine peer said own)

pub says_works : (told : Answers) (mine : ℕ → Bool) (peer : EdgeId) (message : ℕ → Message) (work : Work) → mine peer.0 ≡ true → IsSessionWork mine work (says told peer message work).work
says_works told mine peer message work own = says_to_works told mine peer message (work.edge.peering peer.0) work own

-- a reply is put apart from the events of the session
pub advice_works : (told : Answers) (mine : ℕ → Bool) (peer : EdgeId) (reply : Reply) (work : Work) → mine peer.0 ≡ true → IsSessionWork mine work (had_said peer (put_reply told peer reply work)).work
advice_works told mine peer reply work own =
    let said : Work = had_put peer (put_reply told peer reply work) in
    works_then mine work said (clears_ends peer said) (reply_works told mine peer reply work own) (clears_works mine peer said own)

pub advises_works : (told : Answers) (mine : ℕ → Bool) (peer : EdgeId) (advice : Option Reply) (work : Work) → mine peer.0 ≡ true → IsSessionWork mine work (advises told peer advice work)
advises_works told mine peer None work own = works_not mine work
advises_works told mine peer (Some reply) work own = advice_works told mine peer reply work own

-- octets are held
pub holds_works : (mine : ℕ → Bool) (peer : EdgeId) (octets : List ℕ) (kept : Option Peering) (work : Work) → mine peer.0 ≡ true → IsSessionWork mine work (holds peer octets kept work)
holds_works mine peer octets None work own = works_not mine work
holds_works mine peer octets (Some kept) work own = peering_works mine peer (Some (record kept { held = octets })) work own

-- ---- connections and ticks

-- what waits for a peer begins to rest
pub meeting_works : (mine : ℕ → Bool) (peer : EdgeId) (work : Work) → IsSessionWork mine work (changes (meeting peer) work)
unfolding changes with_kept
meeting_works mine peer work = record {
  edge = record {
    me = refl;
    circuits = refl;
    learned = refl;
    ticks = refl;
    others = λ k apart. refl;
    wires = refl;
    bits = refl;
    ends = λ wire k apart. refl;
    downs = refl;
    priorities = refl;
    chosen = refl;
    labels = refl;
  };
  effects = gives_none (is_of_session mine) work.effects;
  idle = refl;
}

pub connects_works : (told : Answers) (mine : ℕ → Bool) (peer : EdgeId) (kept : Peering) (work : Work) → mine peer.0 ≡ true → IsSessionWork mine work (connects told peer kept work)
connects_works told mine peer kept work own =
    let began : Work = changes (meeting peer) work in
    let stands : Work = changes (with_peering peer (Some kept)) began in
    let said : Work = gives (effect.Session peer name.Initialized) stands in
    works_then mine work stands (connects told peer kept work) (works_then mine work began stands (meeting_works mine peer work) (peering_works mine peer (Some kept) began own))
    (works_then mine stands said (connects told peer kept work) (gives_works mine (effect.Session peer name.Initialized) stands own) (happens_with_ends_works told mine peer table.Start said own))

-- every peer
abbrev pub any : ℕ → Bool
any peer = true

pub ticks_work : (told : Answers) (place count : ℕ) (work : Work) → IsSessionWork any work (ticks_sessions told place count work)
ticks_work told place zero work = works_not any work
ticks_work told place (suc count) work =
    let first : Work = happens_with_ends told (record { 0 = place }) Ticked work in
    works_then any work first (ticks_sessions told place (suc count) work) (happens_with_ends_works told any (record { 0 = place }) Ticked work refl) (ticks_work told (place + 1) count first)

-- a restart keeps the place, the circuits and the ticks of the edge, and gives out nothing; it leaves nothing else
pub record IsRestartWork (old new : Work) : Type 0 where
  pub me : new.edge.me ≡ old.edge.me
  pub circuits : new.edge.circuit_on ≡ old.edge.circuit_on
  pub ticks : new.edge.ticks ≡ old.edge.ticks
  pub learned : (service : ℕ) → new.edge.learned service ≡ []
  pub peering : (k : ℕ) → new.edge.peering k ≡ None
  pub effects : new.effects ≡ old.effects
  pub idle : new.idle ≡ old.idle

pub restart_works : (work : Work) → IsRestartWork work (restart_input work)
unfolding changes with_learned without_ends without_peerings with_kept
restart_works work = record { me = refl; circuits = refl; ticks = refl; learned = λ service. refl; peering = λ k. refl; effects = refl; idle = refl }
