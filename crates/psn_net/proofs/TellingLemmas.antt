-- An edge tells of each connection that it changes: where it gives out no octets for a peer and no state of the session with it, its
-- end of their connection stands or not as it did, and it takes nothing out of the pipe.
use Rattle.std.proofs.Common.{◌≡◌, ◌+◌, ◌++◌, ◌&&◌, ◌∙◌, ℕ, Bool, true, false, not, List, [], ◌∷◌, Option, Some, None, cond, refl, ap, sym, nat_eq, slice_get, length, option_map, append_assoc, append-nil, inl, inr}
use Rattle.std.proofs.lemmas.Bool.{cases_Bool, eqb-true}
use Rattle.net_base.specs.declared.plan.Plan.{Plan}
use Rattle.net_base.specs.declared.plan.circuit_plan.CircuitPlan.{CircuitPlan}
use Rattle.net_base.specs.declared.plan.edge_plan.EdgePlan.{EdgePlan}
use Rattle.net_base.specs.declared.plan.places.CircuitId.{CircuitId}
use Rattle.net_base.specs.declared.plan.places.EdgeId.{EdgeId}
use Rattle.net_base.specs.declared.plan.places.WireId.{WireId}
use Rattle.net_base.specs.declared.trace.down.Down.{Down}
use Rattle.net_base.specs.declared.trace.state_name.Reason.{Reason}
use Rattle.net_base.specs.declared.trace.state_name.Reason.TheVariants as reason
use Rattle.net_base.specs.declared.trace.state_name.StateName.{StateName}
use Rattle.net_base.specs.declared.trace.state_name.StateName.TheVariants as name
use Rattle.net_base.specs.plan.Paths.{are_joined}
use Rattle.net_base.specs.plan.Places.{wire_row}
use Rattle.ldp_grammar.specs.declared.message.Message.{Message}
use Rattle.pw_tlvs.specs.declared.pw_status.PwStatus.{PwStatus}
use Rattle.pw_signalling.specs.Rows.{bound, group_stated, group_unbound, stated, unbound}
use Rattle.session_core.specs.declared.reply.Reply.{Reply}
use Rattle.session_core.specs.Phase.{Phase}
use Rattle.session_core.specs.Session.{phase_name}
use Rattle.session_core.specs.Table as table
use Rattle.session_core.specs.Table.{SessionEvent, Outcome, Stay, Goes, Ends, outcome_of}
use Rattle.pw_messages.specs.Content.{mac_withdrawal, mapping, release, status_notification, withdrawal}
use Rattle.pw_messages.specs.LinkAnswers.{Answers}
use Rattle.edge_model.specs.Circuit.{circuit_input, is_same, turned}
use Rattle.edge_model.specs.Clear.{withdrawing_at}
use Rattle.edge_model.specs.Connection.{connected_input, connects_between, lost_input, opened_with}
use Rattle.edge_model.specs.declared.effect.Effect.{Effect}
use Rattle.edge_model.specs.declared.effect.Effect.TheVariants as effect
use Rattle.edge_model.specs.EndPlaces.{ends_here, passes}
use Rattle.edge_model.specs.Frame.{frame_input, is_own}
use Rattle.edge_model.specs.Labels.{meeting}
use Rattle.edge_model.specs.Hear.{hears_on, octets_input}
use Rattle.edge_model.specs.Mend.{advertising, forgetting_wire, mends, telling_status, withdrawing}
use Rattle.edge_model.specs.Packet.{packet_input}
use Rattle.edge_model.specs.Ping.{ping_input}
use Rattle.edge_model.specs.Put.{Spoken, having_spoken, message_octets_of, octets_of, put_octets, put_replies, put_reply, put_reply_to, puts_on, with_spoken}
use Rattle.edge_model.specs.Role.{down_at, status_to_tell}
use Rattle.edge_model.specs.Session.{clears_ends, comes_of, ends, had_put, had_said, happens, happens_to, happens_with_ends, is_same_phase, losing_ends, says, says_to, tells_change, went_on, with_session}
use Rattle.edge_model.specs.Signal.{end_of_fec, with_end_changed, with_named, with_released}
use Rattle.edge_model.specs.Spokes.{choosing}
use Rattle.edge_model.specs.State.{EdgeState, Peering, has_end, is_on, is_there, with_addresses, with_bits, with_chosen, with_end, with_ends_beside, with_learned, with_next_label, with_peering, with_priority, with_ticks, with_kept, with_told_down}
use Rattle.edge_model.specs.Tick.{counted, forgetting, tick_input, ticks_sessions}
use Rattle.edge_model.specs.Wire.{is_own_spoke, priority_input, status_input, turned_wire, wire_input}
use Rattle.edge_model.specs.Work.{Work, beginning, changes, gives, idles, next_answer, puts}
use Rattle.edge_model.proofs.BridgeLemmas.{BridgesInput, BridgesOnly, PingsInput, forgetting_only, frame_bridges, is_of_bridging, packet_bridges, ping_bridges}
use Rattle.edge_model.proofs.SessionLemmas.{GivesOnly, are_all, are_all-append}
use Rattle.edge_model.proofs.WalkLemmas.{HearSteps, MendSteps, hears_on_holds, mends_holds, ticks_hold}
use Rattle.edge_model.proofs.AgainLemmas.{there_spoken}
use Rattle.edge_model.proofs.FitLemmas.{named_keeps, turned_wire_keeps, changed_keeps, released_keeps, turned_keeps}

-- neither octets for a peer nor a state of the session with it
abbrev pub is_silent : ℕ → Effect → Bool
is_silent k (effect.Said peer octets) = not (nat_eq k peer.0)
is_silent k (effect.Session peer state) = not (nat_eq k peer.0)
is_silent k e = true

-- not that the end of the connection with a peer is gone
abbrev pub leaves_open : ℕ → Effect → Bool
leaves_open k (effect.Closed peer) = not (nat_eq k peer.0)
leaves_open k e = true

-- between two moments of an edge: where it is silent towards a peer, the end of their connection is as it was
pub record TellsOf (k : ℕ) (old new : Work) : Type 0 where
  pub more : List Effect
  pub given : new.effects ≡ old.effects ++ more
  pub there : are_all (is_silent k) more ≡ true → is_there (new.edge.peering k) ≡ is_there (old.edge.peering k)
  pub leaves : are_all (is_silent k) more ≡ true → are_all (leaves_open k) more ≡ true

tells_not : (k : ℕ) (work : Work) → TellsOf k work work
tells_not k work = record { more = []; given = sym (append-nil work.effects); there = λ h. refl; leaves = λ h. refl }

all_split : (test : Effect → Bool) (xs ys : List Effect) → are_all test (xs ++ ys) ≡ true → (are_all test xs ≡ true) × (are_all test ys ≡ true)
all_split test [] ys h = (refl, h)
all_split test (x ∷ xs) ys h = by (test x) h (λ own. all_split test xs ys own) where
  by : (b : Bool) → b && are_all test (xs ++ ys) ≡ true → (are_all test (xs ++ ys) ≡ true → (are_all test xs ≡ true) × (are_all test ys ≡ true)) → (b && are_all test xs ≡ true)
      × (are_all test ys ≡ true)
  by true own rest = rest own
  by false own rest = absurd (cc (own))

tells_then : (k : ℕ) (a b c : Work) → TellsOf k a b → TellsOf k b c → TellsOf k a c
tells_then k a b c first next = record {
  more = first.more ++ next.more;
  given = next.given ∙ (ap (λ (l : List Effect). l ++ next.more) first.given ∙ append_assoc a.effects first.more next.more);
  there = λ h. next.there (both h).1 ∙ first.there (both h).0;
  leaves = λ h. are_all-append (leaves_open k) first.more next.more (first.leaves (both h).0) (next.leaves (both h).1);
} where
  both : are_all (is_silent k) (first.more ++ next.more) ≡ true → (are_all (is_silent k) first.more ≡ true) × (are_all (is_silent k) next.more ≡ true)
  both h = all_split (is_silent k) first.more next.more h

-- ---- what an edge at work does

-- a change that leaves the sessions as they were
same_tells : (k : ℕ) (change : EdgeState → EdgeState) (work : Work) → (change work.edge).peering ≡ work.edge.peering → TellsOf k work (changes change work)
unfolding changes
same_tells k change work same = record {
  more = [];
  given = sym (append-nil work.effects);
  there = λ h. ap (λ (peering : ℕ → Option Peering). is_there (peering k)) same;
  leaves = λ h. refl;
}

gives_tells : (k : ℕ) (e : Effect) (work : Work) → leaves_open k e ≡ true → TellsOf k work (gives e work)
unfolding gives
gives_tells k e work left = record { more = e ∷ []; given = refl; there = λ h. refl; leaves = λ h. rw left refl }

puts_tells : (k : ℕ) (peer : EdgeId) (bytes : List ℕ) (taken : Bool) (work : Work) → TellsOf k work (puts peer bytes taken work)
unfolding puts
puts_tells k peer bytes taken work = record { more = []; given = sym (append-nil work.effects); there = λ h. refl; leaves = λ h. refl }

idles_tells : (k : ℕ) (work : Work) → TellsOf k work (idles work)
unfolding idles
idles_tells k work = record { more = []; given = sym (append-nil work.effects); there = λ h. refl; leaves = λ h. refl }

-- another state of a session that stands as it did
put_there : (k : ℕ) (peer : EdgeId) (kept : Option Peering) (peering : ℕ → Option Peering) → is_there kept ≡ is_there (peering peer.0)
    → is_there (cond (nat_eq k peer.0) kept (peering k)) ≡ is_there (peering k)
put_there k peer kept peering same = elim (cases_Bool (nat_eq k peer.0)) [
  | inl here ↦ rw here (same ∙ ap (λ (j : ℕ). is_there (peering j)) (sym (eqb-true k peer.0 here)))
  | inr away ↦ rw away refl
]

peering_tells : (k : ℕ) (peer : EdgeId) (kept : Option Peering) (work : Work) → is_there kept ≡ is_there (work.edge.peering peer.0) → TellsOf k work (changes (with_peering peer kept) work)
unfolding changes with_peering
peering_tells k peer kept work same = record {
  more = [];
  given = sym (append-nil work.effects);
  there = λ h. put_there k peer kept work.edge.peering same;
  leaves = λ h. refl;
}

spoken_tells : (k : ℕ) (peer : EdgeId) (work : Work) → TellsOf k work (changes (with_spoken peer) work)
unfolding changes with_peering with_spoken
spoken_tells k peer work = record {
  more = [];
  given = sym (append-nil work.effects);
  there = λ h. put_there k peer (option_map having_spoken (work.edge.peering peer.0)) work.edge.peering (there_spoken (work.edge.peering peer.0));
  leaves = λ h. refl;
}

-- an edge that is silent towards a peer has told of another one
not_him : (b rest : Bool) → not b && rest ≡ true → b ≡ false
not_him true rest h = absurd (cc (h))
not_him false rest h = refl

-- a session begins, which is told
opens_tells : (k : ℕ) (peer : EdgeId) (kept : Option Peering) (state : StateName) (work : Work) → TellsOf k work (gives (effect.Session peer state) (changes (with_peering peer kept) work))
unfolding changes gives with_peering
opens_tells k peer kept state work = record {
  more = effect.Session peer state ∷ [];
  given = refl;
  there = λ h. let away = not_him (nat_eq k peer.0) true h in rw away refl;
  leaves = λ h. refl;
}

-- a session ends, which is told before its end is gone
ends_tells : (k : ℕ) (peer : EdgeId) (why : Reason) (work : Work) → TellsOf k work (ends peer why work)
unfolding changes gives with_peering
ends_tells k peer why work = record {
  more = effect.Session peer (name.Ended why) ∷ effect.Closed peer ∷ [];
  given = append_assoc work.effects (effect.Session peer (name.Ended why) ∷ []) (effect.Closed peer ∷ []);
  there = λ h. let away = not_him (nat_eq k peer.0) true h in rw away refl;
  leaves = λ h. let away = not_him (nat_eq k peer.0) true h in rw away refl;
}

-- ---- messages are put

put_octets_tells : (k : ℕ) (peer : EdgeId) (bytes : List ℕ) (taken : Bool) (work : Work) → TellsOf k work (put_octets peer bytes taken work).work
put_octets_tells k peer bytes false work = puts_tells k peer bytes false work
put_octets_tells k peer bytes true work =
    let called : Work = puts peer bytes true work in
    let spoken : Work = changes (with_spoken peer) called in
    tells_then k work called (gives (effect.Said peer bytes) spoken) (puts_tells k peer bytes true work)
    (tells_then k called spoken (gives (effect.Said peer bytes) spoken) (spoken_tells k peer called) (gives_tells k (effect.Said peer bytes) spoken refl))

put_reply_tells : (told : Answers) (k : ℕ) (peer : EdgeId) (reply : Reply) (kept : Option Peering) (work : Work) → TellsOf k work (put_reply_to told peer reply kept work).work
put_reply_tells told k peer reply None work = tells_not k work
put_reply_tells told k peer reply (Some kept) work = put_octets_tells k peer (octets_of kept reply) (next_answer told work) work

put_replies_tell : (told : Answers) (k : ℕ) (peer : EdgeId) (replies : List Reply) (work : Work) → TellsOf k work (put_replies told peer replies work).work
put_replies_tell told k peer [] work = tells_not k work
put_replies_tell told k peer (reply ∷ replies) work =
    tells_then k work (put_reply told peer reply work).work _ (put_reply_tells told k peer reply (work.edge.peering peer.0) work)
    (on (put_reply told peer reply work).failed (put_replies_tell told k peer replies (put_reply told peer reply work).work))
  where
    on : (failed : Bool) → TellsOf k (put_reply told peer reply work).work (put_replies told peer replies (put_reply told peer reply work).work).work
        → TellsOf k (put_reply told peer reply work).work (puts_on (put_replies told peer replies) failed (put_reply told peer reply work).work).work
    on true rest = tells_not k (put_reply told peer reply work).work
    on false rest = rest

-- ---- a session

changed_tells : (k : ℕ) (peer : EdgeId) (old new : Phase) (work : Work) → TellsOf k work (tells_change peer old new work)
changed_tells k peer old new work = by (is_same_phase old new) where
  by : (same : Bool) → TellsOf k work (cond same work (gives (effect.Session peer (phase_name new)) work))
  by true = tells_not k work
  by false = gives_tells k (effect.Session peer (phase_name new)) work refl

went_on_tells : (k : ℕ) (peer : EdgeId) (old new : Phase) (put : Spoken) → TellsOf k put.work (went_on peer old new put)
went_on_tells k peer old new put = by put.failed where
  by : (failed : Bool) → TellsOf k put.work (cond failed (ends peer reason.LinkFault put.work) (tells_change peer old new put.work))
  by true = ends_tells k peer reason.LinkFault put.work
  by false = changed_tells k peer old new put.work

comes_of_tells : (told : Answers) (k : ℕ) (peer : EdgeId) (kept : Peering) (outcome : Outcome) (work : Work) → work.edge.peering peer.0 ≡ Some kept
    → TellsOf k work (comes_of told peer kept outcome work)
comes_of_tells told k peer kept Stay work is = tells_not k work
comes_of_tells told k peer kept (Goes next replies) work is =
    let gone : Work = changes (with_peering peer (Some (with_session next kept))) work in
    let put : Spoken = put_replies told peer replies gone in
    tells_then k work gone (went_on peer kept.session.phase next.phase put) (peering_tells k peer (Some (with_session next kept)) work (sym (ap is_there is)))
    (tells_then k gone put.work (went_on peer kept.session.phase next.phase put) (put_replies_tell told k peer replies gone) (went_on_tells k peer kept.session.phase next.phase put))
comes_of_tells told k peer kept (Ends why replies) work is =
    let put : Spoken = put_replies told peer replies work in
    tells_then k work put.work (ends peer why put.work) (put_replies_tell told k peer replies work) (ends_tells k peer why put.work)

happens_tells : (told : Answers) (k : ℕ) (peer : EdgeId) (event : SessionEvent) (work : Work) → TellsOf k work (happens told peer event work)
happens_tells told k peer event work = to (work.edge.peering peer.0) refl where
  to : (kept : Option Peering) → work.edge.peering peer.0 ≡ kept → TellsOf k work (happens_to told peer event kept work)
  to None is = tells_not k work
  to (Some kept) is = comes_of_tells told k peer kept (outcome_of kept.session event) work is

clears_tells : (k : ℕ) (peer : EdgeId) (work : Work) → TellsOf k work (clears_ends peer work)
unfolding with_ends_beside with_kept
clears_tells k peer work = by (has_end work.edge peer) where
  by : (stands : Bool) → TellsOf k work (cond stands work (changes (losing_ends peer) work))
  by true = tells_not k work
  by false = same_tells k (losing_ends peer) work refl

with_ends_tells : (told : Answers) (k : ℕ) (peer : EdgeId) (event : SessionEvent) (work : Work) → TellsOf k work (happens_with_ends told peer event work)
with_ends_tells told k peer event work =
    let happened : Work = happens told peer event work in
    tells_then k work happened (clears_ends peer happened) (happens_tells told k peer event work) (clears_tells k peer happened)

-- ---- a message is put apart from the events of the session

had_said_tells : (k : ℕ) (peer : EdgeId) (put : Spoken) → TellsOf k put.work (had_said peer put).work
had_said_tells k peer put = tells_then k put.work (had_put peer put) (had_said peer put).work (by put.failed) (clears_tells k peer (had_put peer put)) where
  by : (failed : Bool) → TellsOf k put.work (cond failed (ends peer reason.LinkFault put.work) put.work)
  by true = ends_tells k peer reason.LinkFault put.work
  by false = tells_not k put.work

says_to_tells : (told : Answers) (k : ℕ) (peer : EdgeId) (message : ℕ → Message) (kept : Option Peering) (work : Work) → TellsOf k work (says_to told peer message kept work).work
says_to_tells told k peer message None work = tells_not k work
says_to_tells told k peer message (Some kept) work =
    let put : Spoken = put_octets peer (message_octets_of kept message) (next_answer told work) work in
    tells_then k work put.work (had_said peer put).work (put_octets_tells k peer (message_octets_of kept message) (next_answer told work) work) (had_said_tells k peer put)

says_tells : (told : Answers) (k : ℕ) (peer : EdgeId) (message : ℕ → Message) (work : Work) → TellsOf k work (says told peer message work).work
says_tells told k peer message work = says_to_tells told k peer message (work.edge.peering peer.0) work

advice_tells : (told : Answers) (k : ℕ) (peer : EdgeId) (reply : Reply) (work : Work) → TellsOf k work (had_said peer (put_reply told peer reply work)).work
advice_tells told k peer reply work =
    let put : Spoken = put_reply told peer reply work in
    tells_then k work put.work (had_said peer put).work (put_reply_tells told k peer reply (work.edge.peering peer.0) work) (had_said_tells k peer put)

-- ---- what leaves the sessions as they were

forgetting_keeps : (plan : Plan) (wire : WireId) (work : Work) → (forgetting_wire plan wire (wire_row plan wire) work.edge).peering ≡ work.edge.peering
unfolding changes
forgetting_keeps plan wire work = (forgetting_only plan wire (wire_row plan wire) work).edge.peering

-- ---- all that an edge does

-- a change of its ends, and then a message
changes_and_says : (told : Answers) (k : ℕ) (change : EdgeState → EdgeState) (peer : EdgeId) (message : ℕ → Message) (work : Work) → (change work.edge).peering ≡ work.edge.peering
    → TellsOf k work (says told peer message (changes change work)).work
changes_and_says told k change peer message work same =
    tells_then k work (changes change work) (says told peer message (changes change work)).work (same_tells k change work same) (says_tells told k peer message (changes change work))

mend_steps : (plan : Plan) (told : Answers) (k : ℕ) → MendSteps plan told (TellsOf k)
unfolding with_chosen with_end with_kept with_next_label with_told_down
mend_steps plan told k = record {
  same = λ work. tells_not k work;
  joined = λ a b c first next. tells_then k a b c first next;
  advertises = λ place label content work is idle wished given. changes_and_says told k (advertising place label content) place.peer (mapping place.pw_id label content) work refl;
  withdraws = λ place label content work is advertised wished. changes_and_says told k (withdrawing place) place.peer (withdrawal place.pw_id label content) work refl;
  chooses = λ work. same_tells k (choosing plan) work refl;
  tells_status = λ place label content last work is advertised told_it other.
      let status : PwStatus = status_to_tell plan work.edge place in
      changes_and_says told k (telling_status place status) place.peer (status_notification place.pw_id status content) work refl;
  tells_piece = λ place label content addresses work advertised. says_tells told k place.peer (mac_withdrawal place.pw_id addresses content) work;
  tells_down = λ place work is terminal other.
      let down : Option Down = down_at plan work.edge place in
      let known : Work = changes (with_told_down place.wire down) work in
      tells_then k work known (gives (effect.Wire place.wire down) known) (same_tells k (with_told_down place.wire down) work refl) (gives_tells k (effect.Wire place.wire down) known refl);
  forgets_wire = λ place why work is terminal down. same_tells k (forgetting_wire plan place.wire (wire_row plan place.wire)) work (forgetting_keeps plan place.wire work);
}

hear_steps : (plan : Plan) (told : Answers) (k : ℕ) → HearSteps plan told (TellsOf k)
unfolding with_addresses
hear_steps plan told k = record {
  mend = mend_steps plan told k;
  happens = λ peer event work. with_ends_tells told k peer event work;
  advises = λ peer reply work. advice_tells told k peer reply work;
  holds = λ peer kept octets work is. peering_tells k peer (Some (record kept { held = octets })) work (sym (ap is_there is));
  releases = λ peer fec label work. says_tells told k peer (release fec label) work;
  binds = λ peer fec place binding work there is taken. same_tells k (with_end_changed (bound binding) (Some place)) work (changed_keeps (bound binding) (Some place) work.edge);
  unbinds = λ peer fec label work there.
      same_tells k (with_named plan peer fec (unbound label) (group_unbound fec.group) fec.pw_id) work (named_keeps plan peer fec (unbound label) (group_unbound fec.group) fec.pw_id work.edge);
  released = λ peer fec label work there.
      same_tells k (λ edge. with_released label (end_of_fec plan edge peer fec) edge) work (released_keeps label (end_of_fec plan work.edge peer fec) work.edge);
  states = λ peer fec status work there.
      same_tells k (with_named plan peer fec (stated status) (group_stated fec.group status) fec.pw_id) work
      (named_keeps plan peer fec (stated status) (group_stated fec.group status) fec.pw_id work.edge);
  clears = λ service addresses from work. same_tells k (withdrawing_at service addresses from) work refl;
}

-- ---- an edge takes an input

module _ (plan : Plan) (told : Answers) (k : ℕ) where
  mends_tells : (work : Work) → TellsOf k work (mends plan told work)
  mends_tells work = mends_holds plan told (TellsOf k) (mend_steps plan told k) work

  -- a change after which the edge mends
  changed_mends : (change : EdgeState → EdgeState) (work : Work) → (change work.edge).peering ≡ work.edge.peering → TellsOf k work (mends plan told (changes change work))
  changed_mends change work same = tells_then k work (changes change work) (mends plan told (changes change work)) (same_tells k change work same) (mends_tells (changes change work))

  meeting_tells : (peer : EdgeId) (work : Work) → TellsOf k work (changes (meeting peer) work)
  unfolding with_kept
  meeting_tells peer work = same_tells k (meeting peer) work refl

  pub connected_tells : (peer : EdgeId) (work : Work) → TellsOf k work (connected_input plan told peer work)
  connected_tells peer work = by (are_joined plan work.edge.me.0 peer.0 && not (has_end work.edge peer)) where
    met : Work
    met = changes (meeting peer) work

    between : (own other : Option EdgePlan) → TellsOf k work (connects_between plan told peer own other work)
    between None other = idles_tells k work
    between (Some own) None = idles_tells k work
    between (Some own) (Some other) =
        let began : Work = gives (effect.Session peer name.Initialized) (changes (with_peering peer (Some (opened_with own other))) met) in
        let started : Work = happens_with_ends told peer table.Start began in
        tells_then k work began (mends plan told started) (tells_then k work met began (meeting_tells peer work) (opens_tells k peer (Some (opened_with own other)) name.Initialized met))
        (tells_then k began started (mends plan told started) (with_ends_tells told k peer table.Start began) (mends_tells started))

    by : (b : Bool) → TellsOf k work (cond b (connects_between plan told peer (slice_get plan.edges work.edge.me.0) (slice_get plan.edges peer.0) work) (idles work))
    by true = between (slice_get plan.edges work.edge.me.0) (slice_get plan.edges peer.0)
    by false = idles_tells k work

  pub octets_tell : (peer : EdgeId) (octets : List ℕ) (kept : Option Peering) (work : Work) → TellsOf k work (octets_input plan told peer octets kept work)
  octets_tell peer octets None work = idles_tells k work
  octets_tell peer octets (Some kept) work =
      let heard : Work = hears_on plan told peer octets (Some kept) work in
      tells_then k work heard (mends plan told heard) (hears_on_holds plan told (TellsOf k) (hear_steps plan told k) peer octets (Some kept) work) (mends_tells heard)

  pub lost_tells : (peer : EdgeId) (work : Work) → TellsOf k work (lost_input plan told peer work)
  lost_tells peer work = by (has_end work.edge peer) where
    ended : Work
    ended = happens_with_ends told peer (table.Closed reason.Closed) work

    by : (b : Bool) → TellsOf k work (cond b (mends plan told ended) (idles work))
    by true = tells_then k work ended (mends plan told ended) (with_ends_tells told k peer (table.Closed reason.Closed) work) (mends_tells ended)
    by false = idles_tells k work

  pub tick_tells : (work : Work) → TellsOf k work (tick_input plan told work)
  unfolding with_kept with_learned with_ticks
  tick_tells work =
      let first : Work = changes counted work in
      let ticked : Work = ticks_sessions told 0 (length plan.edges) first in
      tells_then k work first (tick_input plan told work) (same_tells k counted work refl)
      (tells_then k first ticked (tick_input plan told work) (ticks_hold plan told (TellsOf k) (hear_steps plan told k) 0 (length plan.edges) first)
      (changed_mends (forgetting plan) ticked refl))

  pub circuit_tells : (circuit : CircuitId) (on : Bool) (row : Option CircuitPlan) (work : Work) → TellsOf k work (circuit_input plan told circuit on row work)
  circuit_tells circuit on None work = idles_tells k work
  circuit_tells circuit on (Some row) work = by (is_own work.edge row && not (is_same on (is_on work.edge circuit))) where
    by : (b : Bool) → TellsOf k work (cond b (mends plan told (changes (turned plan circuit row on) work)) (idles work))
    by true = changed_mends (turned plan circuit row on) work (turned_keeps plan circuit row on work.edge)
    by false = idles_tells k work

  pub wire_tells : (wire : WireId) (on : Bool) (work : Work) → TellsOf k work (wire_input plan told wire on work)
  wire_tells wire on work = by (passes plan work.edge.me wire && not (is_same on (work.edge.wire_on wire.0))) where
    by : (b : Bool) → TellsOf k work (cond b (mends plan told (changes (turned_wire wire on) work)) (idles work))
    by true = changed_mends (turned_wire wire on) work (turned_wire_keeps wire on work.edge)
    by false = idles_tells k work

  pub status_tells : (wire : WireId) (bits : ℕ) (work : Work) → TellsOf k work (status_input plan told wire bits work)
  unfolding with_bits
  status_tells wire bits work = by (ends_here plan work.edge.me wire && not (nat_eq bits (work.edge.bits wire.0))) where
    by : (b : Bool) → TellsOf k work (cond b (mends plan told (changes (with_bits wire bits) work)) (idles work))
    by true = changed_mends (with_bits wire bits) work refl
    by false = idles_tells k work

  pub priority_tells : (wire : WireId) (priority : ℕ) (work : Work) → TellsOf k work (priority_input plan told wire priority work)
  unfolding with_priority
  priority_tells wire priority work = by (is_own_spoke work.edge.me (wire_row plan wire) && not (nat_eq priority (work.edge.priority wire.0))) where
    by : (b : Bool) → TellsOf k work (cond b (mends plan told (changes (with_priority wire priority) work)) (idles work))
    by true = changed_mends (with_priority wire priority) work refl
    by false = idles_tells k work

  -- ---- frames, packets and pings

  bridging_leaves : (es : List Effect) → are_all is_of_bridging es ≡ true → are_all (leaves_open k) es ≡ true
  bridging_leaves [] own = refl
  bridging_leaves (effect.Left circuit octets ∷ es) own = bridging_leaves es own
  bridging_leaves (effect.Sent peer wire came octets ∷ es) own = bridging_leaves es own
  bridging_leaves (effect.Dropped cause ∷ es) own = bridging_leaves es own
  bridging_leaves (effect.Pong wire sequence ∷ es) own = bridging_leaves es own
  bridging_leaves (effect.Said peer octets ∷ es) own = absurd (cc (own))
  bridging_leaves (effect.Session peer state ∷ es) own = absurd (cc (own))
  bridging_leaves (effect.Wire wire down ∷ es) own = absurd (cc (own))
  bridging_leaves (effect.Closed peer ∷ es) own = absurd (cc (own))

  bridging_tells : (old new : Work) → new.edge.peering ≡ old.edge.peering → GivesOnly is_of_bridging old.effects new.effects → TellsOf k old new
  bridging_tells old new same only = record {
    more = only.more;
    given = only.given;
    there = λ h. ap (λ (peering : ℕ → Option Peering). is_there (peering k)) same;
    leaves = λ h. bridging_leaves only.more only.own;
  }

  pub frame_tells : (circuit : CircuitId) (octets : List ℕ) (row : Option CircuitPlan) (work : Work) → TellsOf k work (frame_input plan told circuit octets row work)
  frame_tells circuit octets row work =
      let bridges : BridgesInput work (frame_input plan told circuit octets row work) = frame_bridges plan told circuit octets row work in
      bridging_tells work (frame_input plan told circuit octets row work) bridges.edge.peering bridges.effects

  pub packet_tells : (octets : List ℕ) (work : Work) → TellsOf k work (packet_input plan told octets work)
  packet_tells octets work =
      let bridges : BridgesOnly work (packet_input plan told octets work) = packet_bridges plan told octets work in
      bridging_tells work (packet_input plan told octets work) bridges.edge.peering bridges.effects

  pub ping_tells : (wire : WireId) (work : Work) → TellsOf k work (ping_input plan told wire work)
  ping_tells wire work =
      let pings : PingsInput work (ping_input plan told wire work) = ping_bridges plan told wire work in
      bridging_tells work (ping_input plan told wire work) (ap (λ (edge : EdgeState). edge.peering) pings.edge) pings.effects

-- ---- all that is told on one input

-- of an edge before an input and its work on it
pub record TellsAll (old : EdgeState) (work : Work) : Type 0 where
  pub there : (k : ℕ) → are_all (is_silent k) work.effects ≡ true → is_there (work.edge.peering k) ≡ is_there (old.peering k)
  pub leaves : (k : ℕ) → are_all (is_silent k) work.effects ≡ true → are_all (leaves_open k) work.effects ≡ true

pub tells_all : (old : EdgeState) (work : Work) → ((k : ℕ) → TellsOf k (beginning old []) work) → TellsAll old work
tells_all old work tells = record {
  there = λ k h. (tells k).there (sym (ap (are_all (is_silent k)) (tells k).given) ∙ h);
  leaves = λ k h. ap (are_all (leaves_open k)) (tells k).given ∙ (tells k).leaves (sym (ap (are_all (is_silent k)) (tells k).given) ∙ h);
}
