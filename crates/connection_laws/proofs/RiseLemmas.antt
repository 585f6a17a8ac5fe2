-- Deliveries never set a session back: an end that stands before and behind one is in the same state, or in a later one.
use Rattle.std.proofs.Common.{◌≡◌, ◌≤◌, nat_eq, ℕ, Bool, true, false, cond, take, drop, List, [], ◌∷◌, option_map, Option, Some, None, inl, inr, refl, sym, subst, arith}
use Rattle.std.proofs.lemmas.Bool.{cases_Bool, eqb-true}
use Rattle.net_values.proofs.NumberLemmas.{same_number}
use Rattle.net_base.specs.declared.plan.Plan.{Plan}
use Rattle.net_base.specs.declared.plan.places.EdgeId.{EdgeId}
use Rattle.net_base.specs.declared.trace.event.Event.TheVariants.{Deliver}
use Rattle.net_base.specs.declared.trace.state_name.Reason.{Reason}
use Rattle.net_base.specs.declared.trace.state_name.Reason.TheVariants as reason
use Rattle.net_base.specs.plan.Places.{wire_row}
use Rattle.ldp_grammar.specs.declared.message.Message.{Message}
use Rattle.ldp_grammar.specs.declared.message.Message.TheVariants.{Notification, Initialization, KeepAlive}
use Rattle.ldp_grammar.specs.declared.session_params.SessionParams.{SessionParams}
use Rattle.pw_messages.specs.Content.{mac_withdrawal, mapping, release, status_notification, withdrawal}
use Rattle.pw_messages.specs.LinkAnswers.{Answers}
use Rattle.pw_signalling.specs.Rows.{bound, group_stated, group_unbound, stated, unbound}
use Rattle.session_core.specs.declared.refusal.Refusal.{Refusal}
use Rattle.session_core.specs.declared.reply.Reply.{Reply}
use Rattle.session_core.specs.Parameters.{agreed, is_platform, proposal_refusal}
use Rattle.session_core.specs.Phase.{Phase}
use Rattle.session_core.specs.Phase as phase
use Rattle.session_core.specs.Session.{phase_name}
use Rattle.session_core.specs.State.{SessionState, is_active}
use Rattle.session_core.specs.Table as table
use Rattle.session_core.specs.Table.{SessionEvent, Start, Heard, Received, Refused, Spoke, Ticked, Closed, Outcome, Stay, Goes, Ends, a_tick_later, enters_phase, is_expired, judged, notified, outcome_of, reason_in, ticked_session}
use Rattle.edge_model.specs.declared.effect.Effect.{Effect}
use Rattle.edge_model.specs.declared.effect.Effect.TheVariants as effect
use Rattle.edge_model.specs.Connection.{lost_input}
use Rattle.edge_model.specs.Hear.{hears_on, octets_input}
use Rattle.edge_model.specs.Mend.{advertising, mends, telling_status, withdrawing}
use Rattle.edge_model.specs.Put.{Spoken, having_spoken, message_octets_of, octets_of, put_octets, put_replies, put_reply, put_reply_to, puts_on, with_spoken}
use Rattle.edge_model.specs.Role.{down_at, status_to_tell}
use Rattle.edge_model.specs.Session.{clears_ends, comes_of, ends, had_put, had_said, happens, happens_to, happens_with_ends, is_same_phase, says, says_to, tells_change, went_on, with_session}
use Rattle.edge_model.specs.Signal.{end_of_fec, with_end_changed, with_named, with_released}
use Rattle.edge_model.specs.Spokes.{choosing}
use Rattle.edge_model.specs.State.{EdgeState, Peering, has_end, with_chosen, with_peering, with_told_down}
use Rattle.edge_model.specs.Work.{Work, changes, gives, idles, next_answer, puts}
use Rattle.edge_model.proofs.BridgeLemmas.{forgetting_only, withdrawing_only}
use Rattle.edge_model.proofs.CommonLemmas.{advertising_changed}
use Rattle.edge_model.proofs.FitLemmas.{named_keeps, changed_keeps, released_keeps}
use Rattle.edge_model.proofs.HeldLemmas.{clears_keep, ended_gone}
use Rattle.edge_model.proofs.SessionLemmas.{IsBesides, advice_works, happens_with_ends_works, says_works}
use Rattle.edge_model.proofs.WalkLemmas.{HearSteps, MendSteps, hears_on_holds, mends_holds}
use Rattle.network_model.specs.Absorb.{absorb, begin_at, idle, taken_all}
use Rattle.network_model.specs.Connection.{delivering, hearing_work, is_deliverable, is_drained_pipe, losing, losing_work}
use Rattle.network_model.specs.State.{NetworkState, with_edge, with_pipe}
use Rattle.network_model.specs.Step.{step}
use Rattle.network_model.proofs.AbsorbLemmas.{all_keep}
use Rattle.connection_laws.specs.Laws.{DeliveriesRaise, rank}
use Rattle.connection_laws.proofs.StepLemmas.{telling_changed, withdrawing_changed}

-- ---- one session

least_itself : (n : ℕ) → n ≤ n
least_itself n = omega arith

goes_same : {one other : SessionState} → {replies rest : List Reply} → Goes one replies ≡ Goes other rest → one ≡ other
goes_same e = cc

stay_goes : {P : Type 0} {next : SessionState} {replies : List Reply} → Stay ≡ Goes next replies → P
stay_goes e = absurd (cc)

ends_goes : {P : Type 0} {why : Reason} {said replies : List Reply} {next : SessionState} → Ends why said ≡ Goes next replies → P
ends_goes e = absurd (cc)

-- the session goes on in this state
in_state : (p : Phase) (one next : SessionState) (said replies : List Reply) → rank p ≤ rank one.phase → Goes one said ≡ Goes next replies → rank p ≤ rank next.phase
in_state p one next said replies least e = subst (λ (s : SessionState). rank p ≤ rank s.phase) (goes_same e) least

at_state : (p : Phase) (s : SessionState) → s.phase ≡ p → rank p ≤ rank s.phase
at_state p s at = subst (λ (q : Phase). rank p ≤ rank q) (sym at) (least_itself (rank p))

heard_rises : (p : Phase) (s next : SessionState) (why : Reason) (said replies : List Reply) (b : Bool) → s.phase ≡ p → cond b (Goes (record s { wait = 0 }) []) (Ends why said) ≡ Goes next replies
    → rank p ≤ rank next.phase
heard_rises p s next why said replies true at e = in_state p (record s { wait = 0 }) next [] replies (at_state p s at) e
heard_rises p s next why said replies false at e = ends_goes e

ticked_rises : (p : Phase) (s next : SessionState) (said more replies : List Reply) (b : Bool) → s.phase ≡ p → cond b (Ends reason.Expired said) (Goes (a_tick_later s) more) ≡ Goes next replies
    → rank p ≤ rank next.phase
ticked_rises p s next said more replies true at e = ends_goes e
ticked_rises p s next said more replies false at e = in_state p (a_tick_later s) next more replies (at_state p s at) e

noticed_rises : {P : Type 0} (o : Option Reason) (s next : SessionState) (m : Message) (replies : List Reply) → notified o s m ≡ Goes next replies → P
noticed_rises None s next m replies e = stay_goes e
noticed_rises (Some why) s next m replies e = ends_goes e

judged_rises : (o : Option Refusal) (s next : SessionState) (m : Message) (params : SessionParams) (said replies : List Reply) → judged o s m params said ≡ Goes next replies
    → rank phase.OpenRec ≤ rank next.phase
judged_rises None s next m params said replies e = in_state phase.OpenRec (agreed s params) next said replies (least_itself (rank phase.OpenRec)) e
judged_rises (Some why) s next m params said replies e = ends_goes e

sent_rises : (m : Message) (active : Bool) (s next : SessionState) (replies : List Reply) → table.table phase.OpenSent (Received m) active s ≡ Goes next replies → rank phase.OpenSent ≤ rank next.phase
sent_rises (Initialization id params) active s next replies e =
    omega (arith, judged_rises (proposal_refusal s.peers params) s next (Initialization id params) params _ replies e)
sent_rises (Notification id status pw_status fec) active s next replies e = noticed_rises (reason_in status) s next (Notification id status pw_status fec) replies e
sent_rises m active s next replies e = ends_goes e

rec_rises : (m : Message) (active : Bool) (s next : SessionState) (replies : List Reply) → table.table phase.OpenRec (Received m) active s ≡ Goes next replies → rank phase.OpenRec ≤ rank next.phase
rec_rises (KeepAlive id) active s next replies e = in_state phase.OpenRec (enters_phase phase.Operational s) next [] replies (omega arith) e
rec_rises (Notification id status pw_status fec) active s next replies e = noticed_rises (reason_in status) s next (Notification id status pw_status fec) replies e
rec_rises m active s next replies e = ends_goes e

up_rises : (m : Message) (active : Bool) (s next : SessionState) (replies : List Reply) → table.table phase.Operational (Received m) active s ≡ Goes next replies
    → rank phase.Operational ≤ rank next.phase
up_rises (Notification id status pw_status fec) active s next replies e = noticed_rises (reason_in status) s next (Notification id status pw_status fec) replies e
up_rises m active s next replies e = stay_goes e

table_rises : (p : Phase) (event : SessionEvent) (active : Bool) (s next : SessionState) (replies : List Reply) → s.phase ≡ p → table.table p event active s ≡ Goes next replies → rank p ≤ rank next.phase
table_rises phase.Initialized event active s next replies at e = omega arith
table_rises phase.OpenSent (Received m) active s next replies at e = sent_rises m active s next replies e
table_rises phase.OpenRec (Received m) active s next replies at e = rec_rises m active s next replies e
table_rises phase.Operational (Received m) active s next replies at e = up_rises m active s next replies e
table_rises p (Heard sender) active s next replies at e = heard_rises p s next _ _ replies (is_platform s.peers.peer sender) at e
table_rises p (Refused fault) active s next replies at e = ends_goes e
table_rises p Spoke active s next replies at e = in_state p (record s { silence = 0 }) next [] replies (at_state p s at) e
table_rises p Ticked active s next replies at e = ticked_rises p s next _ _ replies (is_expired (a_tick_later s)) at e
table_rises p (Closed why) active s next replies at e = ends_goes e
table_rises p Start active s next replies at e = stay_goes e

-- ---- an end

-- none came to stand, and the state of one that stands is no earlier one
abbrev Above : (old new : Option Peering) → Type 0
Above None None = Unit {0}
Above None (Some now) = ⊥
Above (Some kept) None = Unit {0}
Above (Some kept) (Some now) = rank kept.session.phase ≤ rank now.session.phase

above_itself : (o : Option Peering) → Above o o
above_itself None = tt
above_itself (Some kept) = least_itself (rank kept.session.phase)

above_none : (o : Option Peering) → Above o None
above_none None = tt
above_none (Some kept) = tt

above_then : (a b c : Option Peering) → Above a b → Above b c → Above a c
above_then a b None one next = above_none a
above_then None None (Some z) one next = next
above_then (Some x) None (Some z) one next = absurd next
above_then None (Some y) (Some z) one next = one
above_then (Some x) (Some y) (Some z) one next = omega (arith, one, next)

spoken_above : (o : Option Peering) → Above o (option_map having_spoken o)
spoken_above None = tt
spoken_above (Some kept) = least_itself (rank kept.session.phase)

-- ---- an edge at work

-- so it is with each end
Rose : Work → Work → Type 0
Rose old new = (k : ℕ) → Above (old.edge.peering k) (new.edge.peering k)

AtPeer : EdgeId → Work → Work → Type 0
AtPeer peer old new = Above (old.edge.peering peer.0) (new.edge.peering peer.0)

module _ (told : Answers) where
  rose_same : (a b : Work) → b.edge.peering ≡ a.edge.peering → Rose a b
  unfolding Rose
  rose_same a b same k = subst (λ (f : ℕ → Option Peering). Above (a.edge.peering k) (f k)) (sym same) (above_itself (a.edge.peering k))

  rose_then : (a b c : Work) → Rose a b → Rose b c → Rose a c
  unfolding Rose
  rose_then a b c one next k = above_then (a.edge.peering k) (b.edge.peering k) (c.edge.peering k) (one k) (next k)

  rose_beside : (peer : EdgeId) (a b : Work) → IsBesides (λ k. nat_eq k peer.0) a.edge b.edge → AtPeer peer a b → Rose a b
  unfolding Rose AtPeer
  rose_beside peer a b besides at k = elim (cases_Bool (nat_eq k peer.0)) [
    | inl here ↦ subst (λ (n : ℕ). Above (a.edge.peering n) (b.edge.peering n)) (sym (eqb-true k peer.0 here)) at
    | inr away ↦ subst (λ (o : Option Peering). Above (a.edge.peering k) o) (sym (besides.others k away)) (above_itself (a.edge.peering k))
  ]

  ended : (peer : EdgeId) (why : Reason) (old work : Work) → AtPeer peer old (ends peer why work)
  unfolding AtPeer
  ended peer why old work = subst (λ (o : Option Peering). Above (old.edge.peering peer.0) o) (sym (ended_gone peer why work)) (above_none (old.edge.peering peer.0))

  cleared : (peer : EdgeId) (old work : Work) → AtPeer peer old work → AtPeer peer old (clears_ends peer work)
  unfolding AtPeer
  cleared peer old work at = subst (λ (f : ℕ → Option Peering). Above (old.edge.peering peer.0) (f peer.0)) (sym (clears_keep peer work)) at

  put_at_peer : (peer : EdgeId) (bytes : List ℕ) (taken : Bool) (work : Work) → AtPeer peer work (put_octets peer bytes taken work).work
  unfolding AtPeer gives changes puts with_spoken with_peering
  put_at_peer peer bytes true work = rw (same_number peer.0) (spoken_above (work.edge.peering peer.0))
  put_at_peer peer bytes false work = above_itself (work.edge.peering peer.0)

  had_at_peer : (peer : EdgeId) (put : Spoken) (old : Work) → AtPeer peer old put.work → AtPeer peer old (had_said peer put).work
  had_at_peer peer put old at = cleared peer old (had_put peer put) (by put.failed) where
    by : (b : Bool) → AtPeer peer old (cond b (ends peer reason.LinkFault put.work) put.work)
    by true = ended peer reason.LinkFault old put.work
    by false = at

  says_at_peer : (peer : EdgeId) (message : ℕ → Message) (work : Work) (o : Option Peering) → work.edge.peering peer.0 ≡ o → AtPeer peer work (says_to told peer message o work).work
  unfolding AtPeer
  says_at_peer peer message work None at = above_itself (work.edge.peering peer.0)
  says_at_peer peer message work (Some kept) at =
      had_at_peer peer (put_octets peer (message_octets_of kept message) (next_answer told work) work) work (put_at_peer peer (message_octets_of kept message) (next_answer told work) work)

  says_rose : (peer : EdgeId) (message : ℕ → Message) (work : Work) → Rose work (says told peer message work).work
  says_rose peer message work =
      rose_beside peer work (says told peer message work).work (says_works told (λ k. nat_eq k peer.0) peer message work (same_number peer.0)).edge
      (says_at_peer peer message work (work.edge.peering peer.0) refl)

  reply_at_peer : (peer : EdgeId) (reply : Reply) (work : Work) (o : Option Peering) → AtPeer peer work (put_reply_to told peer reply o work).work
  unfolding AtPeer
  reply_at_peer peer reply work None = above_itself (work.edge.peering peer.0)
  reply_at_peer peer reply work (Some kept) = put_at_peer peer (octets_of kept reply) (next_answer told work) work

  advice_rose : (peer : EdgeId) (reply : Reply) (work : Work) → Rose work (had_said peer (put_reply told peer reply work)).work
  advice_rose peer reply work =
      rose_beside peer work (had_said peer (put_reply told peer reply work)).work (advice_works told (λ k. nat_eq k peer.0) peer reply work (same_number peer.0)).edge
      (had_at_peer peer (put_reply told peer reply work) work (reply_at_peer peer reply work (work.edge.peering peer.0)))

  then_at_peer : (peer : EdgeId) (a b c : Work) → AtPeer peer a b → AtPeer peer b c → AtPeer peer a c
  unfolding AtPeer
  then_at_peer peer a b c one next = above_then (a.edge.peering peer.0) (b.edge.peering peer.0) (c.edge.peering peer.0) one next

  same_at_peer : (peer : EdgeId) (work : Work) → AtPeer peer work work
  unfolding AtPeer
  same_at_peer peer work = above_itself (work.edge.peering peer.0)

  replies_at_peer : (peer : EdgeId) (replies : List Reply) (work : Work) → AtPeer peer work (put_replies told peer replies work).work
  replies_at_peer peer [] work = same_at_peer peer work
  replies_at_peer peer (reply ∷ replies) work =
      by (put_reply told peer reply work).failed (replies_at_peer peer replies (put_reply told peer reply work).work)
    where
      first : AtPeer peer work (put_reply told peer reply work).work
      first = reply_at_peer peer reply work (work.edge.peering peer.0)

      by : (b : Bool) → AtPeer peer (put_reply told peer reply work).work (put_replies told peer replies (put_reply told peer reply work).work).work
          → AtPeer peer work (puts_on (put_replies told peer replies) b (put_reply told peer reply work).work).work
      by true others = first
      by false others = then_at_peer peer work (put_reply told peer reply work).work (put_replies told peer replies (put_reply told peer reply work).work).work first others

  told_at_peer : (peer : EdgeId) (old new : Phase) (before work : Work) → AtPeer peer before work → AtPeer peer before (tells_change peer old new work)
  unfolding AtPeer gives
  told_at_peer peer old new before work at = by (is_same_phase old new) where
    by : (b : Bool) → AtPeer peer before (cond b work (gives (effect.Session peer (phase_name new)) work))
    by true = at
    by false = at

  went_at_peer : (peer : EdgeId) (old new : Phase) (before : Work) (put : Spoken) → AtPeer peer before put.work → AtPeer peer before (went_on peer old new put)
  went_at_peer peer old new before put at = by put.failed where
    by : (b : Bool) → AtPeer peer before (cond b (ends peer reason.LinkFault put.work) (tells_change peer old new put.work))
    by true = ended peer reason.LinkFault before put.work
    by false = told_at_peer peer old new before put.work at

  moved_at_peer : (peer : EdgeId) (kept now : Peering) (work : Work) → work.edge.peering peer.0 ≡ Some kept → rank kept.session.phase ≤ rank now.session.phase
      → AtPeer peer work (changes (with_peering peer (Some now)) work)
  unfolding AtPeer changes with_peering
  moved_at_peer peer kept now work at least = rw (same_number peer.0, at) least

  comes_at_peer : (peer : EdgeId) (kept : Peering) (o : Outcome) (work : Work) → work.edge.peering peer.0 ≡ Some kept
      → ((next : SessionState) (replies : List Reply) → o ≡ Goes next replies → rank kept.session.phase ≤ rank next.phase) → AtPeer peer work (comes_of told peer kept o work)
  comes_at_peer peer kept Stay work at least = same_at_peer peer work
  comes_at_peer peer kept (Goes next replies) work at least =
      let begun : Work = changes (with_peering peer (Some (with_session next kept))) work in
      went_at_peer peer kept.session.phase next.phase work (put_replies told peer replies begun)
      (then_at_peer peer work begun (put_replies told peer replies begun).work (moved_at_peer peer kept (with_session next kept) work at (least next replies refl))
      (replies_at_peer peer replies begun))
  comes_at_peer peer kept (Ends why replies) work at least = ended peer why work (put_replies told peer replies work).work

  happens_at_peer : (peer : EdgeId) (event : SessionEvent) (work : Work) (o : Option Peering) → work.edge.peering peer.0 ≡ o → AtPeer peer work (happens_to told peer event o work)
  happens_at_peer peer event work None at = same_at_peer peer work
  happens_at_peer peer event work (Some kept) at =
      comes_at_peer peer kept (outcome_of kept.session event) work at (λ next replies is. table_rises kept.session.phase event (is_active kept.session.peers) kept.session next replies refl is)

  happens_rose : (peer : EdgeId) (event : SessionEvent) (work : Work) → Rose work (happens_with_ends told peer event work)
  happens_rose peer event work =
      rose_beside peer work (happens_with_ends told peer event work) (happens_with_ends_works told (λ k. nat_eq k peer.0) peer event work (same_number peer.0)).edge
      (cleared peer work (happens told peer event work) (happens_at_peer peer event work (work.edge.peering peer.0) refl))

  holds_rose : (peer : EdgeId) (kept : Peering) (octets : List ℕ) (work : Work) → work.edge.peering peer.0 ≡ Some kept
      → Rose work (changes (with_peering peer (Some (record kept { held = octets }))) work)
  unfolding Rose changes with_peering
  holds_rose peer kept octets work stands k = elim (cases_Bool (nat_eq k peer.0)) [
    | inl here ↦ rw here (subst (λ (n : ℕ). Above (work.edge.peering n) (Some (record kept { held = octets }))) (sym (eqb-true k peer.0 here)) (rw stands (least_itself (rank kept.session.phase))))
    | inr away ↦ rw away (above_itself (work.edge.peering k))
  ]

  changes_rose : (change : EdgeState → EdgeState) (work : Work) → (change work.edge).peering ≡ work.edge.peering → Rose work (changes change work)
  unfolding changes
  changes_rose change work same = rose_same work (changes change work) same

  gives_rose : (e : Effect) (work : Work) → Rose work (gives e work)
  unfolding gives
  gives_rose e work = rose_same work (gives e work) refl

  idles_rose : (work : Work) → Rose work (idles work)
  unfolding idles
  idles_rose work = rose_same work (idles work) refl

  mend_rises : (plan : Plan) → MendSteps plan told Rose
  unfolding with_chosen with_told_down
  mend_rises plan = record {
    same = λ work. rose_same work work refl;
    joined = rose_then;
    advertises = λ place label content work here idle wished given.
        rose_then work (changes (advertising place label content) work) _ (changes_rose (advertising place label content) work (advertising_changed place label content work.edge))
        (says_rose place.peer (mapping place.pw_id label content) (changes (advertising place label content) work));
    withdraws = λ place label content work here is wished.
        rose_then work (changes (withdrawing place) work) _ (changes_rose (withdrawing place) work (withdrawing_changed place work.edge))
        (says_rose place.peer (withdrawal place.pw_id label content) (changes (withdrawing place) work));
    chooses = λ work. changes_rose (choosing plan) work refl;
    tells_status = λ place label content last work here is status other.
        rose_then work (changes (telling_status place (status_to_tell plan work.edge place)) work) _
        (changes_rose (telling_status place (status_to_tell plan work.edge place)) work (telling_changed place (status_to_tell plan work.edge place) work.edge))
        (says_rose place.peer (status_notification place.pw_id (status_to_tell plan work.edge place) content) (changes (telling_status place (status_to_tell plan work.edge place)) work));
    tells_piece = λ place label content addresses work is. says_rose place.peer (mac_withdrawal place.pw_id addresses content) work;
    forgets_wire = λ place why work here terminal is. rose_same work _ (forgetting_only plan place.wire (wire_row plan place.wire) work).edge.peering;
    tells_down = λ place work here terminal other.
        rose_then work (changes (with_told_down place.wire (down_at plan work.edge place)) work) _
        (changes_rose (with_told_down place.wire (down_at plan work.edge place)) work refl)
        (gives_rose (effect.Wire place.wire (down_at plan work.edge place)) (changes (with_told_down place.wire (down_at plan work.edge place)) work));
  }

  hear_rises : (plan : Plan) → HearSteps plan told Rose
  hear_rises plan = record {
    mend = mend_rises plan;
    happens = happens_rose;
    advises = advice_rose;
    holds = holds_rose;
    releases = λ peer fec label work. says_rose peer (release fec label) work;
    binds = λ peer fec place binding work there is taken. changes_rose (with_end_changed (bound binding) (Some place)) work (changed_keeps (bound binding) (Some place) work.edge);
    unbinds = λ peer fec label work there.
        changes_rose (with_named plan peer fec (unbound label) (group_unbound fec.group) fec.pw_id) work (named_keeps plan peer fec (unbound label) (group_unbound fec.group) fec.pw_id work.edge);
    released = λ peer fec label work there.
        changes_rose (λ edge. with_released label (end_of_fec plan edge peer fec) edge) work (released_keeps label (end_of_fec plan work.edge peer fec) work.edge);
    states = λ peer fec status work there.
        changes_rose (with_named plan peer fec (stated status) (group_stated fec.group status) fec.pw_id) work
        (named_keeps plan peer fec (stated status) (group_stated fec.group status) fec.pw_id work.edge);
    clears = λ service addresses from work. rose_same work _ (withdrawing_only service addresses from work).edge.peering;
  }

  mends_rose : (plan : Plan) (work : Work) → Rose work (mends plan told work)
  mends_rose plan work = mends_holds plan told Rose (mend_rises plan) work

  octets_rose : (plan : Plan) (peer : EdgeId) (octets : List ℕ) (kept : Option Peering) (work : Work) → Rose work (octets_input plan told peer octets kept work)
  octets_rose plan peer octets None work = idles_rose work
  octets_rose plan peer octets (Some kept) work =
      rose_then work (hears_on plan told peer octets (Some kept) work) _ (hears_on_holds plan told Rose (hear_rises plan) peer octets (Some kept) work)
      (mends_rose plan (hears_on plan told peer octets (Some kept) work))

  lost_rose : (plan : Plan) (peer : EdgeId) (work : Work) → Rose work (lost_input plan told peer work)
  lost_rose plan peer work = by (has_end work.edge peer) where
    by : (b : Bool) → Rose work (cond b (mends plan told (happens_with_ends told peer (Closed reason.Closed) work)) (idles work))
    by true =
        rose_then work (happens_with_ends told peer (Closed reason.Closed) work) _ (happens_rose peer (Closed reason.Closed) work)
        (mends_rose plan (happens_with_ends told peer (Closed reason.Closed) work))
    by false = idles_rose work

-- ---- in the network

absorbed_rose : (me : EdgeId) (work : Work) (before network : NetworkState) (a b : ℕ) → network.edges ≡ before.edges → Rose (begin_at before me) work
    → Above ((before.edges a).peering b) (((absorb me 0 0 work network).state.edges a).peering b)
unfolding Rose with_edge
absorbed_rose me work before network a b same rose =
    subst (λ (edges : ℕ → EdgeState). Above ((before.edges a).peering b) ((edges a).peering b)) (sym (all_keep me 0 0 work.effects (with_edge me work.edge network)).edges)
    (elim (cases_Bool (nat_eq a me.0)) [
      | inl here ↦ rw here (subst (λ (n : ℕ). Above ((before.edges n).peering b) (work.edge.peering b)) (sym (eqb-true a me.0 here)) (rose b))
      | inr away ↦ rw away (subst (λ (edges : ℕ → EdgeState). Above ((before.edges a).peering b) ((edges a).peering b)) (sym same) (above_itself ((before.edges a).peering b)))
    ])

piped : (from to : EdgeId) (octets : List ℕ) (network : NetworkState) → (with_pipe from to octets network).edges ≡ network.edges
unfolding with_pipe
piped from to octets network = refl

delivered_rose : (plan : Plan) (network : NetworkState) (from to : EdgeId) (count a b : ℕ)
    → Above ((network.edges a).peering b) (((step plan network (Deliver from to count)).state.edges a).peering b)
delivered_rose plan network from to count a b = by (is_deliverable network from.0 to.0) (is_drained_pipe network from.0 to.0) where
  by : (applies drained : Bool)
      → Above ((network.edges a).peering b) (((cond applies (cond drained (losing plan to from network) (delivering plan from to count network)) (idle network)).state.edges a).peering b)
  by true true = absorbed_rose to (losing_work plan network to from) network network a b refl (lost_rose taken_all plan from (begin_at network to))
  by true false =
      absorbed_rose to (hearing_work plan network from to (take count (network.pipes from.0 to.0))) network (with_pipe from to (drop count (network.pipes from.0 to.0)) network) a b
      (piped from to (drop count (network.pipes from.0 to.0)) network)
      (octets_rose taken_all plan from (take count (network.pipes from.0 to.0)) ((network.edges to.0).peering from.0) (begin_at network to))
  by false drained = above_itself ((network.edges a).peering b)

pub deliveries_raise : DeliveriesRaise
deliveries_raise plan network from to count a b kept now was is = rw (was, is) at (delivered_rose plan network from to count a b)
