-- What an event of a session leaves of the edge, and which state it leaves the session in.
use Rattle.std.proofs.Common.{◌≡◌, ◌∙◌, ℕ, Bool, true, false, cond, List, [], ◌∷◌, Option, Some, None, option_map, refl}
use Rattle.net_values.proofs.NumberLemmas.{same_number}
use Rattle.net_base.specs.declared.plan.places.EdgeId.{EdgeId}
use Rattle.net_base.specs.declared.trace.state_name.Reason.{Reason}
use Rattle.net_base.specs.declared.trace.state_name.Reason.TheVariants as reason
use Rattle.ldp_grammar.specs.declared.message.Message.{Message}
use Rattle.ldp_grammar.specs.declared.message.Message.TheVariants.{Notification}
use Rattle.session_core.specs.declared.reply.Reply.{Reply}
use Rattle.session_core.specs.declared.reply.Reply.TheVariants as reply
use Rattle.session_core.specs.Parameters.{is_platform}
use Rattle.session_core.specs.StatusCodes.{about_none, bad_ldp_identifier, keep_alive_timer_expired}
use Rattle.ldp_grammar.specs.declared.ldp_id.LdpId.{LdpId}
use Rattle.session_core.specs.Phase.{Phase}
use Rattle.session_core.specs.Phase as phase
use Rattle.session_core.specs.Session.{phase_name}
use Rattle.session_core.specs.State.{SessionState}
use Rattle.session_core.specs.Table.{SessionEvent, Outcome, Stay, Goes, Ends, Start, Heard, Received, Refused, Spoke, Ticked, Closed, heard_sender, is_expired, is_keep_alive_due, a_tick_later, notified, outcome_of, reason_in, ticked_session}
use Rattle.pw_messages.specs.LinkAnswers.{Answers}
use Rattle.edge_model.specs.declared.effect.Effect.TheVariants as effect
use Rattle.edge_model.specs.Put.{Spoken, having_spoken, octets_of, put_octets, put_replies, put_reply, put_reply_to, puts_on, with_spoken}
use Rattle.edge_model.specs.Session.{comes_of, ends, happens, happens_to, is_same_phase, tells_change, with_session}
use Rattle.edge_model.specs.State.{EdgeState, Peering, with_peering}
use Rattle.edge_model.specs.Work.{Work, changes, gives, next_answer, puts}

-- ---- the rest of the edge

-- all that has to do with pseudowires, but the choice among spokes, is as it was
pub record KeepsEnds (old new : EdgeState) : Type 0 where
  pub me : new.me ≡ old.me
  pub wire_on : new.wire_on ≡ old.wire_on
  pub bits : new.bits ≡ old.bits
  pub ends : new.ends ≡ old.ends
  pub told_down : new.told_down ≡ old.told_down
  pub next_label : new.next_label ≡ old.next_label
  pub kept : new.kept ≡ old.kept

pub keeps_same : (edge : EdgeState) → KeepsEnds edge edge
keeps_same edge = record { me = refl; wire_on = refl; bits = refl; ends = refl; told_down = refl; next_label = refl; kept = refl }

pub keeps_then : (a b c : EdgeState) → KeepsEnds a b → KeepsEnds b c → KeepsEnds a c
keeps_then a b c one next = record {
  me = next.me ∙ one.me;
  wire_on = next.wire_on ∙ one.wire_on;
  bits = next.bits ∙ one.bits;
  ends = next.ends ∙ one.ends;
  told_down = next.told_down ∙ one.told_down;
  next_label = next.next_label ∙ one.next_label;
  kept = next.kept ∙ one.kept;
}

pub peering_keeps : (peer : EdgeId) (near : Option Peering) (work : Work) → KeepsEnds work.edge (changes (with_peering peer near) work).edge
unfolding changes with_peering
peering_keeps peer near work = record { me = refl; wire_on = refl; bits = refl; ends = refl; told_down = refl; next_label = refl; kept = refl }

pub put_keeps : (peer : EdgeId) (bytes : List ℕ) (taken : Bool) (work : Work) → KeepsEnds work.edge (put_octets peer bytes taken work).work.edge
unfolding gives changes with_spoken with_peering puts
put_keeps peer bytes true work = record { me = refl; wire_on = refl; bits = refl; ends = refl; told_down = refl; next_label = refl; kept = refl }
put_keeps peer bytes false work = keeps_same work.edge

reply_keeps : (told : Answers) (peer : EdgeId) (r : Reply) (near : Option Peering) (work : Work) → KeepsEnds work.edge (put_reply_to told peer r near work).work.edge
reply_keeps told peer r None work = keeps_same work.edge
reply_keeps told peer r (Some kept) work = put_keeps peer (octets_of kept r) (next_answer told work) work

replies_keep : (told : Answers) (peer : EdgeId) (rs : List Reply) (work : Work) → KeepsEnds work.edge (put_replies told peer rs work).work.edge
replies_keep told peer [] work = keeps_same work.edge
replies_keep told peer (r ∷ rs) work =
    keeps_then work.edge (put_reply told peer r work).work.edge _ (reply_keeps told peer r (work.edge.peering peer.0) work)
    (on (λ next. replies_keep told peer rs next) (put_reply told peer r work).failed (put_reply told peer r work).work)
  where
    on : ((next : Work) → KeepsEnds next.edge (put_replies told peer rs next).work.edge) → (failed : Bool) (next : Work)
        → KeepsEnds next.edge (puts_on (put_replies told peer rs) failed next).work.edge
    on others true next = keeps_same next.edge
    on others false next = others next

pub ends_keeps : (peer : EdgeId) (why : Reason) (work : Work) → KeepsEnds work.edge (ends peer why work).edge
unfolding gives changes with_peering
ends_keeps peer why work = record { me = refl; wire_on = refl; bits = refl; ends = refl; told_down = refl; next_label = refl; kept = refl }

tells_keeps : (peer : EdgeId) (same : Bool) (new : Phase) (work : Work) → KeepsEnds work.edge (cond same work (gives (effect.Session peer (phase_name new)) work)).edge
unfolding gives
tells_keeps peer true new work = keeps_same work.edge
tells_keeps peer false new work = keeps_same work.edge

went_keeps : (peer : EdgeId) (old new : Phase) (failed : Bool) (work : Work) → KeepsEnds work.edge (cond failed (ends peer reason.LinkFault work) (tells_change peer old new work)).edge
went_keeps peer old new true work = ends_keeps peer reason.LinkFault work
went_keeps peer old new false work = tells_keeps peer (is_same_phase old new) new work

comes_keeps : (told : Answers) (peer : EdgeId) (kept : Peering) (o : Outcome) (work : Work) → KeepsEnds work.edge (comes_of told peer kept o work).edge
comes_keeps told peer kept Stay work = keeps_same work.edge
comes_keeps told peer kept (Goes next replies) work =
    let moved : Work = changes (with_peering peer (Some (with_session next kept))) work in
    let put : Spoken = put_replies told peer replies moved in
    keeps_then work.edge moved.edge _ (peering_keeps peer (Some (with_session next kept)) work)
    (keeps_then moved.edge put.work.edge _ (replies_keep told peer replies moved) (went_keeps peer kept.session.phase next.phase put.failed put.work))
comes_keeps told peer kept (Ends why replies) work =
    keeps_then work.edge (put_replies told peer replies work).work.edge _ (replies_keep told peer replies work) (ends_keeps peer why (put_replies told peer replies work).work)

happens_to_keeps : (told : Answers) (peer : EdgeId) (event : SessionEvent) (near : Option Peering) (work : Work) → KeepsEnds work.edge (happens_to told peer event near work).edge
happens_to_keeps told peer event None work = keeps_same work.edge
happens_to_keeps told peer event (Some kept) work = comes_keeps told peer kept (outcome_of kept.session event) work

pub happens_keeps : (told : Answers) (peer : EdgeId) (event : SessionEvent) (work : Work) → KeepsEnds work.edge (happens told peer event work).edge
happens_keeps told peer event work = happens_to_keeps told peer event (work.edge.peering peer.0) work

-- ---- the state of the session

-- it is in this state, where it stands
abbrev pub IsInPhase : Phase → Option Peering → Type 0
IsInPhase p None = Unit {0}
IsInPhase p (Some kept) = kept.session.phase ≡ p

spoken_phase : (p : Phase) (near : Option Peering) → IsInPhase p near → IsInPhase p (option_map having_spoken near)
spoken_phase p None is = tt
spoken_phase p (Some kept) is = is

put_phase : (p : Phase) (peer : EdgeId) (bytes : List ℕ) (taken : Bool) (work : Work) → IsInPhase p (work.edge.peering peer.0)
    → IsInPhase p ((put_octets peer bytes taken work).work.edge.peering peer.0)
unfolding gives changes with_spoken with_peering puts
put_phase p peer bytes true work is = rw (same_number peer.0) (spoken_phase p (work.edge.peering peer.0) is)
put_phase p peer bytes false work is = is

reply_phase : (told : Answers) (p : Phase) (peer : EdgeId) (r : Reply) (near : Option Peering) (work : Work) → IsInPhase p (work.edge.peering peer.0)
    → IsInPhase p ((put_reply_to told peer r near work).work.edge.peering peer.0)
reply_phase told p peer r None work is = is
reply_phase told p peer r (Some kept) work is = put_phase p peer (octets_of kept r) (next_answer told work) work is

replies_phase : (told : Answers) (p : Phase) (peer : EdgeId) (rs : List Reply) (work : Work) → IsInPhase p (work.edge.peering peer.0)
    → IsInPhase p ((put_replies told peer rs work).work.edge.peering peer.0)
replies_phase told p peer [] work is = is
replies_phase told p peer (r ∷ rs) work is =
    on (λ next at. replies_phase told p peer rs next at) (put_reply told peer r work).failed (put_reply told peer r work).work (reply_phase told p peer r (work.edge.peering peer.0) work is)
  where
    on : ((next : Work) → IsInPhase p (next.edge.peering peer.0) → IsInPhase p ((put_replies told peer rs next).work.edge.peering peer.0)) → (failed : Bool) (next : Work)
        → IsInPhase p (next.edge.peering peer.0)
        → IsInPhase p ((puts_on (put_replies told peer rs) failed next).work.edge.peering peer.0)
    on others true next at = at
    on others false next at = others next at

ended_phase : (p : Phase) (peer : EdgeId) (why : Reason) (work : Work) → IsInPhase p ((ends peer why work).edge.peering peer.0)
unfolding gives changes with_peering
ended_phase p peer why work = rw (same_number peer.0) tt

told_phase : (p : Phase) (peer : EdgeId) (same : Bool) (new : Phase) (work : Work) → IsInPhase p (work.edge.peering peer.0)
    → IsInPhase p ((cond same work (gives (effect.Session peer (phase_name new)) work)).edge.peering peer.0)
unfolding gives
told_phase p peer true new work is = is
told_phase p peer false new work is = is

went_phase : (p : Phase) (peer : EdgeId) (old new : Phase) (failed : Bool) (work : Work) → IsInPhase p (work.edge.peering peer.0)
    → IsInPhase p ((cond failed (ends peer reason.LinkFault work) (tells_change peer old new work)).edge.peering peer.0)
went_phase p peer old new true work is = ended_phase p peer reason.LinkFault work
went_phase p peer old new false work is = told_phase p peer (is_same_phase old new) new work is

moved_phase : (peer : EdgeId) (next : SessionState) (kept : Peering) (work : Work) → IsInPhase next.phase ((changes (with_peering peer (Some (with_session next kept))) work).edge.peering peer.0)
unfolding changes with_peering
moved_phase peer next kept work = rw (same_number peer.0) refl

-- the state after an event, where it stands still
abbrev pub phase_after : Phase → Outcome → Phase
phase_after p Stay = p
phase_after p (Goes next replies) = next.phase
phase_after p (Ends why replies) = p

comes_phase : (told : Answers) (peer : EdgeId) (kept : Peering) (o : Outcome) (work : Work) → work.edge.peering peer.0 ≡ Some kept
    → IsInPhase (phase_after kept.session.phase o) ((comes_of told peer kept o work).edge.peering peer.0)
comes_phase told peer kept Stay work at = rw at refl
comes_phase told peer kept (Goes next replies) work at =
    let moved : Work = changes (with_peering peer (Some (with_session next kept))) work in
    let put : Spoken = put_replies told peer replies moved in
    went_phase next.phase peer kept.session.phase next.phase put.failed put.work (replies_phase told next.phase peer replies moved (moved_phase peer next kept work))
comes_phase told peer kept (Ends why replies) work at = ended_phase kept.session.phase peer why (put_replies told peer replies work).work

pub happens_phase : (told : Answers) (peer : EdgeId) (event : SessionEvent) (kept : Peering) (work : Work) → work.edge.peering peer.0 ≡ Some kept
    → IsInPhase (phase_after kept.session.phase (outcome_of kept.session event)) ((happens told peer event work).edge.peering peer.0)
happens_phase told peer event kept work at = rw at (comes_phase told peer kept (outcome_of kept.session event) work at)

-- a session that is up goes on so, or ends
notified_up : (why : Option Reason) (s : SessionState) (m : Message) → phase_after phase.Operational (notified why s m) ≡ phase.Operational
notified_up None s m = refl
notified_up (Some why) s m = refl

heard_up : (s : SessionState) (sender : LdpId) → s.phase ≡ phase.Operational → phase_after phase.Operational (heard_sender sender s) ≡ phase.Operational
heard_up s sender up = by_sender (is_platform s.peers.peer sender) where
  by_sender : (b : Bool) → phase_after phase.Operational (cond b (Goes (record s { wait = 0 }) []) (Ends reason.BadIdentifier (about_none bad_ldp_identifier ∷ []))) ≡ phase.Operational
  by_sender true = up
  by_sender false = refl

ticked_up : (s : SessionState) → s.phase ≡ phase.Operational → phase_after phase.Operational (ticked_session s) ≡ phase.Operational
ticked_up s up = by_time (is_expired s) where
  by_time : (b : Bool) → phase_after phase.Operational
      (cond b (Ends reason.Expired (about_none keep_alive_timer_expired ∷ [])) (Goes s (cond (is_keep_alive_due s) (reply.KeepAlive ∷ []) []))) ≡ phase.Operational
  by_time true = refl
  by_time false = up

pub up_after : (s : SessionState) (event : SessionEvent) → s.phase ≡ phase.Operational → phase_after phase.Operational (outcome_of s event) ≡ phase.Operational
up_after s Start up = rw up refl
up_after s (Heard sender) up = heard_up s sender up
up_after s (Received (Notification id status pw fec)) up = rw up (notified_up (reason_in status) _ _)
up_after s (Received m) up = rw up refl
up_after s (Refused fault) up = refl
up_after s Spoke up = rw up refl
up_after s Ticked up = ticked_up (a_tick_later s) up
up_after s (Closed why) up = refl
