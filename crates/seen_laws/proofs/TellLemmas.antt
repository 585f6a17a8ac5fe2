-- All that an edge does tells what it makes of connections and wires.
use Rattle.std.proofs.Common.{◌≡◌, ◌++◌, ◌&&◌, ◌||◌, ◌∙◌, not, ℕ, Bool, true, false, List, [], ◌∷◌, Option, Some, None, cond, option_map, nat_eq, refl, sym, ap, append-nil, append_assoc, inl, inr}
use Rattle.std.proofs.lemmas.Bool.{cases_Bool, eqb-true}
use Rattle.net_values.proofs.BoolLemmas.{first_holds, or_append, and_not, and_not_false}
use Rattle.net_base.specs.declared.plan.Plan.{Plan}
use Rattle.net_base.specs.declared.plan.places.EdgeId.{EdgeId}
use Rattle.net_base.specs.declared.plan.places.WireId.{WireId}
use Rattle.net_base.specs.declared.trace.down.Down.{Down}
use Rattle.net_base.specs.declared.trace.state_name.Reason.{Reason}
use Rattle.net_base.specs.declared.trace.state_name.Reason.TheVariants as reason
use Rattle.net_base.specs.declared.trace.state_name.StateName.TheVariants as name
use Rattle.net_base.specs.plan.Places.{wire_row}
use Rattle.ldp_grammar.specs.declared.message.Message.{Message}
use Rattle.pw_signalling.specs.declared.told.Told.{Told}
use Rattle.pw_signalling.specs.End.{EndState}
use Rattle.pw_signalling.specs.Rows.{bound, group_stated, group_unbound, stated, telling, unbound, withdrawn}
use Rattle.pw_tlvs.specs.declared.pw_fec.PwFec.{PwFec}
use Rattle.session_core.specs.declared.reply.Reply.{Reply}
use Rattle.session_core.specs.Phase.{Phase}
use Rattle.session_core.specs.Phase as phase
use Rattle.session_core.specs.Session.{phase_name}
use Rattle.session_core.specs.Table.{SessionEvent, Outcome, Stay, Goes, Ends, outcome_of}
use Rattle.edge_model.specs.Clear.{withdrawing_at}
use Rattle.pw_messages.specs.Content.{mac_withdrawal, mapping, release, status_notification, withdrawal}
use Rattle.edge_model.specs.declared.effect.Effect.{Effect}
use Rattle.edge_model.specs.declared.effect.Effect.TheVariants as effect
use Rattle.edge_model.specs.declared.end_place.EndPlace.{EndPlace}
use Rattle.edge_model.specs.EndPlaces.{end_named}
use Rattle.edge_model.specs.Mend.{advertising, forgetting_wire, telling_status, withdrawing}
use Rattle.edge_model.specs.Put.{Spoken, having_spoken, message_octets_of, octets_of, put_octets, put_replies, put_reply, put_reply_to, puts_on, with_spoken}
use Rattle.edge_model.specs.Role.{down_at, status_to_tell}
use Rattle.edge_model.specs.Labels.{releasing}
use Rattle.edge_model.specs.Session.{clears_ends, comes_of, ends, had_put, had_said, happens, happens_to, happens_with_ends, is_same_phase, losing_ends, says, says_to, tells_change, went_on, with_session}
use Rattle.edge_model.specs.Signal.{end_of_fec, with_end_changed, with_named, with_released}
use Rattle.edge_model.specs.Spokes.{choosing}
use Rattle.edge_model.specs.State.{EdgeState, Peering, end_at, has_end, is_there, with_chosen, with_end, with_ends_beside, with_kept, with_next_label, with_peering, with_told_down}
use Rattle.edge_model.specs.Work.{Work, changes, gives, next_answer, puts}
use Rattle.pw_messages.specs.LinkAnswers.{Answers}
use Rattle.edge_model.proofs.BridgeLemmas.{ForgetsOnly, forgetting_only, withdrawing_only}
use Rattle.edge_model.proofs.WalkLemmas.{HearSteps, MendSteps}
use Rattle.edge_model.proofs.AgainLemmas.{there_spoken}
use Rattle.flight_laws.specs.Meeting.{closes}
use Rattle.flight_laws.proofs.WorkLemmas.{closes-append}
use Rattle.network_model.specs.State.{held_by}
use Rattle.seen_network.specs.Seen.{is_shown_up}
use Rattle.seen_laws.specs.Work.{TellsChanges, is_told_ended, is_ended, up_after}

-- ---- joined effects

pub ended-append : (place : ℕ) (es fs : List Effect) → is_told_ended place (es ++ fs) ≡ (is_told_ended place es || is_told_ended place fs)
ended-append place [] fs = refl
ended-append place (effect.Session peer state ∷ es) fs =
    ap (λ (b : Bool). (is_ended state && nat_eq place peer.0) || b) (ended-append place es fs) ∙ or_append (is_ended state && nat_eq place peer.0) (is_told_ended place es) (is_told_ended place fs)
ended-append place (effect.Sent peer wire came octets ∷ es) fs = ended-append place es fs
ended-append place (effect.Left circuit octets ∷ es) fs = ended-append place es fs
ended-append place (effect.Dropped cause ∷ es) fs = ended-append place es fs
ended-append place (effect.Wire wire down ∷ es) fs = ended-append place es fs
ended-append place (effect.Pong wire sequence ∷ es) fs = ended-append place es fs
ended-append place (effect.Said peer octets ∷ es) fs = ended-append place es fs
ended-append place (effect.Closed peer ∷ es) fs = ended-append place es fs

pub up-append : (wire : ℕ) (es fs : List Effect) (up : Bool) → up_after wire (es ++ fs) up ≡ up_after wire fs (up_after wire es up)
up-append wire [] fs up = refl
up-append wire (effect.Wire other down ∷ es) fs up = up-append wire es fs (cond (nat_eq wire other.0) (is_shown_up down) up)
up-append wire (effect.Session peer state ∷ es) fs up = up-append wire es fs up
up-append wire (effect.Sent peer other came octets ∷ es) fs up = up-append wire es fs up
up-append wire (effect.Left circuit octets ∷ es) fs up = up-append wire es fs up
up-append wire (effect.Dropped cause ∷ es) fs up = up-append wire es fs up
up-append wire (effect.Pong other sequence ∷ es) fs up = up-append wire es fs up
up-append wire (effect.Said peer octets ∷ es) fs up = up-append wire es fs up
up-append wire (effect.Closed peer ∷ es) fs up = up-append wire es fs up

-- ---- no work, and one after another

module _ (heard : ℕ → Bool) where
  pub tells_not : (work : Work) → TellsChanges heard work work
  tells_not work = record {
    more = [];
    given = sym (append-nil work.effects);
    me = refl;
    circuits = refl;
    stands = λ k. and_not_false (is_there (work.edge.peering k));
    shut = λ k. refl;
    up = λ wire. refl;
    kept = λ k apart there_spoken. refl;
  }

  pub tells_then : (a b c : Work) → TellsChanges heard a b → TellsChanges heard b c → TellsChanges heard a c
  tells_then a b c first next = record {
    more = first.more ++ next.more;
    given = next.given ∙ (ap (λ (l : List Effect). l ++ next.more) first.given ∙ append_assoc a.effects first.more next.more);
    me = next.me ∙ first.me;
    circuits = next.circuits ∙ first.circuits;
    stands = λ k.
        next.stands k
        ∙ (ap (λ (x : Bool). x && not (is_told_ended k next.more)) (first.stands k)
        ∙ (and_not (is_there (a.edge.peering k)) (is_told_ended k first.more) (is_told_ended k next.more)
        ∙ ap (λ (x : Bool). is_there (a.edge.peering k) && not x) (sym (ended-append k first.more next.more))));
    shut = λ k. closes-append k first.more next.more ∙ (rw (first.shut k, next.shut k) (sym (ended-append k first.more next.more)));
    up = λ wire. next.up wire ∙ (ap (up_after wire next.more) (first.up wire) ∙ sym (up-append wire first.more next.more (is_shown_up (a.edge.told_down wire))));
    kept = λ k apart there_spoken.
        next.kept k apart there_spoken ∙ first.kept k apart (first_holds (is_there (b.edge.peering k)) (not (is_told_ended k next.more)) (sym (next.stands k) ∙ there_spoken));
  }

  -- ---- single operations

  -- a change of the edge that touches none of it
  pub changes_tell : (change : EdgeState → EdgeState) (work : Work) → (change work.edge).me ≡ work.edge.me → (change work.edge).circuit_on ≡ work.edge.circuit_on
      → (change work.edge).peering ≡ work.edge.peering → (change work.edge).told_down ≡ work.edge.told_down → TellsChanges heard work (changes change work)
  unfolding changes
  changes_tell change work me circuits peering downs = record {
    more = [];
    given = sym (append-nil work.effects);
    me = me;
    circuits = circuits;
    stands = λ k. ap (λ (p : ℕ → Option Peering). is_there (p k)) peering ∙ and_not_false (is_there (work.edge.peering k));
    shut = λ k. refl;
    up = λ wire. ap (λ (d : ℕ → Option Down). is_shown_up (d wire)) downs;
    kept = λ k apart there_spoken. ap (λ (p : ℕ → Option Peering). held_by (p k)) peering;
  }

  -- what is kept for a peer becomes something else, with what was held of it
  peering_tells : (peer : EdgeId) (kept : Option Peering) (work : Work) → is_there kept ≡ is_there (work.edge.peering peer.0) → held_by kept ≡ held_by (work.edge.peering peer.0)
      → TellsChanges heard work (changes (with_peering peer kept) work)
  unfolding changes with_peering
  peering_tells peer kept work there_spoken held = record {
    more = [];
    given = sym (append-nil work.effects);
    me = refl;
    circuits = refl;
    stands = λ k. same_there k ∙ and_not_false (is_there (work.edge.peering k));
    shut = λ k. refl;
    up = λ wire. refl;
    kept = λ k apart is. same_held k;
  }
    where
      same_there : (k : ℕ) → is_there (cond (nat_eq k peer.0) kept (work.edge.peering k)) ≡ is_there (work.edge.peering k)
      same_there k = elim (cases_Bool (nat_eq k peer.0)) [
        | inl same ↦ rw same (there_spoken ∙ ap (λ (n : ℕ). is_there (work.edge.peering n)) (sym (eqb-true k peer.0 same)))
        | inr other ↦ rw other refl
      ]

      same_held : (k : ℕ) → held_by (cond (nat_eq k peer.0) kept (work.edge.peering k)) ≡ held_by (work.edge.peering k)
      same_held k = elim (cases_Bool (nat_eq k peer.0)) [
        | inl same ↦ rw same (held ∙ ap (λ (n : ℕ). held_by (work.edge.peering n)) (sym (eqb-true k peer.0 same)))
        | inr other ↦ rw other refl
      ]

  -- an effect that tells nothing of it
  pub gives_tell : (e : Effect) (work : Work) → ((k : ℕ) → is_told_ended k (e ∷ []) ≡ false) → ((k : ℕ) → closes k (e ∷ []) ≡ false) → ((wire : ℕ) (up : Bool) → up_after wire (e ∷ []) up ≡ up)
      → TellsChanges heard work (gives e work)
  unfolding gives
  gives_tell e work none shuts still = record {
    more = e ∷ [];
    given = refl;
    me = refl;
    circuits = refl;
    stands = λ k. rw (none k) (and_not_false (is_there (work.edge.peering k)));
    shut = λ k. shuts k ∙ sym (none k);
    up = λ wire. sym (still wire (is_shown_up (work.edge.told_down wire)));
    kept = λ k apart there_spoken. refl;
  }

  puts_tell : (peer : EdgeId) (bytes : List ℕ) (taken : Bool) (work : Work) → TellsChanges heard work (puts peer bytes taken work)
  unfolding puts
  puts_tell peer bytes taken work = record {
    more = [];
    given = sym (append-nil work.effects);
    me = refl;
    circuits = refl;
    stands = λ k. and_not_false (is_there (work.edge.peering k));
    shut = λ k. refl;
    up = λ wire. refl;
    kept = λ k apart there_spoken. refl;
  }

  spoken_tells : (peer : EdgeId) (work : Work) → TellsChanges heard work (changes (with_spoken peer) work)
  unfolding changes with_spoken
  spoken_tells peer work = peering_tells peer (option_map having_spoken (work.edge.peering peer.0)) work (there_spoken (work.edge.peering peer.0)) (held (work.edge.peering peer.0)) where
    held : (kept : Option Peering) → held_by (option_map having_spoken kept) ≡ held_by kept
    held None = refl
    held (Some kept) = refl

  -- the session with a peer has ended
  ends_tell : (peer : EdgeId) (why : Reason) (work : Work) → TellsChanges heard work (ends peer why work)
  unfolding changes gives with_peering
  ends_tell peer why work = record {
    more = effect.Session peer (name.Ended why) ∷ effect.Closed peer ∷ [];
    given = append_assoc work.effects (effect.Session peer (name.Ended why) ∷ []) (effect.Closed peer ∷ []);
    me = refl;
    circuits = refl;
    stands = gone;
    shut = λ k. refl;
    up = λ wire. refl;
    kept = λ k apart there_spoken. held k there_spoken;
  }
    where
      gone : (k : ℕ) → is_there (cond (nat_eq k peer.0) None (work.edge.peering k)) ≡ (is_there (work.edge.peering k) && not (nat_eq k peer.0 || false))
      gone k = by (nat_eq k peer.0) (work.edge.peering k) where
        by : (b : Bool) (o : Option Peering) → is_there (cond b None o) ≡ (is_there o && not (b || false))
        by true None = refl
        by true (Some kept) = refl
        by false None = refl
        by false (Some kept) = refl

      held : (k : ℕ) → is_there (cond (nat_eq k peer.0) None (work.edge.peering k)) ≡ true → held_by (cond (nat_eq k peer.0) None (work.edge.peering k)) ≡ held_by (work.edge.peering k)
      held k there_spoken = by (nat_eq k peer.0) (work.edge.peering k) there_spoken where
        by : (b : Bool) (o : Option Peering) → is_there (cond b None o) ≡ true → held_by (cond b None o) ≡ held_by o
        by true o there_spoken = absurd (cc there_spoken)
        by false o there_spoken = refl

  said_tells : (peer : EdgeId) (bytes : List ℕ) (work : Work) → TellsChanges heard work (gives (effect.Said peer bytes) work)
  said_tells peer bytes work = gives_tell (effect.Said peer bytes) work (λ k. refl) (λ k. refl) (λ wire up. refl)

  -- ---- messages are put

  put_octets_tell : (peer : EdgeId) (bytes : List ℕ) (taken : Bool) (work : Work) → TellsChanges heard work (put_octets peer bytes taken work).work
  put_octets_tell peer bytes false work = puts_tell peer bytes false work
  put_octets_tell peer bytes true work =
      let called : Work = puts peer bytes true work in
      let spoken : Work = changes (with_spoken peer) called in
      tells_then work called (gives (effect.Said peer bytes) spoken) (puts_tell peer bytes true work)
      (tells_then called spoken (gives (effect.Said peer bytes) spoken) (spoken_tells peer called) (said_tells peer bytes spoken))

  put_reply_tells : (told : Answers) (peer : EdgeId) (reply : Reply) (kept : Option Peering) (work : Work) → TellsChanges heard work (put_reply_to told peer reply kept work).work
  put_reply_tells told peer reply None work = tells_not work
  put_reply_tells told peer reply (Some kept) work = put_octets_tell peer (octets_of kept reply) (next_answer told work) work

  put_replies_tell : (told : Answers) (peer : EdgeId) (replies : List Reply) (work : Work) → TellsChanges heard work (put_replies told peer replies work).work
  put_replies_tell told peer [] work = tells_not work
  put_replies_tell told peer (reply ∷ replies) work =
      tells_then work (put_reply told peer reply work).work _ (put_reply_tells told peer reply (work.edge.peering peer.0) work)
      (on (put_reply told peer reply work).failed (put_replies_tell told peer replies (put_reply told peer reply work).work))
    where
      on : (failed : Bool) → TellsChanges heard (put_reply told peer reply work).work (put_replies told peer replies (put_reply told peer reply work).work).work
          → TellsChanges heard (put_reply told peer reply work).work (puts_on (put_replies told peer replies) failed (put_reply told peer reply work).work).work
      on true rest = tells_not (put_reply told peer reply work).work
      on false rest = rest

  -- ---- a session

  -- no state of a session that stands is an ended one
  going : (p : Phase) → is_ended (phase_name p) ≡ false
  going phase.Initialized = refl
  going phase.OpenSent = refl
  going phase.OpenRec = refl
  going phase.Operational = refl

  name_tells : (peer : EdgeId) (p : Phase) (work : Work) → TellsChanges heard work (gives (effect.Session peer (phase_name p)) work)
  name_tells peer p work = gives_tell (effect.Session peer (phase_name p)) work (λ k. rw (going p) refl) (λ k. refl) (λ wire up. refl)

  tells_change_tells : (peer : EdgeId) (old new : Phase) (work : Work) → TellsChanges heard work (tells_change peer old new work)
  tells_change_tells peer old new work = by (is_same_phase old new) where
    by : (same : Bool) → TellsChanges heard work (cond same work (gives (effect.Session peer (phase_name new)) work))
    by true = tells_not work
    by false = name_tells peer new work

  went_on_tells : (peer : EdgeId) (old new : Phase) (put : Spoken) → TellsChanges heard put.work (went_on peer old new put)
  went_on_tells peer old new put = by put.failed where
    by : (failed : Bool) → TellsChanges heard put.work (cond failed (ends peer reason.LinkFault put.work) (tells_change peer old new put.work))
    by true = ends_tell peer reason.LinkFault put.work
    by false = tells_change_tells peer old new put.work

  comes_of_tells : (told : Answers) (peer : EdgeId) (kept : Peering) (outcome : Outcome) (work : Work) → work.edge.peering peer.0 ≡ Some kept
      → TellsChanges heard work (comes_of told peer kept outcome work)
  comes_of_tells told peer kept Stay work is = tells_not work
  comes_of_tells told peer kept (Goes next replies) work is =
      let gone : Work = changes (with_peering peer (Some (with_session next kept))) work in
      let put : Spoken = put_replies told peer replies gone in
      tells_then work gone (went_on peer kept.session.phase next.phase put) (peering_tells peer (Some (with_session next kept)) work (ap is_there (sym is)) (ap held_by (sym is)))
      (tells_then gone put.work (went_on peer kept.session.phase next.phase put) (put_replies_tell told peer replies gone) (went_on_tells peer kept.session.phase next.phase put))
  comes_of_tells told peer kept (Ends why replies) work is =
      let put : Spoken = put_replies told peer replies work in
      tells_then work put.work (ends peer why put.work) (put_replies_tell told peer replies work) (ends_tell peer why put.work)

  happens_tells : (told : Answers) (peer : EdgeId) (event : SessionEvent) (work : Work) → TellsChanges heard work (happens told peer event work)
  happens_tells told peer event work = by (work.edge.peering peer.0) refl where
    by : (kept : Option Peering) → work.edge.peering peer.0 ≡ kept → TellsChanges heard work (happens_to told peer event kept work)
    by None is = tells_not work
    by (Some kept) is = comes_of_tells told peer kept (outcome_of kept.session event) work is

  beside_tells : (peer : EdgeId) (change : EndState → EndState) (work : Work) → TellsChanges heard work (changes (with_ends_beside peer change) work)
  unfolding with_ends_beside
  beside_tells peer change work = changes_tell (with_ends_beside peer change) work refl refl refl refl

  losing_tells : (peer : EdgeId) (work : Work) → TellsChanges heard work (changes (losing_ends peer) work)
  unfolding with_ends_beside with_kept
  losing_tells peer work = changes_tell (losing_ends peer) work refl refl refl refl

  clears_tell : (peer : EdgeId) (work : Work) → TellsChanges heard work (clears_ends peer work)
  clears_tell peer work = by (has_end work.edge peer) where
    by : (stands : Bool) → TellsChanges heard work (cond stands work (changes (losing_ends peer) work))
    by true = tells_not work
    by false = losing_tells peer work

  pub happens_with_ends_tells : (told : Answers) (peer : EdgeId) (event : SessionEvent) (work : Work) → TellsChanges heard work (happens_with_ends told peer event work)
  happens_with_ends_tells told peer event work =
      let happened : Work = happens told peer event work in
      tells_then work happened (clears_ends peer happened) (happens_tells told peer event work) (clears_tell peer happened)

  had_put_tells : (peer : EdgeId) (put : Spoken) → TellsChanges heard put.work (had_put peer put)
  had_put_tells peer put = by put.failed where
    by : (failed : Bool) → TellsChanges heard put.work (cond failed (ends peer reason.LinkFault put.work) put.work)
    by true = ends_tell peer reason.LinkFault put.work
    by false = tells_not put.work

  had_said_tells : (peer : EdgeId) (put : Spoken) (work : Work) → TellsChanges heard work put.work → TellsChanges heard work (had_said peer put).work
  had_said_tells peer put work said =
      let had : Work = had_put peer put in
      tells_then work put.work (clears_ends peer had) said (tells_then put.work had (clears_ends peer had) (had_put_tells peer put) (clears_tell peer had))

  says_tells : (told : Answers) (peer : EdgeId) (message : ℕ → Message) (work : Work) → TellsChanges heard work (says told peer message work).work
  says_tells told peer message work = by (work.edge.peering peer.0) where
    by : (kept : Option Peering) → TellsChanges heard work (says_to told peer message kept work).work
    by None = tells_not work
    by (Some kept) = had_said_tells peer (put_octets peer (message_octets_of kept message) (next_answer told work) work) work
        (put_octets_tell peer (message_octets_of kept message) (next_answer told work) work)

  advises_tells : (told : Answers) (peer : EdgeId) (reply : Reply) (work : Work) → TellsChanges heard work (had_said peer (put_reply told peer reply work)).work
  advises_tells told peer reply work = had_said_tells peer (put_reply told peer reply work) work (put_reply_tells told peer reply (work.edge.peering peer.0) work)

  -- ---- ends

  then_says_tells : (told : Answers) (peer : EdgeId) (message : ℕ → Message) (change : EdgeState → EdgeState) (work : Work) → TellsChanges heard work (changes change work)
      → TellsChanges heard work (says told peer message (changes change work)).work
  then_says_tells told peer message change work first =
      tells_then work (changes change work) (says told peer message (changes change work)).work first (says_tells told peer message (changes change work))

  end_tells : (place : EndPlace) (end : EdgeState → EndState) (work : Work) → TellsChanges heard work (changes (λ edge. with_end place (end edge) edge) work)
  unfolding with_end
  end_tells place end work = changes_tell (λ edge. with_end place (end edge) edge) work refl refl refl refl

  advertising_tells : (place : EndPlace) (label : ℕ) (content : Told) (work : Work) → TellsChanges heard work (changes (advertising place label content) work)
  unfolding with_end with_kept with_next_label
  advertising_tells place label content work = changes_tell (advertising place label content) work refl refl refl refl

  choosing_tells : (plan : Plan) (work : Work) → TellsChanges heard work (changes (choosing plan) work)
  unfolding with_chosen
  choosing_tells plan work = changes_tell (choosing plan) work refl refl refl refl

  forget_tells : (a b : Work) → ForgetsOnly a b → TellsChanges heard a b
  forget_tells a b only = record {
    more = [];
    given = only.effects ∙ sym (append-nil a.effects);
    me = only.edge.me;
    circuits = only.edge.circuits;
    stands = λ k. ap (λ (p : ℕ → Option Peering). is_there (p k)) only.edge.peering ∙ and_not_false (is_there (a.edge.peering k));
    shut = λ k. refl;
    up = λ wire. ap (λ (d : ℕ → Option Down). is_shown_up (d wire)) only.edge.downs;
    kept = λ k apart there_spoken. ap (λ (p : ℕ → Option Peering). held_by (p k)) only.edge.peering;
  }

  -- why a wire is down is told
  wire_tells : (wire : WireId) (down : Option Down) (work : Work) → TellsChanges heard work (gives (effect.Wire wire down) (changes (with_told_down wire down) work))
  unfolding changes gives with_told_down
  wire_tells wire down work = record {
    more = effect.Wire wire down ∷ [];
    given = refl;
    me = refl;
    circuits = refl;
    stands = λ k. and_not_false (is_there (work.edge.peering k));
    shut = λ k. refl;
    up = λ w. by (nat_eq w wire.0) (work.edge.told_down w);
    kept = λ k apart there_spoken. refl;
  }
    where
      by : (b : Bool) (old : Option Down) → is_shown_up (cond b down old) ≡ cond b (is_shown_up down) (is_shown_up old)
      by true old = refl
      by false old = refl

  pub mend_tells : (plan : Plan) (told : Answers) → MendSteps plan told (TellsChanges heard)
  mend_tells plan told = record {
    same = tells_not;
    joined = tells_then;
    advertises = λ place label content work here idle wished left.
        then_says_tells told place.peer (mapping place.pw_id label content) (advertising place label content) work (advertising_tells place label content work);
    withdraws = λ place label content work here is wished.
        then_says_tells told place.peer (withdrawal place.pw_id label content) (withdrawing place) work (end_tells place (λ edge. withdrawn (end_at edge place)) work);
    chooses = choosing_tells plan;
    tells_status = λ place label content last work here status is other.
        then_says_tells told place.peer (status_notification place.pw_id (status_to_tell plan work.edge place) content) (telling_status place (status_to_tell plan work.edge place)) work
        (end_tells place (λ edge. telling (status_to_tell plan work.edge place) (end_at edge place)) work);
    tells_piece = λ place label content addresses work is. says_tells told place.peer (mac_withdrawal place.pw_id addresses content) work;
    tells_down = λ place work here terminal other. wire_tells place.wire (down_at plan work.edge place) work;
    forgets_wire = λ place why work here terminal is. forget_tells work (changes (forgetting_wire plan place.wire (wire_row plan place.wire)) work)
        (forgetting_only plan place.wire (wire_row plan place.wire) work);
  }

  changed_tells : (change : EndState → EndState) (place : EdgeState → Option EndPlace) (work : Work) → TellsChanges heard work (changes (λ edge. with_end_changed change (place edge) edge) work)
  unfolding changes
  changed_tells change place work = by (place work.edge) where
    by : (o : Option EndPlace) → TellsChanges heard work (changes (λ edge. with_end_changed change o edge) work)
    by None = changes_tell (λ edge. edge) work refl refl refl refl
    by (Some p) = end_tells p (λ edge. change (end_at edge p)) work

  releasing_tells : (label : Option ℕ) (place : EndPlace) (work : Work) → TellsChanges heard work (changes (releasing label place) work)
  unfolding with_end with_kept
  releasing_tells label place work = changes_tell (releasing label place) work refl refl refl refl

  released_tells : (label : Option ℕ) (place : EdgeState → Option EndPlace) (work : Work) → TellsChanges heard work (changes (λ edge. with_released label (place edge) edge) work)
  unfolding changes
  released_tells label place work = by (place work.edge) where
    by : (o : Option EndPlace) → TellsChanges heard work (changes (λ edge. with_released label o edge) work)
    by None = changes_tell (λ edge. edge) work refl refl refl refl
    by (Some p) = releasing_tells label p work

  named_tells : (plan : Plan) (peer : EdgeId) (fec : PwFec) (one all : EndState → EndState) (pw_id : Option ℕ) (work : Work)
      → TellsChanges heard work (changes (with_named plan peer fec one all pw_id) work)
  named_tells plan peer fec one all None work = beside_tells peer all work
  named_tells plan peer fec one all (Some pw_id) work = changed_tells one (λ edge. end_named plan edge.me peer pw_id) work

-- of every peer
abbrev pub any : ℕ → Bool
any k = true

-- other octets of a peer are held
holds_tells : (peer : EdgeId) (kept : Peering) (octets : List ℕ) (work : Work) → work.edge.peering peer.0 ≡ Some kept
    → TellsChanges any work (changes (with_peering peer (Some (record kept { held = octets }))) work)
unfolding changes with_peering
holds_tells peer kept octets work is = record {
  more = [];
  given = sym (append-nil work.effects);
  me = refl;
  circuits = refl;
  stands = λ k. there k ∙ and_not_false (is_there (work.edge.peering k));
  shut = λ k. refl;
  up = λ wire. refl;
  kept = λ k apart standing. absurd (cc apart);
}
  where
    there : (k : ℕ) → is_there (cond (nat_eq k peer.0) (Some (record kept { held = octets })) (work.edge.peering k)) ≡ is_there (work.edge.peering k)
    there k = elim (cases_Bool (nat_eq k peer.0)) [
      | inl same ↦ rw same (sym (ap (λ (n : ℕ). is_there (work.edge.peering n)) (eqb-true k peer.0 same) ∙ ap is_there is))
      | inr other ↦ rw other refl
    ]

pub hear_tells : (plan : Plan) (told : Answers) → HearSteps plan told (TellsChanges any)
hear_tells plan told = record {
  mend = mend_tells any plan told;
  happens = happens_with_ends_tells any told;
  advises = advises_tells any told;
  holds = holds_tells;
  releases = λ peer fec label work. says_tells any told peer (release fec label) work;
  binds = λ peer fec place binding work there is taken. changed_tells any (bound binding) (λ edge. Some place) work;
  unbinds = λ peer fec label work there. named_tells any plan peer fec (unbound label) (group_unbound fec.group) fec.pw_id work;
  released = λ peer fec label work there. released_tells any label (λ edge. end_of_fec plan edge peer fec) work;
  states = λ peer fec status work there. named_tells any plan peer fec (stated status) (group_stated fec.group status) fec.pw_id work;
  clears = λ service addresses from work. forget_tells any work (changes (withdrawing_at service addresses from) work) (withdrawing_only service addresses from work);
}
