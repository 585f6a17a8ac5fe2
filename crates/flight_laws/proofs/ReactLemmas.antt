-- Two ends stay in step through each event of one of them.
use Rattle.std.proofs.Common.{◌≡◌, ◌≤◌, ◌<◌, ◌^◌, ◌++◌, ◌∙◌, ℕ, true, false, min, List, [], ◌∷◌, Option, Some, None, option_map, refl, sym, ap, subst, arith}
use Rattle.std.proofs.lemmas.Bool.Decides.{nat_tests}
use Rattle.std.proofs.lemmas.Bool.{cases_Bool}
use Rattle.std.proofs.Common.{inl, inr}
use Rattle.net_values.proofs.BoolLemmas.{first_holds, clash, second_holds}
use Rattle.net_base.specs.declared.trace.state_name.Reason.TheVariants as reason
use Rattle.ldp_grammar.specs.declared.message.Message.{Message}
use Rattle.ldp_grammar.specs.declared.message.Message.TheVariants.{Notification, Initialization, KeepAlive}
use Rattle.ldp_grammar.proofs.WrittenOctets.{status_are}
use Rattle.ldp_grammar.proofs.CommonLemmas.{none_behind}
use Rattle.session_core.specs.declared.peers.Peers.{Peers}
use Rattle.session_core.specs.declared.reply.Reply.{Reply}
use Rattle.session_core.specs.declared.reply.Reply.TheVariants as reply
use Rattle.session_core.specs.Parameters.{agreed, longest, proposal, proposal_refusal}
use Rattle.session_core.specs.Phase.{Phase, is_agreed}
use Rattle.session_core.specs.Phase as phase
use Rattle.session_core.specs.Reasons.{is_fatal}
use Rattle.session_core.specs.State.{SessionState, is_active}
use Rattle.session_core.specs.Table.{Heard, Received, Ticked, Closed, Goes, Ends, enters_phase, a_tick_later, outcome_of, is_expired, is_keep_alive_due, ticked_session}
use Rattle.session_core.specs.StatusCodes.{about_none, keep_alive_timer_expired}
use Rattle.session_core.proofs.LawLemmas.{ends_agree}
use Rattle.pw_messages.specs.Sender.{following, platform_of}
use Rattle.pw_messages.proofs.CommonLemmas.{following_small}
use Rattle.edge_model.specs.Put.{having_spoken, octets_of}
use Rattle.edge_model.specs.Session.{with_session}
use Rattle.edge_model.specs.State.{Peering}
use Rattle.flight_laws.specs.Coming.{and_more, is_talk}
use Rattle.flight_laws.specs.Flight.{is_plain}
use Rattle.flight_laws.specs.Messages.{AreSaid, IsSaidAcross, expiry, octets_of_all}
use Rattle.flight_laws.specs.Pair.{AreTalking, IsStanding, StayInStep, messages_put, octets_put, phase_of}
use Rattle.flight_laws.proofs.SaidLemmas.{active_init, fatal_ends, keep_alive, keeping_form, opening_form, passive_init, said-append, said_sender, stays_up}
use Rattle.flight_laws.proofs.TalkLemmas.{goes, goes_on, keeps_rec, keeps_up, opens_initialized, opens_sent, rises, says_up, tells_end}
use Rattle.flight_laws.proofs.CommonLemmas.{platform_is}

-- ---- what is put

pub spoken_stands : (own other : Peers) (kept : Peering) → IsStanding own other kept → IsStanding own other (having_spoken kept)
spoken_stands own other kept is = record { peers = is.peers; between = is.between; least = is.least; most = is.most; numbered = following_small kept.next_id is.numbered; passive = is.passive }

more_said : (ends : Peers) (far : Option Peering) (out more : List Message) → AreSaid ends out → AreSaid ends more → AreSaid ends (and_more far out more)
more_said ends None out more one two = one
more_said ends (Some y) out more one two = said-append ends out more one two

-- the phases alone decide which end more goes to
more_by_phase : (far : Option Peering) (out more : List Message) → and_more (option_map phase_of far) out more ≡ and_more far out more
more_by_phase None out more = refl
more_by_phase (Some y) out more = refl

no_more : (far : Option Peering) (out : List Message) → and_more far out [] ≡ out
no_more None out = refl
no_more (Some y) out = none_behind out

pub put_octets_are : (rs : List Reply) (kept : Peering) → octets_put rs kept ≡ octets_of_all kept.session.peers.me (messages_put rs kept)
put_octets_are [] kept = refl
put_octets_are (r ∷ rs) kept = ap (λ (l : List ℕ). octets_of kept r ++ l) (put_octets_are rs (having_spoken kept))

-- ---- an end goes

pub goes_in_step : (own other : Peers) (kept : Peering) (far : Option Peering) (out back : List Message) → AreTalking own other (Some kept) far out back → AreTalking own other None far out []
goes_in_step own other kept far out back t = record {
  said = t.said;
  answered = tt;
  here = tt;
  there = t.there;
  steps = goes (is_active own) kept.session.phase (option_map phase_of far) out back t.steps;
}

-- an event that ends the session with nothing more said
silent_end : (own other : Peers) (kept : Peering) (far : Option Peering) (out back : List Message) → AreTalking own other (Some kept) far out back
    → AreTalking own other None far (and_more far out []) []
silent_end own other kept far out back t = rw (no_more far out) (goes_in_step own other kept far out back t)

-- ---- a session that goes on in its state

pub same_phase : (own other : Peers) (kept now : Peering) (far : Option Peering) (out back : List Message) → IsStanding own other now → now.session.phase ≡ kept.session.phase
    → AreTalking own other (Some kept) far out back → AreTalking own other (Some now) far out back
same_phase own other kept now far out back is same t = record { said = t.said; answered = t.answered; here = is; there = t.there; steps = rw same t.steps }

-- the sender is the peer
pub heard_in_step : (own other : Peers) (kept : Peering) (far : Option Peering) (out back : List Message) → AreTalking own other (Some kept) far out back
    → StayInStep own other kept far out back (outcome_of kept.session (Heard (platform_of other.me)))
heard_in_step own other kept far out back t =
    subst (StayInStep own other kept far out back) (sym (said_sender kept.session other.me (platform_is own other kept t.here)))
    (rw (no_more far out) (same_phase own other kept (with_session (record kept.session { wait = 0 }) kept) far out back
    (record { peers = t.here.peers; between = t.here.between; least = t.here.least; most = t.here.most; numbered = t.here.numbered; passive = t.here.passive }) refl t))

-- ---- a message of the peer

lengths : (p q : ℕ) → 256 ≤ p → p ≤ 4096 → 256 ≤ q → q ≤ 4096 → (256 ≤ min p (longest q)) × (min p (longest q) ≤ 4096)
lengths p q a b c d = (grind (arith, nat_tests), grind (arith, nat_tests))

-- the proposal of the peer is accepted
agreed_stands : (own other : Peers) (kept : Peering) → IsStanding own other kept → IsStanding own other (with_session (agreed kept.session (proposal other)) kept)
agreed_stands own other kept is =
    let fit = lengths own.max_pdu other.max_pdu is.between.one.proper.least is.between.one.proper.most is.between.two.proper.least is.between.two.proper.most in
    record {
      peers = is.peers;
      between = is.between;
      least = rw is.peers fit.0;
      most = rw is.peers fit.1;
      numbered = is.numbered;
      passive = λ e. absurd (no e);
    }
  where
    no : phase.OpenRec ≡ phase.Initialized → ⊥
    no e = cc

pub acceptable : (own other : Peers) (kept : Peering) → IsStanding own other kept → proposal_refusal kept.session.peers (proposal other) ≡ None
acceptable own other kept is = rw is.peers (ends_agree.acceptable other own is.between.back is.between.two.proper)

-- what a session that goes on says once it has taken a message
said_on : (own other : Peers) (kept now : Peering) (far : Option Peering) (out back more : List Message) (m : Message) → IsStanding own other now → AreSaid own more
    → AreTalking own other (Some kept) far out (m ∷ back) → is_talk (is_active own) now.session.phase (option_map phase_of far) (and_more (option_map phase_of far) out more) back ≡ true
    → AreTalking own other (Some now) far (and_more far out more) back
said_on own other kept now far out back more m is new t steps = record {
  said = more_said own far out more t.said new;
  answered = t.answered.1;
  here = is;
  there = t.there;
  steps = rw (← more_by_phase far out more) steps;
}

received_initialized : (own other : Peers) (kept : Peering) (far : Option Peering) (out back : List Message) (m : Message) → is_fatal m ≡ false → kept.session.phase ≡ phase.Initialized
    → AreTalking own other (Some kept) far out (m ∷ back) → StayInStep own other kept far out back (outcome_of kept.session (Received m))
received_initialized own other kept far out back m plain at t =
    let passive : is_active own ≡ false = t.here.passive at in
    let init : Message = Initialization kept.next_id (proposal kept.session.peers) in
    let alive : Message = KeepAlive (following kept.next_id) in
    let both = opens_initialized (option_map phase_of far) out back m init alive plain refl refl (rw (passive, at) at t.steps) in
    let form = opening_form other m t.answered.0 (first_holds _ _ both) in
    let now : Peering = with_session (agreed kept.session (proposal other)) kept in
    let stands : IsStanding own other now = agreed_stands own other kept t.here in
    subst (StayInStep own other kept far out back)
    (sym (ap (λ (x : Message). outcome_of kept.session (Received x)) form.is ∙ passive_init kept.session form.id (proposal other) at (rw t.here.peers passive) (acceptable own other kept t.here)))
    (said_on own other kept (having_spoken (having_spoken now)) far out back (init ∷ alive ∷ []) m (spoken_stands own other (having_spoken now) (spoken_stands own other now stands))
    ((t.here.numbered, ap proposal t.here.peers), (following_small kept.next_id t.here.numbered, tt)) t (rw passive (second_holds _ _ both)))

received_open_sent : (own other : Peers) (kept : Peering) (far : Option Peering) (out back : List Message) (m : Message) → is_fatal m ≡ false → kept.session.phase ≡ phase.OpenSent
    → AreTalking own other (Some kept) far out (m ∷ back) → StayInStep own other kept far out back (outcome_of kept.session (Received m))
received_open_sent own other kept far out back m plain at t =
    let alive : Message = KeepAlive kept.next_id in
    let both = opens_sent (is_active own) (option_map phase_of far) out back m alive plain refl (rw at at t.steps) in
    let form = opening_form other m t.answered.0 (first_holds _ _ both) in
    let now : Peering = with_session (agreed kept.session (proposal other)) kept in
    let stands : IsStanding own other now = agreed_stands own other kept t.here in
    subst (StayInStep own other kept far out back)
    (sym (ap (λ (x : Message). outcome_of kept.session (Received x)) form.is ∙ active_init kept.session form.id (proposal other) at (acceptable own other kept t.here)))
    (said_on own other kept (having_spoken now) far out back (alive ∷ []) m (spoken_stands own other now stands) (t.here.numbered, tt) t (second_holds _ _ both))

entered_stands : (own other : Peers) (kept : Peering) → IsStanding own other kept → IsStanding own other (with_session (enters_phase phase.Operational kept.session) kept)
entered_stands own other kept is = record { peers = is.peers; between = is.between; least = is.least; most = is.most; numbered = is.numbered; passive = λ e. absurd (no e) }
  where
    no : phase.Operational ≡ phase.Initialized → ⊥
    no e = cc

received_open_rec : (own other : Peers) (kept : Peering) (far : Option Peering) (out back : List Message) (m : Message) → is_fatal m ≡ false → kept.session.phase ≡ phase.OpenRec
    → AreTalking own other (Some kept) far out (m ∷ back) → StayInStep own other kept far out back (outcome_of kept.session (Received m))
received_open_rec own other kept far out back m plain at t =
    let both = rises (is_active own) (option_map phase_of far) out back m plain (rw at at t.steps) in
    let form = keeping_form m (first_holds _ _ both) in
    let now : Peering = with_session (enters_phase phase.Operational kept.session) kept in
    subst (StayInStep own other kept far out back)
    (sym (ap (λ (x : Message). outcome_of kept.session (Received x)) form.is ∙ keep_alive kept.session form.id at))
    (said_on own other kept now far out back [] m (entered_stands own other kept t.here) tt t (rw (more_none (option_map phase_of far) out) (second_holds _ _ both)))
  where
    more_none : (far : Option Phase) (out : List Message) → and_more far out [] ≡ out
    more_none None out = refl
    more_none (Some y) out = none_behind out

-- a session that is up hears it and goes on
pub heard_up : (own other : Peers) (kept : Peering) (far : Option Peering) (out back : List Message) (m : Message) → kept.session.phase ≡ phase.Operational
    → AreTalking own other (Some kept) far out (m ∷ back) → AreTalking own other (Some kept) far out back
heard_up own other kept far out back m at t = record {
  said = t.said;
  answered = t.answered.1;
  here = t.here;
  there = t.there;
  steps = rw at (goes_on (is_active own) (option_map phase_of far) out back m (rw at at t.steps));
}

received_operational : (own other : Peers) (kept : Peering) (far : Option Peering) (out back : List Message) (m : Message) → is_fatal m ≡ false → kept.session.phase ≡ phase.Operational
    → AreTalking own other (Some kept) far out (m ∷ back) → StayInStep own other kept far out back (outcome_of kept.session (Received m))
received_operational own other kept far out back m plain at t =
    subst (StayInStep own other kept far out back) (sym (stays_up kept.session other m at t.answered.0 plain)) (heard_up own other kept far out back m at t)

pub received_in_step : (own other : Peers) (kept : Peering) (far : Option Peering) (out back : List Message) (m : Message)
    → AreTalking own other (Some kept) far out (m ∷ back) → StayInStep own other kept far out back (outcome_of kept.session (Received m))
received_in_step own other kept far out back m t = elim (cases_Bool (is_fatal m)) [
  | inl fatal ↦ subst (StayInStep own other kept far out back) (sym (fatal_ends kept.session other m t.answered.0 fatal)) (refl, silent_end own other kept far out (m ∷ back) t)
  | inr plain ↦ by_phase plain kept.session.phase refl
]
  where
    by_phase : is_fatal m ≡ false → (p : Phase) → kept.session.phase ≡ p → StayInStep own other kept far out back (outcome_of kept.session (Received m))
    by_phase plain phase.Initialized at = received_initialized own other kept far out back m plain at t
    by_phase plain phase.OpenSent at = received_open_sent own other kept far out back m plain at t
    by_phase plain phase.OpenRec at = received_open_rec own other kept far out back m plain at t
    by_phase plain phase.Operational at = received_operational own other kept far out back m plain at t

-- ---- a message about pseudowires is said

pub says_in_step : (own other : Peers) (kept : Peering) (far : Option Peering) (out back : List Message) (m : Message) → kept.session.phase ≡ phase.Operational → IsSaidAcross own m
    → is_plain m ≡ true
    → AreTalking own other (Some kept) far out back → AreTalking own other (Some (having_spoken kept)) far (and_more far out (m ∷ [])) back
says_in_step own other kept far out back m at said plain t = record {
  said = more_said own far out (m ∷ []) t.said (said, tt);
  answered = t.answered;
  here = spoken_stands own other kept t.here;
  there = t.there;
  steps = rw (← more_by_phase far out (m ∷ [])) (rw at (says_up (is_active own) (option_map phase_of far) out back m plain (rw at at t.steps)));
}

-- ---- the connection is lost

closed_ends : (s : SessionState) → outcome_of s (Closed reason.Closed) ≡ Ends reason.Closed []
closed_ends s = refl

pub closed_in_step : (own other : Peers) (kept : Peering) (far : Option Peering) (out back : List Message) → AreTalking own other (Some kept) far out back
    → StayInStep own other kept far out back (outcome_of kept.session (Closed reason.Closed))
closed_in_step own other kept far out back t = subst (StayInStep own other kept far out back) (sym (closed_ends kept.session)) (refl, silent_end own other kept far out back t)

-- ---- a tick

tick_is : (s : SessionState) → outcome_of s Ticked ≡ ticked_session (a_tick_later s)
tick_is s = refl

later_stands : (own other : Peers) (kept : Peering) → IsStanding own other kept → IsStanding own other (with_session (a_tick_later kept.session) kept)
later_stands own other kept is = record { peers = is.peers; between = is.between; least = is.least; most = is.most; numbered = is.numbered; passive = is.passive }

-- the Notification of an end that leaves
pub expiry_said : (ends : Peers) (id : ℕ) → id < 2 ^ 32 → IsSaidAcross ends (Notification id expiry None None)
expiry_said ends id small = (((small, omega arith, omega arith, tt, tt), refl, (status_are expiry, tt)), inl (refl, refl, refl))

-- nothing was heard for the hold time
expires : (own other : Peers) (kept : Peering) (far : Option Peering) (out back : List Message) → AreTalking own other (Some kept) far out back
    → StayInStep own other kept far out back (Ends reason.Expired (about_none keep_alive_timer_expired ∷ []))
expires own other kept far out back t =
    let leaving : Message = Notification kept.next_id expiry None None in (
      refl,
      record {
        said = more_said own far out (leaving ∷ []) t.said (expiry_said own kept.next_id t.here.numbered, tt);
        answered = tt;
        here = tt;
        there = t.there;
        steps = rw (← more_by_phase far out (leaving ∷ []))
            (tells_end (option_map phase_of far) out leaving refl (goes (is_active own) kept.session.phase (option_map phase_of far) out back t.steps));
      },
    )

-- it is time for a KeepAlive
keeps : (own other : Peers) (kept : Peering) (far : Option Peering) (out back : List Message) → is_agreed kept.session.phase ≡ true → AreTalking own other (Some kept) far out back
    → StayInStep own other kept far out back (Goes (a_tick_later kept.session) (reply.KeepAlive ∷ []))
keeps own other kept far out back up t =
    let alive : Message = KeepAlive kept.next_id in
    record {
      said = more_said own far out (alive ∷ []) t.said (t.here.numbered, tt);
      answered = t.answered;
      here = spoken_stands own other (with_session (a_tick_later kept.session) kept) (later_stands own other kept t.here);
      there = t.there;
      steps = rw (← more_by_phase far out (alive ∷ [])) (by_phase kept.session.phase up t.steps);
    }
  where
    by_phase : (p : Phase) → is_agreed p ≡ true → is_talk (is_active own) p (option_map phase_of far) out back ≡ true
        → is_talk (is_active own) p (option_map phase_of far) (and_more (option_map phase_of far) out (KeepAlive kept.next_id ∷ [])) back ≡ true
    by_phase phase.Initialized up h = clash up
    by_phase phase.OpenSent up h = clash up
    by_phase phase.OpenRec up h = keeps_rec (is_active own) (option_map phase_of far) out back (KeepAlive kept.next_id) refl h
    by_phase phase.Operational up h = keeps_up (is_active own) (option_map phase_of far) out back (KeepAlive kept.next_id) refl h

pub ticked_in_step : (own other : Peers) (kept : Peering) (far : Option Peering) (out back : List Message) → AreTalking own other (Some kept) far out back
    → StayInStep own other kept far out back (outcome_of kept.session Ticked)
ticked_in_step own other kept far out back t = subst (StayInStep own other kept far out back) (sym (tick_is kept.session)) (elim (cases_Bool (is_expired (a_tick_later kept.session))) [
  | inl over ↦ rw over (expires own other kept far out back t)
  | inr waits ↦ rw waits (elim (cases_Bool (is_keep_alive_due (a_tick_later kept.session))) [
    | inl quiet ↦ rw quiet (keeps own other kept far out back (first_holds _ _ quiet) t)
    | inr spoken ↦ rw (spoken, no_more far out) (same_phase own other kept (with_session (a_tick_later kept.session) kept) far out back (later_stands own other kept t.here) refl t)
  ])
])
