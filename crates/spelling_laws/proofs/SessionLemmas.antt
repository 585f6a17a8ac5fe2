-- What a session says on each event that befalls it are messages of its end.
use Rattle.std.proofs.Common.{◌≡◌, ◌∙◌, Bool, true, false, cond, List, [], ◌∷◌, Option, Some, None, option_map, refl, sym, ap, subst, inl, inr}
use Rattle.std.proofs.lemmas.Bool.{cases_Bool}
use Rattle.std.specs.List.{AllByRecursion}
use Rattle.net_values.proofs.BoolLemmas.{first_holds}
use Rattle.net_values.proofs.NumberLemmas.{same_number}
use Rattle.net_base.specs.declared.plan.Plan.{Plan}
use Rattle.net_base.specs.declared.plan.edge_plan.EdgePlan.{EdgePlan}
use Rattle.net_base.specs.declared.plan.places.EdgeId.{EdgeId}
use Rattle.net_base.specs.declared.trace.state_name.Reason.{Reason}
use Rattle.net_base.specs.declared.trace.state_name.Reason.TheVariants as reason
use Rattle.net_base.specs.declared.trace.state_name.StateName.TheVariants as name
use Rattle.ldp_grammar.specs.declared.message.Message.{Message}
use Rattle.ldp_grammar.specs.declared.message.Message.TheVariants.{Initialization, KeepAlive}
use Rattle.session_core.specs.declared.peers.Peers.{Peers}
use Rattle.session_core.specs.declared.reply.Reply.TheVariants as reply
use Rattle.session_core.specs.Parameters.{proposal}
use Rattle.session_core.specs.Phase.{Phase}
use Rattle.session_core.specs.Phase as phase
use Rattle.session_core.specs.Reasons.{is_fatal}
use Rattle.session_core.specs.Session.{phase_name}
use Rattle.session_core.specs.State.{is_active, opened}
use Rattle.session_core.specs.StatusCodes.{about_none, keep_alive_timer_expired}
use Rattle.session_core.specs.Table.{SessionEvent, Outcome, Stay, Goes, Ends, Start, Heard, Received, Ticked, Closed, a_tick_later, is_expired, is_keep_alive_due, outcome_of}
use Rattle.pw_messages.specs.Sender.{following, platform_of}
use Rattle.edge_model.specs.Connection.{peers_of}
use Rattle.edge_model.specs.declared.effect.Effect.TheVariants as effect
use Rattle.edge_model.specs.Put.{Spoken, put_replies}
use Rattle.edge_model.specs.Session.{clears_ends, comes_of, ends, happens, happens_to, happens_with_ends, is_same_phase, losing_ends, tells_change, with_session}
use Rattle.edge_model.specs.State.{Peering, has_end, with_ends_beside, with_kept, with_peering}
use Rattle.edge_model.specs.Work.{Work, changes, gives}
use Rattle.network_model.specs.Absorb.{taken_all}
use Rattle.flight_laws.specs.Ends.{ends_at}
use Rattle.flight_laws.specs.Pair.{AreTalking, IsStanding, phase_of}
use Rattle.flight_laws.proofs.CommonLemmas.{platform_is}
use Rattle.flight_laws.proofs.ReactLemmas.{acceptable}
use Rattle.flight_laws.proofs.SaidLemmas.{active_init, fatal_ends, keep_alive, keeping_form, opening_form, passive_init, said_sender, stays_up}
use Rattle.flight_laws.proofs.TalkLemmas.{opens_initialized, opens_sent, rises}
use Rattle.spelling_laws.proofs.PutLemmas.{AllTell, HavePut, IsSaidReply, Speaks, changes_tell, gives_tell, replies_put}

-- ---- what comes of an event

-- the session goes on with its ends, or ends, and what it puts are messages that an end says
abbrev pub SaysAcross : Peers → Outcome → Type 0
SaysAcross own Stay = Unit {0}
SaysAcross own (Goes next replies) = (next.peers ≡ own) × AllByRecursion IsSaidReply replies
SaysAcross own (Ends why replies) = AllByRecursion IsSaidReply replies

-- the active end speaks first
pub start_says : (one other : EdgePlan) → SaysAcross (peers_of one other) (outcome_of (opened (peers_of one other)) Start)
start_says one other = by (is_active (peers_of one other)) refl where
  by : (active : Bool) → is_active (peers_of one other) ≡ active → SaysAcross (peers_of one other) (outcome_of (opened (peers_of one other)) Start)
  by true is = rw is (refl, (tt, tt))
  by false is = rw is tt

pub closed_says : (own : Peers) (kept : Peering) → SaysAcross own (outcome_of kept.session (Closed reason.Closed))
closed_says own kept = tt

pub ticked_says : (own : Peers) (kept : Peering) → Speaks own kept → SaysAcross own (outcome_of kept.session Ticked)
ticked_says own kept speaks = by (is_expired (a_tick_later kept.session)) (is_keep_alive_due (a_tick_later kept.session)) where
  by : (over due : Bool) → SaysAcross own (cond over (Ends reason.Expired (about_none keep_alive_timer_expired ∷ [])) (Goes (a_tick_later kept.session) (cond due (reply.KeepAlive ∷ []) [])))
  by true due = (refl, tt)
  by false true = (speaks.peers, (tt, tt))
  by false false = (speaks.peers, tt)

-- the sender of a PDU is the peer
pub heard_says : (own other : Peers) (kept : Peering) → IsStanding own other kept → SaysAcross own (outcome_of kept.session (Heard (platform_of other.me)))
heard_says own other kept is = subst (SaysAcross own) (sym (said_sender kept.session other.me (platform_is own other kept is))) (is.peers, tt)

-- a message of the peer
module _ (own other : Peers) (kept : Peering) (far : Option Peering) (out back : List Message) (m : Message) (t : AreTalking own other (Some kept) far out (m ∷ back)) where
  opened_says : is_fatal m ≡ false → kept.session.phase ≡ phase.Initialized → SaysAcross own (outcome_of kept.session (Received m))
  opened_says plain at =
      let passive : is_active own ≡ false = t.here.passive at in
      let init : Message = Initialization kept.next_id (proposal kept.session.peers) in
      let alive : Message = KeepAlive (following kept.next_id) in
      let both = opens_initialized (option_map phase_of far) out back m init alive plain refl refl (rw (passive, at) at t.steps) in
      let form = opening_form other m t.answered.0 (first_holds _ _ both) in
      subst (SaysAcross own)
      (sym (ap (λ (x : Message). outcome_of kept.session (Received x)) form.is ∙ passive_init kept.session form.id (proposal other) at (rw t.here.peers passive) (acceptable own other kept t.here)))
      (t.here.peers, (tt, (tt, tt)))

  sent_says : is_fatal m ≡ false → kept.session.phase ≡ phase.OpenSent → SaysAcross own (outcome_of kept.session (Received m))
  sent_says plain at =
      let both = opens_sent (is_active own) (option_map phase_of far) out back m (KeepAlive kept.next_id) plain refl (rw at at t.steps) in
      let form = opening_form other m t.answered.0 (first_holds _ _ both) in
      subst (SaysAcross own)
      (sym (ap (λ (x : Message). outcome_of kept.session (Received x)) form.is ∙ active_init kept.session form.id (proposal other) at (acceptable own other kept t.here)))
      (t.here.peers, (tt, tt))

  agreed_says : is_fatal m ≡ false → kept.session.phase ≡ phase.OpenRec → SaysAcross own (outcome_of kept.session (Received m))
  agreed_says plain at =
      let both = rises (is_active own) (option_map phase_of far) out back m plain (rw at at t.steps) in
      let form = keeping_form m (first_holds _ _ both) in
      subst (SaysAcross own) (sym (ap (λ (x : Message). outcome_of kept.session (Received x)) form.is ∙ keep_alive kept.session form.id at)) (t.here.peers, tt)

  pub received_says : SaysAcross own (outcome_of kept.session (Received m))
  received_says = elim (cases_Bool (is_fatal m)) [
    | inl fatal ↦ subst (SaysAcross own) (sym (fatal_ends kept.session other m t.answered.0 fatal)) tt
    | inr plain ↦ by_phase plain kept.session.phase refl
  ]
    where
      by_phase : is_fatal m ≡ false → (p : Phase) → kept.session.phase ≡ p → SaysAcross own (outcome_of kept.session (Received m))
      by_phase plain phase.Initialized at = opened_says plain at
      by_phase plain phase.OpenSent at = sent_says plain at
      by_phase plain phase.OpenRec at = agreed_says plain at
      by_phase plain phase.Operational at = subst (SaysAcross own) (sym (stays_up kept.session other m at t.answered.0 plain)) tt

-- ---- an event happens

pub moved_stands : (peer : EdgeId) (now : Peering) (work : Work) → (changes (with_peering peer (Some now)) work).edge.peering peer.0 ≡ Some now
unfolding changes with_peering
moved_stands peer now work = rw (same_number peer.0) refl

pub cleared_effects : (peer : EdgeId) (work : Work) → (clears_ends peer work).effects ≡ work.effects
unfolding changes with_ends_beside with_kept
cleared_effects peer work = by (has_end work.edge peer) where
  by : (b : Bool) → (cond b work (changes (losing_ends peer) work)).effects ≡ work.effects
  by true = refl
  by false = refl

module _ (plan : Plan) (me peer : EdgeId) where
  abbrev own : Peers
  own = ends_at plan me.0 peer.0

  changed_tell : (old new : Phase) (work : Work) → AllTell plan me.0 work.effects → AllTell plan me.0 (tells_change peer old new work).effects
  changed_tell old new work before = by (is_same_phase old new) where
    by : (same : Bool) → AllTell plan me.0 (cond same work (gives (effect.Session peer (phase_name new)) work)).effects
    by true = before
    by false = gives_tell plan me.0 (effect.Session peer (phase_name new)) work tt before

  ends_tell : (why : Reason) (work : Work) → AllTell plan me.0 work.effects → AllTell plan me.0 (ends peer why work).effects
  ends_tell why work before =
      let gone : Work = changes (with_peering peer None) work in
      gives_tell plan me.0 (effect.Closed peer) (gives (effect.Session peer (name.Ended why)) gone) tt
      (gives_tell plan me.0 (effect.Session peer (name.Ended why)) gone tt (changes_tell plan me.0 (with_peering peer None) work before))

  comes_tell : (kept : Peering) (o : Outcome) (work : Work) → work.edge.peering peer.0 ≡ Some kept → Speaks own kept → SaysAcross own o → AllTell plan me.0 work.effects
      → AllTell plan me.0 (comes_of taken_all peer kept o work).effects
  comes_tell kept Stay work at speaks says before = before
  comes_tell kept (Goes next replies) work at speaks says before =
      subst (λ (failed : Bool). AllTell plan me.0 (cond failed (ends peer reason.LinkFault put.work) (tells_change peer kept.session.phase next.phase put.work)).effects) (sym replied.taken)
      (changed_tell kept.session.phase next.phase put.work replied.tell)
    where
      now : Peering
      now = with_session next kept

      moved : Work
      moved = changes (with_peering peer (Some now)) work

      put : Spoken
      put = put_replies taken_all peer replies moved

      replied : HavePut plan me peer put
      replied = replies_put plan me peer replies now moved (moved_stands peer now work) (record { peers = says.0; fit = speaks.fit; low = speaks.low }) says.1
          (changes_tell plan me.0 (with_peering peer (Some now)) work before)
  comes_tell kept (Ends why replies) work at speaks says before =
      ends_tell why (put_replies taken_all peer replies work).work (replies_put plan me peer replies kept work at speaks says before).tell

  -- where an end stands it says by the plan; where none does nothing happens
  pub event_tells : (event : SessionEvent) (work : Work)
      → ((kept : Peering) → work.edge.peering peer.0 ≡ Some kept → Speaks own kept × SaysAcross own (outcome_of kept.session event))
      → AllTell plan me.0 work.effects → AllTell plan me.0 (happens_with_ends taken_all peer event work).effects
  event_tells event work standing before = subst (AllTell plan me.0) (sym (cleared_effects peer (happens taken_all peer event work))) (by (work.edge.peering peer.0) refl) where
    by : (near : Option Peering) → work.edge.peering peer.0 ≡ near → AllTell plan me.0 (happens_to taken_all peer event near work).effects
    by None at = before
    by (Some kept) at = (let both = standing kept at in comes_tell kept (outcome_of kept.session event) work at both.0 both.1 before)
