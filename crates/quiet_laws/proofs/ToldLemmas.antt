-- What an edge tells its neighbours while it hears one of them: each message by itself, and in which state the session with that one is.
use Rattle.std.proofs.Common.{◌≡◌, ◌≤◌, ◌<◌, ◌+◌, ◌^◌, ◌++◌, ◌∙◌, ◌⊎◌, ℕ, suc, Bool, true, false, cond, not, nat_eq, List, [], ◌∷◌, Option, Some, None, option_map, length, refl, sym, ap, subst, inl, inr, ⊎_elim, append_assoc, arith}
use Rattle.std.proofs.lemmas.Bool.{cases_Bool, eqb-true}
use Rattle.std.specs.List.{AllByRecursion}
use Rattle.net_values.proofs.BoolLemmas.{clash, first_holds}
use Rattle.net_values.proofs.NumberLemmas.{same_number}
use Rattle.net_base.specs.declared.plan.Plan.{Plan}
use Rattle.net_base.specs.declared.plan.places.EdgeId.{EdgeId}
use Rattle.net_base.specs.declared.trace.state_name.Reason.{Reason}
use Rattle.net_base.specs.plan.Accepted.{IsChecked}
use Rattle.ldp_grammar.specs.declared.message.Message.{Message}
use Rattle.ldp_grammar.specs.declared.message.Message.TheVariants.{Initialization, KeepAlive}
use Rattle.ldp_grammar.specs.Written.{written}
use Rattle.session_core.specs.declared.peers.Peers.{Peers}
use Rattle.session_core.specs.declared.reply.Reply.{Reply}
use Rattle.session_core.specs.declared.reply.Reply.TheVariants as reply
use Rattle.session_core.specs.Messages.{message_of}
use Rattle.session_core.specs.Parameters.{proposal}
use Rattle.session_core.specs.Phase.{Phase}
use Rattle.session_core.specs.Phase as phase
use Rattle.session_core.specs.Reasons.{is_fatal}
use Rattle.session_core.specs.Session.{phase_name}
use Rattle.session_core.specs.State.{is_active}
use Rattle.session_core.specs.Table.{SessionEvent, Outcome, Stay, Goes, Ends, Heard, Received, outcome_of}
use Rattle.pw_messages.specs.Sender.{following, platform_of}
use Rattle.pw_messages.proofs.CommonLemmas.{following_small}
use Rattle.edge_model.specs.declared.effect.Effect.{Effect}
use Rattle.edge_model.specs.declared.effect.Effect.TheVariants as effect
use Rattle.edge_model.specs.Hear.{is_up_phase}
use Rattle.edge_model.specs.Mend.{is_operational, is_up_with}
use Rattle.edge_model.specs.Put.{Spoken, having_spoken, message_octets_of, octets_of, put_replies}
use Rattle.edge_model.specs.Session.{comes_of, ends, happens, happens_to, happens_with_ends, is_same_phase, says, tells_change, with_session}
use Rattle.edge_model.specs.State.{EdgeState, Peering, is_there, with_peering}
use Rattle.edge_model.specs.Work.{Work, changes, gives}
use Rattle.edge_model.proofs.HeldLemmas.{clears_keep, ended_gone}
use Rattle.edge_model.proofs.MendLemmas.{says_taken}
use Rattle.network_model.specs.Absorb.{taken_all}
use Rattle.network_model.specs.State.{NetworkState}
use Rattle.flight_laws.specs.Ends.{HasTypes, ends_at}
use Rattle.flight_laws.specs.Meeting.{IsFine, said_to}
use Rattle.flight_laws.specs.Messages.{IsSaidAcross}
use Rattle.flight_laws.specs.Pair.{AreFit, AreTalking, IsStanding, StandsIf, having_put_all, phase_of}
use Rattle.flight_laws.proofs.ActLemmas.{steady_acts}
use Rattle.flight_laws.proofs.CommonLemmas.{platform_is}
use Rattle.flight_laws.proofs.EventBindingLemmas.{event_spare, happens_is}
use Rattle.flight_laws.proofs.HearLemmas.{HearsOn, hears_kept, hears_steady}
use Rattle.flight_laws.proofs.HearingLemmas.{KeptByHearing, KeptByMessages, message_heard}
use Rattle.flight_laws.proofs.MeetLemmas.{goes_shows}
use Rattle.flight_laws.proofs.OfferLemmas.{IsOfWires}
use Rattle.flight_laws.proofs.ReactLemmas.{acceptable}
use Rattle.flight_laws.proofs.SaidLemmas.{active_init, fatal_ends, keep_alive, keeping_form, opening_form, passive_init, said_sender}
use Rattle.flight_laws.proofs.SayLemmas.{says_none, says_spares}
use Rattle.flight_laws.proofs.SpokenLemmas.{says_spoken}
use Rattle.flight_laws.proofs.SteadyLemmas.{IsSilent, IsSteady, steady_rows}
use Rattle.flight_laws.proofs.TalkLemmas.{opens_initialized, opens_sent, rises}
use Rattle.flight_laws.proofs.WorksLemmas.{changed_edge, gives_spares}
use Rattle.spelling_laws.proofs.PutLemmas.{changed_effects, put_effects, Speaks, first_put, given_effects, put_first, put_stands}
use Rattle.spelling_laws.proofs.SessionLemmas.{cleared_effects, moved_stands}
use Rattle.spelling_laws.proofs.WorkLemmas.{hears_standing, talk_at}
use Rattle.rest_laws.specs.Rises.{said_count}
use Rattle.quiet_laws.specs.Measure.{end_rank, phase_rank}

-- ---- what is told

-- a message to a neighbour
pub record Put : Type 0 where
  pub to : ℕ
  pub message : Message

-- the octets for a neighbour are those of this message, which an end says
pub record IsTold (plan : Plan) (me peer : ℕ) (octets : List ℕ) (put : Put) : Type 0 where
  pub to : put.to ≡ peer
  pub fit : AreFit (ends_at plan me put.to)
  pub said : IsSaidAcross (ends_at plan me put.to) put.message
  pub spelled : octets ≡ written put.message (platform_of (ends_at plan me put.to).me)

-- whatever is said is told by these, in turn
abbrev pub AreTold : Plan → ℕ → List Effect → List Put → Type 0
AreTold plan me [] [] = Unit {0}
AreTold plan me [] (p ∷ ps) = ⊥
AreTold plan me (effect.Said peer [] ∷ es) ps = AreTold plan me es ps
AreTold plan me (effect.Said peer (o ∷ os) ∷ es) [] = ⊥
AreTold plan me (effect.Said peer (o ∷ os) ∷ es) (p ∷ ps) = IsTold plan me peer.0 (o ∷ os) p × AreTold plan me es ps
AreTold plan me (e ∷ es) ps = AreTold plan me es ps

pub told_joined : (plan : Plan) (me : ℕ) (es more : List Effect) (ps qs : List Put) → AreTold plan me es ps → AreTold plan me more qs → AreTold plan me (es ++ more) (ps ++ qs)
told_joined plan me [] more [] qs one other = other
told_joined plan me [] more (p ∷ ps) qs one other = absurd one
told_joined plan me (effect.Said peer [] ∷ es) more ps qs one other = told_joined plan me es more ps qs one other
told_joined plan me (effect.Said peer (o ∷ os) ∷ es) more [] qs one other = absurd one
told_joined plan me (effect.Said peer (o ∷ os) ∷ es) more (p ∷ ps) qs one other = (one.0, told_joined plan me es more ps qs one.1 other)
told_joined plan me (e ∷ es) more ps qs one other = told_joined plan me es more ps qs one other

-- more is told
pub record TellsMore (plan : Plan) (me : ℕ) (first es : List Effect) : Type 0 where
  pub more : List Effect
  pub joined : es ≡ first ++ more
  pub told : List Put
  pub are : AreTold plan me more told

no_more : (es : List Effect) → es ≡ es ++ []
no_more [] = refl
no_more (e ∷ es) = ap (λ (l : List Effect). e ∷ l) (no_more es)

pub tells_not : (plan : Plan) (me : ℕ) (es : List Effect) → TellsMore plan me es es
tells_not plan me es = record { more = []; joined = no_more es; told = []; are = tt }

pub tells_then : (plan : Plan) (me : ℕ) (a b c : List Effect) → TellsMore plan me a b → TellsMore plan me b c → TellsMore plan me a c
tells_then plan me a b c one next = record {
  more = one.more ++ next.more;
  joined = next.joined ∙ (ap (λ (l : List Effect). l ++ next.more) one.joined ∙ append_assoc a one.more next.more);
  told = one.told ++ next.told;
  are = told_joined plan me one.more next.more one.told next.told one.are next.are;
}

-- by one message
tells_one : (plan : Plan) (me : ℕ) (es : List Effect) (peer : EdgeId) (m : Message) → AreFit (ends_at plan me peer.0) → IsSaidAcross (ends_at plan me peer.0) m
    → TellsMore plan me es (es ++ effect.Said peer (written m (platform_of (ends_at plan me peer.0).me)) ∷ [])
tells_one plan me es peer m fit said = record {
  more = effect.Said peer (written m (platform_of (ends_at plan me peer.0).me)) ∷ [];
  joined = refl;
  told = record { to = peer.0; message = m } ∷ [];
  are = (record { to = refl; fit = fit; said = said; spelled = refl }, tt);
}

-- an effect that says nothing
tells_silent : (plan : Plan) (me : ℕ) (es : List Effect) (e : Effect) → AreTold plan me (e ∷ []) [] → TellsMore plan me es (es ++ e ∷ [])
tells_silent plan me es e none = record { more = e ∷ []; joined = refl; told = []; are = none }

none_said : {o : ℕ} {os : List ℕ} → o ∷ os ≡ [] → ⊥
none_said e = cc

silent_none : (plan : Plan) (me : ℕ) (e : Effect) → IsSilent e → AreTold plan me (e ∷ []) []
silent_none plan me (effect.Said peer []) silent = tt
silent_none plan me (effect.Said peer (o ∷ os)) silent = absurd (none_said (sym (ap (λ (b : Bool). cond b ((o ∷ os) ++ []) []) (same_number peer.0)) ∙ silent.says peer.0))
silent_none plan me e silent = tt

-- ---- the state of a session

-- what is kept for a neighbour: it holds the same octets, and has no further to go; or the end is gone
abbrev pub MovesOn : Option Peering → Option Peering → Type 0
MovesOn old None = Unit {0}
MovesOn None (Some now) = ⊥
MovesOn (Some kept) (Some now) = (now.held ≡ kept.held) × (phase_rank now.session.phase ≤ phase_rank kept.session.phase)

no_further : (n : ℕ) → n ≤ n
no_further n = omega arith

pub moves_not : (o : Option Peering) → MovesOn o o
moves_not None = tt
moves_not (Some kept) = (refl, no_further (phase_rank kept.session.phase))

pub moves_then : (a b c : Option Peering) → MovesOn a b → MovesOn b c → MovesOn a c
moves_then a b None one next = tt
moves_then a None (Some z) one next = absurd next
moves_then None (Some y) (Some z) one next = absurd one
moves_then (Some x) (Some y) (Some z) one next = (next.0 ∙ one.0, both (phase_rank z.session.phase) (phase_rank y.session.phase) (phase_rank x.session.phase) next.1 one.1) where
  both : (a b c : ℕ) → a ≤ b → b ≤ c → a ≤ c
  both a b c one other = omega (arith, one, other)

pub moves_rank : (old new : Option Peering) → MovesOn old new → end_rank new ≤ end_rank old
moves_rank old None moves = none (end_rank old) where
  none : (n : ℕ) → 0 ≤ n
  none n = omega arith
moves_rank None (Some now) moves = absurd moves
moves_rank (Some kept) (Some now) moves = moves.1

put_all_held : (rs : List Reply) (kept : Peering) → (having_put_all rs kept).held ≡ kept.held
put_all_held [] kept = refl
put_all_held (r ∷ rs) kept = put_all_held rs (having_spoken kept)

put_all_phase : (rs : List Reply) (kept : Peering) → (having_put_all rs kept).session.phase ≡ kept.session.phase
put_all_phase [] kept = refl
put_all_phase (r ∷ rs) kept = put_all_phase rs (having_spoken kept)

says_moves : (place : ℕ) (peer : EdgeId) (message : ℕ → Message) (work : Work) → MovesOn (work.edge.peering place) ((says taken_all peer message work).work.edge.peering place)
says_moves place peer message work = elim (cases_Bool (nat_eq place peer.0)) [
  | inl same ↦ subst (λ (k : ℕ). MovesOn (work.edge.peering k) ((says taken_all peer message work).work.edge.peering k)) (sym (eqb-true place peer.0 same)) (here (work.edge.peering peer.0) refl)
  | inr apart ↦ subst (MovesOn (work.edge.peering place)) (sym (says_spares place peer message work apart).kept) (moves_not (work.edge.peering place))
]
  where
    here : (near : Option Peering) → work.edge.peering peer.0 ≡ near → MovesOn (work.edge.peering peer.0) ((says taken_all peer message work).work.edge.peering peer.0)
    here None at = subst (λ (w : Work). MovesOn (work.edge.peering peer.0) (w.edge.peering peer.0)) (sym (says_none peer message work at)) (moves_not (work.edge.peering peer.0))
    here (Some kept) at = subst (MovesOn (work.edge.peering peer.0)) (sym (says_spoken peer kept message work at).here)
        (subst (λ (o : Option Peering). MovesOn o (Some (having_spoken kept))) (sym at) (refl, no_further (phase_rank kept.session.phase)))

-- ---- replies

-- a reply of a session that goes on
abbrev pub IsPlain : Reply → Type 0
IsPlain reply.Init = Unit {0}
IsPlain reply.KeepAlive = Unit {0}
IsPlain (reply.Notice status) = ⊥

-- two replies at most, or the session ends without one
abbrev pub IsPlainOutcome : Peers → Outcome → Type 0
IsPlainOutcome own Stay = Unit {0}
IsPlainOutcome own (Goes next replies) = (next.peers ≡ own) × AllByRecursion IsPlain replies × (length replies ≤ 2)
IsPlainOutcome own (Ends why replies) = replies ≡ []

-- the session moves on, or ends
abbrev pub Moves : Peering → Outcome → Type 0
Moves kept Stay = ⊥
Moves kept (Goes next replies) = phase_rank next.phase < phase_rank kept.session.phase
Moves kept (Ends why replies) = Unit {0}

-- or stays where it is
abbrev pub NoFurther : Peering → Outcome → Type 0
NoFurther kept Stay = Unit {0}
NoFurther kept (Goes next replies) = phase_rank next.phase ≤ phase_rank kept.session.phase
NoFurther kept (Ends why replies) = Unit {0}

moves_no_further : (kept : Peering) (o : Outcome) → Moves kept o → NoFurther kept o
moves_no_further kept Stay moves = tt
moves_no_further kept (Goes next replies) moves = less (phase_rank next.phase) (phase_rank kept.session.phase) moves where
  less : (a b : ℕ) → a < b → a ≤ b
  less a b le = omega (arith, le)
moves_no_further kept (Ends why replies) moves = tt

pub reply_said : (own : Peers) (r : Reply) (id : ℕ) → IsPlain r → id < 2 ^ 32 → IsSaidAcross own (message_of r id own)
reply_said own reply.Init id plain small = (small, refl)
reply_said own reply.KeepAlive id plain small = small
reply_said own (reply.Notice status) id plain small = absurd plain

following_low : (n : ℕ) → n < 2 ^ 32 → following n < 2 ^ 32
following_low n low = following_small n low

-- more is told, by so few messages
pub record TellsFew (plan : Plan) (me most : ℕ) (old new : List Effect) : Type 0 where
  pub tells : TellsMore plan me old new
  pub few : said_count new ≤ said_count old + most

count_more : (es more : List Effect) → said_count (es ++ more) ≡ said_count es + said_count more
count_more es more = Rattle.rest_laws.proofs.CountLemmas.count_joined es more

module _ (plan : Plan) (me : EdgeId) (peer : EdgeId) where
  abbrev own : Peers
  own = ends_at plan me.0 peer.0

  few_not : (es : List Effect) (most : ℕ) → TellsFew plan me.0 most es es
  few_not es most = record { tells = tells_not plan me.0 es; few = some (said_count es) most } where
    some : (a b : ℕ) → a ≤ a + b
    some a b = omega arith

  few_then : (a b c : List Effect) (m n : ℕ) → TellsFew plan me.0 m a b → TellsFew plan me.0 n b c → TellsFew plan me.0 (m + n) a c
  few_then a b c m n one next = record { tells = tells_then plan me.0 a b c one.tells next.tells; few = both (said_count a) (said_count b) (said_count c) m n one.few next.few } where
    both : (x y z m n : ℕ) → y ≤ x + m → z ≤ y + n → z ≤ x + (m + n)
    both x y z m n one next = omega (arith, one, next)

  few_silent : (es : List Effect) (e : Effect) → AreTold plan me.0 (e ∷ []) [] → said_count (e ∷ []) ≡ 0 → TellsFew plan me.0 0 es (es ++ e ∷ [])
  few_silent es e none zero = record { tells = tells_silent plan me.0 es e none; few = less (said_count (es ++ e ∷ [])) (said_count es) (said_count (e ∷ [])) (count_more es (e ∷ [])) zero } where
    less : (a b c : ℕ) → a ≡ b + c → c ≡ 0 → a ≤ b + 0
    less a b c is none = omega (arith, is, none)

  -- replies are put
  record RepliesPut (rs : List Reply) (work : Work) (put : Spoken) : Type 0 where
    taken : put.failed ≡ false
    tells : TellsFew plan me.0 (length rs) work.effects put.work.effects

  one_more_than : (n : ℕ) → 1 + n ≡ suc n
  one_more_than n = omega arith

  one_put : (r : Reply) (kept : Peering) (work : Work) → Speaks own kept → IsPlain r → TellsFew plan me.0 1 work.effects (first_put peer r kept work).work.effects
  one_put r kept work speaks plain = subst (TellsFew plan me.0 1 work.effects) (sym (put_effects peer (octets_of kept r) work))
      (subst (λ (bytes : List ℕ). TellsFew plan me.0 1 work.effects (work.effects ++ effect.Said peer bytes ∷ [])) (sym spelled) (record {
        tells = tells_one plan me.0 work.effects peer (message_of r kept.next_id own) speaks.fit (reply_said own r kept.next_id plain speaks.low);
        few = counted (said_count work.effects) (said_count (work.effects ++ effect.Said peer (written (message_of r kept.next_id own) (platform_of own.me)) ∷ []))
            (count_more work.effects (effect.Said peer (written (message_of r kept.next_id own) (platform_of own.me)) ∷ []));
      }))
    where
      spelled : octets_of kept r ≡ written (message_of r kept.next_id own) (platform_of own.me)
      spelled = ap (λ (p : Peers). written (message_of r kept.next_id p) (platform_of p.me)) speaks.peers

      counted : (a b : ℕ) → b ≡ a + 1 → b ≤ a + 1
      counted a b is = omega (arith, is)

  replies_put : (rs : List Reply) (kept : Peering) (work : Work) → work.edge.peering peer.0 ≡ Some kept → Speaks own kept → AllByRecursion IsPlain rs → RepliesPut rs work (put_replies taken_all peer rs work)
  replies_put [] kept work at speaks plain = record { taken = refl; tells = few_not work.effects 0 }
  replies_put (r ∷ rs) kept work at speaks plain =
      let rest : RepliesPut rs (first_put peer r kept work).work (put_replies taken_all peer rs (first_put peer r kept work).work) =
      replies_put rs (having_spoken kept) (first_put peer r kept work).work (put_stands peer (octets_of kept r) kept work at) (record { peers = speaks.peers; fit = speaks.fit; low = following_low kept.next_id speaks.low }) plain.1 in
      subst (RepliesPut (r ∷ rs) work) (sym (put_first peer r rs kept work at)) (record {
        taken = rest.taken;
        tells = subst (λ (n : ℕ). TellsFew plan me.0 n work.effects (put_replies taken_all peer rs (first_put peer r kept work).work).work.effects) (one_more_than (length rs))
            (few_then work.effects (first_put peer r kept work).work.effects (put_replies taken_all peer rs (first_put peer r kept work).work).work.effects 1 (length rs) (one_put r kept work speaks plain.0) rest.tells);
      })

  -- an event happens
  changed_few : (old new : Phase) (work : Work) → TellsFew plan me.0 0 work.effects (tells_change peer old new work).effects
  changed_few old new work = by (is_same_phase old new) where
    by : (same : Bool) → TellsFew plan me.0 0 work.effects (cond same work (gives (effect.Session peer (phase_name new)) work)).effects
    by true = few_not work.effects 0
    by false = subst (TellsFew plan me.0 0 work.effects) (sym (given_effects (effect.Session peer (phase_name new)) work)) (few_silent work.effects (effect.Session peer (phase_name new)) tt refl)

  wider : (m n : ℕ) (a b : List Effect) → m ≤ n → TellsFew plan me.0 m a b → TellsFew plan me.0 n a b
  wider m n a b le few = record { tells = few.tells; few = more (said_count a) (said_count b) m n le few.few } where
    more : (a b m n : ℕ) → m ≤ n → b ≤ a + m → b ≤ a + n
    more a b m n le few = omega (arith, le, few)

  ends_few : (why : Reason) (work : Work) → TellsFew plan me.0 2 work.effects (ends peer why work).effects
  ends_few why work =
      let gone : Work = changes (with_peering peer None) work in
      let told : Work = gives (effect.Session peer (Rattle.net_base.specs.declared.trace.state_name.StateName.TheVariants.Ended why)) gone in
      subst (λ (es : List Effect). TellsFew plan me.0 2 es (gives (effect.Closed peer) told).effects) (changed_effects (with_peering peer None) work)
      (wider 0 2 gone.effects (gives (effect.Closed peer) told).effects (omega arith)
      (few_then gone.effects told.effects (gives (effect.Closed peer) told).effects 0 0
      (subst (TellsFew plan me.0 0 gone.effects) (sym (given_effects (effect.Session peer (Rattle.net_base.specs.declared.trace.state_name.StateName.TheVariants.Ended why)) gone))
      (few_silent gone.effects (effect.Session peer (Rattle.net_base.specs.declared.trace.state_name.StateName.TheVariants.Ended why)) tt refl))
      (subst (TellsFew plan me.0 0 told.effects) (sym (given_effects (effect.Closed peer) told)) (few_silent told.effects (effect.Closed peer) tt refl))))

  comes_few : (kept : Peering) (o : Outcome) (work : Work) → work.edge.peering peer.0 ≡ Some kept → Speaks own kept → IsPlainOutcome own o → TellsFew plan me.0 2 work.effects (comes_of taken_all peer kept o work).effects
  comes_few kept Stay work at speaks plain = few_not work.effects 2
  comes_few kept (Goes next replies) work at speaks plain =
      subst (λ (failed : Bool). TellsFew plan me.0 2 work.effects (cond failed (ends peer Rattle.net_base.specs.declared.trace.state_name.Reason.TheVariants.LinkFault put.work) (tells_change peer kept.session.phase next.phase put.work)).effects) (sym replied.taken)
      (subst (λ (es : List Effect). TellsFew plan me.0 2 es (tells_change peer kept.session.phase next.phase put.work).effects) (changed_effects (with_peering peer (Some now)) work)
      (wider (length replies + 0) 2 moved.effects (tells_change peer kept.session.phase next.phase put.work).effects (no_more_than (length replies) plain.2)
      (few_then moved.effects put.work.effects (tells_change peer kept.session.phase next.phase put.work).effects (length replies) 0 replied.tells (changed_few kept.session.phase next.phase put.work))))
    where
      now : Peering
      now = with_session next kept

      moved : Work
      moved = changes (with_peering peer (Some now)) work

      put : Spoken
      put = put_replies taken_all peer replies moved

      replied : RepliesPut replies moved put
      replied = replies_put replies now moved (moved_stands peer now work) (record { peers = plain.0; fit = speaks.fit; low = speaks.low }) plain.1

      no_more_than : (n : ℕ) → n ≤ 2 → n + 0 ≤ 2
      no_more_than n le = omega (arith, le)
  comes_few kept (Ends why replies) work at speaks plain =
      subst (λ (rs : List Reply). TellsFew plan me.0 2 work.effects (ends peer why (put_replies taken_all peer rs work).work).effects) (sym plain) (ends_few why work)

  pub event_few : (event : SessionEvent) (kept : Peering) (work : Work) → work.edge.peering peer.0 ≡ Some kept → Speaks own kept → IsPlainOutcome own (outcome_of kept.session event)
      → TellsFew plan me.0 2 work.effects (happens_with_ends taken_all peer event work).effects
  event_few event kept work at speaks plain =
      subst (TellsFew plan me.0 2 work.effects) (sym (cleared_effects peer (happens taken_all peer event work) ∙ ap (λ (o : Option Peering). (happens_to taken_all peer event o work).effects) at))
      (comes_few kept (outcome_of kept.session event) work at speaks plain)

  -- no event brings an end that was not, and what is held stays
  pub event_moves : (event : SessionEvent) (kept : Peering) (work : Work) → IsFine me work → work.edge.peering peer.0 ≡ Some kept → Rattle.flight_laws.specs.Meeting.closes peer.0 work.effects ≡ false
      → NoFurther kept (outcome_of kept.session event) → MovesOn (Some kept) ((happens_with_ends taken_all peer event work).edge.peering peer.0)
  event_moves event kept work fine at unclosed further =
      subst (MovesOn (Some kept)) (sym (ap (λ (f : ℕ → Option Peering). f peer.0) (clears_keep peer (happens taken_all peer event work))))
      (by (outcome_of kept.session event) refl further)
    where
      by : (o : Outcome) → outcome_of kept.session event ≡ o → NoFurther kept o → MovesOn (Some kept) ((happens taken_all peer event work).edge.peering peer.0)
      by Stay is further = subst (MovesOn (Some kept)) (sym (ap (λ (w : Work). w.edge.peering peer.0) (happens_is peer event kept Stay work at is) ∙ at)) (moves_not (Some kept))
      by (Goes next replies) is further =
          subst (MovesOn (Some kept))
          (sym (ap (λ (w : Work). w.edge.peering peer.0) (happens_is peer event kept (Goes next replies) work at is)
          ∙ (goes_shows me peer kept next replies (said_to peer.0 work.effects) work (record { keeps = at; says = refl; ended = unclosed }) fine).0.keeps))
          (put_all_held replies (with_session next kept), subst (λ (p : Phase). phase_rank p ≤ phase_rank kept.session.phase) (sym (put_all_phase replies (with_session next kept))) further)
      by (Ends why replies) is further =
          subst (MovesOn (Some kept))
          (sym (ap (λ (w : Work). w.edge.peering peer.0) (happens_is peer event kept (Ends why replies) work at is)
          ∙ ended_gone peer why (put_replies taken_all peer replies work).work)) tt

  -- where the session moves on it has less far to go
  pub event_rank : (event : SessionEvent) (kept : Peering) (work : Work) → IsFine me work → work.edge.peering peer.0 ≡ Some kept → Rattle.flight_laws.specs.Meeting.closes peer.0 work.effects ≡ false
      → Moves kept (outcome_of kept.session event) → end_rank ((happens_with_ends taken_all peer event work).edge.peering peer.0) < phase_rank kept.session.phase
  event_rank event kept work fine at unclosed moves =
      subst (λ (o : Option Peering). end_rank o < phase_rank kept.session.phase) (sym (ap (λ (f : ℕ → Option Peering). f peer.0) (clears_keep peer (happens taken_all peer event work))))
      (by (outcome_of kept.session event) refl moves)
    where
      some_rank : (p : Phase) → 0 < phase_rank p
      some_rank phase.Initialized = omega arith
      some_rank phase.OpenSent = omega arith
      some_rank phase.OpenRec = omega arith
      some_rank phase.Operational = omega arith

      by : (o : Outcome) → outcome_of kept.session event ≡ o → Moves kept o → end_rank ((happens taken_all peer event work).edge.peering peer.0) < phase_rank kept.session.phase
      by Stay is moves = absurd moves
      by (Goes next replies) is moves =
          subst (λ (n : ℕ). n < phase_rank kept.session.phase)
          (sym (ap (λ (w : Work). end_rank (w.edge.peering peer.0)) (happens_is peer event kept (Goes next replies) work at is)
          ∙ (ap end_rank (goes_shows me peer kept next replies (said_to peer.0 work.effects) work (record { keeps = at; says = refl; ended = unclosed }) fine).0.keeps
          ∙ ap phase_rank (put_all_phase replies (with_session next kept))))) moves
      by (Ends why replies) is moves =
          subst (λ (n : ℕ). n < phase_rank kept.session.phase)
          (sym (ap (λ (w : Work). end_rank (w.edge.peering peer.0)) (happens_is peer event kept (Ends why replies) work at is)
          ∙ ap end_rank (ended_gone peer why (put_replies taken_all peer replies work).work))) (some_rank kept.session.phase)

-- ---- messages of the peer

-- what a session makes of a message that moves it
pub record MovesBy (own : Peers) (kept : Peering) (o : Outcome) : Type 0 where
  pub plain : IsPlainOutcome own o
  pub moves : Moves kept o

module _ (own other : Peers) (kept : Peering) (far : Option Peering) (out back : List Message) (m : Message) (t : AreTalking own other (Some kept) far out (m ∷ back)) where
  fatal_moves : is_fatal m ≡ true → MovesBy own kept (outcome_of kept.session (Received m))
  fatal_moves fatal = subst (MovesBy own kept) (sym (fatal_ends kept.session other m t.answered.0 fatal)) (record { plain = refl; moves = tt })

  opened_moves : is_fatal m ≡ false → kept.session.phase ≡ phase.Initialized → MovesBy own kept (outcome_of kept.session (Received m))
  opened_moves plain at =
      let passive : is_active own ≡ false = t.here.passive at in
      let init : Message = Initialization kept.next_id (proposal kept.session.peers) in
      let alive : Message = KeepAlive (following kept.next_id) in
      let both = opens_initialized (option_map phase_of far) out back m init alive plain refl refl (rw (passive, at) at t.steps) in
      let form = opening_form other m t.answered.0 (first_holds _ _ both) in
      subst (MovesBy own kept)
      (sym (ap (λ (x : Message). outcome_of kept.session (Received x)) form.is ∙ passive_init kept.session form.id (proposal other) at (rw t.here.peers passive) (acceptable own other kept t.here)))
      (record { plain = (t.here.peers, (tt, (tt, tt)), omega arith); moves = subst (λ (p : Phase). 2 < phase_rank p) (sym at) (omega arith) })

  sent_moves : is_fatal m ≡ false → kept.session.phase ≡ phase.OpenSent → MovesBy own kept (outcome_of kept.session (Received m))
  sent_moves plain at =
      let both = opens_sent (is_active own) (option_map phase_of far) out back m (KeepAlive kept.next_id) plain refl (rw at at t.steps) in
      let form = opening_form other m t.answered.0 (first_holds _ _ both) in
      subst (MovesBy own kept)
      (sym (ap (λ (x : Message). outcome_of kept.session (Received x)) form.is ∙ active_init kept.session form.id (proposal other) at (acceptable own other kept t.here)))
      (record { plain = (t.here.peers, (tt, tt), omega arith); moves = subst (λ (p : Phase). 2 < phase_rank p) (sym at) (omega arith) })

  agreed_moves : is_fatal m ≡ false → kept.session.phase ≡ phase.OpenRec → MovesBy own kept (outcome_of kept.session (Received m))
  agreed_moves plain at =
      let both = rises (is_active own) (option_map phase_of far) out back m plain (rw at at t.steps) in
      let form = keeping_form m (first_holds _ _ both) in
      subst (MovesBy own kept) (sym (ap (λ (x : Message). outcome_of kept.session (Received x)) form.is ∙ keep_alive kept.session form.id at))
      (record { plain = (t.here.peers, tt, omega arith); moves = subst (λ (p : Phase). 1 < phase_rank p) (sym at) (omega arith) })

  -- it is not up, or the message is fatal
  pub received_moves : (is_up_phase kept.session.phase ≡ false) ⊎ (is_fatal m ≡ true) → MovesBy own kept (outcome_of kept.session (Received m))
  received_moves why = elim (cases_Bool (is_fatal m)) [
    | inl fatal ↦ fatal_moves fatal
    | inr plain ↦ by_phase plain (⊎_elim (λ (down : is_up_phase kept.session.phase ≡ false). down) (λ (fatal : is_fatal m ≡ true). clash (sym plain ∙ fatal)) why) kept.session.phase refl
  ]
    where
      by_phase : is_fatal m ≡ false → is_up_phase kept.session.phase ≡ false → (p : Phase) → kept.session.phase ≡ p → MovesBy own kept (outcome_of kept.session (Received m))
      by_phase plain down phase.Initialized at = opened_moves plain at
      by_phase plain down phase.OpenSent at = sent_moves plain at
      by_phase plain down phase.OpenRec at = agreed_moves plain at
      by_phase plain down phase.Operational at = clash (sym down ∙ ap is_up_phase at)

-- ---- an edge that hears the peer

-- ---- steady work

-- what is steady, and says by the plan
module _ (plan : Plan) (me : EdgeId) (first : List Effect) (start : ℕ → Option Peering) (I : Work → Type 0) (base : IsSteady plan me I)
    (standing : (work : Work) → I work → (k : ℕ) (kept : Peering) → work.edge.peering k ≡ Some kept → Speaks (ends_at plan me.0 k) kept) where
  -- no session has further to go than at first
  abbrev pub HaveMovedOn : Work → Type 0
  HaveMovedOn work = (k : ℕ) → MovesOn (start k) (work.edge.peering k)

  abbrev pub Telling : Work → Type 0
  Telling work = I work × (TellsMore plan me.0 first work.effects × HaveMovedOn work)

  stay_moved : (old new : Work) → ((k : ℕ) → new.edge.peering k ≡ old.edge.peering k) → HaveMovedOn old → HaveMovedOn new
  stay_moved old new same has k = subst (MovesOn (start k)) (sym (same k)) (has k)

  says_tells : (to : EdgeId) (message : ℕ → Message) (work : Work) → is_up_with (work.edge.peering to.0) ≡ true → IsOfWires message → Telling work
      → TellsMore plan me.0 first (says taken_all to message work).work.effects
  says_tells to message work up is i = by (work.edge.peering to.0) refl where
    by : (near : Option Peering) → work.edge.peering to.0 ≡ near → TellsMore plan me.0 first (says taken_all to message work).work.effects
    by None at = clash (sym (ap is_up_with at) ∙ up)
    by (Some kept) at =
        let speaks : Speaks (ends_at plan me.0 to.0) kept = standing work i.0 to.0 kept at in
        subst (TellsMore plan me.0 first) (sym (ap (λ (s : Spoken). s.work.effects) (says_taken taken_all to message kept work refl at) ∙ put_effects to (message_octets_of kept message) work))
        (subst (λ (p : Peers). TellsMore plan me.0 first (work.effects ++ effect.Said to (written (message kept.next_id) (platform_of p.me)) ∷ [])) (sym speaks.peers)
        (tells_then plan me.0 first work.effects (work.effects ++ effect.Said to (written (message kept.next_id) (platform_of (ends_at plan me.0 to.0).me)) ∷ []) i.1.0
        (tells_one plan me.0 work.effects to (message kept.next_id) speaks.fit (is.said (ends_at plan me.0 to.0) kept.next_id speaks.low))))

  pub telling_steady : IsSteady plan me Telling
  telling_steady = record {
    placed = λ work i. base.placed work i.0;
    sound = λ work i. base.sound work i.0;
    changes = λ change work kept me_is sound i. (
      base.changes change work kept me_is sound i.0,
      (
        subst (TellsMore plan me.0 first) (sym (changed_effects change work)) i.1.0,
        stay_moved work (changes change work) (λ k. ap (λ (e : EdgeState). e.peering k) (changed_edge change work) ∙ ap (λ (f : ℕ → Option Peering). f k) kept) i.1.1,
      ),
    );
    gives = λ e work silent i. (
      base.gives e work silent i.0,
      (
        subst (TellsMore plan me.0 first) (sym (given_effects e work))
            (tells_then plan me.0 first work.effects (work.effects ++ e ∷ []) i.1.0 (tells_silent plan me.0 work.effects e (silent_none plan me.0 e silent))),
        stay_moved work (gives e work) (λ k. (gives_spares k e work silent).kept) i.1.1,
      ),
    );
    says = λ to message work up is i. (
      base.says to message work up is i.0,
      (
        says_tells to message work up is i,
        λ k. moves_then (start k) (work.edge.peering k) ((says taken_all to message work).work.edge.peering k) (i.1.1 k) (says_moves k to message work),
      ),
    );
  }

-- ---- an edge that hears the peer

module _ (plan : Plan) (network : NetworkState) (me peer : EdgeId) (apart : nat_eq me.0 peer.0 ≡ false) (checked : IsChecked plan) (types : HasTypes plan) where
  abbrev other_end : Peers
  other_end = ends_at plan peer.0 me.0

  abbrev Hears : List Message → Work → Type 0
  Hears messages work = HearsOn plan network me peer messages work

  -- the ends are as before, but for the one with the peer
  pub event_on : (event : SessionEvent) (work : Work) → MovesOn (work.edge.peering peer.0) ((happens_with_ends taken_all peer event work).edge.peering peer.0)
      → (k : ℕ) → MovesOn (work.edge.peering k) ((happens_with_ends taken_all peer event work).edge.peering k)
  event_on event work less k = elim (cases_Bool (nat_eq k peer.0)) [
    | inl same ↦ subst (λ (n : ℕ). MovesOn (work.edge.peering n) ((happens_with_ends taken_all peer event work).edge.peering n)) (sym (eqb-true k peer.0 same)) less
    | inr away ↦ subst (MovesOn (work.edge.peering k)) (sym (event_spare k peer event work away).spares.kept) (moves_not (work.edge.peering k))
  ]

  pub standing_at : (messages : List Message) (kept : Peering) (work : Work) → work.edge.peering peer.0 ≡ Some kept → Hears messages work → IsStanding (ends_at plan me.0 peer.0) other_end kept
  standing_at messages kept work at hears = subst (StandsIf (ends_at plan me.0 peer.0) other_end) at hears.meets.talk.here

  pub unclosed : (messages : List Message) (kept : Peering) (work : Work) → work.edge.peering peer.0 ≡ Some kept → Hears messages work → Rattle.flight_laws.specs.Meeting.closes peer.0 work.effects ≡ false
  unclosed messages kept work at hears = hears.meets.ended ∙ ap (λ (o : Option Peering). not (is_there o)) at

  -- what comes of a message that moves the session
  pub record MovesFew (kept : Peering) (old new : Work) : Type 0 where
    pub tells : TellsFew plan me.0 2 old.effects new.effects
    pub less : end_rank (new.edge.peering peer.0) < phase_rank kept.session.phase
    pub on : (k : ℕ) → MovesOn (old.edge.peering k) (new.edge.peering k)

  pub received_few : (m : Message) (messages : List Message) (kept : Peering) (work : Work) → work.edge.peering peer.0 ≡ Some kept → (is_up_phase kept.session.phase ≡ false) ⊎ (is_fatal m ≡ true)
      → Hears (m ∷ messages) work → MovesFew kept work (happens_with_ends taken_all peer (Received m) work)
  received_few m messages kept work at why hears =
      let own : Peers = ends_at plan me.0 peer.0 in
      let moves : MovesBy own kept (outcome_of kept.session (Received m)) =
      received_moves own other_end kept ((network.edges peer.0).peering me.0) hears.meets.messages messages m (talk_at plan network me peer (m ∷ messages) kept work at hears) why in
      record {
        tells = event_few plan me peer (Received m) kept work at (hears_standing plan network me peer (m ∷ messages) work hears peer.0 kept at) moves.plain;
        less = event_rank plan me peer (Received m) kept work hears.meets.fine at (unclosed (m ∷ messages) kept work at hears) moves.moves;
        on = event_on (Received m) work (subst (λ (o : Option Peering). MovesOn o ((happens_with_ends taken_all peer (Received m) work).edge.peering peer.0)) (sym at)
            (event_moves plan me peer (Received m) kept work hears.meets.fine at (unclosed (m ∷ messages) kept work at hears) (moves_no_further kept (outcome_of kept.session (Received m)) moves.moves)));
      }

  -- the sender of a PDU: only how long nothing was heard changes
  same_phase : (p : Phase) → is_same_phase p p ≡ true
  same_phase phase.Initialized = refl
  same_phase phase.OpenSent = refl
  same_phase phase.OpenRec = refl
  same_phase phase.Operational = refl

  pub sender_is : (messages : List Message) (kept : Peering) (work : Work) → work.edge.peering peer.0 ≡ Some kept → Hears messages work
      → happens_with_ends taken_all peer (Heard (platform_of other_end.me)) work ≡ changes (with_peering peer (Some (with_session (record (kept.session) { wait = 0 }) kept))) work
  unfolding changes with_peering
  sender_is messages kept work at hears = by kept.session.phase refl where
    outcome : outcome_of kept.session (Heard (platform_of other_end.me)) ≡ Goes (record (kept.session) { wait = 0 }) []
    outcome = said_sender kept.session other_end.me (platform_is (ends_at plan me.0 peer.0) other_end kept (standing_at messages kept work at hears))

    now : Work
    now = changes (with_peering peer (Some (with_session (record (kept.session) { wait = 0 }) kept))) work

    by : (p : Phase) → kept.session.phase ≡ p → happens_with_ends taken_all peer (Heard (platform_of other_end.me)) work ≡ now
    by phase.Initialized is = rw (at, outcome, is, same_number peer.0) refl
    by phase.OpenSent is = rw (at, outcome, is, same_number peer.0) refl
    by phase.OpenRec is = rw (at, outcome, is, same_number peer.0) refl
    by phase.Operational is = rw (at, outcome, is, same_number peer.0) refl

  -- where no end is, nothing happens
  pub none_happens : (event : SessionEvent) (work : Work) → work.edge.peering peer.0 ≡ None
      → ((happens_with_ends taken_all peer event work).effects ≡ work.effects) × ((happens_with_ends taken_all peer event work).edge.peering ≡ work.edge.peering)
  none_happens event work at = (
    cleared_effects peer (happens taken_all peer event work) ∙ ap (λ (o : Option Peering). (happens_to taken_all peer event o work).effects) at,
    clears_keep peer (happens taken_all peer event work) ∙ ap (λ (o : Option Peering). (happens_to taken_all peer event o work).edge.peering) at,
  )

  module _ (first : List Effect) (start : ℕ → Option Peering) where
    abbrev pub Told : List Message → Work → Type 0
    Told messages = Telling plan me first start (Hears messages) (hears_steady plan network me peer apart messages) (hears_standing plan network me peer messages)

    told_steady : (messages : List Message) → IsSteady plan me (Told messages)
    told_steady messages = telling_steady plan me first start (Hears messages) (hears_steady plan network me peer apart messages) (hears_standing plan network me peer messages)

    abbrev Rest : Work → Type 0
    Rest work = TellsMore plan me.0 first work.effects × ((k : ℕ) → MovesOn (start k) (work.edge.peering k))

    sender_told : (messages : List Message) (work : Work) → Told messages work → Rest (happens_with_ends taken_all peer (Heard (platform_of other_end.me)) work)
    sender_told messages work i = by (work.edge.peering peer.0) refl where
      event : SessionEvent
      event = Heard (platform_of other_end.me)

      by : (near : Option Peering) → work.edge.peering peer.0 ≡ near → Rest (happens_with_ends taken_all peer event work)
      by None at = (
        subst (TellsMore plan me.0 first) (sym (none_happens event work at).0) i.1.0,
        λ k. subst (λ (f : ℕ → Option Peering). MovesOn (start k) (f k)) (sym (none_happens event work at).1) (i.1.1 k),
      )
      by (Some kept) at =
          let now : Peering = with_session (record (kept.session) { wait = 0 }) kept in (
            subst (TellsMore plan me.0 first) (sym (ap (λ (w : Work). w.effects) (sender_is messages kept work at i.0) ∙ changed_effects (with_peering peer (Some now)) work)) i.1.0,
            λ k. moves_then (start k) (work.edge.peering k) ((happens_with_ends taken_all peer event work).edge.peering k) (i.1.1 k)
                (event_on event work (subst (λ (o : Option Peering). MovesOn o ((happens_with_ends taken_all peer event work).edge.peering peer.0)) (sym at)
                (subst (MovesOn (Some kept)) (sym (ap (λ (w : Work). w.edge.peering peer.0) (sender_is messages kept work at i.0) ∙ moved_stands peer now work)) (refl, no_further (phase_rank kept.session.phase)))) k),
          )

    received_told : (m : Message) (messages : List Message) (kept : Peering) (work : Work) → work.edge.peering peer.0 ≡ Some kept → (is_up_phase kept.session.phase ≡ false) ⊎ (is_fatal m ≡ true)
        → Told (m ∷ messages) work → Rest (happens_with_ends taken_all peer (Received m) work)
    received_told m messages kept work at why i =
        let few : MovesFew kept work (happens_with_ends taken_all peer (Received m) work) = received_few m messages kept work at why i.0 in (
          tells_then plan me.0 first work.effects (happens_with_ends taken_all peer (Received m) work).effects i.1.0 few.tells.tells,
          λ k. moves_then (start k) (work.edge.peering k) ((happens_with_ends taken_all peer (Received m) work).edge.peering k) (i.1.1 k) (few.on k),
        )

    pub told_kept : KeptByHearing plan me peer other_end Told
    told_kept =
        let base : KeptByHearing plan me peer other_end Hears = hears_kept plan network me peer apart checked types in
        record {
          window = λ messages kept work at i. base.window messages kept work at i.0;
          sender = λ messages work i. (base.sender messages work i.0, sender_told messages work i);
          gone = λ m messages work at i. (base.gone m messages work at i.0, i.1);
          event = λ m messages kept work at said why i. (base.event m messages kept work at said why i.0, received_told m messages kept work at why i);
          acts = λ m messages kept work at up said plain pseudowires i. (
            base.acts m messages kept work at up said plain pseudowires i.0,
            (steady_acts plan me peer other_end (Told (m ∷ messages)) (told_steady (m ∷ messages)) m work said pseudowires (rw at (ap is_operational up)) i).1,
          );
          goes_by = λ m messages kept work at up said addresses i. (base.goes_by m messages kept work at up said addresses i.0, i.1);
          mends = λ messages. steady_rows plan me checked types (Told messages) (told_steady messages);
        }

    pub told_messages : KeptByMessages plan peer other_end Told
    told_messages = message_heard plan me peer other_end Told told_kept
