-- What a session replies is worth one for each message: two at most.
use Rattle.std.proofs.Common.{◌≡◌, ◌≤◌, ◌+◌, ◌++◌, ◌∙◌, ℕ, suc, Bool, true, false, cond, List, [], ◌∷◌, Option, Some, None, length, refl, sym, ap, subst, append_assoc, arith, zero-add}
use Rattle.std.specs.List.{AllByRecursion}
use Rattle.net_base.specs.declared.plan.Plan.{Plan}
use Rattle.net_base.specs.declared.plan.places.EdgeId.{EdgeId}
use Rattle.net_base.specs.declared.trace.state_name.Reason.{Reason}
use Rattle.net_base.specs.declared.trace.state_name.Reason.TheVariants as reason
use Rattle.net_base.specs.declared.trace.state_name.StateName.TheVariants as state
use Rattle.net_base.specs.plan.Accepted.{IsChecked}
use Rattle.ldp_grammar.specs.Written.{written}
use Rattle.session_core.specs.declared.peers.Peers.{Peers}
use Rattle.session_core.specs.declared.reply.Reply.{Reply}
use Rattle.session_core.specs.declared.reply.Reply.TheVariants as reply
use Rattle.session_core.specs.Messages.{message_of}
use Rattle.session_core.specs.Phase.{Phase}
use Rattle.session_core.specs.Session.{phase_name}
use Rattle.session_core.specs.Table.{SessionEvent, Outcome, Stay, Goes, Ends, outcome_of}
use Rattle.pw_messages.specs.Sender.{platform_of}
use Rattle.pw_messages.proofs.CommonLemmas.{following_small}
use Rattle.edge_model.specs.declared.effect.Effect.{Effect}
use Rattle.edge_model.specs.declared.effect.Effect.TheVariants as effect
use Rattle.edge_model.specs.Put.{Spoken, having_spoken, octets_of, put_replies}
use Rattle.edge_model.specs.Session.{comes_of, ends, happens, happens_to, happens_with_ends, is_same_phase, tells_change, with_session}
use Rattle.edge_model.specs.State.{EdgeState, Peering, with_peering}
use Rattle.edge_model.specs.Work.{Work, changes, gives}
use Rattle.network_model.specs.Absorb.{taken_all}
use Rattle.flight_laws.specs.Ends.{ends_at}
use Rattle.spelling_laws.proofs.PutLemmas.{changed_effects, put_effects, Speaks, first_put, given_effects, put_first, put_stands}
use Rattle.spelling_laws.proofs.SessionLemmas.{moved_stands, cleared_effects}
use Rattle.quiet_laws.proofs.ToldLemmas.{AreTold, IsPlainOutcome, Put, TellsMore, told_joined, IsPlain, reply_said}
use Rattle.settle_bounds.specs.Worth.{message_worth}
use Rattle.settle_bounds.proofs.WorthLemmas.{paid}

no_more : (es : List Effect) → es ≡ es ++ []
no_more [] = refl
no_more (e ∷ es) = ap (λ (l : List Effect). e ∷ l) (no_more es)

module _ (plan : Plan) (checked : IsChecked plan) (edges : ℕ → EdgeState) (me peer : EdgeId) where
  abbrev own : Peers
  own = ends_at plan me.0 peer.0

  abbrev costs : List Put → ℕ
  costs ps = paid plan checked edges me ps

  pub paid_joined : (ps qs : List Put) → costs (ps ++ qs) ≡ costs ps + costs qs
  paid_joined [] qs = sym (zero-add (costs qs))
  paid_joined (p ∷ ps) qs = sum (message_worth plan edges me.0 p.to p.message) (costs (ps ++ qs)) (costs ps) (costs qs) (paid_joined ps qs) where
    sum : (w a b c : ℕ) → a ≡ b + c → w + a ≡ (w + b) + c
    sum w a b c is = omega (arith, is)

  -- more is told, and worth so much at most
  pub record TellsWorth (most : ℕ) (old new : List Effect) : Type 0 where
    pub tells : TellsMore plan me.0 old new
    pub worth : costs tells.told ≤ most

  worth_not : (es : List Effect) (most : ℕ) → TellsWorth most es es
  worth_not es most = record { tells = record { more = []; joined = no_more es; told = []; are = tt }; worth = none most } where
    none : (n : ℕ) → 0 ≤ n
    none n = omega arith

  pub worth_then : (a b c : List Effect) (m n : ℕ) → TellsWorth m a b → TellsWorth n b c → TellsWorth (m + n) a c
  worth_then a b c m n one next = record {
    tells = record {
      more = one.tells.more ++ next.tells.more;
      joined = next.tells.joined ∙ (ap (λ (l : List Effect). l ++ next.tells.more) one.tells.joined ∙ append_assoc a one.tells.more next.tells.more);
      told = one.tells.told ++ next.tells.told;
      are = told_joined plan me.0 one.tells.more next.tells.more one.tells.told next.tells.told one.tells.are next.tells.are;
    };
    worth = both (costs (one.tells.told ++ next.tells.told)) (costs one.tells.told) (costs next.tells.told) m n (paid_joined one.tells.told next.tells.told) one.worth next.worth;
  }
    where
      both : (t x y m n : ℕ) → t ≡ x + y → x ≤ m → y ≤ n → t ≤ m + n
      both t x y m n is one next = omega (arith, is, one, next)

  pub wider : (m n : ℕ) (a b : List Effect) → m ≤ n → TellsWorth m a b → TellsWorth n a b
  wider m n a b le tells = record { tells = tells.tells; worth = both (costs tells.tells.told) m n tells.worth le } where
    both : (a b c : ℕ) → a ≤ b → b ≤ c → a ≤ c
    both a b c one other = omega (arith, one, other)

  silent : (es : List Effect) (e : Effect) → AreTold plan me.0 (e ∷ []) [] → TellsWorth 0 es (es ++ e ∷ [])
  silent es e none = record { tells = record { more = e ∷ []; joined = refl; told = []; are = none }; worth = omega arith }

  -- ---- replies

  reply_worth : (r : Reply) (id : ℕ) (ends : Peers) → IsPlain r → message_worth plan edges me.0 peer.0 (message_of r id ends) + 0 ≤ 1
  reply_worth reply.Init id ends plain = omega arith
  reply_worth reply.KeepAlive id ends plain = omega arith
  reply_worth (reply.Notice status) id ends plain = absurd plain

  -- replies are put
  record RepliesPut (rs : List Reply) (work : Work) (put : Spoken) : Type 0 where
    taken : put.failed ≡ false
    tells : TellsWorth (length rs) work.effects put.work.effects

  one_more_than : (n : ℕ) → 1 + n ≡ suc n
  one_more_than n = omega arith

  one_put : (r : Reply) (kept : Peering) (work : Work) → Speaks own kept → IsPlain r → TellsWorth 1 work.effects (first_put peer r kept work).work.effects
  one_put r kept work speaks plain = subst (TellsWorth 1 work.effects) (sym (put_effects peer (octets_of kept r) work))
      (subst (λ (bytes : List ℕ). TellsWorth 1 work.effects (work.effects ++ effect.Said peer bytes ∷ [])) (sym spelled) (record {
        tells = record {
          more = effect.Said peer (written (message_of r kept.next_id own) (platform_of own.me)) ∷ [];
          joined = refl;
          told = record { to = peer.0; message = message_of r kept.next_id own } ∷ [];
          are = (record { to = refl; fit = speaks.fit; said = reply_said own r kept.next_id plain speaks.low; spelled = refl }, tt);
        };
        worth = reply_worth r kept.next_id own plain;
      }))
    where
      spelled : octets_of kept r ≡ written (message_of r kept.next_id own) (platform_of own.me)
      spelled = ap (λ (p : Peers). written (message_of r kept.next_id p) (platform_of p.me)) speaks.peers

  replies_put : (rs : List Reply) (kept : Peering) (work : Work) → work.edge.peering peer.0 ≡ Some kept → Speaks own kept → AllByRecursion IsPlain rs → RepliesPut rs work (put_replies taken_all peer rs work)
  replies_put [] kept work at speaks plain = record { taken = refl; tells = worth_not work.effects 0 }
  replies_put (r ∷ rs) kept work at speaks plain =
      let rest : RepliesPut rs (first_put peer r kept work).work (put_replies taken_all peer rs (first_put peer r kept work).work) =
      replies_put rs (having_spoken kept) (first_put peer r kept work).work (put_stands peer (octets_of kept r) kept work at)
      (record { peers = speaks.peers; fit = speaks.fit; low = following_small kept.next_id speaks.low }) plain.1 in
      subst (RepliesPut (r ∷ rs) work) (sym (put_first peer r rs kept work at)) (record {
        taken = rest.taken;
        tells = subst (λ (n : ℕ). TellsWorth n work.effects (put_replies taken_all peer rs (first_put peer r kept work).work).work.effects) (one_more_than (length rs))
            (worth_then work.effects (first_put peer r kept work).work.effects (put_replies taken_all peer rs (first_put peer r kept work).work).work.effects 1 (length rs) (one_put r kept work speaks plain.0) rest.tells);
      })

  -- ---- an event

  changed_worth : (old new : Phase) (work : Work) → TellsWorth 0 work.effects (tells_change peer old new work).effects
  changed_worth old new work = by (is_same_phase old new) where
    by : (same : Bool) → TellsWorth 0 work.effects (cond same work (gives (effect.Session peer (phase_name new)) work)).effects
    by true = worth_not work.effects 0
    by false = subst (TellsWorth 0 work.effects) (sym (given_effects (effect.Session peer (phase_name new)) work)) (silent work.effects (effect.Session peer (phase_name new)) tt)

  ends_worth : (why : Reason) (work : Work) → TellsWorth 0 work.effects (ends peer why work).effects
  ends_worth why work =
      let gone : Work = changes (with_peering peer None) work in
      let told : Work = gives (effect.Session peer (state.Ended why)) gone in
      subst (λ (es : List Effect). TellsWorth 0 es (gives (effect.Closed peer) told).effects) (changed_effects (with_peering peer None) work)
      (worth_then gone.effects told.effects (gives (effect.Closed peer) told).effects 0 0
      (subst (TellsWorth 0 gone.effects) (sym (given_effects (effect.Session peer (state.Ended why)) gone)) (silent gone.effects (effect.Session peer (state.Ended why)) tt))
      (subst (TellsWorth 0 told.effects) (sym (given_effects (effect.Closed peer) told)) (silent told.effects (effect.Closed peer) tt)))

  -- how much an outcome tells
  abbrev pub outcome_worth : Outcome → ℕ
  outcome_worth (Goes next replies) = 2
  outcome_worth outcome = 0

  comes_worth : (kept : Peering) (o : Outcome) (work : Work) → work.edge.peering peer.0 ≡ Some kept → Speaks own kept → IsPlainOutcome own o → TellsWorth (outcome_worth o) work.effects (comes_of taken_all peer kept o work).effects
  comes_worth kept Stay work at speaks plain = worth_not work.effects 0
  comes_worth kept (Goes next replies) work at speaks plain =
      subst (λ (failed : Bool). TellsWorth 2 work.effects (cond failed (ends peer reason.LinkFault put.work) (tells_change peer kept.session.phase next.phase put.work)).effects) (sym replied.taken)
      (subst (λ (es : List Effect). TellsWorth 2 es (tells_change peer kept.session.phase next.phase put.work).effects) (changed_effects (with_peering peer (Some now)) work)
      (wider (length replies + 0) 2 moved.effects (tells_change peer kept.session.phase next.phase put.work).effects (no_more_than (length replies) plain.2)
      (worth_then moved.effects put.work.effects (tells_change peer kept.session.phase next.phase put.work).effects (length replies) 0 replied.tells (changed_worth kept.session.phase next.phase put.work))))
    where
      now : Peering
      now = with_session next kept

      moved : Work
      moved = changes (with_peering peer (Some now)) work

      put : Spoken
      put = put_replies taken_all peer replies moved

      replied : RepliesPut replies moved put
      replied = replies_put replies now moved (moved_stands peer now work) (record { peers = plain.0; fit = speaks.fit; low = speaks.low }) plain.1

      no_more_than : (n : ℕ) → n ≤ 2 → n + 0 ≤ 2
      no_more_than n le = omega (arith, le)
  comes_worth kept (Ends why replies) work at speaks plain =
      subst (λ (rs : List Reply). TellsWorth 0 work.effects (ends peer why (put_replies taken_all peer rs work).work).effects) (sym plain) (ends_worth why work)

  pub event_worth : (event : SessionEvent) (kept : Peering) (work : Work) → work.edge.peering peer.0 ≡ Some kept → Speaks own kept → IsPlainOutcome own (outcome_of kept.session event)
      → TellsWorth (outcome_worth (outcome_of kept.session event)) work.effects (happens_with_ends taken_all peer event work).effects
  event_worth event kept work at speaks plain =
      subst (TellsWorth (outcome_worth (outcome_of kept.session event)) work.effects)
      (sym (cleared_effects peer (happens taken_all peer event work) ∙ ap (λ (o : Option Peering). (happens_to taken_all peer event o work).effects) at))
      (comes_worth kept (outcome_of kept.session event) work at speaks plain)
