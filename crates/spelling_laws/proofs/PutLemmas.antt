-- What an edge at work has said so far are messages of its ends, each in a PDU of its own.
use Rattle.std.proofs.Common.{◌≡◌, ◌<◌, ◌^◌, ◌++◌, ◌&&◌, ℕ, Bool, true, false, List, [], ◌∷◌, Option, Some, None, refl, sym, ap, subst}
use Rattle.std.specs.List.{AllByRecursion}
use Rattle.net_values.proofs.BoolLemmas.{clash}
use Rattle.net_values.proofs.NumberLemmas.{same_number}
use Rattle.net_base.specs.declared.plan.Plan.{Plan}
use Rattle.net_base.specs.declared.plan.places.EdgeId.{EdgeId}
use Rattle.ldp_grammar.specs.declared.message.Message.{Message}
use Rattle.ldp_grammar.specs.declared.message.Message.TheVariants.{Notification}
use Rattle.ldp_grammar.specs.declared.status_code.StatusCode.{StatusCode}
use Rattle.ldp_grammar.specs.Written.{written}
use Rattle.session_core.specs.declared.peers.Peers.{Peers}
use Rattle.session_core.specs.declared.reply.Reply.{Reply}
use Rattle.session_core.specs.declared.reply.Reply.TheVariants as reply
use Rattle.session_core.specs.Messages.{message_of}
use Rattle.pw_messages.specs.Sender.{platform_of}
use Rattle.pw_messages.proofs.CommonLemmas.{following_small}
use Rattle.edge_model.specs.declared.effect.Effect.{Effect}
use Rattle.edge_model.specs.declared.effect.Effect.TheVariants as effect
use Rattle.edge_model.specs.Put.{Spoken, having_spoken, message_octets_of, octets_of, put_octets, put_replies, put_reply_to, puts_on, with_spoken}
use Rattle.edge_model.specs.State.{EdgeState, Peering, with_peering}
use Rattle.edge_model.specs.Work.{Work, changes, gives, puts}
use Rattle.edge_model.proofs.BridgeLemmas.{is_of_bridging}
use Rattle.edge_model.proofs.SessionLemmas.{GivesOnly, are_all}
use Rattle.network_model.specs.Absorb.{taken_all}
use Rattle.flight_laws.specs.Ends.{ends_at}
use Rattle.flight_laws.specs.Messages.{IsSaidAcross, expiry}
use Rattle.flight_laws.specs.Pair.{AreFit, IsStanding}
use Rattle.flight_laws.proofs.ReactLemmas.{expiry_said}
use Rattle.flight_laws.proofs.SteadyLemmas.{IsUnsaid}

-- ---- what is told

-- the octets are those of a message that an end says, in a PDU of its own
pub record IsTold (own : Peers) (octets : List ℕ) : Type 0 where
  pub message : Message
  pub fit : AreFit own
  pub said : IsSaidAcross own message
  pub spelled : octets ≡ written message (platform_of own.me)

-- what is said to a neighbour is so
abbrev pub Tells : Plan → ℕ → Effect → Type 0
Tells plan me (effect.Said peer octets) = IsTold (ends_at plan me peer.0) octets
Tells plan me e = Unit {0}

abbrev pub AllTell : Plan → ℕ → List Effect → Type 0
AllTell plan me es = AllByRecursion (Tells plan me) es

pub tell_joined : (plan : Plan) (me : ℕ) (es more : List Effect) → AllTell plan me es → AllTell plan me more → AllTell plan me (es ++ more)
tell_joined plan me [] more one other = other
tell_joined plan me (e ∷ es) more one other = (one.0, tell_joined plan me es more one.1 other)

pub unsaid_tells : (plan : Plan) (me : ℕ) (e : Effect) → IsUnsaid e → Tells plan me e
unsaid_tells plan me (effect.Said peer octets) unsaid = absurd unsaid
unsaid_tells plan me e unsaid = tt

bridging_tells : (plan : Plan) (me : ℕ) (e : Effect) → is_of_bridging e ≡ true → Tells plan me e
bridging_tells plan me (effect.Said peer octets) own = clash own
bridging_tells plan me e own = tt

bridging_all : (plan : Plan) (me : ℕ) (es : List Effect) → are_all is_of_bridging es ≡ true → AllTell plan me es
bridging_all plan me [] own = tt
bridging_all plan me (e ∷ es) own = by (is_of_bridging e) refl (λ rest. bridging_all plan me es rest) own where
  by : (b : Bool) → is_of_bridging e ≡ b → (are_all is_of_bridging es ≡ true → AllTell plan me es) → b && are_all is_of_bridging es ≡ true → AllTell plan me (e ∷ es)
  by true is later rest = (bridging_tells plan me e is, later rest)
  by false is later rest = clash rest

-- an edge that bridges says nothing
pub bridges_tell : (plan : Plan) (me : ℕ) (old new : List Effect) → GivesOnly is_of_bridging old new → AllTell plan me old → AllTell plan me new
bridges_tell plan me old new gives before = subst (AllTell plan me) (sym gives.given) (tell_joined plan me old gives.more before (bridging_all plan me gives.more gives.own))

-- ---- the effects of work

pub given_effects : (e : Effect) (work : Work) → (gives e work).effects ≡ work.effects ++ e ∷ []
unfolding gives
given_effects e work = refl

pub changed_effects : (change : EdgeState → EdgeState) (work : Work) → (changes change work).effects ≡ work.effects
unfolding changes
changed_effects change work = refl

pub put_effects : (peer : EdgeId) (bytes : List ℕ) (work : Work) → (put_octets peer bytes true work).work.effects ≡ work.effects ++ effect.Said peer bytes ∷ []
unfolding changes gives puts
put_effects peer bytes work = refl

pub gives_tell : (plan : Plan) (me : ℕ) (e : Effect) (work : Work) → Tells plan me e → AllTell plan me work.effects → AllTell plan me (gives e work).effects
gives_tell plan me e work one before = subst (AllTell plan me) (sym (given_effects e work)) (tell_joined plan me work.effects (e ∷ []) before (one, tt))

pub changes_tell : (plan : Plan) (me : ℕ) (change : EdgeState → EdgeState) (work : Work) → AllTell plan me work.effects → AllTell plan me (changes change work).effects
changes_tell plan me change work before = subst (AllTell plan me) (sym (changed_effects change work)) before

-- ---- what an end that stands says by

pub record Speaks (own : Peers) (kept : Peering) : Type 0 where
  pub peers : kept.session.peers ≡ own
  pub fit : AreFit own
  pub low : kept.next_id < 2 ^ 32

pub speaks_by : (own other : Peers) (kept : Peering) → IsStanding own other kept → Speaks own kept
speaks_by own other kept is = record { peers = is.peers; fit = is.between.one; low = is.numbered }

having_spoken_speaks : (own : Peers) (kept : Peering) → Speaks own kept → Speaks own (having_spoken kept)
having_spoken_speaks own kept speaks = record { peers = speaks.peers; fit = speaks.fit; low = following_small kept.next_id speaks.low }

-- a reply of an end that goes on, or the Notification of one that heard nothing for the hold time
abbrev pub IsSaidReply : Reply → Type 0
IsSaidReply reply.Init = Unit {0}
IsSaidReply reply.KeepAlive = Unit {0}
IsSaidReply (reply.Notice status) = status ≡ expiry

reply_said : (own : Peers) (r : Reply) (id : ℕ) → IsSaidReply r → id < 2 ^ 32 → IsSaidAcross own (message_of r id own)
reply_said own reply.Init id is small = (small, refl)
reply_said own reply.KeepAlive id is small = small
reply_said own (reply.Notice status) id is small = subst (λ (code : StatusCode). IsSaidAcross own (Notification id code None None)) (sym is) (expiry_said own id small)

-- ---- messages are put

-- octets are put, and the session says on
pub put_stands : (peer : EdgeId) (bytes : List ℕ) (kept : Peering) (work : Work) → work.edge.peering peer.0 ≡ Some kept
    → (put_octets peer bytes true work).work.edge.peering peer.0 ≡ Some (having_spoken kept)
unfolding changes gives puts with_peering with_spoken
put_stands peer bytes kept work at = rw (same_number peer.0, at) refl

-- the first one of several replies
abbrev pub first_put : EdgeId → Reply → Peering → Work → Spoken
first_put peer r kept work = put_octets peer (octets_of kept r) true work

pub put_first : (peer : EdgeId) (r : Reply) (rs : List Reply) (kept : Peering) (work : Work) → work.edge.peering peer.0 ≡ Some kept
    → put_replies taken_all peer (r ∷ rs) work ≡ put_replies taken_all peer rs (first_put peer r kept work).work
put_first peer r rs kept work at = ap (λ (o : Option Peering). puts_on (put_replies taken_all peer rs) (put_reply_to taken_all peer r o work).failed (put_reply_to taken_all peer r o work).work) at

module _ (plan : Plan) (me peer : EdgeId) where
  abbrev own : Peers
  own = ends_at plan me.0 peer.0

  put_tells : (m : Message) (bytes : List ℕ) (work : Work) → AreFit own → IsSaidAcross own m → bytes ≡ written m (platform_of own.me) → AllTell plan me.0 work.effects
      → AllTell plan me.0 (put_octets peer bytes true work).work.effects
  put_tells m bytes work fit said is before = subst (AllTell plan me.0) (sym (put_effects peer bytes work))
      (tell_joined plan me.0 work.effects (effect.Said peer bytes ∷ []) before (record { message = m; fit = fit; said = said; spelled = is }, tt))

  -- a message about pseudowires
  pub message_tells : (message : ℕ → Message) (kept : Peering) (work : Work) → Speaks own kept → IsSaidAcross own (message kept.next_id) → AllTell plan me.0 work.effects
      → AllTell plan me.0 (put_octets peer (message_octets_of kept message) true work).work.effects
  message_tells message kept work speaks said before =
      put_tells (message kept.next_id) (message_octets_of kept message) work speaks.fit said (ap (λ (p : Peers). written (message kept.next_id) (platform_of p.me)) speaks.peers) before

  -- replies, one after another
  pub record HavePut (put : Spoken) : Type 0 where
    pub taken : put.failed ≡ false
    pub tell : AllTell plan me.0 put.work.effects

  one_put : (r : Reply) (kept : Peering) (work : Work) → Speaks own kept → IsSaidReply r → AllTell plan me.0 work.effects → AllTell plan me.0 (first_put peer r kept work).work.effects
  one_put r kept work speaks is before =
      put_tells (message_of r kept.next_id own) (octets_of kept r) work speaks.fit (reply_said own r kept.next_id is speaks.low)
      (ap (λ (p : Peers). written (message_of r kept.next_id p) (platform_of p.me)) speaks.peers) before

  pub replies_put : (rs : List Reply) (kept : Peering) (work : Work) → work.edge.peering peer.0 ≡ Some kept → Speaks own kept → AllByRecursion IsSaidReply rs → AllTell plan me.0 work.effects
      → HavePut (put_replies taken_all peer rs work)
  replies_put [] kept work at speaks are before = record { taken = refl; tell = before }
  replies_put (r ∷ rs) kept work at speaks are before =
      subst HavePut (sym (put_first peer r rs kept work at))
      (replies_put rs (having_spoken kept) (first_put peer r kept work).work (put_stands peer (octets_of kept r) kept work at)
      (having_spoken_speaks own kept speaks) are.1 (one_put r kept work speaks are.0 before))
