-- What an edge at work leaves for another place of the ends of wires between the two.
use Rattle.std.proofs.Common.{◌≡◌, ◌++◌, ◌∙◌, ℕ, true, List, [], ◌∷◌, Option, Some, None, sym, ap, subst, append_assoc}
use Rattle.net_values.proofs.BoolLemmas.{clash}
use Rattle.net_base.specs.declared.plan.Plan.{Plan}
use Rattle.net_base.specs.declared.plan.places.EdgeId.{EdgeId}
use Rattle.ldp_grammar.specs.declared.message.Message.{Message}
use Rattle.pw_signalling.specs.End.{EndState}
use Rattle.session_core.specs.declared.peers.Peers.{Peers}
use Rattle.pw_messages.specs.Sender.{platform_of}
use Rattle.edge_model.specs.Put.{message_octets_of}
use Rattle.edge_model.specs.State.{EdgeState, Peering, is_there}
use Rattle.edge_model.specs.Work.{Work}
use Rattle.flight_laws.specs.Bound.{AreBound, HasSaid, LeavesBound}
use Rattle.flight_laws.specs.Coming.{and_more}
use Rattle.flight_laws.specs.Ends.{ends_at}
use Rattle.flight_laws.specs.Meeting.{said_to}
use Rattle.flight_laws.specs.Messages.{AreSaid, IsSaidAcross, octets_of_all}
use Rattle.flight_laws.specs.Pair.{AreFit, IsStanding}
use Rattle.flight_laws.specs.Bound.{given_of}
use Rattle.flight_laws.proofs.BindingLemmas.{StaysGiven}
use Rattle.flight_laws.proofs.GivenLemmas.{given_on}
use Rattle.flight_laws.proofs.EdgeBindingLemmas.{HasSameEnds, bound_elsewhere, bound_same}
use Rattle.flight_laws.proofs.SaidLemmas.{all_joined, said-append}
use Rattle.flight_laws.proofs.SpokenLemmas.{HasSpoken}
use Rattle.flight_laws.proofs.UniqueLemmas.{said_once}
use Rattle.flight_laws.proofs.WorkLemmas.{same_end}
use Rattle.ldp_grammar.specs.Written.{written}

-- nothing of it is another one
pub leaves_same : (plan : Plan) (me : EdgeId) (place : ℕ) (far : EdgeState) (out : List ℕ) (answers : List Message) (old new : Work) → said_to place new.effects ≡ said_to place old.effects
    → (is_there (new.edge.peering place) ≡ true → is_there (old.edge.peering place) ≡ true) → HasSameEnds place old.edge new.edge → LeavesBound plan me place far out answers old
    → LeavesBound plan me place far out answers new
leaves_same plan me place far out answers old new said there same leaves = record {
  bound = λ messages are is near other. bound_same plan me.0 place old.edge new.edge far messages answers same (leaves.bound messages are (rw said at is) (there near) other);
}

-- the ends beside the place are as they were, and another end took a label, or none
pub leaves_goes : (plan : Plan) (me : EdgeId) (place : ℕ) (far : EdgeState) (out : List ℕ) (answers : List Message) (old new : Work) → said_to place new.effects ≡ said_to place old.effects
    → (is_there (new.edge.peering place) ≡ true → is_there (old.edge.peering place) ≡ true) → StaysGiven (given_of old.edge) (given_of new.edge)
    → ((wire : ℕ) → new.edge.ends wire place ≡ old.edge.ends wire place)
    → LeavesBound plan me place far out answers old → LeavesBound plan me place far out answers new
leaves_goes plan me place far out answers old new said there goes same leaves = record {
  bound = λ messages are is near other. bound_elsewhere plan me.0 place old.edge new.edge far messages answers goes same (leaves.bound messages are (rw said at is) (there near) other);
}

-- no end stands
pub leaves_none : (plan : Plan) (me : EdgeId) (place : ℕ) (far : EdgeState) (out : List ℕ) (answers : List Message) (work : Work) → work.edge.peering place ≡ None
    → LeavesBound plan me place far out answers work
leaves_none plan me place far out answers work none = record { bound = λ messages are is near other. clash (sym (ap is_there none) ∙ near) }

-- ---- more is said

-- what is on its way, once more was said, where the other end stands
more_said : (own : Peers) (far : Option Peering) (out said more : List ℕ) (messages new : List Message) → is_there far ≡ true → and_more far out said ≡ octets_of_all own.me messages
    → more ≡ octets_of_all own.me new
    → and_more far out (said ++ more) ≡ octets_of_all own.me (messages ++ new)
more_said own None out said more messages new there is more_is = clash there
more_said own (Some end) out said more messages new there is more_is =
    sym (append_assoc out said more) ∙ (ap (λ (l : List ℕ). l ++ more) is ∙ (ap (λ (l : List ℕ). octets_of_all own.me messages ++ l) more_is ∙ sym (all_joined own.me messages new)))

-- the messages are those before and the new ones
pub leaves_more : (plan : Plan) (me : EdgeId) (place : ℕ) (far : EdgeState) (out more : List ℕ) (before after : List Message) (old new : Work) (has : HasSaid plan me place far out old) (messages : List Message) → AreFit (ends_at plan me.0 place)
    → AreSaid (ends_at plan me.0 place) messages → more ≡ octets_of_all (ends_at plan me.0 place).me messages → said_to place new.effects ≡ said_to place old.effects ++ more
    → (is_there (new.edge.peering place) ≡ true → is_there (old.edge.peering place) ≡ true)
    → (is_there (new.edge.peering place) ≡ true → AreBound plan me.0 place old.edge far has.messages before → AreBound plan me.0 place new.edge far (has.messages ++ messages) after)
    → LeavesBound plan me place far out before old → LeavesBound plan me place far out after new
leaves_more plan me place far out more before after old new has messages fit said more_is new_said there follows leaves = record {
  bound = λ ms are is near other.
      let own : Peers = ends_at plan me.0 place in
      let octets : and_more (far.peering me.0) out (said_to place new.effects) ≡ octets_of_all own.me (has.messages ++ messages) =
      ap (and_more (far.peering me.0) out) new_said ∙ more_said own (far.peering me.0) out (said_to place old.effects) more has.messages messages other has.out_is more_is in
      let same : has.messages ++ messages ≡ ms = said_once own (has.messages ++ messages) ms fit (said-append own has.messages messages has.talk.said said) are (sym octets ∙ is) in
      subst (λ (l : List Message). AreBound plan me.0 place new.edge far l after) same (follows near (leaves.bound has.messages has.talk.said has.out_is (there near) other));
}

-- one message is said to the place
pub leaves_spoken : (plan : Plan) (me peer : EdgeId) (far : EdgeState) (out : List ℕ) (before after : List Message) (kept : Peering) (message : ℕ → Message) (old changed new : Work) (has : HasSaid plan me peer.0 far out old)
    → old.edge.peering peer.0 ≡ Some kept → IsSaidAcross (ends_at plan me.0 peer.0) (message kept.next_id) → said_to peer.0 changed.effects ≡ said_to peer.0 old.effects
    → HasSpoken peer kept message changed new
    → (AreBound plan me.0 peer.0 old.edge far has.messages before → AreBound plan me.0 peer.0 changed.edge far (has.messages ++ message kept.next_id ∷ []) after)
    → LeavesBound plan me peer.0 far out before old → LeavesBound plan me peer.0 far out after new
leaves_spoken plan me peer far out before after kept message old changed new has at said same spoken follows leaves =
    leaves_more plan me peer.0 far out (message_octets_of kept message) before after old new has (message kept.next_id ∷ []) standing.between.one (said, tt)
    (ap (λ (p : Peers). written (message kept.next_id) (platform_of p.me)) standing.peers ∙ sym (same_end (written (message kept.next_id) (platform_of (ends_at plan me.0 peer.0).me))))
    (spoken.said ∙ ap (λ (l : List ℕ). l ++ message_octets_of kept message) same) (λ near. ap is_there at)
    (λ near bound. bound_same plan me.0 peer.0 changed.edge new.edge far (has.messages ++ message kept.next_id ∷ []) after
    (record { label = given_on changed.edge new.edge spoken.label spoken.labels; ends = λ wire. ap (λ (f : ℕ → ℕ → EndState). f wire peer.0) spoken.ends }) (follows bound)) leaves
  where
    standing : IsStanding (ends_at plan me.0 peer.0) (ends_at plan peer.0 me.0) kept
    standing = rw at at has.talk.here
