-- An event of a session keeps what is left of the ends of wires, for every place.
use Rattle.std.proofs.Common.{◌≡◌, ◌++◌, ◌∙◌, nat_eq, ℕ, Bool, true, false, cond, List, [], ◌∷◌, Option, Some, None, refl, sym, ap, subst}
use Rattle.net_values.proofs.BoolLemmas.{clash}
use Rattle.net_base.specs.declared.plan.Plan.{Plan}
use Rattle.net_base.specs.declared.plan.places.EdgeId.{EdgeId}
use Rattle.ldp_grammar.specs.declared.message.Message.{Message}
use Rattle.ldp_grammar.proofs.CommonLemmas.{none_behind}
use Rattle.pw_signalling.specs.End.{EndState}
use Rattle.session_core.specs.declared.peers.Peers.{Peers}
use Rattle.session_core.specs.declared.reply.Reply.{Reply}
use Rattle.session_core.specs.declared.reply.Reply.TheVariants as reply
use Rattle.session_core.specs.Messages.{message_of}
use Rattle.session_core.specs.State.{SessionState}
use Rattle.session_core.specs.Table.{SessionEvent, Outcome, Stay, Goes, Ends, outcome_of}
use Rattle.edge_model.specs.Put.{having_spoken, put_replies}
use Rattle.edge_model.specs.Session.{clears_ends, comes_of, ends, happens, happens_with_ends, with_session, losing_ends}
use Rattle.edge_model.specs.State.{EdgeState, Peering, has_end, is_there, with_ends_beside, with_kept}
use Rattle.edge_model.specs.Work.{Work, changes}
use Rattle.edge_model.proofs.HeldLemmas.{ended_gone, clears_keep}
use Rattle.edge_model.proofs.MendLemmas.{clears_not}
use Rattle.network_model.specs.Absorb.{taken_all}
use Rattle.flight_laws.specs.Bound.{AreBound, HasSaid, given_of, LeavesBound, is_silent}
use Rattle.flight_laws.specs.Ends.{ends_at}
use Rattle.flight_laws.specs.Meeting.{IsFine, ShowsPlace, closes, said_to}
use Rattle.flight_laws.specs.Messages.{AreSaid, octets_of_all}
use Rattle.flight_laws.specs.Pair.{StayInStep, having_put_all, messages_put, octets_put}
use Rattle.flight_laws.proofs.ActBindingLemmas.{SparesWires}
use Rattle.flight_laws.proofs.BindingLemmas.{binding_answers, binding_says_other, silent_releases}
use Rattle.flight_laws.proofs.GivenLemmas.{cleared_given, given_on}
use Rattle.flight_laws.proofs.EdgeBindingLemmas.{bound_same}
use Rattle.flight_laws.proofs.KeepLemmas.{KeepsEnds, happens_keeps}
use Rattle.flight_laws.proofs.LeaveLemmas.{leaves_more, leaves_none}
use Rattle.flight_laws.proofs.MeetLemmas.{goes_shows, put_peers}
use Rattle.flight_laws.proofs.ReactLemmas.{put_octets_are}
use Rattle.flight_laws.proofs.SayLemmas.{clears_spares}
use Rattle.flight_laws.proofs.WorkLemmas.{happens_spares, spares_then}

-- ---- messages of the session say nothing of wires

reply_silent : (pw_id : ℕ) (r : Reply) (id : ℕ) (ends : Peers) → is_silent pw_id (message_of r id ends) ≡ true
reply_silent pw_id reply.Init id ends = refl
reply_silent pw_id reply.KeepAlive id ends = refl
reply_silent pw_id (reply.Notice status) id ends = refl

pub bound_silent : (plan : Plan) (a b : ℕ) (one other : EdgeState) (out back : List Message) (m : Message) → ((pw_id : ℕ) → is_silent pw_id m ≡ true)
    → AreBound plan a b one other out back → AreBound plan a b one other (out ++ m ∷ []) back
bound_silent plan a b one other out back m silent bound = record {
  near = λ wire row is joined. binding_says_other row.pw_id (given_of one) (one.ends wire.0 b).local (other.ends wire.0 a).remote out back m (silent row.pw_id) (bound.near wire row is joined);
  far = λ wire row is joined. binding_answers row.pw_id (given_of other) (other.ends wire.0 a).local (one.ends wire.0 b).remote back out m
      (silent_releases row.pw_id (given_of other) (other.ends wire.0 a).local m (silent row.pw_id)) (bound.far wire row is joined);
}

behind_one : (xs : List Message) (m : Message) (ys : List Message) → (xs ++ m ∷ []) ++ ys ≡ xs ++ m ∷ ys
behind_one [] m ys = refl
behind_one (x ∷ xs) m ys = ap (λ (l : List Message). x ∷ l) (behind_one xs m ys)

bound_replies : (plan : Plan) (a b : ℕ) (one other : EdgeState) (out back : List Message) (rs : List Reply) (kept : Peering) → AreBound plan a b one other out back
    → AreBound plan a b one other (out ++ messages_put rs kept) back
bound_replies plan a b one other out back [] kept bound = subst (λ (l : List Message). AreBound plan a b one other l back) (sym (none_behind out)) bound
bound_replies plan a b one other out back (r ∷ rs) kept bound =
    subst (λ (l : List Message). AreBound plan a b one other l back) (behind_one out (message_of r kept.next_id kept.session.peers) (messages_put rs (having_spoken kept)))
    (bound_replies plan a b one other (out ++ message_of r kept.next_id kept.session.peers ∷ []) back rs (having_spoken kept)
    (bound_silent plan a b one other out back (message_of r kept.next_id kept.session.peers) (λ pw_id. reply_silent pw_id r kept.next_id kept.session.peers) bound))

-- ---- the ends of wires

cleared_else : (place : ℕ) (peer : EdgeId) (work : Work) → nat_eq place peer.0 ≡ false → (wire : ℕ) → (clears_ends peer work).edge.ends wire place ≡ work.edge.ends wire place
unfolding changes with_ends_beside with_kept
cleared_else place peer work apart wire = by_end (has_end work.edge peer) where
  by_end : (b : Bool) → (cond b work (changes (losing_ends peer) work)).edge.ends wire place ≡ work.edge.ends wire place
  by_end true = refl
  by_end false = rw apart refl

-- it is nothing else for another place
pub event_spare : (place : ℕ) (peer : EdgeId) (event : SessionEvent) (work : Work) → nat_eq place peer.0 ≡ false → SparesWires place work (happens_with_ends taken_all peer event work)
event_spare place peer event work apart =
    let after : Work = happens taken_all peer event work in
    let kept : KeepsEnds work.edge after.edge = happens_keeps taken_all peer event work in
    record {
      spares = spares_then place work after _ (happens_spares taken_all place peer event work apart) (clears_spares place peer after);
      same = record {
        label = λ label given. cleared_given peer after label (given_on work.edge after.edge kept.next_label kept.kept label given);
        ends = λ wire. cleared_else place peer after apart wire ∙ ap (λ (f : ℕ → ℕ → EndState). f wire place) kept.ends;
      };
    }

-- ---- for the peer

abbrev pub goes_on : Outcome → Bool
goes_on Stay = true
goes_on (Goes next replies) = true
goes_on (Ends why replies) = false

said_last : (ends : Peers) (xs ys : List Message) → AreSaid ends (xs ++ ys) → AreSaid ends ys
said_last ends [] ys said = said
said_last ends (x ∷ xs) ys said = said_last ends xs ys said.1

pub no_far : (plan : Plan) (me : EdgeId) (place : ℕ) (far : EdgeState) (out : List ℕ) (answers : List Message) (work : Work) → far.peering me.0 ≡ None → LeavesBound plan me place far out answers work
no_far plan me place far out answers work none = record { bound = λ messages are is near other. clash (sym (ap is_there none) ∙ other) }

-- what the event makes of the edge
pub happens_is : (peer : EdgeId) (event : SessionEvent) (kept : Peering) (o : Outcome) (work : Work) → work.edge.peering peer.0 ≡ Some kept → outcome_of kept.session event ≡ o
    → happens taken_all peer event work ≡ comes_of taken_all peer kept o work
happens_is peer event kept o work at is = rw (at, is) refl

pub leaves_event : (plan : Plan) (me peer : EdgeId) (far : EdgeState) (out : List ℕ) (before after answers : List Message) (event : SessionEvent) (kept : Peering) (work : Work) (has : HasSaid plan me peer.0 far out work) → IsFine me work
    → work.edge.peering peer.0 ≡ Some kept → closes peer.0 work.effects ≡ false
    → StayInStep (ends_at plan me.0 peer.0) (ends_at plan peer.0 me.0) kept (far.peering me.0) has.messages answers (outcome_of kept.session event)
    → (goes_on (outcome_of kept.session event) ≡ true → (ms : List Message) → AreBound plan me.0 peer.0 work.edge far ms before → AreBound plan me.0 peer.0 work.edge far ms after)
    → LeavesBound plan me peer.0 far out before work → LeavesBound plan me peer.0 far out after (happens_with_ends taken_all peer event work)
leaves_event plan me peer far out before after answers event kept work has fine at unclosed step follows leaves = by_outcome (outcome_of kept.session event) refl where
  own : Peers
  own = ends_at plan me.0 peer.0

  other : Peers
  other = ends_at plan peer.0 me.0

  new : Work
  new = happens taken_all peer event work

  went : (next : SessionState) (replies : List Reply) (far_end : Peering) → far.peering me.0 ≡ Some far_end → outcome_of kept.session event ≡ Goes next replies
      → LeavesBound plan me peer.0 far out after (clears_ends peer new)
  went next replies far_end there is =
      let now : Peering = with_session next kept in
      let goes : StayInStep own other kept (Some far_end) has.messages answers (Goes next replies) = rw (there, is) at step in
      let shows : ShowsPlace peer.0 new (Some (having_put_all replies now)) (said_to peer.0 work.effects ++ octets_put replies now) false =
      rw (happens_is peer event kept (Goes next replies) work at is)
      (goes_shows me peer kept next replies (said_to peer.0 work.effects) work (record { keeps = at; says = refl; ended = unclosed }) fine).0 in
      let keeps : KeepsEnds work.edge new.edge = happens_keeps taken_all peer event work in
      let peers : next.peers ≡ own = sym (put_peers replies now) ∙ goes.here.peers in
      subst (LeavesBound plan me peer.0 far out after) (sym (clears_not peer new (ap is_there shows.keeps)))
      (leaves_more plan me peer.0 far out (octets_put replies now) before after work new has (messages_put replies now) goes.here.between.one
      (said_last own has.messages (messages_put replies now) goes.said)
      (put_octets_are replies now ∙ ap (λ (p : Peers). octets_of_all p.me (messages_put replies now)) peers) shows.says (λ near. ap is_there at)
      (λ near bound. bound_same plan me.0 peer.0 work.edge new.edge far (has.messages ++ messages_put replies now) after
      (record { label = given_on work.edge new.edge keeps.next_label keeps.kept; ends = λ wire. ap (λ (f : ℕ → ℕ → EndState). f wire peer.0) keeps.ends })
      (bound_replies plan me.0 peer.0 work.edge far has.messages after replies now (follows (ap goes_on is) has.messages bound))) leaves)

  by_far : (next : SessionState) (replies : List Reply) → outcome_of kept.session event ≡ Goes next replies → (far_end : Option Peering) → far.peering me.0 ≡ far_end
      → LeavesBound plan me peer.0 far out after (clears_ends peer new)
  by_far next replies is None none = no_far plan me peer.0 far out after (clears_ends peer new) none
  by_far next replies is (Some far_end) there = went next replies far_end there is

  by_outcome : (o : Outcome) → outcome_of kept.session event ≡ o → LeavesBound plan me peer.0 far out after (clears_ends peer new)
  by_outcome Stay is =
      subst (λ (w : Work). LeavesBound plan me peer.0 far out after (clears_ends peer w)) (sym (happens_is peer event kept Stay work at is))
      (subst (LeavesBound plan me peer.0 far out after) (sym (clears_not peer work (ap is_there at)))
      (record { bound = λ ms are octets near there. follows (ap goes_on is) ms (leaves.bound ms are octets near there) }))
  by_outcome (Goes next replies) is = by_far next replies is (far.peering me.0) refl
  by_outcome (Ends why replies) is = leaves_none plan me peer.0 far out after (clears_ends peer new)
      (ap (λ (f : ℕ → Option Peering). f peer.0) (clears_keep peer new)
      ∙ (ap (λ (w : Work). w.edge.peering peer.0) (happens_is peer event kept (Ends why replies) work at is) ∙ ended_gone peer why (put_replies taken_all peer replies work).work))

-- no session stands
pub leaves_no_event : (plan : Plan) (me peer : EdgeId) (far : EdgeState) (out : List ℕ) (after : List Message) (event : SessionEvent) (work : Work) → work.edge.peering peer.0 ≡ None
    → LeavesBound plan me peer.0 far out after (happens_with_ends taken_all peer event work)
leaves_no_event plan me peer far out after event work none = leaves_none plan me peer.0 far out after (happens_with_ends taken_all peer event work)
    (ap (λ (f : ℕ → Option Peering). f peer.0) (clears_keep peer (happens taken_all peer event work)) ∙ same)
  where
    same : (happens taken_all peer event work).edge.peering peer.0 ≡ None
    same = rw none none
