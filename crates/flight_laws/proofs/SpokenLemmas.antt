-- What an edge's work is once it has said one message, over a link that takes everything.
use Rattle.std.proofs.Common.{◌≡◌, ◌++◌, ◌∙◌, nat_eq, ℕ, false, [], ◌∷◌, Some, refl}
use Rattle.net_values.proofs.BoolLemmas.{or_false}
use Rattle.net_values.proofs.NumberLemmas.{same_number}
use Rattle.net_base.specs.declared.plan.places.EdgeId.{EdgeId}
use Rattle.ldp_grammar.specs.declared.message.Message.{Message}
use Rattle.edge_model.specs.declared.effect.Effect.TheVariants as effect
use Rattle.edge_model.specs.Put.{having_spoken, message_octets_of, with_spoken}
use Rattle.edge_model.specs.Session.{says}
use Rattle.edge_model.specs.State.{Peering, with_peering}
use Rattle.edge_model.specs.Work.{Work, changes, gives, puts}
use Rattle.network_model.specs.Absorb.{taken_all}
use Rattle.flight_laws.specs.Meeting.{closes, said_to}
use Rattle.flight_laws.proofs.WorkLemmas.{closes-append, said-append, same_end}

-- a message was said to a peer, and nothing else is another one
pub record HasSpoken (peer : EdgeId) (kept : Peering) (message : ℕ → Message) (old new : Work) : Type 0 where
  pub here : new.edge.peering peer.0 ≡ Some (having_spoken kept)
  pub elsewhere : (k : ℕ) → nat_eq k peer.0 ≡ false → new.edge.peering k ≡ old.edge.peering k
  pub me : new.edge.me ≡ old.edge.me
  pub ends : new.edge.ends ≡ old.edge.ends
  pub label : new.edge.next_label ≡ old.edge.next_label
  pub labels : new.edge.kept ≡ old.edge.kept
  pub said : said_to peer.0 new.effects ≡ said_to peer.0 old.effects ++ message_octets_of kept message
  pub said_else : (k : ℕ) → nat_eq k peer.0 ≡ false → said_to k new.effects ≡ said_to k old.effects
  pub closed : (k : ℕ) → closes k new.effects ≡ closes k old.effects

pub says_spoken : (peer : EdgeId) (kept : Peering) (message : ℕ → Message) (work : Work) → work.edge.peering peer.0 ≡ Some kept
    → HasSpoken peer kept message work (says taken_all peer message work).work
unfolding gives changes with_spoken with_peering puts
says_spoken peer kept message work at = rw (at, same_number peer.0, at) (record {
  here = rw (same_number peer.0) refl;
  elsewhere = λ k apart. rw apart refl;
  me = refl;
  ends = refl;
  label = refl;
  labels = refl;
  said = said-append peer.0 work.effects (effect.Said peer (message_octets_of kept message) ∷ []) ∙ rw (same_number peer.0, same_end (message_octets_of kept message)) refl;
  said_else = λ k apart. said-append k work.effects (effect.Said peer (message_octets_of kept message) ∷ []) ∙ rw apart (same_end (said_to k work.effects));
  closed = λ k. closes-append k work.effects (effect.Said peer (message_octets_of kept message) ∷ []) ∙ or_false (closes k work.effects);
})
