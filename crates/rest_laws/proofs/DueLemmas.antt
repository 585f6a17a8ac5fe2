-- What an edge puts when it mends: messages about its own wires, each of which was due.
use Rattle.std.specs.Prelude.{◌≡◌, ◌++◌, ℕ, Bool, true, false, is_some, List, Some}
use Rattle.std.specs.List.{AllByRecursion}
use Rattle.net_base.specs.declared.plan.Plan.{Plan}
use Rattle.net_base.specs.declared.plan.places.EdgeId.{EdgeId}
use Rattle.net_values.specs.declared.addr.Addr.{Addr}
use Rattle.ldp_grammar.specs.declared.message.Message.{Message}
use Rattle.ldp_grammar.specs.Written.{written}
use Rattle.pw_messages.specs.Sender.{platform_of}
use Rattle.pw_signalling.specs.declared.told.Told.{Told}
use Rattle.pw_signalling.specs.End.{Idle, Advertised}
use Rattle.edge_model.specs.declared.effect.Effect.{Effect}
use Rattle.edge_model.specs.declared.effect.Effect.TheVariants.{Said}
use Rattle.edge_model.specs.declared.end_place.EndPlace.{EndPlace}
use Rattle.edge_model.specs.Labels.{label_to_give}
use Rattle.edge_model.specs.Mend.{mends, offer_stands, wish}
use Rattle.edge_model.specs.State.{EdgeState, end_at}
use Rattle.edge_model.specs.Work.{Work}
use Rattle.network_model.specs.Absorb.{taken_all}
use Rattle.flight_laws.proofs.PlaceLemmas.{IsEndOf}
use Rattle.rest_laws.specs.Levels.{Saying, Binds, Withdraws, States, Clears, pw_id_of, saying_of}

-- octets for a peer are those of a message about the wire of an end beside it, which says there what it may
pub record IsPutAt (plan : Plan) (me : EdgeId) (may : EndPlace → Saying → Bool) (peer : ℕ) (octets : List ℕ) : Type 0 where
  pub place : EndPlace
  pub here : IsEndOf plan me place
  pub beside : place.peer.0 ≡ peer
  pub message : Message
  pub router : Addr
  pub spelled : octets ≡ written message (platform_of router)
  pub saying : Saying
  pub says : saying_of message ≡ Some saying
  pub names : pw_id_of message ≡ Some place.pw_id
  pub allowed : may place saying ≡ true

-- so it is with an effect that says anything
abbrev pub PutsWell : Plan → EdgeId → (EndPlace → Saying → Bool) → Effect → Type 0
PutsWell plan me may (Said peer octets) = IsPutAt plan me may peer.0 octets
PutsWell plan me may effect = Unit {0}

-- more is given out, and whatever is said of it says what it may
pub record PutsMore (plan : Plan) (me : EdgeId) (may : EndPlace → Saying → Bool) (old new : List Effect) : Type 0 where
  pub more : List Effect
  pub joined : new ≡ old ++ more
  pub well : AllByRecursion (PutsWell plan me may) more

-- what is due of labels may be put: an idle end that should tell something maps while a label is left, and one that advertises what no longer stands withdraws
pub record IsDue (plan : Plan) (me : EdgeId) (may : EndPlace → Saying → Bool) (edge : EdgeState) : Type 0 where
  pub binds : (place : EndPlace) → IsEndOf plan me place → (end_at edge place).local ≡ Idle false → is_some (wish plan edge place) ≡ true → is_some (label_to_give edge) ≡ true
      → may place Binds ≡ true
  pub withdraws : (place : EndPlace) → IsEndOf plan me place → (label : ℕ) (content : Told) → (end_at edge place).local ≡ Advertised label content
      → offer_stands place content (wish plan edge place) ≡ false → may place Withdraws ≡ true

-- an edge that mends puts what was due of labels before, and else statuses and addresses alone
abbrev pub MendingPutsDue : Type 0
MendingPutsDue = (plan : Plan) (me : EdgeId) (may : EndPlace → Saying → Bool) (work : Work) → work.edge.me ≡ me → IsDue plan me may work.edge
    → ((place : EndPlace) → IsEndOf plan me place → may place States ≡ true) → ((place : EndPlace) → IsEndOf plan me place → may place Clears ≡ true)
    → PutsMore plan me may work.effects (mends plan taken_all work).effects
