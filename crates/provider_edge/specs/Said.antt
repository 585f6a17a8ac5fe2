-- What an edge gives out, beside what its link took.
use Rattle.std.specs.Prelude.{◌≡◌, ◌<◌, ◌++◌, filter, true, false, List, [], ◌∷◌, length}
use Rattle.net_base.specs.declared.outside.link_call.LinkCall.{LinkCall}
use Rattle.net_base.specs.declared.plan.Plan.{Plan}
use Rattle.net_base.specs.outside.Link.{call_of}
use Rattle.edge_model.specs.declared.effect.Effect.{Effect}
use Rattle.edge_model.specs.declared.effect.Effect.TheVariants.{Said, Sent, Left, Dropped, Session, Wire, Pong, Closed}

-- the calls of the link that these effects tell as taken
abbrev pub calls_told : List Effect → List LinkCall
calls_told [] = []
calls_told (Said peer bytes ∷ effects) = call_of peer false bytes true ∷ calls_told effects
calls_told (Sent peer wire came bytes ∷ effects) = call_of peer true bytes true ∷ calls_told effects
calls_told (effect ∷ effects) = calls_told effects

-- the effects tell the calls that the link took of those that came, each once and in order
pub record TellsTaken (old new : List LinkCall) (effects : List Effect) : Type 0 where
  pub more : List LinkCall
  pub joined : new ≡ old ++ more
  pub told : calls_told effects ≡ filter (λ call. call.taken) more

-- the effect names what is in the plan
abbrev pub NamesPlaces : Plan → Effect → Type 0
NamesPlaces plan (Said peer bytes) = peer.0 < length plan.edges
NamesPlaces plan (Sent peer wire came bytes) = (peer.0 < length plan.edges) × (wire.0 < length plan.wires)
NamesPlaces plan (Left circuit bytes) = circuit.0 < length plan.circuits
NamesPlaces plan (Dropped cause) = Unit {0}
NamesPlaces plan (Session peer state) = peer.0 < length plan.edges
NamesPlaces plan (Wire wire down) = wire.0 < length plan.wires
NamesPlaces plan (Pong wire sequence) = wire.0 < length plan.wires
NamesPlaces plan (Closed peer) = peer.0 < length plan.edges

-- each effect does
abbrev pub AllFit : Plan → List Effect → Type 0
AllFit plan [] = Unit {0}
AllFit plan (e ∷ es) = NamesPlaces plan e × AllFit plan es
