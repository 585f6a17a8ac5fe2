-- What an edge puts while it hears a neighbour with whom its session is up, in a run.
use Rattle.std.specs.Prelude.{◌≡◌, ◌≤◌, ◌<◌, ◌+◌, ◌++◌, ◌⊎◌, ℕ, true, List, [], ◌∷◌, Option, Some, None, drop, length, map, take}
use Rattle.std.specs.List.{AllByRecursion}
use Rattle.net_base.specs.declared.plan.Plan.{Plan}
use Rattle.net_base.specs.declared.plan.places.EdgeId.{EdgeId}
use Rattle.net_base.specs.declared.trace.event.Event.{Event}
use Rattle.ldp_grammar.specs.declared.message.Message.{Message}
use Rattle.edge_model.specs.declared.effect.Effect.{Effect}
use Rattle.edge_model.specs.declared.effect.Effect.TheVariants.{Said}
use Rattle.edge_model.specs.Mend.{is_up_with}
use Rattle.edge_model.specs.State.{EdgeState}
use Rattle.network_model.specs.Connection.{hearing_work}
use Rattle.network_model.specs.State.{NetworkState}
use Rattle.flight_laws.specs.Ends.{ends_at}
use Rattle.flight_laws.specs.Messages.{octets_of_all}
use Rattle.flight_laws.specs.Laws.{AreOnWay, BothStand, IsRun, network_after}
use Rattle.rest_laws.specs.Levels.{level_of}
use Rattle.rest_laws.specs.Rises.{AreSaidAt, IsSaidAt, left_above, most_put}
use Rattle.rest_laws.specs.Weight.{heavy, total}

-- the message is one of these
abbrev pub IsOneOf : Message → List Message → Type 0
IsOneOf message [] = ⊥
IsOneOf message (first ∷ rest) = (message ≡ first) ⊎ IsOneOf message rest

-- octets for a peer spell a message about a wire, of a higher level than one of those that the edge hears from a neighbour
pub record IsSaidAboveOne (plan : Plan) (edges : ℕ → EdgeState) (me from : ℕ) (heard : List Message) (peer : ℕ) (octets : List ℕ) : Type 0 where
  pub message : Message
  pub among : IsOneOf message heard
  pub least : ℕ
  pub has : level_of plan edges from me message ≡ Some least
  pub level : ℕ
  pub said : IsSaidAt plan edges me level peer octets
  pub above : least < level

-- so it is with an effect that says anything
abbrev pub SaysAboveOne : Plan → (ℕ → EdgeState) → (me from : ℕ) → List Message → Effect → Type 0
SaysAboveOne plan edges me from heard (Said peer octets) = IsSaidAboveOne plan edges me from heard peer.0 octets
SaysAboveOne plan edges me from heard effect = Unit {0}

-- whatever an edge puts when so many octets are delivered to it from a neighbour is so, of the messages that are on their way from there
pub record RisesOn (plan : Plan) (network : NetworkState) (from to : EdgeId) (count : ℕ) : Type 0 where
  pub heard : List Message
  pub on_way : AreOnWay plan network from.0 to.0 heard
  pub above : AllByRecursion (SaysAboveOne plan network.edges to.0 from.0 heard) (hearing_work plan network from to (take count (network.pipes from.0 to.0))).effects

-- in every run, where both ends of the connection stand and the hearer's session is up
abbrev pub RunsRise : Type 0
RunsRise = (plan : Plan) (events : List Event) → IsRun plan events → (from to : EdgeId) (count : ℕ) → BothStand (network_after plan events) to.0 from.0
    → is_up_with (((network_after plan events).edges to.0).peering from.0) ≡ true → RisesOn plan (network_after plan events) from to count

-- ---- weights

-- a message weighs by its level, and one without a level one
abbrev pub weigh_one : ℕ → Option ℕ → ℕ
weigh_one few None = 1
weigh_one few (Some level) = heavy few (left_above level)

-- messages on their way from one edge to another one
abbrev pub weight : Plan → (ℕ → EdgeState) → (from to few : ℕ) → List Message → ℕ
weight plan edges from to few [] = 0
weight plan edges from to few (message ∷ messages) = weigh_one few (level_of plan edges from to message) + weight plan edges from to few messages

-- So many octets are delivered to an edge from a neighbour. What the edge puts meanwhile, what is left to be heard, and one for each
-- message that it has heard, weigh no more than what was on its way to it before.
pub record LightensOn (plan : Plan) (network : NetworkState) (from to : EdgeId) (count few : ℕ) : Type 0 where
  pub heard : List Message
  pub on_way : AreOnWay plan network from.0 to.0 heard
  pub rest : List ℕ
  pub left : List Message
  pub behind : rest ++ drop count (network.pipes from.0 to.0) ≡ octets_of_all (ends_at plan from.0 to.0).me left
  pub levels : List ℕ
  pub are : AreSaidAt plan network.edges to.0 (hearing_work plan network from to (take count (network.pipes from.0 to.0))).effects levels
  pub gone : ℕ
  pub counted : gone + length left ≡ length heard
  pub light : total few (map left_above levels) + (weight plan network.edges from.0 to.0 few left + gone) ≤ weight plan network.edges from.0 to.0 few heard

-- in every run, by weights by which one message weighs more than so many of higher levels as the hearer puts on one at most
abbrev pub RunsLighten : Type 0
RunsLighten = (plan : Plan) (events : List Event) → IsRun plan events → (from to : EdgeId) (count few : ℕ) → BothStand (network_after plan events) to.0 from.0
    → is_up_with (((network_after plan events).edges to.0).peering from.0) ≡ true → most_put plan to ≤ few → LightensOn plan (network_after plan events) from to count few
