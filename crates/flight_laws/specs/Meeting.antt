-- While an edge is at work: what holds of it and of one neighbour.
use Rattle.std.specs.Prelude.{◌≡◌, ◌++◌, ◌||◌, not, nat_eq, ℕ, Bool, false, List, [], ◌∷◌, Option, if◌then◌else◌}
use Rattle.net_base.specs.declared.plan.places.EdgeId.{EdgeId}
use Rattle.ldp_grammar.specs.declared.message.Message.{Message}
use Rattle.session_core.specs.declared.peers.Peers.{Peers}
use Rattle.edge_model.specs.declared.effect.Effect.{Effect}
use Rattle.edge_model.specs.declared.effect.Effect.TheVariants as effect
use Rattle.edge_model.specs.State.{Peering, is_there}
use Rattle.edge_model.specs.Work.{Work}
use Rattle.network_model.specs.State.{held_by}
use Rattle.flight_laws.specs.Coming.{and_more}
use Rattle.flight_laws.specs.Endings.{EndsWell}
use Rattle.flight_laws.specs.Messages.{octets_of_all}
use Rattle.flight_laws.specs.Pair.{ArePaired, AreTalking}

-- the octets that were said to a place
abbrev pub said_to : ℕ → List Effect → List ℕ
said_to place [] = []
said_to place (effect.Said peer octets ∷ es) = if nat_eq place peer.0 then octets ++ said_to place es else said_to place es
said_to place (e ∷ es) = said_to place es

-- the end towards a place was closed
abbrev pub closes : ℕ → List Effect → Bool
closes place [] = false
closes place (effect.Closed peer ∷ es) = nat_eq place peer.0 || closes place es
closes place (e ∷ es) = closes place es

-- what is told of ended sessions is no refusal
abbrev pub TellsWell : Effect → Type 0
TellsWell (effect.Session peer state) = EndsWell state
TellsWell e = Unit {0}

-- so it is with each effect
abbrev pub TellWell : List Effect → Type 0
TellWell [] = Unit {0}
TellWell (e ∷ es) = TellsWell e × TellWell es

-- what the work is for a place
pub record ShowsPlace (place : ℕ) (work : Work) (kept : Option Peering) (said : List ℕ) (closed : Bool) : Type 0 where
  pub keeps : work.edge.peering place ≡ kept
  pub says : said_to place work.effects ≡ said
  pub ended : closes place work.effects ≡ closed

-- the edge is at its place, the input still applies, and what is told of ended sessions is no refusal
pub record IsFine (me : EdgeId) (work : Work) : Type 0 where
  pub place : work.edge.me ≡ me
  pub idle : work.idle ≡ false
  pub well : TellWell work.effects

-- it is nothing else for a place than before
pub record Spares (place : ℕ) (old new : Work) : Type 0 where
  pub kept : new.edge.peering place ≡ old.edge.peering place
  pub said : said_to place new.effects ≡ said_to place old.effects
  pub closed : closes place new.effects ≡ closes place old.effects

-- the edge and a neighbour of which it hears are in step: `far` is the neighbour's own end, `out` what it was to hear before,
-- and `answers` are the messages that the edge is still to hear of it
pub record Meets (own other : Peers) (me peer : EdgeId) (far : Option Peering) (out : List ℕ) (answers : List Message) (work : Work) : Type 0 where
  pub fine : IsFine me work
  pub ended : closes peer.0 work.effects ≡ not (is_there (work.edge.peering peer.0))
  pub messages : List Message
  pub out_is : and_more far out (said_to peer.0 work.effects) ≡ octets_of_all own.me messages
  pub talk : AreTalking own other (work.edge.peering peer.0) far messages (if is_there (work.edge.peering peer.0) then answers else [])

-- what an edge leaves for a place: the two ends are paired with what was said, the octets that it holds, and those that are
-- still on their way to it
abbrev pub Leaves : Peers → Peers → ℕ → Option Peering → (out more : List ℕ) → Work → Type 0
Leaves own other place far out more work =
    ArePaired own other (work.edge.peering place) far (and_more far out (said_to place work.effects))
    (held_by (work.edge.peering place) ++ (if closes place work.effects then [] else more))
