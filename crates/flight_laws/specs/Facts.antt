-- Facts of two edges, their ends of a connection and the octets on their way between them.
use Rattle.std.specs.Prelude.{◌≡◌, ◌++◌, nat_eq, ℕ, false, List, [], if◌then◌else◌}
use Rattle.net_base.specs.declared.plan.places.EdgeId.{EdgeId}
use Rattle.edge_model.specs.State.{EdgeState}
use Rattle.edge_model.specs.Work.{Work}
use Rattle.network_model.specs.State.{NetworkState, held, held_by}
use Rattle.flight_laws.specs.Coming.{and_more}
use Rattle.flight_laws.specs.Meeting.{closes, said_to}

-- a fact of two places: the edges there, the octets from the first to the second that the second has yet to hear out, and
-- those from the second to the first
abbrev pub Fact : Type 1
Fact = ℕ → ℕ → EdgeState → EdgeState → List ℕ → List ℕ → Type 0

-- the octets that an edge has yet to hear out of another one: those that it holds, and those on their way to it
abbrev pub flight : NetworkState → ℕ → ℕ → List ℕ
flight network from to = held network to from ++ network.pipes from to

-- the fact holds of two places
abbrev pub HoldsAt : Fact → NetworkState → ℕ → ℕ → Type 0
HoldsAt P network a b = P a b (network.edges a) (network.edges b) (flight network a b) (flight network b a)

-- the fact holds of each two places, whether their ends stand or not
abbrev pub HoldsOfTwo : Fact → NetworkState → Type 0
HoldsOfTwo P network = (a b : ℕ) → nat_eq a b ≡ false → HoldsAt P network a b

-- it holds of each two places but for one place
abbrev pub HoldsBut : Fact → ℕ → NetworkState → Type 0
HoldsBut P place network = (a b : ℕ) → nat_eq a b ≡ false → nat_eq a place ≡ false → nat_eq b place ≡ false → HoldsAt P network a b

-- the fact says the same from both sides
abbrev pub Turns : Fact → Type 0
Turns P = (a b : ℕ) (one other : EdgeState) (out back : List ℕ) → P a b one other out back → P b a other one back out

-- a fact from both sides, which says the same from both
abbrev pub FromBoth : Fact → Fact
FromBoth P a b one other out back = P a b one other out back × P b a other one back out

-- ---- an edge at work

-- what an edge's work makes of a place whose own edge is `far`: `out` was on its way to the place before, and `more` is on its
-- way from it
abbrev pub LeavesTo : Fact → EdgeId → ℕ → EdgeState → (out more : List ℕ) → Work → Type 0
LeavesTo P me place far out more work =
    P me.0 place work.edge far (and_more (far.peering me.0) out (said_to place work.effects)) (held_by (work.edge.peering place) ++ (if closes place work.effects then [] else more))

-- the same of a place of the network
abbrev pub LeavesFor : Fact → NetworkState → EdgeId → Work → ℕ → Type 0
LeavesFor P network me work place = LeavesTo P me place (network.edges place) (flight network me.0 place) (network.pipes place me.0) work

-- a part of the work keeps the fact for a place, whatever the edge there is
pub record Owes (P : Fact) (me : EdgeId) (place : ℕ) (old new : Work) : Type 0 where
  pub pays : (far : EdgeState) (out more : List ℕ) → LeavesTo P me place far out more old → LeavesTo P me place far out more new
