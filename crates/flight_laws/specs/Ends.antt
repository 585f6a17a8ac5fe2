-- The ends of a plan's connections, and what holds of each two edges of a network.
use Rattle.std.specs.Prelude.{◌≡◌, ◌≤◌, ◌<◌, ◌^◌, nat_eq, ℕ, false, List, [], Option, Some, None, IfSome, length, slice_get}
use Rattle.net_base.specs.declared.plan.Plan.{Plan}
use Rattle.net_base.specs.declared.plan.edge_plan.EdgePlan.{EdgePlan}
use Rattle.net_base.specs.declared.plan.offer.Offer.{Offer}
use Rattle.net_base.specs.declared.plan.places.EdgeId.{EdgeId}
use Rattle.net_base.specs.declared.plan.wire_plan.WirePlan.{WirePlan}
use Rattle.net_values.specs.Octets.{AreOctets}
use Rattle.session_core.specs.declared.peers.Peers.{Peers}
use Rattle.session_core.specs.Laws.{IsAddress}
use Rattle.std.specs.List.{All}
use Rattle.edge_model.specs.Connection.{peers_of}
use Rattle.edge_model.specs.State.{Peering}
use Rattle.edge_model.specs.Work.{Work}
use Rattle.network_model.specs.Absorb.{Stepped}
use Rattle.network_model.specs.State.{NetworkState}
use Rattle.flight_laws.specs.Endings.{TellGoodEnds}
use Rattle.flight_laws.specs.Facts.{Fact, HoldsOfTwo, flight}
use Rattle.flight_laws.specs.Meeting.{IsFine, Leaves, closes}
use Rattle.flight_laws.specs.Pair.{ArePaired}
use Rattle.flight_laws.specs.Sound.{TellsSoundly, point_limit}

-- the ends of a session between two rows of a plan, as the first one sees them; without two rows there is none
abbrev pub ends_between : Option EdgePlan → Option EdgePlan → Peers
ends_between (Some own) (Some other) = peers_of own other
ends_between own other = record { me = record { 0 = [] }; peer = record { 0 = [] }; keepalive = 0; max_pdu = 0 }

-- the ends of a session between two places, as the first one sees them
abbrev pub ends_at : Plan → ℕ → ℕ → Peers
ends_at plan a b = ends_between (slice_get plan.edges a) (slice_get plan.edges b)

-- the numbers and the text of an offer fit the fields that they are written in
pub record IsFieldOffer (offer : Offer) : Type 0 where
  pub mtu : IfSome offer.mtu (λ mtu. mtu < 2 ^ 16)
  pub group : offer.group < 2 ^ 32
  pub description : length offer.description ≤ 80
  pub octets : AreOctets offer.description

-- so do those of both offers of a wire
pub record AreFieldOffers (row : WirePlan) : Type 0 where
  pub near : IsFieldOffer row.near
  pub far : IsFieldOffer row.far

-- what the types of a plan say: its addresses have four octets each, and its offers fit
pub record HasTypes (plan : Plan) : Type 0 where
  pub addresses : All (λ row. IsAddress row.address) plan.edges
  pub offers : All AreFieldOffers plan.wires

-- two edges of the plan are paired
abbrev pub IsPaired : Plan → Fact
IsPaired plan a b near far out back = ArePaired (ends_at plan a b) (ends_at plan b a) (near.peering b) (far.peering a) out back

-- each two edges are paired, no edge has a connection with itself, each is at its place, and what it tells is sound
pub record IsOrdered (plan : Plan) (network : NetworkState) : Type 0 where
  pub two : HoldsOfTwo (IsPaired plan) network
  pub alone : (a : ℕ) → (network.edges a).peering a ≡ None
  pub placed : (a : ℕ) → (network.edges a).me ≡ record { 0 = a }
  pub sound : (a : ℕ) → TellsSoundly (point_limit plan a) (network.edges a)

-- ---- an edge at work in such a network

-- what it leaves for a place, whose end was not closed where it stands
pub record IsLeftBehind (own other : Peers) (place : ℕ) (far : Option Peering) (out more : List ℕ) (work : Work) : Type 0 where
  pub leaves : Leaves own other place far out more work
  pub unclosed : (kept : Peering) → work.edge.peering place ≡ Some kept → closes place work.effects ≡ false

-- the same of a place of the network
abbrev pub LeftFor : Plan → NetworkState → EdgeId → Work → ℕ → Type 0
LeftFor plan network me work place =
    IsLeftBehind (ends_at plan me.0 place) (ends_at plan place me.0) place ((network.edges place).peering me.0) (flight network me.0 place) (network.pipes place me.0) work

-- an edge of the network that is at work on an input
pub record WorksOn (plan : Plan) (network : NetworkState) (me : EdgeId) (work : Work) : Type 0 where
  pub fine : IsFine me work
  pub sound : TellsSoundly (point_limit plan me.0) work.edge
  pub alone : work.edge.peering me.0 ≡ None
  pub left : (place : ℕ) → nat_eq place me.0 ≡ false → LeftFor plan network me work place

-- an event keeps a network in order, and what it tells of ended sessions is no refusal
pub record KeepsOrder (plan : Plan) (after : Stepped) : Type 0 where
  pub ordered : IsOrdered plan after.state
  pub good : TellGoodEnds after.entries
