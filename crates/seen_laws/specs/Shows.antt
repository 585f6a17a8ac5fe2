-- What a trace shows is what the network is.
use Rattle.std.specs.Prelude.{◌≡◌, ◌≤◌, ◌&&◌, not, nat_eq, ℕ, false, List, [], ◌∷◌, Some, map, if◌then◌else◌}
use Rattle.std.specs.List.{AllByRecursion}
use Rattle.net_base.specs.declared.plan.Plan.{Plan}
use Rattle.net_base.specs.declared.plan.circuit_plan.CircuitPlan.{CircuitPlan}
use Rattle.net_base.specs.declared.plan.places.CircuitId.{CircuitId}
use Rattle.net_base.specs.declared.plan.places.EdgeId.{EdgeId}
use Rattle.net_base.specs.declared.trace.entry.Entry.{Entry}
use Rattle.net_base.specs.declared.trace.entry.Entry.TheVariants.{Did, Idle}
use Rattle.net_base.specs.plan.Places.{circuit_row}
use Rattle.edge_model.specs.State.{is_there}
use Rattle.edge_model.specs.Work.{Work}
use Rattle.flight_laws.specs.Meeting.{closes}
use Rattle.network_model.specs.declared.packet.Packet.{Packet}
use Rattle.network_model.specs.State.{NetworkState, held, held_by, stands, with_edge}
use Rattle.seen_network.specs.Seen.{Seen, SeenCopy, is_shown_up, told_by_itself}
use Rattle.seen_laws.specs.Work.{is_told_ended, up_after}

-- a packet as it is seen
abbrev pub copy_of : Packet → SeenCopy
copy_of packet = record { number = packet.number; origin = packet.origin }

-- none of these copies has a number above this one
abbrev pub AreUpTo : ℕ → List SeenCopy → Type 0
AreUpTo most copies = AllByRecursion (λ copy. copy.number ≤ most) copies

-- what is seen is what the network is
pub record Shows (plan : Plan) (network : NetworkState) (seen : Seen) : Type 0 where
  pub standing : (a b : ℕ) → seen.stands a b ≡ stands network a b
  pub pipes : (a b : ℕ) → seen.pipes a b ≡ network.pipes a b
  pub rests : (a b : ℕ) → seen.rests a b ≡ held network a b
  pub up : (a wire : ℕ) → seen.up a wire ≡ is_shown_up ((network.edges a).told_down wire)
  pub on : (circuit : CircuitId) (row : CircuitPlan) → circuit_row plan circuit ≡ Some row → seen.on circuit.0 ≡ (network.edges row.edge.0).circuit_on circuit.0
  pub under_way : seen.under_way ≡ map copy_of network.under_way
  pub counted : AreUpTo network.sent seen.under_way

-- ---- entries without an event

-- one entry after another
abbrev pub tolds : List Entry → Seen → Seen
tolds [] seen = seen
tolds (e ∷ es) seen = tolds es (told_by_itself e seen)

-- no event is among them, and none that did not apply
abbrev pub AreTold : List Entry → Type 0
AreTold [] = Unit {0}
AreTold (Did event ∷ es) = ⊥
AreTold (Idle ∷ es) = ⊥
AreTold (e ∷ es) = AreTold es

-- ---- an edge's work before it goes into the network

-- what is seen becomes what the network is, once the work of an edge is told and goes into the network
pub record IsReadyToShow (plan : Plan) (network : NetworkState) (me : EdgeId) (work : Work) (seen : Seen) : Type 0 where
  pub alone : seen.stands me.0 me.0 ≡ false
  pub near : (k : ℕ) → (seen.stands me.0 k && not (is_told_ended k work.effects)) ≡ is_there (work.edge.peering k)
  pub far : (a b : ℕ) → nat_eq a me.0 ≡ false → seen.stands a b ≡ stands network a b
  pub inward : (k : ℕ) → (if is_told_ended k work.effects then [] else seen.pipes k me.0) ≡ (if closes k work.effects then [] else network.pipes k me.0)
  pub outward : (a b : ℕ) → nat_eq b me.0 ≡ false → seen.pipes a b ≡ network.pipes a b
  pub rest : (k : ℕ) → (if is_told_ended k work.effects then [] else seen.rests me.0 k) ≡ held_by (work.edge.peering k)
  pub rests : (a b : ℕ) → nat_eq a me.0 ≡ false → seen.rests a b ≡ held network a b
  pub up : (wire : ℕ) → up_after wire work.effects (seen.up me.0 wire) ≡ is_shown_up (work.edge.told_down wire)
  pub ups : (a wire : ℕ) → nat_eq a me.0 ≡ false → seen.up a wire ≡ is_shown_up ((network.edges a).told_down wire)
  pub on : (circuit : CircuitId) (row : CircuitPlan) → circuit_row plan circuit ≡ Some row → seen.on circuit.0 ≡ ((with_edge me work.edge network).edges row.edge.0).circuit_on circuit.0
  pub under_way : seen.under_way ≡ map copy_of network.under_way
  pub counted : AreUpTo network.sent seen.under_way
