-- When ends of connections stand.
use Rattle.std.specs.Prelude.{◌≡◌, ◌⊎◌, ◌≤◌, ◌==◌, ◌&&◌, ◌||◌, ℕ, Bool, true, false, Some}
use Rattle.net_base.specs.declared.plan.Plan.{Plan}
use Rattle.net_base.specs.declared.plan.places.EdgeId.{EdgeId}
use Rattle.net_base.specs.declared.trace.event.Event.{Event}
use Rattle.net_base.specs.declared.trace.event.Event.TheVariants.{Connect, Deliver, Lose}
use Rattle.session_core.specs.Phase.{Phase, Initialized, OpenSent, OpenRec, Operational}
use Rattle.edge_model.specs.State.{Peering}
use Rattle.network_model.specs.State.{NetworkState, stands}
use Rattle.network_model.specs.Step.{step}

-- the event connects these two edges
abbrev pub connects_them : Event → ℕ → ℕ → Bool
connects_them (Connect from to) a b = (a == from.0 && b == to.0) || (a == to.0 && b == from.0)
connects_them event a b = false

-- an end that stands behind an event stood before it, or the event has connected the two edges
abbrev pub EndsComeByConnections : Type 0
EndsComeByConnections = (plan : Plan) (network : NetworkState) (event : Event) (a b : ℕ) → stands (step plan network event).state a b ≡ true → (stands network a b ≡ true) ⊎ (connects_them event a b ≡ true)

-- an end that was lost does not stand
abbrev pub EndsAreLost : Type 0
EndsAreLost = (plan : Plan) (network : NetworkState) (me peer : EdgeId) → stands (step plan network (Lose me peer)).state me.0 peer.0 ≡ false

-- the states of a session in the order in which it comes up (RFC 5036 section 2.5.4)
abbrev pub rank : Phase → ℕ
rank Initialized = 0
rank OpenSent = 1
rank OpenRec = 2
rank Operational = 3

-- an end that stands before and behind a delivery is in no earlier state then
abbrev pub DeliveriesRaise : Type 0
DeliveriesRaise = (plan : Plan) (network : NetworkState) (from to : EdgeId) (count a b : ℕ) (kept now : Peering) → (network.edges a).peering b ≡ Some kept
    → ((step plan network (Deliver from to count)).state.edges a).peering b ≡ Some now → rank kept.session.phase ≤ rank now.session.phase
