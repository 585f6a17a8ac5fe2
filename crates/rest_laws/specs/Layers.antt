-- The layers of a measure below the weights of messages: which ends stand alone, and in which states sessions are.
use Rattle.std.specs.Prelude.{◌≡◌, ℕ, true, false, List}
use Rattle.net_base.specs.declared.plan.Plan.{Plan}
use Rattle.net_base.specs.declared.plan.places.EdgeId.{EdgeId}
use Rattle.net_base.specs.declared.trace.event.Event.{Event}
use Rattle.net_base.specs.declared.trace.event.Event.TheVariants.{Deliver}
use Rattle.network_model.specs.State.{NetworkState, stands}
use Rattle.network_model.specs.Step.{step}
use Rattle.flight_laws.specs.Laws.{IsRun, network_after}

-- an edge's end of a connection stands, and its neighbour's does not
pub record StandsAlone (network : NetworkState) (a b : ℕ) : Type 0 where
  pub one : stands network a b ≡ true
  pub other : stands network b a ≡ false

-- deliveries leave no end alone that was not
abbrev pub DeliveriesLeaveNoneAlone : Type 0
DeliveriesLeaveNoneAlone = (plan : Plan) (events : List Event) → IsRun plan events → (from to : EdgeId) (count a b : ℕ)
    → StandsAlone (step plan (network_after plan events) (Deliver from to count)).state a b → StandsAlone (network_after plan events) a b
