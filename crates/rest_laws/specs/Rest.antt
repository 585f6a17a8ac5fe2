-- Signalling comes to rest: deliveries alone come to an end.
use Rattle.std.specs.Prelude.{◌≡◌, ◌≤◌, ◌&&◌, ◌==◌, not, ℕ, Bool, true, false, List, [], ◌∷◌, Some, None, length}
use Rattle.net_base.specs.declared.plan.Plan.{Plan}
use Rattle.net_base.specs.declared.trace.event.Event.{Event}
use Rattle.net_base.specs.declared.trace.event.Event.TheVariants.{Connect, Deliver, Lose, Restart, Tick, Frame, Arrive, Discard, Again, Wire, Circuit, Status, Priority, Ping}
use Rattle.network_model.specs.Connection.{is_deliverable}
use Rattle.network_model.specs.Delivery.{next_delivery}
use Rattle.network_model.specs.Run.{state_after}
use Rattle.network_model.specs.State.{NetworkState}
use Rattle.network_model.specs.Step.{step}
use Rattle.flight_laws.specs.Laws.{IsRun, network_after}

-- the event delivers octets to an end that stands, or takes down one whose far end is gone: it is not idle
abbrev pub delivers : NetworkState → Event → Bool
delivers network (Deliver from to count) = is_deliverable network from.0 to.0 && not (count == 0)
delivers network (Connect from to) = false
delivers network (Lose me peer) = false
delivers network (Restart me) = false
delivers network Tick = false
delivers network (Frame circuit octets) = false
delivers network (Arrive number) = false
delivers network (Discard number) = false
delivers network (Again number) = false
delivers network (Wire me wire on) = false
delivers network (Circuit circuit on) = false
delivers network (Status me wire bits) = false
delivers network (Priority me wire priority) = false
delivers network (Ping me wire) = false

-- each event delivers, in the state that those before it left
abbrev pub all_deliver : Plan → NetworkState → List Event → Bool
all_deliver plan network [] = true
all_deliver plan network (event ∷ events) = delivers network event && all_deliver plan (step plan network event).state events

-- no more than so many deliveries can follow each other, whichever they are, where nothing else is done
abbrev pub RestsWithin : Plan → NetworkState → ℕ → Type 0
RestsWithin plan network most = (events : List Event) → all_deliver plan network events ≡ true → length events ≤ most

-- deliveries alone come to an end, after so many at most
pub record ComesToRest (plan : Plan) (network : NetworkState) : Type 0 where
  pub most : ℕ
  pub ends : RestsWithin plan network most

-- at each moment of each run
abbrev pub RunsComeToRest : Type 0
RunsComeToRest = (plan : Plan) (events : List Event) → IsRun plan events → ComesToRest plan (network_after plan events)

-- ---- next deliveries

-- each event is the next delivery in the state that those before it left
abbrev pub AreNext : Plan → NetworkState → List Event → Type 0
AreNext plan network [] = Unit {0}
AreNext plan network (event ∷ events) = (next_delivery plan network ≡ Some event) × AreNext plan (step plan network event).state events

-- once as many next deliveries were made as can follow each other, there is no further one
abbrev pub SettlesWithin : Type 0
SettlesWithin = (plan : Plan) (network : NetworkState) (most : ℕ) → RestsWithin plan network most → (events : List Event) → AreNext plan network events → most ≤ length events
    → next_delivery plan (state_after plan network events) ≡ None
