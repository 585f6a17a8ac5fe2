-- A run of the network: events one after another, up to the limit that stops one.
use Rattle.std.specs.Prelude.{◌≡◌, ◌++◌, ℕ, length, List, [], ◌∷◌, Option, Some, None, Result, Ok, Err}
use Rattle.net_base.specs.declared.plan.Plan.{Plan}
use Rattle.net_base.specs.declared.trace.entry.Entry.{Entry}
use Rattle.net_base.specs.declared.trace.event.Event.{Event}
use Rattle.network_model.specs.Run.{entries_along, state_after}
use Rattle.network_model.specs.State.{NetworkState}
use Rattle.network_model.specs.Step.{step}
use Rattle.psn_net.specs.declared.net_stop.NetStop.{NetStop}
use Rattle.psn_net.specs.declared.net_stop.NetStop.TheVariants.{Crowded, TooMuch, NoMemory}
use Rattle.psn_net.specs.Lists.{NetLists, network_seen}
use Rattle.psn_net.specs.Weight.{stop_at}

-- what a run comes to: the state, the whole trace, and the limit that stopped it, where one did
pub record Ended : Type 0 where
  pub state : NetworkState
  pub trace : List Entry
  pub stop : Option NetStop

-- what a run comes to that a limit stops here, or else this
abbrev pub unless : Option NetStop → NetworkState → List Entry → Ended → Ended
unless None state trace rest = rest
unless (Some stop) state trace rest = record { state = state; trace = trace; stop = Some stop }

-- the events from a state and a trace on; the limit is looked at before each
abbrev pub ran : Plan → NetworkState → List Entry → List Event → Ended
ran plan state trace [] = record { state = state; trace = trace; stop = None }
ran plan state trace (e ∷ es) = unless (stop_at trace (length state.under_way) e) state trace (ran plan (step plan state e).state (trace ++ (step plan state e).entries) es)

-- ---- what contracts say

-- a network as the end of a run
abbrev pub ended : NetLists → Option NetStop → Ended
ended network stop = record { state = network_seen network; trace = network.trace; stop = stop }

-- a run stopped; where memory was refused nothing is said of the network
abbrev pub RunHalts : NetStop → NetLists → Ended → Type 0
RunHalts (Crowded count event) network end = ended network (Some (Crowded count event)) ≡ end
RunHalts (TooMuch weight event) network end = ended network (Some (TooMuch weight event)) ≡ end
RunHalts NoMemory network end = Unit {0}

-- the network is what the run comes to
abbrev pub GivesNetwork : {A : Type 0} → Result A NetStop → NetLists → Ended → Type 0
GivesNetwork (Ok done) network end = ended network None ≡ end
GivesNetwork (Err stop) network end = RunHalts stop network end

-- the network after these events
pub record HasRunEvents (plan : Plan) (state : NetworkState) (trace : List Entry) (events : List Event) (network : NetLists) : Type 0 where
  pub state_is : network_seen network ≡ state_after plan state events
  pub trace_is : network.trace ≡ trace ++ entries_along plan state events

-- of these events those were done; the limit stopped the next one, where one did, and else all were
pub record HasStopped (all done : List Event) (trace : List Entry) (count : ℕ) (stop : NetStop) : Type 0 where
  pub event : Event
  pub rest : List Event
  pub split : all ≡ done ++ event ∷ rest
  pub refused : stop_at trace count event ≡ Some stop

-- all events were done, or those before the one that a limit stopped
abbrev pub AreDone : List Event → List Event → List Entry → ℕ → Option NetStop → Type 0
AreDone all done trace count None = all ≡ done
AreDone all done trace count (Some stop) = HasStopped all done trace count stop

-- a run is that of some first events
pub record IsRunOf (plan : Plan) (state : NetworkState) (trace : List Entry) (all : List Event) (network : NetLists) (stop : Option NetStop) : Type 0 where
  pub done : List Event
  pub are_done : AreDone all done network.trace (length (network_seen network).under_way) stop
  pub ran : HasRunEvents plan state trace done network
