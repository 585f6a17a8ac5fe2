-- A run over a list of events: what the commands that run a network tell of.
use Rattle.std.specs.Prelude.{◌≡◌, false, length, List, [], Option, Some, None}
use Rattle.net_base.specs.declared.plan.Plan.{Plan}
use Rattle.net_base.specs.declared.trace.event.Event.{Event}
use Rattle.flight_laws.specs.Ends.{HasTypes}
use Rattle.network_model.specs.Run.{run, state_after}
use Rattle.network_model.specs.State.{empty_network}
use Rattle.psn_net.specs.declared.net_stop.NetStop.{NetStop}
use Rattle.psn_net.specs.Lists.{NetLists, network_seen}
use Rattle.psn_net.specs.Runs.{AreDone, Ended, ended, ran}
use Rattle.vplsnet.specs.declared.outcome.Outcome.{Outcome}
use Rattle.vplsnet.specs.declared.outcome.Outcome.TheVariants.{Done, Stopped}
use Rattle.vplsnet.specs.Promises.{KeepsPromises}

-- what the events come to
abbrev pub run_of : Plan → List Event → Ended
run_of plan events = ran plan (empty_network plan) [] events

-- the outcome of a run that this limit stopped, or none
abbrev pub outcome_by : Option NetStop → Outcome
outcome_by None = Done
outcome_by (Some reason) = Stopped reason

-- the run left this network, and the limit is the one that stopped it, where one did
pub record HasRunOver (plan : Plan) (events : List Event) (left : NetLists) (reason : Option NetStop) : Type 0 where
  pub plan_is : left.plan ≡ plan
  pub going : left.failed ≡ false
  pub ends : ended left reason ≡ run_of plan events
  pub types : HasTypes plan

-- The network is what the events come to, and the limit is the one that stopped them, where one did; memory was never refused to it. Its
-- state and its trace are those behind the events that were done, and every promise holds of those events.
pub record IsRunOver (plan : Plan) (events : List Event) (left : NetLists) (reason : Option NetStop) : Type 0 where
  pub plan_is : left.plan ≡ plan
  pub going : left.failed ≡ false
  pub ends : ended left reason ≡ run_of plan events
  -- the events that were done: all, or those before the one that the limit stopped
  pub done : List Event
  pub are_done : AreDone events done left.trace (length (network_seen left).under_way) reason
  pub state_is : network_seen left ≡ state_after plan (empty_network plan) done
  pub trace_is : left.trace ≡ (run plan done).entries
  pub promises : KeepsPromises plan done
