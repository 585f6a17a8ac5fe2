-- The run of a scenario: what `replay`, `tables`, `capture` and `rehearse` tell of.
use Rattle.std.specs.Prelude.{ℕ, List, Option}
use Rattle.net_base.specs.declared.trace.event.Event.{Event}
use Rattle.network_model.specs.State.{empty_network}
use Rattle.psn_net.specs.declared.net_stop.NetStop.{NetStop}
use Rattle.psn_net.specs.Lists.{NetLists}
use Rattle.psn_net.specs.Runs.{Ended}
use Rattle.scenario_text.specs.declared.scenario.Scenario.{Scenario}
use Rattle.command_run.specs.Made.{made}
use Rattle.vplsnet.specs.RunOver.{HasRunOver, IsRunOver, run_of}
use Rattle.vplsnet.specs.Settled.{SettlesAtLast}

-- the events that the commands of a scenario make, where these are the frames of the captures that it plays
abbrev pub events_of : Scenario → List (List (List ℕ)) → List Event
events_of scenario captures = made scenario.plan (empty_network scenario.plan) captures scenario.commands

-- what the run comes to
abbrev pub whole_run : Scenario → List (List (List ℕ)) → Ended
whole_run scenario captures = run_of scenario.plan (events_of scenario captures)

-- the run left this network, and the limit is the one that stopped it, where one did
abbrev pub HasRun : Scenario → List (List (List ℕ)) → NetLists → Option NetStop → Type 0
HasRun scenario captures left reason = HasRunOver scenario.plan (events_of scenario captures) left reason

-- and every promise holds of the events that were done; where the scenario ends by `settle` often enough, nothing is on its way
pub record IsScenarioRun (scenario : Scenario) (captures : List (List (List ℕ))) (left : NetLists) (reason : Option NetStop) : Type 0 where
  pub is_run : IsRunOver scenario.plan (events_of scenario captures) left reason
  pub settled : SettlesAtLast scenario captures left reason
