-- What the trace of every run of a checked plan names, so that its report tells it.
use Rattle.std.specs.Prelude.{◌<◌, ◌^◌, ℕ, List, length}
use Rattle.std.specs.List.{All, AllByRecursion}
use Rattle.net_base.specs.declared.plan.Plan.{Plan}
use Rattle.net_base.specs.declared.trace.entry.Entry.{Entry}
use Rattle.net_base.specs.declared.trace.event.Event.{Event}
use Rattle.network_model.specs.Run.{run}
use Rattle.network_model.specs.State.{empty_network}
use Rattle.flight_laws.specs.Laws.{IsRun}
use Rattle.command_text.specs.declared.command.Command.{Command}
use Rattle.command_run.specs.Made.{made}
use Rattle.report_text.specs.declared.ending.Ending.{Ending}
use Rattle.report_text.specs.Read.{IsEnding, IsReported}
use Rattle.report_laws.specs.Places.{CommandsFromOne, CountsFromOne, IsEntryOf}
use Rattle.report_laws.specs.Types.{IsTypedEntry}

-- every entry speaks of rows of the plan
abbrev pub RunsTellOfPlan : Type 0
RunsTellOfPlan = (plan : Plan) (events : List Event) → IsRun plan events → AllByRecursion (IsEntryOf plan) (run plan events).entries

-- the events that commands make count from one, where those of the commands do
abbrev pub MadeCountFromOne : Type 0
MadeCountFromOne = (plan : Plan) (captures : List (List (List ℕ))) (commands : List Command) → All CommandsFromOne commands → All CountsFromOne (made plan (empty_network plan) captures commands)

-- entries as a run holds them, by their types, and how its report ends
pub record IsTypedTrace (trace : List Entry) (ending : Ending) : Type 0 where
  pub typed : All IsTypedEntry trace
  pub few : length trace < 2 ^ 64
  pub ends : IsEnding ending

-- what is told of a run can be read
abbrev pub RunsAreReported : Type 0
RunsAreReported = (plan : Plan) (events : List Event) (ending : Ending) → IsRun plan events → All CountsFromOne events → IsTypedTrace (run plan events).entries ending
    → IsReported plan (run plan events).entries ending
