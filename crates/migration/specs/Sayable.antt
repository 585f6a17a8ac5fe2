-- What a text of TOML can say, which is UTF-8.
use Rattle.std.specs.Prelude.{◌<◌, List, length}
use Rattle.std.specs.List.{All}
use Rattle.std.specs.Str.{IsUtf8}
use Rattle.net_base.specs.declared.plan.Plan.{Plan}
use Rattle.net_base.specs.declared.plan.wire_plan.WirePlan.{WirePlan}
use Rattle.net_base.specs.plan.Planned.{IsEventOf}
use Rattle.command_text.specs.declared.command.Command.{Command}
use Rattle.command_text.specs.declared.command.Command.TheVariants.{One, Settle, Flow, Ticks, Play}
use Rattle.plan_names.specs.Planned.{HasNames}
use Rattle.event_laws.specs.Law.{IsEventInRange}

-- the descriptions of both ends of a wire are text
pub record HasTexts (wire : WirePlan) : Type 0 where
  pub near : IsUtf8 wire.near.description
  pub far : IsUtf8 wire.far.description

-- the command speaks of rows of the plan, and its event has numbers in the ranges in which a scenario writes them
abbrev pub IsSayable : Plan → Command → Type 0
IsSayable plan (One event) = IsEventOf plan event × IsEventInRange event
IsSayable plan (Settle count) = Unit {0}
IsSayable plan (Flow count) = Unit {0}
IsSayable plan (Ticks count) = Unit {0}
IsSayable plan (Play circuit file) = circuit.0 < length plan.circuits

-- the plan has names, the descriptions are text, and so is each command
pub record IsSayableScenario (plan : Plan) (commands : List Command) : Type 0 where
  pub names : HasNames plan
  pub descriptions : All HasTexts plan.wires
  pub each : All (IsSayable plan) commands
