-- Commands that speak of what is in a plan.
use Rattle.std.specs.Prelude.{◌<◌, ◌≤◌, ℕ, length}
use Rattle.net_base.specs.declared.plan.Plan.{Plan}
use Rattle.net_base.specs.plan.Planned.{IsEventOf}
use Rattle.command_text.specs.declared.command.Command.{Command}
use Rattle.command_text.specs.declared.command.Command.TheVariants.{One, Settle, Flow, Ticks, Play}

-- a count of repetitions is 1 to 10000
abbrev pub IsCount : ℕ → Type 0
IsCount count = (1 ≤ count) × (count ≤ 10000)

-- the command speaks of rows of the plan
abbrev pub IsPlanned : Plan → Command → Type 0
IsPlanned plan (One event) = IsEventOf plan event
IsPlanned plan (Settle count) = IsCount count
IsPlanned plan (Flow count) = IsCount count
IsPlanned plan (Ticks count) = IsCount count
IsPlanned plan (Play circuit file) = circuit.0 < length plan.circuits
