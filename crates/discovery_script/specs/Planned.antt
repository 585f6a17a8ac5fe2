-- Lines that speak of what is in a plan.
use Rattle.std.specs.Prelude.{◌<◌, length}
use Rattle.net_base.specs.declared.plan.Plan.{Plan}
use Rattle.net_base.specs.declared.plan.places.EdgeId.{EdgeId}
use Rattle.net_base.specs.declared.trace.event.Event.TheVariants.{Connect, Tick}
use Rattle.command_text.specs.declared.command.Command.{Command}
use Rattle.command_text.specs.declared.command.Command.TheVariants.{One, Ticks, Play}
use Rattle.command_text.specs.Planned.{IsPlanned}
use Rattle.discovery_script.specs.declared.script_line.ScriptLine.{ScriptLine}
use Rattle.discovery_script.specs.declared.script_line.ScriptLine.TheVariants as line

-- a command of a script: connections open by its lines alone, ticks pass by them, and no capture is played
abbrev pub IsScripted : Command → Type 0
IsScripted (One (Connect from to)) = ⊥
IsScripted (One Tick) = ⊥
IsScripted (Ticks count) = ⊥
IsScripted (Play circuit file) = ⊥
IsScripted other = Unit {0}

-- two edges of the plan
abbrev pub AreOfPlan : Plan → EdgeId → EdgeId → Type 0
AreOfPlan plan a b = (a.0 < length plan.edges) × (b.0 < length plan.edges)

-- what a line names stands in the plan
abbrev pub IsDiscoveryLineOf : Plan → ScriptLine → Type 0
IsDiscoveryLineOf plan (line.Hello from to hold) = AreOfPlan plan from to
IsDiscoveryLineOf plan (line.Bring number) = Unit {0}
IsDiscoveryLineOf plan (line.Open from to) = AreOfPlan plan from to
IsDiscoveryLineOf plan line.Tick = Unit {0}
IsDiscoveryLineOf plan (line.Do command) = IsPlanned plan command × IsScripted command
