-- The events of a migrated document are read as the commands.
use Rattle.std.specs.Prelude.{◌≡◌, ◌<◌, ◌≤◌, ℕ, false, List, [], ◌∷◌, length, Ok}
use Rattle.std.specs.List.{AllByRecursion}
use Rattle.toml.specs.View.{items_of}
use Rattle.net_base.specs.declared.plan.Plan.{Plan}
use Rattle.net_base.specs.plan.Planned.{IsEventOf}
use Rattle.command_text.specs.declared.command.Command.{Command}
use Rattle.command_text.specs.declared.command.Command.TheVariants.{One, Settle, Flow, Ticks, Play}
use Rattle.command_text.specs.Events.{commands_in, plays_after}
use Rattle.plan_names.specs.Planned.{HasNames}
use Rattle.command_text.specs.Planned.{IsCount}
use Rattle.command_text.specs.Words.{is_space}
use Rattle.event_laws.specs.Law.{IsEventInRange}
use Rattle.migration.specs.Commands.{event_items}

-- no blank is in the word
abbrev pub HasNoBlank : List ℕ → Type 0
HasNoBlank octets = AllByRecursion (λ octet. is_space octet ≡ false) octets

-- a command that a document can say, after so many commands `play`
abbrev pub IsSaidCommand : Plan → ℕ → Command → Type 0
IsSaidCommand plan plays (One event) = IsEventOf plan event × IsEventInRange event
IsSaidCommand plan plays (Settle count) = IsCount count
IsSaidCommand plan plays (Flow count) = IsCount count
IsSaidCommand plan plays (Ticks count) = IsCount count
IsSaidCommand plan plays (Play circuit file) = (circuit.0 < length plan.circuits) × (plays < 4) × (1 ≤ length file) × HasNoBlank file

abbrev pub AreSaidCommands : Plan → ℕ → List Command → Type 0
AreSaidCommands plan plays [] = Unit {0}
AreSaidCommands plan plays (command ∷ commands) = IsSaidCommand plan plays command × AreSaidCommands plan (plays_after plays command) commands

abbrev pub ReadsMigratedCommands : Type 0
ReadsMigratedCommands = (plan : Plan) (commands : List Command) → HasNames plan → AreSaidCommands plan 0 commands
    → commands_in plan 1 0 (items_of (event_items plan commands)) ≡ Ok commands
