-- What is read so far, and then the rest, is what the definition reads.
use Rattle.std.proofs.Common.{◌≡◌, ◌≤◌, ◌+◌, length}
use Rattle.std.specs.List.{All}
use Rattle.toml.specs.View.{items_view}
use Rattle.command_text.specs.Reading.{with_front}
use Rattle.command_text.specs.Events.{commands_in}
use Rattle.command_text.specs.Planned.{IsPlanned}
use Rattle.command_text.proofs.commands.read_commands.Given as goal

abbrev pub invariant-loop-value : goal.invariant-loop-value
invariant-loop-value l =
    (goal.iterator-loop-value).can_next l.value-iterator
    × (goal.iterator-loop-value).is_finite l.value-iterator
    × (with_front l.commands (commands_in l.plan (length l.commands + 1) l.plays (items_view l.value-iterator.rest.items)) ≡ commands_in l.plan 1 0 (items_view l.fn.values.items))
    × (length l.commands + length l.value-iterator.rest.items ≡ length l.fn.values.items)
    × (l.plays ≤ length l.commands)
    × All (IsPlanned l.plan) l.commands
