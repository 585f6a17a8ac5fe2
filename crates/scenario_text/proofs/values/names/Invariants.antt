-- What is read so far, and then the rest, is what the definition reads.
use Rattle.std.proofs.Common.{◌≡◌, drop}
use Rattle.toml.specs.View.{items_view}
use Rattle.command_text.specs.Places.{place_of_key}
use Rattle.command_text.specs.Reading.{with_front}
use Rattle.scenario_text.specs.Values.{names_in}
use Rattle.scenario_text.proofs.values.names.Given as goal

abbrev pub invariant-loop-value : goal.invariant-loop-value
invariant-loop-value l =
    with_front l.names (names_in (place_of_key l.row l.key) (items_view (drop l.value-index l.array))) ≡ names_in (place_of_key l.row l.key) (items_view l.array)
