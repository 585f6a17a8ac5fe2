-- What is read so far, and then the rest, is what the definition reads.
use Rattle.std.proofs.Common.{◌≡◌, drop}
use Rattle.command_text.specs.Reading.{with_front}
use Rattle.scenario_text.specs.References.{path_in}
use Rattle.scenario_text.proofs.wires.path.Given as goal

abbrev pub invariant-loop-name : goal.invariant-loop-name
invariant-loop-name l = with_front l.path (path_in l.edges l.place (drop l.name-index l.names)) ≡ path_in l.edges l.place l.names
