-- What is read so far, and then the rest, is what the definition reads.
use Rattle.std.proofs.Common.{◌≡◌, ◌+◌, drop, length, take}
use Rattle.line_shapes.specs.Shapes.{AreSmall, values_said, with_values}
use Rattle.line_shapes.proofs.reader.read_values.Given as goal

abbrev pub invariant-loop-place : goal.invariant-loop-place
invariant-loop-place g l =
    (with_values l.values (values_said l.plan (g.W.Words.words l.line) (l.place + 1) (drop l.place l.kinds)) ≡ values_said l.plan (g.W.Words.words l.line) 1 l.kinds) × (length l.values ≡ l.place)
    × AreSmall (take l.place l.kinds) l.values
