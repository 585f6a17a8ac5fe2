-- The values so far, and then the rest, are all.
use Rattle.std.proofs.Common.{◌≡◌, ◌++◌, drop, length}
use Rattle.line_shapes.proofs.values.Values.of.Given as goal

abbrev pub invariant-loop-value : goal.invariant-loop-value
invariant-loop-value l = (l.all ++ drop l.value-index l.values ≡ l.values) × (length l.all ≡ l.value-index)
