use Rattle.std.proofs.Common.{◌≡◌, ◌≤◌, ◌+◌, ◌++◌, length, drop, vec_capacity}
use Rattle.std.specs.Prelude.{filter}
use Rattle.label_space.specs.Kept.{rests}
use Rattle.label_space.proofs.kept_labels.add_resting.Given as goal

abbrev pub invariant-loop-one : goal.invariant-loop-one
invariant-loop-one l =
    (l.resting.items ++ filter rests (drop l.one-index l.kept) ≡ l.fn.resting.items ++ filter rests l.kept)
    × (length l.resting.items + length l.kept ≤ vec_capacity l.resting + l.one-index) × (vec_capacity l.resting ≡ vec_capacity l.fn.resting)
