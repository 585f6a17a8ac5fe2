use Rattle.std.proofs.Common.{◌≡◌, ◌++◌, map, take, drop}
use Rattle.label_space.specs.Kept.{met_one}
use Rattle.label_space.proofs.kept_labels.meet_all.Given as goal

abbrev pub invariant-loop-one : goal.invariant-loop-one
invariant-loop-one l = l.one-items ≡ map (met_one l.peer) (take l.one-index l.fn.kept.items) ++ drop l.one-index l.fn.kept.items
