use Rattle.std.proofs.Common.{◌≡◌, ◌++◌, map, take, drop}
use Rattle.provider_edge.specs.Spokes.{unchosen}
use Rattle.provider_edge.proofs.spokes.clear_all.Given as goal

abbrev pub invariant-loop-kept : goal.invariant-loop-kept
invariant-loop-kept l = l.kept-items ≡ map unchosen (take l.kept-index l.fn.chosen.items) ++ drop l.kept-index l.fn.chosen.items
