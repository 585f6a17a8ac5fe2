use Rattle.std.proofs.Common.{◌≡◌, ◌++◌, map, take, drop}
use Rattle.edge_forwarding.specs.Forwarding.{forgotten}
use Rattle.edge_forwarding.proofs.forwarding.forget_told.Given as goal

abbrev pub invariant-loop-down : goal.invariant-loop-down
invariant-loop-down l = l.down-items ≡ map forgotten (take l.down-index l.fn.told_down.items) ++ drop l.down-index l.fn.told_down.items
