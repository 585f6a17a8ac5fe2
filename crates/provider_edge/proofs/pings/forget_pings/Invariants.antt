use Rattle.std.proofs.Common.{◌≡◌, ◌++◌, map, take, drop}
use Rattle.provider_edge.specs.Pings.{unpinged}
use Rattle.provider_edge.proofs.pings.forget_pings.Given as goal

abbrev pub invariant-loop-next : goal.invariant-loop-next
invariant-loop-next l = l.next-items ≡ map unpinged (take l.next-index l.fn.pings.items) ++ drop l.next-index l.fn.pings.items
