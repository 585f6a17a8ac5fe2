-- No frame came after tick 10, and the ports stay.
use Rattle.std.proofs.Common.{◌≡◌}
use Rattle.mac_table.specs.Addresses.{NoneAfter}
use Rattle.learning_bench.proofs.decide_each.Given as goal

abbrev pub invariant-loop-round : goal.invariant-loop-round
invariant-loop-round l = (NoneAfter 10 l.bridge.entries) × (l.bridge.ports ≡ l.fn.bridge.ports)
