-- No address came after the tick.
use Rattle.mac_table.specs.Addresses.{NoneAfter}
use Rattle.learning_bench.proofs.age_each.Given as goal

abbrev pub invariant-loop-tick : goal.invariant-loop-tick
invariant-loop-tick l = NoneAfter l.tick l.table.entries
