use Rattle.std.proofs.Common.{◌≡◌, ◌-◌, ◌++◌}
use Rattle.rehearsal.specs.Rows.{circuits_from}
use Rattle.rehearsal.proofs.plan.add_circuits.Given as goal

abbrev pub invariant-loop-number : goal.invariant-loop-number
invariant-loop-number l = l.rows ++ circuits_from (17 - l.number) l.number ≡ l.fn.rows ++ circuits_from 16 1
