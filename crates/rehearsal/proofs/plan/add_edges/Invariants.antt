use Rattle.std.proofs.Common.{◌≡◌, ◌-◌, ◌++◌}
use Rattle.rehearsal.specs.Rows.{edges_from}
use Rattle.rehearsal.proofs.plan.add_edges.Given as goal

abbrev pub invariant-loop-number : goal.invariant-loop-number
invariant-loop-number l = l.rows ++ edges_from (17 - l.number) l.number ≡ l.fn.rows ++ edges_from 16 1
