use Rattle.std.proofs.Common.{◌≡◌, ◌≤◌, ◌+◌, ◌-◌, ◌*◌, ◌++◌}
use Rattle.rehearsal.specs.Rows.{mesh_among}
use Rattle.rehearsal.proofs.wires.add_mesh_wires.Given as goal

abbrev pub invariant-loop-from : goal.invariant-loop-from
invariant-loop-from l = record {
  few : l.number ≤ 1 + 7 * (l.from - 1);
  made : l.wires ++ mesh_among (9 - l.from) l.from l.number ≡ l.fn.wires ++ mesh_among 8 1 1;
}
