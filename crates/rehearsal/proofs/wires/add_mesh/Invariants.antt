use Rattle.std.proofs.Common.{◌≡◌, ◌+◌, ◌-◌, ◌++◌}
use Rattle.rehearsal.specs.Rows.{mesh_beside}
use Rattle.rehearsal.proofs.wires.add_mesh.Given as goal

abbrev pub invariant-loop-to : goal.invariant-loop-to
invariant-loop-to l = l.wires ++ mesh_beside (9 - l.to) l.from l.to (l.number + (l.to - l.from - 1)) ≡ l.fn.wires ++ mesh_beside (8 - l.from) l.from (l.from + 1) l.number
