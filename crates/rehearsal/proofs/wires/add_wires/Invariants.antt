use Rattle.std.proofs.Common.{◌≡◌, ◌-◌, ◌++◌}
use Rattle.rehearsal.specs.Rows.{mesh_among, spokes_from}
use Rattle.rehearsal.proofs.wires.add_wires.Given as goal

abbrev pub invariant-loop-place : goal.invariant-loop-place
invariant-loop-place l = l.rows ++ spokes_from (8 - l.place) l.place ≡ l.fn.rows ++ (mesh_among 8 1 1 ++ spokes_from 8 0)
