use Rattle.std.proofs.Common.{◌≡◌, [], replicate}
use Rattle.octet_pipes.proofs.pipes.Pipes.open.Given as goal

abbrev pub invariant-loop-place : goal.invariant-loop-place
invariant-loop-place l = l.rows.items ≡ replicate l._place (replicate l.size [])
