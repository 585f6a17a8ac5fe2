use Rattle.std.proofs.Common.{◌≡◌, [], replicate}
use Rattle.octet_pipes.proofs.pipe_row.PipeRow.open.Given as goal

abbrev pub invariant-loop-place : goal.invariant-loop-place
invariant-loop-place l = l.pipes.items ≡ replicate l._place []
