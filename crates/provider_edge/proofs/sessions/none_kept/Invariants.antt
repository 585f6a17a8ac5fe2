use Rattle.std.proofs.Common.{◌≡◌, None, replicate}
use Rattle.provider_edge.proofs.sessions.none_kept.Given as goal

abbrev pub invariant-loop-place : goal.invariant-loop-place
invariant-loop-place l = l.all.items ≡ replicate l._place None
