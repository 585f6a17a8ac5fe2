use Rattle.std.proofs.Common.{◌≡◌, replicate}
use Rattle.seen_state.specs.PeerEnd.{no_end}
use Rattle.seen_state.proofs.seen_edge.new_ends.Given as goal

abbrev pub invariant-loop-peer : goal.invariant-loop-peer
invariant-loop-peer l = l.ends.items ≡ replicate l._peer no_end
