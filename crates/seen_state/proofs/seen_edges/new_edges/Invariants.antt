use Rattle.std.proofs.Common.{◌≡◌, false, replicate}
use Rattle.seen_state.specs.PeerEnd.{no_end}
use Rattle.seen_state.proofs.seen_edges.new_edges.Given as goal

abbrev pub invariant-loop-edge : goal.invariant-loop-edge
invariant-loop-edge l = l.edges.items ≡ replicate l._edge (record { ends = replicate l.count no_end; up = replicate l.wires false })
