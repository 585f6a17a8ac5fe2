use Rattle.std.proofs.Common.{◌≡◌, ◌<◌, ℕ, length, slice_index_or}
use Rattle.seen_state.specs.PeerEnd.{no_end}
use Rattle.seen_state.proofs.seen_edge.SeenEdge.end_all.Given as goal

abbrev pub invariant-loop-peer : goal.invariant-loop-peer
invariant-loop-peer l = record {
  ends : (k : ℕ) → k < l.peer → slice_index_or l.self-inside.ends.items k no_end ≡ no_end;
  edges : length l.self-inside.ends.items ≡ length l.fn.self.ends;
  up : l.self-inside.up.items ≡ l.fn.self.up;
}
