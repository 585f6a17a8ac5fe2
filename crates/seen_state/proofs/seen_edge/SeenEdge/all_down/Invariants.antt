use Rattle.std.proofs.Common.{◌≡◌, ◌<◌, ℕ, false, length, slice_index_or}
use Rattle.seen_state.proofs.seen_edge.SeenEdge.all_down.Given as goal

abbrev pub invariant-loop-wire : goal.invariant-loop-wire
invariant-loop-wire l = record {
  up : (k : ℕ) → k < l.wire → slice_index_or l.self-inside.up.items k false ≡ false;
  wires : length l.self-inside.up.items ≡ length l.fn.self.up;
  ends : l.self-inside.ends.items ≡ l.fn.self.ends;
}
