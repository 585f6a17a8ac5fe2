-- The edges so far have their adjacencies.
use Rattle.std.proofs.Common.{◌≡◌, ℕ, [], length, slice_get, IfSome}
use Rattle.ldp_discovery.specs.Adjacencies.{IsAfter}
use Rattle.ldp_discovery.specs.Histories.{IsOfEdge}
use Rattle.ldp_discovery.proofs.adjacency_table.open_edges.Given as goal

abbrev pub invariant-loop-place : goal.invariant-loop-place
invariant-loop-place l = record {
  count : length l.edges.items ≡ l.place;
  each : (k : ℕ) → IfSome (slice_get l.edges.items k) (IsOfEdge l.plan k);
  first : (k : ℕ) → IfSome (slice_get l.edges.items k) (IsAfter []);
}
