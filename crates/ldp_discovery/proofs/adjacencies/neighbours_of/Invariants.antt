-- The edges so far stand in the list.
use Rattle.std.proofs.Common.{◌≡◌, ◌++◌, drop, length}
use Rattle.ldp_discovery.specs.Adjacencies.{neighbours_from}
use Rattle.ldp_discovery.proofs.adjacencies.neighbours_of.Given as goal

abbrev pub invariant-loop-place : goal.invariant-loop-place
invariant-loop-place l = record {
  listed : l.neighbours.items ++ neighbours_from l.plan l.me.0 l.place (drop l.place l.plan.edges) ≡ neighbours_from l.plan l.me.0 0 l.plan.edges;
  count : length l.neighbours.items ≡ l.place;
}
