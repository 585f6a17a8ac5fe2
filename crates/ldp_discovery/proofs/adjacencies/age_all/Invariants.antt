-- The adjacencies so far are a tick older.
use Rattle.std.proofs.Common.{◌≡◌, ◌++◌, map, take, drop}
use Rattle.ldp_discovery.specs.Live.{adjacency_aged}
use Rattle.ldp_discovery.proofs.adjacencies.age_all.Given as goal

abbrev pub invariant-loop-adjacency : goal.invariant-loop-adjacency
invariant-loop-adjacency l = l.adjacency-items ≡ map adjacency_aged (take l.adjacency-index l.fn.known.items) ++ drop l.adjacency-index l.fn.known.items
