-- One adjacency more is a tick older.
use Rattle.std.proofs.Common.{arith}
use Rattle.ldp_discovery.specs.Live.{adjacency_aged, unknown}
use Rattle.ldp_discovery.proofs.AdjacencyLemmas.{each_next}
use Rattle.ldp_discovery.proofs.adjacencies.age_all.Goals as goal

pub loop-adjacency-preserved : goal.loop-adjacency-preserved
loop-adjacency-preserved c =
    each_next adjacency_aged c.args.known.now.items c.loop-adjacency.adjacency-items c.loop-adjacency.adjacency-index unknown c.age.new.adjacency c.loop-adjacency.invariant
    (omega (arith, c.loop-adjacency-test.true, c.loop-adjacency.auto.adjacency-items)) c.age.ensures
