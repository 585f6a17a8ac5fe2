use Rattle.std.proofs.Common.{◌<◌, arith, subst, sym}
use Rattle.seen_state.specs.SeenEdges.{ShowsEdges, SeenEdgeLists}
use Rattle.seen_state.proofs.SeenEdgesLemmas.{restarted_edge}
use Rattle.seen_state.proofs.seen_edges.SeenEdges.restart.Goals as goal

pub returns-clause-shows : goal.returns-clause-shows
returns-clause-shows c =
    λ seen shows. restarted_edge (record { sizes = c.self.inside.sizes; edges = c.self.inside.edges.items; on = c.self.inside.on.items }) seen c.args.edge.0 c.restart.new.self
    (omega (arith, subst (λ (x : SeenEdgeLists). c.args.edge.0 < x.sizes.edges) (sym c.self.view_is) c.requires.edge, c.self.invariant.edges))
    c.restart.ensures.ends c.restart.ensures.up (subst (λ (x : SeenEdgeLists). ShowsEdges x seen) (sym c.self.view_is) shows)
