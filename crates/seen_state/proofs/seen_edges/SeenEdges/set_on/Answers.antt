use Rattle.std.proofs.Common.{◌<◌, arith, subst, sym}
use Rattle.seen_state.specs.SeenEdges.{ShowsEdges, SeenEdgeLists}
use Rattle.seen_state.proofs.SeenEdgesLemmas.{circuit_set}
use Rattle.seen_state.proofs.seen_edges.SeenEdges.set_on.Goals as goal

pub returns-clause-shows : goal.returns-clause-shows
returns-clause-shows c =
    λ seen shows. circuit_set (record { sizes = c.self.inside.sizes; edges = c.self.inside.edges.items; on = c.self.inside.on.items }) seen c.args.circuit.0 c.args.on
    (omega (arith, subst (λ (x : SeenEdgeLists). c.args.circuit.0 < x.sizes.circuits) (sym c.self.view_is) c.requires.circuit, c.self.invariant.circuits))
    (subst (λ (x : SeenEdgeLists). ShowsEdges x seen) (sym c.self.view_is) shows)
