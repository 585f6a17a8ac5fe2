use Rattle.seen_state.proofs.SeenEdgesLemmas.{one_wire}
use Rattle.seen_state.proofs.seen_edges.SeenEdges.set_up.Goals as goal

pub returns-clause-shows : goal.returns-clause-shows
returns-clause-shows c =
    one_wire c.args.edge.0 c.args.wire.0 c.args.up
    (record { sizes = c.self.inside.sizes; edges = c.self.inside.edges.items; on = c.self.inside.on.items }) c.args.self.now c.index_mut.result.now
    (record {
      ends = c.behind-self.inside.ends.items;
      up = c.behind-self.inside.up.items;
    }) c.self.view_is c.self.invariant c.requires.edge c.requires.wire c.behind-self.view_is c.index_mut.ensures.value
