use Rattle.std.proofs.Common.{true}
use Rattle.seen_network.specs.Seen.{with_standing}
use Rattle.seen_state.specs.PeerEnd.{EndSeen}
use Rattle.seen_state.proofs.SeenEdgesLemmas.{one_end, stood_up}
use Rattle.seen_state.proofs.seen_edges.SeenEdges.stand.Goals as goal

pub returns-clause-shows : goal.returns-clause-shows
returns-clause-shows c =
    one_end (λ (e : EndSeen). record e { stands = true }) (with_standing c.args.edge.0 c.args.peer.0 true) c.args.edge.0 c.args.peer.0
    (λ s seen h g shows. stood_up s seen c.args.edge.0 c.args.peer.0 h g shows)
    (record { sizes = c.self.inside.sizes; edges = c.self.inside.edges.items; on = c.self.inside.on.items }) c.args.self.now c.index_mut.result.now
    (record {
      ends = c.behind-self.inside.ends.items;
      up = c.behind-self.inside.up.items;
    }) c.index_mut-2.result.now c.stand.new.self c.self.view_is c.self.invariant c.requires.edge c.requires.peer c.behind-self.view_is c.index_mut.ensures.value c.index_mut-2.ensures.value c.stand.ensures
