use Rattle.seen_network.specs.Seen.{delivers}
use Rattle.seen_state.specs.PeerEnd.{taken_from_way}
use Rattle.seen_state.proofs.SeenEdgesLemmas.{one_end, taken_from}
use Rattle.seen_state.proofs.seen_edges.SeenEdges.deliver.Goals as goal

pub returns-clause-shows : goal.returns-clause-shows
returns-clause-shows c =
    one_end (taken_from_way c.args.count) (delivers c.args.from.0 c.args.to.0 c.args.count) c.args.to.0 c.args.from.0 (λ s seen h g shows. taken_from s seen c.args.to.0 c.args.from.0 c.args.count h g shows)
    (record { sizes = c.self.inside.sizes; edges = c.self.inside.edges.items; on = c.self.inside.on.items }) c.args.self.now c.index_mut.result.now
    (record {
      ends = c.behind-self.inside.ends.items;
      up = c.behind-self.inside.up.items;
    }) c.index_mut-2.result.now c.take.new.self c.self.view_is c.self.invariant c.requires.to c.requires.from c.behind-self.view_is c.index_mut.ensures.value c.index_mut-2.ensures.value c.take.ensures
