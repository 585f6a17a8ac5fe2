use Rattle.std.proofs.Common.{◌++◌, cond}
use Rattle.std.proofs.lemmas.Result.{on_ok_weaker}
use Rattle.seen_network.specs.Seen.{said_towards}
use Rattle.seen_state.specs.PeerEnd.{EndSeen}
use Rattle.seen_state.proofs.SeenEdgesLemmas.{one_end, put_on_way}
use Rattle.seen_state.proofs.seen_edges.SeenEdges.say.Goals as goal

pub returns-clause-shows : goal.returns-clause-shows
returns-clause-shows c =
    on_ok_weaker c.say.result (λ is.
    one_end (λ (e : EndSeen). cond e.stands (record e { way = e.way ++ c.args.octets.now }) e) (said_towards c.args.from.0 c.args.to.0 c.args.octets.now) c.args.to.0 c.args.from.0
    (λ s seen h g shows. put_on_way s seen c.args.to.0 c.args.from.0 c.args.octets.now h g shows)
    (record { sizes = c.self.inside.sizes; edges = c.self.inside.edges.items; on = c.self.inside.on.items }) c.args.self.now c.index_mut.result.now
    (record {
      ends = c.behind-self.inside.ends.items;
      up = c.behind-self.inside.up.items;
    }) c.index_mut-2.result.now c.say.new.self c.self.view_is c.self.invariant c.requires.to c.requires.from c.behind-self.view_is c.index_mut.ensures.value c.index_mut-2.ensures.value is)
    c.say.ensures
