use Rattle.std.proofs.Common.{◌≡◌, ◌<◌, length, sym, subst, arith}
use Rattle.provider_edge.specs.contracts.edge.Edge.{the_view}
use Rattle.provider_edge.proofs.ListLemmas.{ping_read}
use Rattle.provider_edge.specs.Lists.{EdgeLists, seen}
use Rattle.provider_edge.proofs.edge.Edge.next_ping.Goals as goal

pub returns : goal.returns
returns c =
    let within : c.args.wire.0 < length (the_view c.self.inside).plan.wires = subst (λ (n : EdgeLists). c.args.wire.0 < length n.plan.wires) (sym c.self.view_is) c.requires in
    subst (λ (n : EdgeLists). c.index.result.now ≡ (seen n).next_ping c.args.wire.0) c.self.view_is
    (ping_read (the_view c.self.inside) c.args.wire c.index.result.now (omega (arith, within, c.self.invariant.each_ping)) c.index.ensures)
