use Rattle.std.proofs.Common.{◌≡◌, ◌<◌, length, sym, subst, arith}
use Rattle.provider_edge.specs.contracts.edge.Edge.{the_view}
use Rattle.provider_edge.proofs.ListLemmas.{priority_read}
use Rattle.provider_edge.specs.Lists.{EdgeLists, seen}
use Rattle.provider_edge.proofs.edge.Edge.priority_of.Goals as goal

pub returns : goal.returns
returns c =
    let within : c.args.wire.0 < length (the_view c.self.inside).plan.wires = subst (λ (n : EdgeLists). c.args.wire.0 < length n.plan.wires) (sym c.self.view_is) c.requires in
    subst (λ (n : EdgeLists). c.index.result.now ≡ (seen n).priority c.args.wire.0) c.self.view_is
    (priority_read (the_view c.self.inside) c.args.wire c.index.result.now (omega (arith, within, c.self.invariant.priorities)) c.index.ensures)
