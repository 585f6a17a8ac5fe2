use Rattle.std.proofs.Common.{◌<◌, ◌∙◌, length, ap, arith}
use Rattle.independent_model.specs.Calls.{is_connected}
use Rattle.switchover_net.specs.contracts.edge_row.EdgeRow.{the_view}
use Rattle.switchover_net.specs.Rows.{RowLists, seen_row}
use Rattle.switchover_net.proofs.RowLemmas.{as_of_row}
use Rattle.switchover_net.proofs.edge_row.EdgeRow.is_connected.Goals as goal

pub returns : goal.returns
returns c =
    let below : c.args.me.0 < length (the_view c.self.inside).edges = omega (arith, c.requires.me, ap (λ (n : RowLists). length n.plan.edges) c.self.view_is, c.self.invariant.count) in
    c.is_connected.ensures ∙ (as_of_row (the_view c.self.inside) c.args.me.0 c.index.result.now (λ p m e. is_connected e c.args.peer.0) c.self.invariant below c.index.ensures
    ∙ ap (λ (n : RowLists). is_connected (seen_row n c.args.me.0) c.args.peer.0) c.self.view_is)
