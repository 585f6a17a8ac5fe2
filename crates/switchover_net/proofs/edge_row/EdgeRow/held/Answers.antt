use Rattle.std.proofs.Common.{◌<◌, ◌∙◌, Option, length, ap, subst, arith}
use Rattle.independent_mode.specs.Receiver.{HoldsBy}
use Rattle.independent_model.specs.State.{ConnectionState}
use Rattle.switchover_net.specs.contracts.edge_row.EdgeRow.{the_view}
use Rattle.switchover_net.specs.Rows.{RowLists, seen_row}
use Rattle.switchover_net.proofs.RowLemmas.{as_of_row}
use Rattle.switchover_net.proofs.edge_row.EdgeRow.held.Goals as goal

pub returns : goal.returns
returns c =
    let below : c.args.me.0 < length (the_view c.self.inside).edges = omega (arith, c.requires.me, ap (λ (n : RowLists). length n.plan.edges) c.self.view_is, c.self.invariant.count) in
    subst (λ (o : Option ConnectionState). HoldsBy c.held.result o)
    (as_of_row (the_view c.self.inside) c.args.me.0 c.index.result.now (λ p m e. e.connection c.args.peer.0) c.self.invariant below c.index.ensures
    ∙ ap (λ (n : RowLists). (seen_row n c.args.me.0).connection c.args.peer.0) c.self.view_is) c.held.ensures
