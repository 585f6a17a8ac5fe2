use Rattle.std.proofs.Common.{◌≡◌, ◌<◌, ◌∙◌, length, ap, sym, subst, arith}
use Rattle.net_base.specs.declared.plan.Plan.{Plan}
use Rattle.status_exchange.specs.Wish.{is_same_wish}
use Rattle.switchover_net.specs.contracts.edge_row.EdgeRow.{the_view}
use Rattle.switchover_net.specs.Rows.{RowLists, seen_row}
use Rattle.switchover_net.proofs.RowLemmas.{as_of_row, found_plan}
use Rattle.switchover_net.proofs.edge_row.EdgeRow.calls_so.Goals as goal

pub calls_so-requires : goal.calls_so-requires
calls_so-requires c =
    let below : c.args.me.0 < length (the_view c.self.inside).edges = omega (arith, c.requires.me, ap (λ (n : RowLists). length n.plan.edges) c.self.view_is, c.self.invariant.count) in
    let planned : c.index.result.now.plan ≡ c.args.self.now.plan =
    found_plan (the_view c.self.inside) c.args.me.0 c.index.result.now c.self.invariant below c.index.ensures ∙ ap (λ (n : RowLists). n.plan) c.self.view_is in
    record { wire = subst (λ (p : Plan). c.args.wire.0 < length p.wires) (sym planned) c.requires.wire }

pub returns : goal.returns
returns c =
    let below : c.args.me.0 < length (the_view c.self.inside).edges = omega (arith, c.requires.me, ap (λ (n : RowLists). length n.plan.edges) c.self.view_is, c.self.invariant.count) in
    c.calls_so.ensures ∙ (as_of_row (the_view c.self.inside) c.args.me.0 c.index.result.now (λ p m e. is_same_wish (e.local c.args.wire.0) c.args.wish) c.self.invariant below c.index.ensures
    ∙ ap (λ (n : RowLists). is_same_wish ((seen_row n c.args.me.0).local c.args.wire.0) c.args.wish) c.self.view_is)
