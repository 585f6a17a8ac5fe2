-- One more wire is asked, until all wires of the plan are.
use Rattle.std.proofs.Common.{◌≡◌, ◌<◌, ◌≤◌, ◌∙◌, Bool, List, length, ap, arith}
use Rattle.net_base.specs.declared.plan.Plan.{Plan}
use Rattle.switchover_model.specs.Text.{used}
use Rattle.switchover_net.specs.Rows.{RowLists, seen_row}
use Rattle.switchover_net.proofs.UsedLemmas.{used_end, used_long, used_more}
use Rattle.switchover_net.proofs.edge_row.EdgeRow.used.Goals as goal

pub loop-wire-preserved : goal.loop-wire-preserved
loop-wire-preserved c =
    let count : c.len-count.result ≡ length c.args.self.now.plan.wires = c.len-count.ensures ∙ ap (λ (p : Plan). length p.wires) (c.deref.ensures ∙ ap (λ (n : RowLists). n.plan) c.self.view_is) in
    let less : c.loop-wire.wire < length c.args.self.now.plan.wires = omega (arith, c.loop-wire-test.true, count) in
    used_more c.args.self.now.plan c.args.me.0 c.loop-wire.wire (length c.args.self.now.plan.wires) (seen_row c.args.self.now c.args.me.0) c.loop-wire.used.items c.push.new.self.items
    (used c.args.self.now.plan c.args.me.0 (seen_row c.args.self.now c.args.me.0))
    c.uses.result less c.in_ok-push.ensures.items c.uses.ensures c.loop-wire.invariant

pub returns-clause-len : goal.returns-clause-len
returns-clause-len c =
    let count : c.len-count.result ≡ length c.args.self.now.plan.wires = c.len-count.ensures ∙ ap (λ (p : Plan). length p.wires) (c.deref.ensures ∙ ap (λ (n : RowLists). n.plan) c.self.view_is) in
    let past : length c.args.self.now.plan.wires ≤ c.loop-wire.wire = omega (arith, c.loop-wire-test.false, count) in
    ap (λ (l : List Bool). length l) (used_end c.args.self.now.plan c.args.me.0 c.loop-wire.wire (length c.args.self.now.plan.wires)
    (seen_row c.args.self.now c.args.me.0) c.loop-wire.used.items (used c.args.self.now.plan c.args.me.0 (seen_row c.args.self.now c.args.me.0)) past c.loop-wire.invariant)
    ∙ used_long c.args.self.now.plan c.args.me.0 0 (length c.args.self.now.plan.wires) (seen_row c.args.self.now c.args.me.0)
