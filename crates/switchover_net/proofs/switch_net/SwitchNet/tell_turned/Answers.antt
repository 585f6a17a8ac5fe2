use Rattle.std.proofs.Common.{◌<◌, ◌∙◌, ◌++◌, Bool, false, length, slice_index_or, ap, arith}
use Rattle.std.proofs.lemmas.List.{get_or_default}
use Rattle.independent_model.specs.Calls.{uses}
use Rattle.switchover_model.specs.Text.{turned_all, used}
use Rattle.switchover_net.specs.Net.{SwitchLists}
use Rattle.switchover_net.specs.Rows.{seen_row}
use Rattle.switchover_net.proofs.UsedLemmas.{turned_goes}
use Rattle.switchover_net.proofs.switch_net.SwitchNet.tell_turned.Goals as goal

pub loop-wire-preserved : goal.loop-wire-preserved
loop-wire-preserved c =
    let within : c.loop-wire.wire < length c.args.before.now = omega (arith, c.loop-wire-test.true) in
    let less : c.loop-wire.wire < length c.args.self.now.row.plan.wires = omega (arith, within, c.requires.before) in
    let was : Bool = slice_index_or c.args.before.now c.loop-wire.wire false in
    turned_goes c.args.self.now.row.plan c.args.me.0 c.loop-wire.wire (length c.args.self.now.row.plan.wires)
    (seen_row c.args.self.now.row c.args.me.0) c.args.before.now was c.uses.result c.loop-wire.out c.tell_one.new.out
    (c.args.out.now ++ turned_all c.args.me.0 0 c.args.before.now (used c.args.self.now.row.plan c.args.me.0 (seen_row c.args.self.now.row c.args.me.0))) less c.requires.before
    (get_or_default c.args.before.now c.loop-wire.wire false was within)
    (c.uses.ensures ∙ ap (λ (n : SwitchLists). uses n.row.plan c.args.me.0 (seen_row n.row c.args.me.0) c.loop-wire.wire) c.self.view_is) c.in_ok-tell_one.ensures c.loop-wire.invariant
