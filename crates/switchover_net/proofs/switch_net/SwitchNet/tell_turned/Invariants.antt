use Rattle.std.proofs.Common.{◌≡◌, ◌++◌, ◌-◌, drop, length}
use Rattle.switchover_model.specs.Text.{turned_all, used, used_from}
use Rattle.switchover_net.specs.Rows.{seen_row}
use Rattle.switchover_net.proofs.switch_net.SwitchNet.tell_turned.Given as goal

abbrev pub invariant-loop-wire : goal.invariant-loop-wire
invariant-loop-wire l =
    l.out ++ turned_all l.me.0 l.wire (drop l.wire l.before) (used_from l.self.row.plan l.me.0 (seen_row l.self.row l.me.0) l.wire (length l.self.row.plan.wires - l.wire))
    ≡ l.fn.out ++ turned_all l.me.0 0 l.before (used l.self.row.plan l.me.0 (seen_row l.self.row l.me.0))
