use Rattle.std.proofs.Common.{◌≡◌, ◌++◌, ◌-◌, length}
use Rattle.switchover_model.specs.Text.{used, used_from}
use Rattle.switchover_net.specs.Rows.{seen_row}
use Rattle.switchover_net.proofs.edge_row.EdgeRow.used.Given as goal

abbrev pub invariant-loop-wire : goal.invariant-loop-wire
invariant-loop-wire l = l.used.items ++ used_from l.self.plan l.me.0 (seen_row l.self l.me.0) l.wire (length l.self.plan.wires - l.wire) ≡ used l.self.plan l.me.0 (seen_row l.self l.me.0)
