use Rattle.std.proofs.Common.{◌≡◌}
use Rattle.switchover_model.specs.Text.{used}
use Rattle.switchover_net.specs.Rows.{seen_row}
use Rattle.switchover_net.proofs.LineLemmas.{AreDelivered}
use Rattle.switchover_net.proofs.switch_net.SwitchNet.deliver.Given as goal

abbrev pub invariant-loop-octet : goal.invariant-loop-octet
invariant-loop-octet l = record {
  delivered : AreDelivered l.fn.self.row.plan l.way.from.0 l.way.to.0 l.count l._octet l.fn.self l.self l.fn.work.out l.work.out;
  used : l.used.items ≡ used l.self.row.plan l.way.to.0 (seen_row l.self.row l.way.to.0);
}
