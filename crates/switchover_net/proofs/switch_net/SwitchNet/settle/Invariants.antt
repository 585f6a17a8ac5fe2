use Rattle.switchover_net.proofs.LineLemmas.{AreSettled}
use Rattle.switchover_net.proofs.switch_net.SwitchNet.settle.Given as goal

abbrev pub invariant-loop-time : goal.invariant-loop-time
invariant-loop-time l = AreSettled l.fn.self.row.plan l.count l._time l.fn.self l.self l.fn.work.out l.work.out
