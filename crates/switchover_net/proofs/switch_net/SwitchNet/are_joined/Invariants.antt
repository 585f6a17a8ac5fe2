use Rattle.std.proofs.Common.{◌≡◌, false}
use Rattle.switchover_model.specs.Network.{some_between}
use Rattle.switchover_net.proofs.switch_net.SwitchNet.are_joined.Given as goal

abbrev pub invariant-loop-wire : goal.invariant-loop-wire
invariant-loop-wire l = some_between l.self.row.plan l.a.0 l.b.0 l.wire ≡ false
