use Rattle.std.proofs.Common.{◌≡◌, ◌++◌, drop}
use Rattle.switchover_model.specs.Text.{said_entries}
use Rattle.switchover_net.proofs.switch_net.steps.say_all.Given as goal

abbrev pub invariant-loop-place : goal.invariant-loop-place
invariant-loop-place l = l.out ++ said_entries l.me.0 (drop l.place l.calls) ≡ l.fn.out ++ said_entries l.me.0 l.calls
