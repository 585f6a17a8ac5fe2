use Rattle.std.proofs.Common.{◌≡◌}
use Rattle.octet_pipes.specs.Pipes.{pipes_of}
use Rattle.switchover_net.proofs.PipeLemmas.{ArePut}
use Rattle.switchover_net.proofs.waiting.put_all.Given as goal

abbrev pub invariant-loop-place : goal.invariant-loop-place
invariant-loop-place l = record {
  size : l.pipes.size ≡ l.fn.pipes.size;
  put : ArePut l.from.0 l.to.0 l.calls l.place (pipes_of l.fn.pipes) (pipes_of l.pipes);
}
