use Rattle.std.proofs.Common.{◌≡◌}
use Rattle.octet_pipes.specs.Pipes.{emptied_to, pipes_of}
use Rattle.octet_pipes.proofs.pipes.Pipes.clear_to.Given as goal

abbrev pub invariant-loop-from : goal.invariant-loop-from
invariant-loop-from l = record {
  size : l.self.size ≡ l.fn.self.size;
  emptied : pipes_of l.self ≡ emptied_to l.to.0 l.from (pipes_of l.fn.self);
}
