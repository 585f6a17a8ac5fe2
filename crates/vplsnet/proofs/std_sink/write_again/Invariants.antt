-- A write that was interrupted took nothing.
use Rattle.std.specs.Io.KnownBytes.{Keeps}
use Rattle.vplsnet.proofs.std_sink.write_again.Given as goal

abbrev pub invariant-loop : goal.invariant-loop
invariant-loop g l = Keeps (g.W.Write.contents l.fn.writer) (g.W.Write.contents l.writer)
