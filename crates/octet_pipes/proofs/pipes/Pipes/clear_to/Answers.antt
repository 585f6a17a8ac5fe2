use Rattle.std.proofs.Common.{ap, arith, length}
use Rattle.octet_pipes.specs.Pipes.{PipeLists, pipes_of}
use Rattle.octet_pipes.proofs.PipeLemmas.{emptied_end}
use Rattle.octet_pipes.proofs.pipes.Pipes.clear_to.Goals as goal

pub returns-clause-empty : goal.returns-clause-empty
returns-clause-empty c =
    emptied_end c.args.self.now c.args.to.0 c.loop-from.from (pipes_of c.loop-from.self)
    (omega (arith, c.loop-from-test.false, c.len-size.ensures, ap (λ (p : PipeLists). length p.rows) c.self.view_is)) c.loop-from.invariant.emptied
