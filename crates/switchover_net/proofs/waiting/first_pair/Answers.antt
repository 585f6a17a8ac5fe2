use Rattle.std.proofs.Common.{◌<◌, ◌∙◌, sym, arith}
use Rattle.switchover_model.specs.Network.{first_differing_pair, is_waiting}
use Rattle.octet_pipes.specs.Pipes.{pipes_of}
use Rattle.switchover_net.proofs.PipeLemmas.{pairs_hit}
use Rattle.switchover_net.proofs.waiting.first_pair.Goals as goal

pub returns-in-Some-clause-first : goal.returns-in-Some-clause-first
returns-in-Some-clause-first c =
    let below : c.loop-from.from < c.args.pipes.now.size = omega (arith, c.loop-from-test.true, c.size-size.ensures) in
    pairs_hit (λ from to. is_waiting (pipes_of c.args.pipes.now from to)) c.args.pipes.now.size c.loop-from.from c.args.pipes.now.size c.in-Some.to
    (first_differing_pair (λ from to. is_waiting (pipes_of c.args.pipes.now from to)) c.args.pipes.now.size 0 c.args.pipes.now.size) below (sym c.in-Some.is ∙ c.first_from.ensures.first) c.loop-from.invariant
