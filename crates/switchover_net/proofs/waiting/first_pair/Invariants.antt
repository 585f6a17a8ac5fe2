use Rattle.switchover_model.specs.Network.{first_differing_pair, is_waiting}
use Rattle.octet_pipes.specs.Pipes.{pipes_of}
use Rattle.switchover_net.proofs.PipeLemmas.{PairsFrom}
use Rattle.switchover_net.proofs.waiting.first_pair.Given as goal

abbrev pub invariant-loop-from : goal.invariant-loop-from
invariant-loop-from l = PairsFrom (λ from to. is_waiting (pipes_of l.pipes from to)) l.pipes.size l.from l.pipes.size
    (first_differing_pair (λ from to. is_waiting (pipes_of l.pipes from to)) l.pipes.size 0 l.pipes.size)
