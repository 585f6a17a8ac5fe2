use Rattle.switchover_model.specs.Network.{first_place, is_waiting}
use Rattle.octet_pipes.specs.Pipes.{pipes_of}
use Rattle.switchover_net.proofs.PipeLemmas.{GoesFrom}
use Rattle.switchover_net.proofs.waiting.first_from.Given as goal

abbrev pub invariant-loop-to : goal.invariant-loop-to
invariant-loop-to l = GoesFrom (λ to. is_waiting (pipes_of l.pipes l.from to)) l.to l.pipes.size (first_place (λ to. is_waiting (pipes_of l.pipes l.from to)) 0 l.pipes.size)
