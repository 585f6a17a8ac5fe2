use Rattle.switchover_net.proofs.PlayLemmas.{IsPlayed}
use Rattle.switchover_net.proofs.script.play_lines.Given as goal

abbrev pub invariant-loop-place : goal.invariant-loop-place
invariant-loop-place l = IsPlayed l.fn.network.row.plan l.lines l.place l.network l.told
