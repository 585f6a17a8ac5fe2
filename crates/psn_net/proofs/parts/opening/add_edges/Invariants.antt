use Rattle.psn_net.specs.Lists.{AreOpen}
use Rattle.psn_net.proofs.parts.opening.add_edges.Given as goal

abbrev pub invariant-loop-place : goal.invariant-loop-place
invariant-loop-place l = AreOpen l.plan.value l.place l.edges.items
