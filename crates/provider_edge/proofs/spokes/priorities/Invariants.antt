use Rattle.std.proofs.Common.{◌≡◌, ◌++◌, drop, map}
use Rattle.net_base.specs.declared.plan.wire_plan.WirePlan.{WirePlan}
use Rattle.provider_edge.proofs.spokes.priorities.Given as goal

abbrev pub invariant-loop-place : goal.invariant-loop-place
invariant-loop-place l = l.priorities.items ++ map (λ (row : WirePlan). row.priority) (drop l.place l.rows) ≡ map (λ (row : WirePlan). row.priority) l.rows
