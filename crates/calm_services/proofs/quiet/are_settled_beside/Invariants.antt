use Rattle.std.proofs.Common.{◌≡◌, ◌||◌, true}
use Rattle.std.specs.Prelude.{not}
use Rattle.net_base.specs.plan.Roles.{all_below}
use Rattle.calm_services.specs.EdgePairs.{has_pair}
use Rattle.calm_services.proofs.quiet.are_settled_beside.Given as goal

abbrev pub invariant-loop-b : goal.invariant-loop-b
invariant-loop-b g l = all_below l.b (λ b. not (has_pair l.pairs l.a b) || g.N.PlannedNetwork.settled l.network l.a b) ≡ true
