use Rattle.std.proofs.Common.{◌≡◌, ◌||◌, true, length}
use Rattle.std.specs.Prelude.{not}
use Rattle.net_base.specs.plan.Roles.{all_below}
use Rattle.calm_services.specs.EdgePairs.{has_pair}
use Rattle.calm_services.proofs.quiet.is_quiet.Given as goal

abbrev pub invariant-loop-a : goal.invariant-loop-a
invariant-loop-a g l =
    all_below l.a (λ a. all_below (length (g.N.PlannedNetwork.plan l.network).edges) (λ b. not (has_pair l.pairs a b) || g.N.PlannedNetwork.settled l.network a b)) ≡ true
