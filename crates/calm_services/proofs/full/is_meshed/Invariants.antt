use Rattle.std.proofs.Common.{◌≡◌, ◌==◌, ◌&&◌, ◌||◌, true}
use Rattle.std.specs.Prelude.{not}
use Rattle.net_base.specs.plan.Roles.{all_below}
use Rattle.calm_services.specs.EdgePairs.{has_pair, is_core_of}
use Rattle.calm_services.proofs.full.is_meshed.Given as goal

abbrev pub invariant-loop-b : goal.invariant-loop-b
invariant-loop-b l = all_below l.b (λ b. not (is_core_of l.edges l.a.0 && is_core_of l.edges b) || (l.a.0 == b || has_pair l.pairs l.a.0 b)) ≡ true
