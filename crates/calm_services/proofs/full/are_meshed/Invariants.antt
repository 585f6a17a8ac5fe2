use Rattle.std.proofs.Common.{◌≡◌, ◌==◌, ◌&&◌, ◌||◌, true}
use Rattle.std.specs.Prelude.{not}
use Rattle.net_base.specs.plan.Roles.{all_below}
use Rattle.calm_services.specs.EdgePairs.{has_pair, is_core_of}
use Rattle.calm_services.proofs.full.are_meshed.Given as goal

abbrev pub invariant-loop-a : goal.invariant-loop-a
invariant-loop-a l = all_below l.a (λ a. all_below l.count (λ b. not (is_core_of l.edges a && is_core_of l.edges b) || (a == b || has_pair l.pairs a b))) ≡ true
