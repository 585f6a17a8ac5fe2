use Rattle.std.proofs.Common.{◌==◌, ◌&&◌, ◌||◌, sym}
use Rattle.std.specs.Prelude.{not}
use Rattle.net_base.specs.plan.Roles.{all_below}
use Rattle.calm_services.specs.EdgePairs.{has_pair, is_core_of}
use Rattle.calm_services.proofs.CalmLemmas.{below_fails}
use Rattle.calm_services.proofs.full.are_meshed.Goals as goal

pub returns-then-not-is_meshed : goal.returns-then-not-is_meshed
returns-then-not-is_meshed c =
    sym (below_fails (λ a. all_below c.args.count (λ b. not (is_core_of c.args.edges.now a && is_core_of c.args.edges.now b) || (a == b || has_pair c.args.pairs.now a b))) c.args.count c.loop-a.a c.loop-a-test.true
    (sym c.if-not-is_meshed.ensures))
