use Rattle.std.proofs.Common.{◌<◌, ◌||◌, Bool, ap, ap₂, arith, length, sym}
use Rattle.std.specs.Prelude.{not}
use Rattle.net_base.specs.declared.plan.Plan.{Plan}
use Rattle.calm_services.specs.EdgePairs.{has_pair}
use Rattle.calm_services.proofs.CalmLemmas.{below_fails}
use Rattle.calm_services.proofs.quiet.are_settled_beside.Goals as goal

pub returns-then-not-is_settled : goal.returns-then-not-is_settled
returns-then-not-is_settled g c =
    let within : c.loop-b.b < length (g.N.PlannedNetwork.plan c.args.network.now).edges = omega (arith, c.loop-b-test.true, c.len-count.ensures, ap (λ (p : Plan). length p.edges) c.plan.ensures.plan) in
    sym (below_fails (λ b. not (has_pair c.args.pairs.now c.args.a b) || g.N.PlannedNetwork.settled c.args.network.now c.args.a b) (length (g.N.PlannedNetwork.plan c.args.network.now).edges) c.loop-b.b within
    (ap₂ (λ (s t : Bool). not s || t) (sym c.if-contains.ensures) (sym c.if-not-is_settled.ensures)))
