use Rattle.std.proofs.Common.{◌<◌, ap, arith, length, sym}
use Rattle.net_base.specs.declared.plan.Plan.{Plan}
use Rattle.calm_services.specs.Calm.{has_spoke_where}
use Rattle.calm_services.proofs.CalmLemmas.{below_fails}
use Rattle.calm_services.proofs.calm.has_spokes.Goals as goal

pub returns-then-not-has_spoke : goal.returns-then-not-has_spoke
returns-then-not-has_spoke g c =
    let plan = g.N.PlannedNetwork.plan c.args.network.now in
    let within : c.loop-edge.edge < length plan.edges = omega (arith, c.loop-edge-test.true, c.len-count.ensures, ap (λ (p : Plan). length p.edges) c.plan.ensures.plan) in
    sym (below_fails (has_spoke_where plan (g.N.PlannedNetwork.carries c.args.network.now) c.args.service) (length plan.edges) c.loop-edge.edge within (sym c.if-not-has_spoke.ensures))
