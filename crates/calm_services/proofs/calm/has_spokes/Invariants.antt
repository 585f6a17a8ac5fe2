use Rattle.std.proofs.Common.{◌≡◌, true}
use Rattle.net_base.specs.plan.Roles.{all_below}
use Rattle.calm_services.specs.Calm.{has_spoke_where}
use Rattle.calm_services.proofs.calm.has_spokes.Given as goal

abbrev pub invariant-loop-edge : goal.invariant-loop-edge
invariant-loop-edge g l = all_below l.edge (has_spoke_where (g.N.PlannedNetwork.plan l.network) (g.N.PlannedNetwork.carries l.network) l.service) ≡ true
