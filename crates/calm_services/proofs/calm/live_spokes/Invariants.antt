use Rattle.std.proofs.Common.{◌≡◌, ◌≤◌, ◌+◌, drop}
use Rattle.net_base.specs.plan.Roles.{count_wires}
use Rattle.calm_services.specs.Calm.{is_spoke_where}
use Rattle.calm_services.proofs.calm.live_spokes.Given as goal

abbrev pub invariant-loop-place : goal.invariant-loop-place
invariant-loop-place g l =
    (l.live ≤ l.place) × (l.live + count_wires (is_spoke_where (g.N.PlannedNetwork.carries l.network) l.service l.edge.0) l.place (drop l.place l.wires)
    ≡ count_wires (is_spoke_where (g.N.PlannedNetwork.carries l.network) l.service l.edge.0) 0 l.wires)
