use Rattle.std.proofs.Common.{◌≡◌, ◌<◌, ◌||◌, ℕ, length}
use Rattle.std.specs.List.{list_any}
use Rattle.hvpls_spokes.specs.PortSet.{holds_port}
use Rattle.net_base.specs.plan.Roles.{is_spoke_from}
use Rattle.calm_services.proofs.service_edges.put_spokes.Given as goal

abbrev pub invariant-putting : goal.invariant-putting
invariant-putting l = (e : ℕ) → e < 512 → list_any (is_spoke_from l.service e) l.rest || holds_port l.edges e ≡ list_any (is_spoke_from l.service e) l.wires || holds_port l.fn.edges e

abbrev pub decreases-putting : goal.decreases-putting
decreases-putting l = length l.rest
