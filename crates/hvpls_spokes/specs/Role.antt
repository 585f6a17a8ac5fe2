-- What an edge is to a service (RFC 4762 section 10.1).
use Rattle.std.specs.Prelude.{Option, Some, None, if◌then◌else◌}
use Rattle.net_base.specs.declared.plan.Plan.{Plan}
use Rattle.net_base.specs.declared.plan.places.EdgeId.{EdgeId}
use Rattle.net_base.specs.declared.plan.places.ServiceId.{ServiceId}
use Rattle.net_base.specs.plan.Roles.{is_core_edge, is_spoke_edge}
use Rattle.hvpls_spokes.specs.declared.edge_role.Role.{Role}
use Rattle.hvpls_spokes.specs.declared.edge_role.Role.TheVariants as role

-- an edge that starts a spoke of the service, or a core edge of it
abbrev pub role_of : Plan → ServiceId → EdgeId → Option Role
role_of plan service edge =
    if is_spoke_edge plan service edge.0 then Some role.SpokeEdge
    else if is_core_edge plan service edge.0 then Some role.Core
    else None
