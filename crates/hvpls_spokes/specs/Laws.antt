-- What holds of the ports of every checked plan.
use Rattle.std.specs.Prelude.{◌≡◌, ℕ, true, false}
use Rattle.net_base.specs.declared.plan.Plan.{Plan}
use Rattle.net_base.specs.declared.plan.places.EdgeId.{EdgeId}
use Rattle.net_base.specs.declared.plan.places.ServiceId.{ServiceId}
use Rattle.net_base.specs.plan.Accepted.{IsChecked}
use Rattle.net_base.specs.plan.Roles.{is_spoke_edge}
use Rattle.hvpls_spokes.specs.Port.{is_mesh_port, ports_of}

-- no port of a spoke edge of the service is a mesh wire
abbrev pub SpokeEdgesHaveNoMeshPort : Type 0
SpokeEdgesHaveNoMeshPort = (plan : Plan) (service : ServiceId) (edge : EdgeId) (port : ℕ) → IsChecked plan → is_spoke_edge plan service edge.0 ≡ true
    → is_mesh_port (ports_of plan service edge) port ≡ false
