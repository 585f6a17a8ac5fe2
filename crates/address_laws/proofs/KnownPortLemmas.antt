-- Which ports of a service are one: two places of ports are the same where they lead to the same circuit or wire.
use Rattle.std.proofs.Common.{◌≡◌, ℕ, Bool, Some, slice_get, nat_eq}
use Rattle.net_values.proofs.NumberLemmas.{apart_back}
use Rattle.net_base.specs.declared.plan.Plan.{Plan}
use Rattle.net_base.specs.declared.plan.places.EdgeId.{EdgeId}
use Rattle.net_base.specs.declared.plan.places.ServiceId.{ServiceId}
use Rattle.hvpls_spokes.specs.declared.port.Port.{Port}
use Rattle.hvpls_spokes.specs.declared.port.Port.TheVariants as port
use Rattle.hvpls_spokes.specs.Port.{is_circuit_port, is_wire_port, ports_of}
use Rattle.hvpls_spokes.proofs.PortsLemmas.{same_circuit_port}
use Rattle.hvpls_spokes.proofs.WirePortLemmas.{leads_by_mesh, leads_by_spoke, ports_apart, same_wire_port}

-- a port leads where another one does
abbrev pub is_same_port : Port → Port → Bool
is_same_port (port.Circuit circuit) x = is_circuit_port circuit x
is_same_port (port.Mesh wire) x = is_wire_port wire x
is_same_port (port.Spoke wire) x = is_wire_port wire x

-- two places are one where their ports lead to one circuit or wire
pub same_place : (plan : Plan) (service : ServiceId) (edge : EdgeId) (p q : ℕ) (x y : Port) → slice_get (ports_of plan service edge) p ≡ Some x → slice_get (ports_of plan service edge) q ≡ Some y
    → nat_eq p q ≡ is_same_port y x
same_place plan service edge p q (port.Circuit c) (port.Circuit d) first second = same_circuit_port plan service edge p q c.0 d.0 (record { is = first }) (record { is = second })
same_place plan service edge p q (port.Circuit c) (port.Mesh w) first second =
    ports_apart (ports_of plan service edge) p q c.0 w.0 (record { is = first }) (leads_by_mesh (ports_of plan service edge) q w second)
same_place plan service edge p q (port.Circuit c) (port.Spoke w) first second =
    ports_apart (ports_of plan service edge) p q c.0 w.0 (record { is = first }) (leads_by_spoke (ports_of plan service edge) q w second)
same_place plan service edge p q (port.Mesh v) (port.Circuit d) first second =
    apart_back q p (ports_apart (ports_of plan service edge) q p d.0 v.0 (record { is = second }) (leads_by_mesh (ports_of plan service edge) p v first))
same_place plan service edge p q (port.Mesh v) (port.Mesh w) first second =
    same_wire_port plan service edge p q v.0 w.0 (leads_by_mesh (ports_of plan service edge) p v first) (leads_by_mesh (ports_of plan service edge) q w second)
same_place plan service edge p q (port.Mesh v) (port.Spoke w) first second =
    same_wire_port plan service edge p q v.0 w.0 (leads_by_mesh (ports_of plan service edge) p v first) (leads_by_spoke (ports_of plan service edge) q w second)
same_place plan service edge p q (port.Spoke v) (port.Circuit d) first second =
    apart_back q p (ports_apart (ports_of plan service edge) q p d.0 v.0 (record { is = second }) (leads_by_spoke (ports_of plan service edge) p v first))
same_place plan service edge p q (port.Spoke v) (port.Mesh w) first second =
    same_wire_port plan service edge p q v.0 w.0 (leads_by_spoke (ports_of plan service edge) p v first) (leads_by_mesh (ports_of plan service edge) q w second)
same_place plan service edge p q (port.Spoke v) (port.Spoke w) first second =
    same_wire_port plan service edge p q v.0 w.0 (leads_by_spoke (ports_of plan service edge) p v first) (leads_by_spoke (ports_of plan service edge) q w second)
