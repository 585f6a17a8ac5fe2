-- A copy that goes out by another port of its service than it came by, and not from mesh wire to mesh wire, arrives from where its
-- frame entered (RFC 4762 section 4.4).
use Rattle.std.proofs.Common.{◌≡◌, ◌&&◌, ◌∙◌, ℕ, Bool, true, false, Some, cond, nat_eq, slice_get, ap, sym, subst}
use Rattle.std.proofs.lemmas.Bool.{eqb-true}
use Rattle.net_values.proofs.BoolLemmas.{second_holds}
use Rattle.net_base.specs.declared.plan.Plan.{Plan}
use Rattle.net_base.specs.declared.plan.circuit_plan.CircuitPlan.{CircuitPlan}
use Rattle.net_base.specs.declared.plan.wire_plan.WirePlan.{WirePlan}
use Rattle.net_base.specs.declared.plan.places.CircuitId.{CircuitId}
use Rattle.net_base.specs.declared.plan.places.EdgeId.{EdgeId}
use Rattle.net_base.specs.declared.plan.places.ServiceId.{ServiceId}
use Rattle.net_base.specs.declared.plan.places.WireId.{WireId}
use Rattle.net_base.specs.plan.Accepted.{IsChecked}
use Rattle.net_base.specs.plan.Places.{wire_row}
use Rattle.net_base.specs.plan.Roles.{is_wire_of, wire_ends_at}
use Rattle.hvpls_spokes.specs.declared.port.Port.{Port}
use Rattle.hvpls_spokes.specs.declared.port.Port.TheVariants as port
use Rattle.hvpls_spokes.specs.Port.{is_mesh, is_mesh_port, ports_of, wire_port}
use Rattle.hvpls_spokes.proofs.PortsLemmas.{IsServed, IsWired, served_at}
use Rattle.hvpls_spokes.proofs.RowPortLemmas.{wire_behind, wire_leads}
use Rattle.hvpls_spokes.proofs.WirePortLemmas.{LeadsToWire, same_wire_port}
use Rattle.edge_model.proofs.PacketLemmas.{mesh_port}
use Rattle.network_model.specs.Calm.{carries, is_calm}
use Rattle.network_model.specs.Reach.{far_of, is_circuit_of, reach}
use Rattle.network_model.specs.State.{NetworkState}
use Rattle.address_laws.proofs.BehindLemmas.{from_circuit, from_mesh, from_spoke}
use Rattle.address_laws.proofs.SpokeHomeLemmas.{IsOfService}

module _ (plan : Plan) (calm : NetworkState) (service : ServiceId) (circuit : CircuitId) (site : IsOfService plan service circuit) (checked : IsChecked plan)
    (calmed : is_calm plan calm service ≡ true)
    (me peer : EdgeId) (wire : WireId) (row : WirePlan) (is : wire_row plan wire ≡ Some row) (ours : is_wire_of service row ≡ true)
    (ends : wire_ends_at service me.0 row ≡ true) (leads : far_of me.0 row.path ≡ Some peer.0) (live : carries plan calm wire.0 row ≡ true)
    (arrival p : ℕ) (to : slice_get (ports_of plan service me) p ≡ Some (wire_port wire.0 row)) (other : nat_eq p arrival ≡ false)
    (apart : is_mesh_port (ports_of plan service me) arrival && is_mesh_port (ports_of plan service me) p ≡ false) where
  -- it came by the circuit itself
  by_circuit : (at : CircuitId) → IsServed plan.circuits service me at.0 → is_circuit_of plan service circuit && nat_eq circuit.0 at.0 ≡ true
      → reach plan calm service peer.0 (wire_port wire.0 row) circuit ≡ true
  by_circuit at served reached =
      from_circuit plan calm service circuit site checked calmed wire.0 row is ours me.0 peer.0 ends leads live
      (subst (λ (r : CircuitPlan). nat_eq r.edge.0 me.0 ≡ true) same (second_holds (nat_eq served.row.service.0 service.0) (nat_eq served.row.edge.0 me.0) served.serve))
    where
      place : circuit.0 ≡ at.0
      place = eqb-true circuit.0 at.0 (second_holds (is_circuit_of plan service circuit) (nat_eq circuit.0 at.0) reached)

      rows : Some served.row ≡ Some site.row
      rows = sym served.is ∙ (ap (slice_get plan.circuits) (sym place) ∙ site.is)

      same : served.row ≡ site.row
      same = cc (rows)

  -- by a mesh wire
  by_mesh : (v : WireId) → slice_get (ports_of plan service me) arrival ≡ Some (port.Mesh v) → IsWired plan.wires service me true v.0
      → reach plan calm service me.0 (port.Mesh v) circuit ≡ true
      → reach plan calm service peer.0 (wire_port wire.0 row) circuit ≡ true
  by_mesh v came wired reached =
      from_mesh plan calm service circuit site checked calmed wire.0 row is ours me.0 peer.0 ends leads live
      v.0 wired.row wired.is wired.class wired.ends
      (ap (λ (mesh : Bool). reach plan calm service me.0 (cond mesh (port.Mesh (record { 0 = v.0 })) (port.Spoke (record { 0 = v.0 }))) circuit) wired.class ∙ reached)
      (sym (mesh_port (ports_of plan service me) p wire.0 row to) ∙ spoke)
    where
      spoke : is_mesh_port (ports_of plan service me) p ≡ false
      spoke = ap (λ (x : Bool). x && is_mesh_port (ports_of plan service me) p) (sym (ap is_mesh came)) ∙ apart

  -- by a spoke
  by_spoke : (v : WireId) → slice_get (ports_of plan service me) arrival ≡ Some (port.Spoke v) → IsWired plan.wires service me false v.0
      → reach plan calm service me.0 (port.Spoke v) circuit ≡ true
      → reach plan calm service peer.0 (wire_port wire.0 row) circuit ≡ true
  by_spoke v came wired reached =
      from_spoke plan calm service circuit site checked calmed wire.0 row is ours me.0 peer.0 ends leads live
      v.0 wired.row wired.is wired.class wired.ends
      (ap (λ (mesh : Bool). reach plan calm service me.0 (cond mesh (port.Mesh (record { 0 = v.0 })) (port.Spoke (record { 0 = v.0 }))) circuit) wired.class ∙ reached)
      (sym (same_wire_port plan service me p arrival wire.0 v.0 leads_out leads_back) ∙ other)
    where
      leads_out : LeadsToWire (ports_of plan service me) p wire.0
      leads_out = record { is = ap wire_behind to ∙ wire_leads wire.0 row }

      leads_back : LeadsToWire (ports_of plan service me) arrival v.0
      leads_back = record { is = ap wire_behind came }

  -- by any port
  pub passes_on : (x : Port) → slice_get (ports_of plan service me) arrival ≡ Some x → reach plan calm service me.0 x circuit ≡ true
      → reach plan calm service peer.0 (wire_port wire.0 row) circuit ≡ true
  passes_on (port.Circuit at) came reached = by_circuit at (served_at plan service me arrival (port.Circuit at) came) reached
  passes_on (port.Mesh v) came reached = by_mesh v came (served_at plan service me arrival (port.Mesh v) came) reached
  passes_on (port.Spoke v) came reached = by_spoke v came (served_at plan service me arrival (port.Spoke v) came) reached
