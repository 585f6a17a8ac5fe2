-- The ports of a service at an edge: its wires that end there, each once, and none of them a circuit.
use Rattle.std.proofs.Common.{◌≡◌, ◌<◌, ◌+◌, ◌∙◌, ℕ, Bool, true, false, List, Option, Some, None, length, slice_get, position, nat_eq, cond, refl, ap, sym, arith, ◌⊎◌, inl, inr}
use Rattle.std.proofs.lemmas.Bool.{eqb-true, eq-eqb, lt-ltb, ne_eqb}
use Rattle.std.proofs.lemmas.List.Quantifiers.{position-Some}
use Rattle.std.proofs.lemmas.Option.{slice_get-get_or}
use Rattle.std.specs.List.{position_or_len}
use Rattle.net_base.specs.declared.plan.Plan.{Plan}
use Rattle.net_base.specs.declared.plan.wire_plan.WirePlan.{WirePlan}
use Rattle.net_base.specs.declared.plan.places.EdgeId.{EdgeId}
use Rattle.net_base.specs.declared.plan.places.ServiceId.{ServiceId}
use Rattle.net_base.specs.declared.plan.places.WireId.{WireId}
use Rattle.net_base.specs.plan.Places.{is_mesh_class}
use Rattle.net_base.specs.plan.Roles.{wire_ends_at}
use Rattle.hvpls_spokes.specs.declared.port.Port.{Port}
use Rattle.hvpls_spokes.specs.declared.port.Port.TheVariants as port
use Rattle.hvpls_spokes.specs.Port.{circuit_ports, ports_of, is_wire_port, wire_port, wire_ports}
use Rattle.hvpls_spokes.proofs.PortsLemmas.{LeadsTo, IsWired, served_at}
use Rattle.hvpls_spokes.proofs.RowPortLemmas.{found_below, has_made, in_back, leads_behind, made_rising, no_wire, same_if_rising, wire_behind, wire_leads, wires_made}

-- the port with number p leads to the wire at this place, as a mesh wire or a spoke wire
pub record LeadsToWire (ports : List Port) (p : ℕ) (wire : ℕ) : Type 0 where
  pub is : wire_behind (slice_get ports p) ≡ Some wire

pub leads_by_mesh : (ports : List Port) (p : ℕ) (wire : WireId) → slice_get ports p ≡ Some (port.Mesh wire) → LeadsToWire ports p wire.0
leads_by_mesh ports p wire at = record { is = ap wire_behind at }

pub leads_by_spoke : (ports : List Port) (p : ℕ) (wire : WireId) → slice_get ports p ≡ Some (port.Spoke wire) → LeadsToWire ports p wire.0
leads_by_spoke ports p wire at = record { is = ap wire_behind at }

pub mesh_or_spoke : (ports : List Port) (p wire : ℕ) → LeadsToWire ports p wire
    → (slice_get ports p ≡ Some (port.Mesh (record { 0 = wire }))) ⊎ (slice_get ports p ≡ Some (port.Spoke (record { 0 = wire })))
mesh_or_spoke ports p wire leads = by_port (slice_get ports p) leads.is where
  by_port : (x : Option Port) → wire_behind x ≡ Some wire → (x ≡ Some (port.Mesh (record { 0 = wire }))) ⊎ (x ≡ Some (port.Spoke (record { 0 = wire })))
  by_port None is = absurd (cc (is))
  by_port (Some (port.Circuit circuit)) is = absurd (cc (is))
  by_port (Some (port.Mesh at)) is =
      let same : at.0 ≡ wire = cc (is) in
      inl (ap (λ (n : ℕ). Some (port.Mesh (record { 0 = n }))) same)
  by_port (Some (port.Spoke at)) is =
      let same : at.0 ≡ wire = cc (is) in
      inr (ap (λ (n : ℕ). Some (port.Spoke (record { 0 = n }))) same)

-- no port leads to a circuit and to a wire
pub no_port_of_both : (ports : List Port) (p circuit wire : ℕ) → LeadsTo ports p circuit → LeadsToWire ports p wire → ⊥
no_port_of_both ports p circuit wire to_circuit to_wire = absurd (cc (sym (ap wire_behind to_circuit.is) ∙ to_wire.is))

pub ports_apart : (ports : List Port) (p q circuit wire : ℕ) → LeadsTo ports p circuit → LeadsToWire ports q wire → nat_eq p q ≡ false
ports_apart ports p q circuit wire at_p at_q =
    ne_eqb p q (λ e. no_port_of_both ports p circuit wire at_p (record { is = ap (λ (i : ℕ). wire_behind (slice_get ports i)) e ∙ at_q.is }))

-- a later port leads to a later wire
wires_rise : (k : ℕ) (rows : List WirePlan) (service : ServiceId) (edge : EdgeId) (p q v w : ℕ) → p < q
    → wire_behind (slice_get (wire_ports k rows service edge) p) ≡ Some v → wire_behind (slice_get (wire_ports k rows service edge) q) ≡ Some w → v < w
wires_rise k rows service edge p q v w below at_p at_q =
    let made = wires_made k rows service edge in
    made_rising wire_behind refl (wire_ends_at service edge.0) wire_port wire_leads k rows p q v w below
    (ap (λ (ports : List Port). wire_behind (slice_get ports p)) (sym made) ∙ at_p)
    (ap (λ (ports : List Port). wire_behind (slice_get ports q)) (sym made) ∙ at_q)

-- a port that leads to a wire stands behind the circuits
among_wires : (plan : Plan) (service : ServiceId) (edge : EdgeId) (p w : ℕ) → wire_behind (slice_get (ports_of plan service edge) p) ≡ Some w
    → (q : ℕ) × (p ≡ length (circuit_ports 0 plan.circuits service edge) + q) × (wire_behind (slice_get (wire_ports 0 plan.wires service edge) q) ≡ Some w)
among_wires plan service edge p w at =
    leads_behind wire_behind refl (circuit_ports 0 plan.circuits service edge) (wire_ports 0 plan.wires service edge) p w (λ q v. no_wire 0 plan.circuits service edge q v) at

ports_rise : (plan : Plan) (service : ServiceId) (edge : EdgeId) (p q v w : ℕ) → p < q
    → wire_behind (slice_get (ports_of plan service edge) p) ≡ Some v → wire_behind (slice_get (ports_of plan service edge) q) ≡ Some w → v < w
ports_rise plan service edge p q v w below at_p at_q =
    let (i, place_p, leads_p) = among_wires plan service edge p v at_p in
    let (j, place_q, leads_q) = among_wires plan service edge q w at_q in
    wires_rise 0 plan.wires service edge i j v w (omega (arith, below, place_p, place_q)) leads_p leads_q

-- two ports are one exactly where their wires are one
pub same_wire_port : (plan : Plan) (service : ServiceId) (edge : EdgeId) (p q v w : ℕ) → LeadsToWire (ports_of plan service edge) p v → LeadsToWire (ports_of plan service edge) q w
    → nat_eq p q ≡ nat_eq v w
same_wire_port plan service edge p q v w at_p at_q = same_if_rising wire_behind refl (ports_of plan service edge) (ports_rise plan service edge) p q v w at_p.is at_q.is

-- a wire of the service, of which the edge is a terminal edge, has a port there
pub record HasWirePort (ports : List Port) (wire : ℕ) : Type 0 where
  pub p : ℕ
  pub leads : LeadsToWire ports p wire

pub has_wire_port : (plan : Plan) (service : ServiceId) (edge : EdgeId) (w : ℕ) (row : WirePlan) → slice_get plan.wires w ≡ Some row → wire_ends_at service edge.0 row ≡ true
    → HasWirePort (ports_of plan service edge) w
has_wire_port plan service edge w row is ends =
    let has = has_made (wire_ends_at service edge.0) wire_port 0 w plan.wires row is ends in
    let circuits : List Port = circuit_ports 0 plan.circuits service edge in
    let place : 0 + w ≡ w = omega arith in
    let there = ap (λ (ports : List Port). slice_get ports has.p) (wires_made 0 plan.wires service edge) ∙ has.at in
    let at = in_back circuits (wire_ports 0 plan.wires service edge) has.p (length circuits + has.p) (wire_port (0 + w) row) refl there in
    record { p = length circuits + has.p; leads = record { is = ap wire_behind at ∙ (wire_leads (0 + w) row ∙ ap Some place) } }

-- the port that is found for a wire leads to it
pub found_wire_port : (wire : WireId) (ports : List Port) (p : ℕ) → position (is_wire_port wire) ports ≡ Some p → LeadsToWire ports p wire.0
found_wire_port wire ports p e =
    let found = position-Some (is_wire_port wire) ports p (port.Mesh (record { 0 = 0 })) e in
    leads_if _ (slice_get-get_or ports p (port.Mesh (record { 0 = 0 })) found.0) found.1 where
      leads_if : (x : Port) → slice_get ports p ≡ Some x → is_wire_port wire x ≡ true → LeadsToWire ports p wire.0
      leads_if (port.Circuit circuit) is test = absurd (cc (test))
      leads_if (port.Mesh at) is test = record { is = ap wire_behind is ∙ ap Some (eqb-true at.0 wire.0 test) }
      leads_if (port.Spoke at) is test = record { is = ap wire_behind is ∙ ap Some (eqb-true at.0 wire.0 test) }

-- and one is found where there is one
finds_at : (wire : WireId) (ports : List Port) (p : ℕ) (x : Port) → slice_get ports p ≡ Some x → is_wire_port wire x ≡ true → (q : ℕ) × (position (is_wire_port wire) ports ≡ Some q)
finds_at wire ports p x is passes =
    let below : position_or_len (is_wire_port wire) ports < length ports = found_below (is_wire_port wire) ports p x is passes in
    (position_or_len (is_wire_port wire) ports, rw (lt-ltb (position_or_len (is_wire_port wire) ports) (length ports) below) refl)

pub finds_wire_port : (wire : WireId) (ports : List Port) → HasWirePort ports wire.0 → (p : ℕ) × (position (is_wire_port wire) ports ≡ Some p)
finds_wire_port wire ports has = elim (mesh_or_spoke ports has.p wire.0 has.leads) [
  | inl mesh ↦ finds_at wire ports has.p (port.Mesh (record { 0 = wire.0 })) mesh (eq-eqb wire.0 wire.0 refl)
  | inr spoke ↦ finds_at wire ports has.p (port.Spoke (record { 0 = wire.0 })) spoke (eq-eqb wire.0 wire.0 refl)
]

-- a port that leads to a wire leads to one that ends there, and is a mesh port or a spoke port by its class
pub wired_at : (plan : Plan) (service : ServiceId) (edge : EdgeId) (p w : ℕ) → LeadsToWire (ports_of plan service edge) p w → (mesh : Bool) × IsWired plan.wires service edge mesh w
wired_at plan service edge p w leads = elim (mesh_or_spoke (ports_of plan service edge) p w leads) [
  | inl at ↦ (true, served_at plan service edge p (port.Mesh (record { 0 = w })) at)
  | inr at ↦ (false, served_at plan service edge p (port.Spoke (record { 0 = w })) at)
]

class_of : (rows : List WirePlan) (service : ServiceId) (edge : EdgeId) (mesh : Bool) (w : ℕ) (row : WirePlan) → IsWired rows service edge mesh w → slice_get rows w ≡ Some row
    → is_mesh_class row.class ≡ mesh
class_of rows service edge mesh w row wired is =
    let found : Some wired.row ≡ Some row = sym wired.is ∙ is in
    let same : row ≡ wired.row = cc (found) in
    ap (λ (r : WirePlan). is_mesh_class r.class) same ∙ wired.class

pub wire_port_is : (plan : Plan) (service : ServiceId) (edge : EdgeId) (p w : ℕ) (row : WirePlan) → LeadsToWire (ports_of plan service edge) p w → slice_get plan.wires w ≡ Some row
    → slice_get (ports_of plan service edge) p ≡ Some (wire_port w row)
wire_port_is plan service edge p w row leads is = elim (mesh_or_spoke (ports_of plan service edge) p w leads) [
  | inl at ↦
      let class = class_of plan.wires service edge true w row (served_at plan service edge p (port.Mesh (record { 0 = w })) at) is in
      at ∙ ap (λ (mesh : Bool). Some (cond mesh (port.Mesh (record { 0 = w })) (port.Spoke (record { 0 = w })))) (sym class)
  | inr at ↦
      let class = class_of plan.wires service edge false w row (served_at plan service edge p (port.Spoke (record { 0 = w })) at) is in
      at ∙ ap (λ (mesh : Bool). Some (cond mesh (port.Mesh (record { 0 = w })) (port.Spoke (record { 0 = w })))) (sym class)
]
