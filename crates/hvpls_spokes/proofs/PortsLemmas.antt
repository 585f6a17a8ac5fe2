-- The ports of a service at an edge: as many as the plan counts, its circuits there, each once, and what each port serves.
use Rattle.std.proofs.Common.{◌≡◌, ◌<◌, ◌≤◌, ◌+◌, ◌∙◌, ℕ, suc, Bool, true, false, List, [], ◌∷◌, Some, length, slice_get, position, nat_eq, cond, refl, ap, sym, subst, arith, length-append}
use Rattle.std.proofs.lemmas.Bool.{eqb-true, eq-eqb, lt-ltb}
use Rattle.std.proofs.lemmas.List.Quantifiers.{position-Some}
use Rattle.std.proofs.lemmas.Option.{slice_get-get_or}
use Rattle.std.specs.List.{position_or_len}
use Rattle.net_base.specs.declared.plan.Plan.{Plan}
use Rattle.net_base.specs.declared.plan.circuit_plan.CircuitPlan.{CircuitPlan}
use Rattle.net_base.specs.declared.plan.wire_plan.WirePlan.{WirePlan}
use Rattle.net_base.specs.declared.plan.places.CircuitId.{CircuitId}
use Rattle.net_base.specs.declared.plan.places.EdgeId.{EdgeId}
use Rattle.net_base.specs.declared.plan.places.ServiceId.{ServiceId}
use Rattle.net_base.specs.plan.Accepted.{IsChecked}
use Rattle.net_base.specs.plan.Places.{is_mesh_class}
use Rattle.net_base.specs.plan.PortFaults.{port_count}
use Rattle.net_base.specs.plan.Roles.{is_circuit_at, wire_ends_at}
use Rattle.hvpls_spokes.specs.declared.port.Port.{Port}
use Rattle.hvpls_spokes.specs.declared.port.Port.TheVariants as port
use Rattle.hvpls_spokes.specs.Port.{circuit_ports, ports_of, is_circuit_port, wire_port, wire_ports}
use Rattle.hvpls_spokes.proofs.RowPortLemmas.{circuit_behind, circuit_made, circuits_made, found_below, has_made, in_either, in_front, leads_before, made_at, made_from, made_length, made_rising, no_circuit, same_if_rising, wires_made}

-- a service has as many ports at an edge as the plan counts: in a checked plan at most 512
pub ports_length : (plan : Plan) (service : ServiceId) (edge : EdgeId) → length (ports_of plan service edge) ≡ port_count plan service edge.0
ports_length plan service edge =
    let circuits = ap (λ (ports : List Port). length ports) (circuits_made 0 plan.circuits service edge) ∙ made_length (is_circuit_at service edge.0) circuit_made 0 plan.circuits in
    let wires = ap (λ (ports : List Port). length ports) (wires_made 0 plan.wires service edge) ∙ made_length (wire_ends_at service edge.0) wire_port 0 plan.wires in
    omega (arith, circuits, wires, length-append (circuit_ports 0 plan.circuits service edge) (wire_ports 0 plan.wires service edge))

pub ports_fit : (plan : Plan) (service : ServiceId) (edge : EdgeId) → IsChecked plan → service.0 < length plan.services → edge.0 < length plan.edges → length (ports_of plan service edge) ≤ 512
ports_fit plan service edge checked of_plan at_edge = omega (arith, ports_length plan service edge, checked.ports service edge.0 of_plan at_edge)

-- the port with number p leads to the circuit at this place
pub record LeadsTo (ports : List Port) (p : ℕ) (circuit : ℕ) : Type 0 where
  pub is : slice_get ports p ≡ Some (port.Circuit (record { 0 = circuit }))

-- ports lead to circuits from place k on
pub place_from : (k : ℕ) (rows : List CircuitPlan) (service : ServiceId) (edge : EdgeId) (p c : ℕ) → LeadsTo (circuit_ports k rows service edge) p c → k ≤ c
place_from k rows service edge p c leads =
    made_from circuit_behind refl (is_circuit_at service edge.0) circuit_made (λ place row. refl) k rows p c
    (ap (λ (ports : List Port). circuit_behind (slice_get ports p)) (sym (circuits_made k rows service edge)) ∙ ap circuit_behind leads.is)

-- a later port leads to a later circuit
circuits_rise : (k : ℕ) (rows : List CircuitPlan) (service : ServiceId) (edge : EdgeId) (p q c d : ℕ) → p < q
    → circuit_behind (slice_get (circuit_ports k rows service edge) p) ≡ Some c → circuit_behind (slice_get (circuit_ports k rows service edge) q) ≡ Some d → c < d
circuits_rise k rows service edge p q c d below at_p at_q =
    let made = circuits_made k rows service edge in
    made_rising circuit_behind refl (is_circuit_at service edge.0) circuit_made (λ place row. refl) k rows p q c d below
    (ap (λ (ports : List Port). circuit_behind (slice_get ports p)) (sym made) ∙ at_p)
    (ap (λ (ports : List Port). circuit_behind (slice_get ports q)) (sym made) ∙ at_q)

pub rising : (k : ℕ) (rows : List CircuitPlan) (service : ServiceId) (edge : EdgeId) (p q c d : ℕ) → p < q
    → LeadsTo (circuit_ports k rows service edge) p c → LeadsTo (circuit_ports k rows service edge) q d → c < d
rising k rows service edge p q c d below at_p at_q = circuits_rise k rows service edge p q c d below (ap circuit_behind at_p.is) (ap circuit_behind at_q.is)

-- two ports are one exactly where their circuits are one
pub same_port : (k : ℕ) (rows : List CircuitPlan) (service : ServiceId) (edge : EdgeId) (p q c d : ℕ)
    → LeadsTo (circuit_ports k rows service edge) p c → LeadsTo (circuit_ports k rows service edge) q d → nat_eq p q ≡ nat_eq c d
same_port k rows service edge p q c d at_p at_q =
    same_if_rising circuit_behind refl (circuit_ports k rows service edge) (circuits_rise k rows service edge) p q c d (ap circuit_behind at_p.is) (ap circuit_behind at_q.is)

-- a port that leads to a circuit is one of the circuits
among_circuits : (plan : Plan) (service : ServiceId) (edge : EdgeId) (p c : ℕ) → circuit_behind (slice_get (ports_of plan service edge) p) ≡ Some c
    → circuit_behind (slice_get (circuit_ports 0 plan.circuits service edge) p) ≡ Some c
among_circuits plan service edge p c at =
    leads_before circuit_behind refl (circuit_ports 0 plan.circuits service edge) (wire_ports 0 plan.wires service edge) p c (λ q d. no_circuit 0 plan.wires service edge q d) at

pub same_circuit_port : (plan : Plan) (service : ServiceId) (edge : EdgeId) (p q c d : ℕ) → LeadsTo (ports_of plan service edge) p c → LeadsTo (ports_of plan service edge) q d
    → nat_eq p q ≡ nat_eq c d
same_circuit_port plan service edge p q c d at_p at_q =
    same_if_rising circuit_behind refl (ports_of plan service edge)
    (λ i j a b below at_i at_j. circuits_rise 0 plan.circuits service edge i j a b below (among_circuits plan service edge i a at_i) (among_circuits plan service edge j b at_j))
    p q c d (ap circuit_behind at_p.is) (ap circuit_behind at_q.is)

-- a circuit that serves the service at the edge has a port there
pub record HasPort (ports : List Port) (circuit : ℕ) : Type 0 where
  pub p : ℕ
  pub leads : LeadsTo ports p circuit

pub has_port : (k j c : ℕ) (rows : List CircuitPlan) (row : CircuitPlan) (service : ServiceId) (edge : EdgeId) → c ≡ k + j → slice_get rows j ≡ Some row
    → is_circuit_at service edge.0 row ≡ true → HasPort (circuit_ports k rows service edge) c
has_port k j c rows row service edge place is serve =
    let has = has_made (is_circuit_at service edge.0) circuit_made k j rows row is serve in
    let here = ap (λ (ports : List Port). slice_get ports has.p) (circuits_made k rows service edge) ∙ has.at in
    record { p = has.p; leads = record { is = here ∙ ap (λ (n : ℕ). Some (port.Circuit (record { 0 = n }))) (sym place) } }

pub has_circuit_port : (plan : Plan) (service : ServiceId) (edge : EdgeId) (c : ℕ) (row : CircuitPlan) → slice_get plan.circuits c ≡ Some row → is_circuit_at service edge.0 row ≡ true
    → HasPort (ports_of plan service edge) c
has_circuit_port plan service edge c row is serve =
    let has = has_port 0 c c plan.circuits row service edge (omega arith) is serve in
    record {
      p = has.p;
      leads = record { is = in_front (circuit_ports 0 plan.circuits service edge) (wire_ports 0 plan.wires service edge) has.p (port.Circuit (record { 0 = c })) has.leads.is };
    }

-- the port that is found for a circuit leads to it
pub found_port : (circuit : CircuitId) (ports : List Port) (p : ℕ) → position (is_circuit_port circuit) ports ≡ Some p → LeadsTo ports p circuit.0
found_port circuit ports p e =
    let found = position-Some (is_circuit_port circuit) ports p (port.Circuit (record { 0 = 0 })) e in
    leads_if circuit ports p _ (slice_get-get_or ports p (port.Circuit (record { 0 = 0 })) found.0) found.1 where
      leads_if : (circuit : CircuitId) (ports : List Port) (p : ℕ) (x : Port) → slice_get ports p ≡ Some x → is_circuit_port circuit x ≡ true → LeadsTo ports p circuit.0
      leads_if circuit ports p (port.Circuit at) is test = record { is = is ∙ ap (λ (n : ℕ). Some (port.Circuit (record { 0 = n }))) (eqb-true at.0 circuit.0 test) }
      leads_if circuit ports p (port.Mesh wire) is test = absurd (cc (test))
      leads_if circuit ports p (port.Spoke wire) is test = absurd (cc (test))

-- and one is found where there is one
pub finds_port : (circuit : CircuitId) (ports : List Port) → HasPort ports circuit.0 → (p : ℕ) × (position (is_circuit_port circuit) ports ≡ Some p)
finds_port circuit ports has =
    let below : position_or_len (is_circuit_port circuit) ports < length ports =
    found_below (is_circuit_port circuit) ports has.p (port.Circuit (record { 0 = circuit.0 })) has.leads.is (eq-eqb circuit.0 circuit.0 refl) in
    (position_or_len (is_circuit_port circuit) ports, rw (lt-ltb (position_or_len (is_circuit_port circuit) ports) (length ports) below) refl)

-- a circuit of the plan that serves the service at the edge
pub record IsServed (rows : List CircuitPlan) (service : ServiceId) (edge : EdgeId) (circuit : ℕ) : Type 0 where
  pub row : CircuitPlan
  pub is : slice_get rows circuit ≡ Some row
  pub serve : is_circuit_at service edge.0 row ≡ true

-- a wire of the service in the plan, of which the edge is a terminal edge, and whether it is a mesh wire
pub record IsWired (rows : List WirePlan) (service : ServiceId) (edge : EdgeId) (mesh : Bool) (wire : ℕ) : Type 0 where
  pub row : WirePlan
  pub is : slice_get rows wire ≡ Some row
  pub ends : wire_ends_at service edge.0 row ≡ true
  pub class : is_mesh_class row.class ≡ mesh

-- what a port leads to is of the plan, and serves the service at the edge
abbrev pub IsServedBy : Plan → ServiceId → EdgeId → Port → Type 0
IsServedBy plan service edge (port.Circuit circuit) = IsServed plan.circuits service edge circuit.0
IsServedBy plan service edge (port.Mesh wire) = IsWired plan.wires service edge true wire.0
IsServedBy plan service edge (port.Spoke wire) = IsWired plan.wires service edge false wire.0

abbrev pub AreServed : Plan → ServiceId → EdgeId → List Port → Type 0
AreServed plan service edge [] = Unit {0}
AreServed plan service edge (x ∷ ports) = IsServedBy plan service edge x × AreServed plan service edge ports

circuit_served : (plan : Plan) (service : ServiceId) (edge : EdgeId) (p : ℕ) (x : Port) → slice_get (circuit_ports 0 plan.circuits service edge) p ≡ Some x → IsServedBy plan service edge x
circuit_served plan service edge p x at =
    let made = made_at (is_circuit_at service edge.0) circuit_made 0 plan.circuits p x (ap (λ (ports : List Port). slice_get ports p) (sym (circuits_made 0 plan.circuits service edge)) ∙ at) in
    let place : 0 + made.place ≡ made.place = omega arith in
    let served : IsServed plan.circuits service edge (0 + made.place) = record { row = made.row; is = ap (slice_get plan.circuits) place ∙ made.is; serve = made.passes } in
    subst (λ (y : Port). IsServedBy plan service edge y) (sym made.made) served

wired_by_class : (plan : Plan) (service : ServiceId) (edge : EdgeId) (wire : ℕ) (row : WirePlan) (mesh : Bool) → is_mesh_class row.class ≡ mesh → slice_get plan.wires wire ≡ Some row
    → wire_ends_at service edge.0 row ≡ true
    → IsServedBy plan service edge (cond mesh (port.Mesh (record { 0 = wire })) (port.Spoke (record { 0 = wire })))
wired_by_class plan service edge wire row true class is ends = record { row = row; is = is; ends = ends; class = class }
wired_by_class plan service edge wire row false class is ends = record { row = row; is = is; ends = ends; class = class }

wire_served : (plan : Plan) (service : ServiceId) (edge : EdgeId) (p : ℕ) (x : Port) → slice_get (wire_ports 0 plan.wires service edge) p ≡ Some x → IsServedBy plan service edge x
wire_served plan service edge p x at =
    let made = made_at (wire_ends_at service edge.0) wire_port 0 plan.wires p x (ap (λ (ports : List Port). slice_get ports p) (sym (wires_made 0 plan.wires service edge)) ∙ at) in
    let place : 0 + made.place ≡ made.place = omega arith in
    subst (λ (y : Port). IsServedBy plan service edge y) (sym made.made)
    (wired_by_class plan service edge (0 + made.place) made.row (is_mesh_class made.row.class) refl (ap (slice_get plan.wires) place ∙ made.is) made.passes)

pub served_at : (plan : Plan) (service : ServiceId) (edge : EdgeId) (p : ℕ) (x : Port) → slice_get (ports_of plan service edge) p ≡ Some x → IsServedBy plan service edge x
served_at plan service edge p x at =
    in_either (circuit_ports 0 plan.circuits service edge) (wire_ports 0 plan.wires service edge) p x at
    (λ q here. circuit_served plan service edge q x here)
    (λ q here. wire_served plan service edge q x here)

all_served : (plan : Plan) (service : ServiceId) (edge : EdgeId) (ports : List Port) → ((p : ℕ) (x : Port) → slice_get ports p ≡ Some x → IsServedBy plan service edge x)
    → AreServed plan service edge ports
all_served plan service edge [] at = tt
all_served plan service edge (x ∷ ports) at = (at 0 x refl, all_served plan service edge ports (λ p y there. at (suc p) y there))

pub ports_served : (plan : Plan) (service : ServiceId) (edge : EdgeId) → AreServed plan service edge (ports_of plan service edge)
ports_served plan service edge = all_served plan service edge (ports_of plan service edge) (λ p x at. served_at plan service edge p x at)
