-- The ports of a service at an edge stand in order: so each is found by halves.
use Rattle.std.proofs.Common.{◌≡◌, ◌<◌, ◌≤◌, ◌+◌, ◌∙◌, ℕ, Bool, true, false, List, [], ◌∷◌, length, slice_get, position, cond, refl, sym, subst, arith}
use Rattle.std.specs.List.{All}
use Rattle.std.specs.List.Sorted.{IsPartitionedBy, IsPartitionPoint}
use Rattle.std.proofs.lemmas.Bool.{cond_both, eqb-true, lt-ltb, true≢false}
use Rattle.std.proofs.lemmas.Bool.Decides.{nat_tests}
use Rattle.std.proofs.lemmas.List.Elements.{All-cons}
use Rattle.std.proofs.lemmas.List.Kept.{AllPairs-cons}
use Rattle.net_base.specs.declared.plan.Plan.{Plan}
use Rattle.net_base.specs.declared.plan.wire_plan.WirePlan.{WirePlan}
use Rattle.net_base.specs.declared.plan.places.CircuitId.{CircuitId}
use Rattle.net_base.specs.declared.plan.places.EdgeId.{EdgeId}
use Rattle.net_base.specs.declared.plan.places.ServiceId.{ServiceId}
use Rattle.net_base.specs.plan.Places.{is_mesh_class}
use Rattle.net_base.specs.plan.Roles.{is_circuit_at, wire_ends_at}
use Rattle.hvpls_spokes.specs.Search.{place_if}
use Rattle.hvpls_spokes.proofs.SearchLemmas.{first_behind, pairs_append}
use Rattle.hvpls_spokes.specs.declared.port.Port.{Port}
use Rattle.hvpls_spokes.specs.declared.port.Port.TheVariants as port
use Rattle.hvpls_spokes.specs.declared.port_name.PortName.{PortName}
use Rattle.hvpls_spokes.specs.declared.port_name.PortName.TheVariants as name
use Rattle.hvpls_spokes.specs.Port.{ArePortsInOrder, circuit_ports, is_named_port, port_name_of, ports_of, precedes, wire_port, wire_ports}
use Rattle.hvpls_spokes.proofs.RowPortLemmas.{circuit_made, circuits_made, made_ports, wires_made}

-- the first port comes before the second one
abbrev Precedes : Port → Port → Type 0
Precedes first second = precedes (port_name_of second) first ≡ true

-- ---- ports that are made of rows in order

-- what holds of a port of each later row holds of all that are made
all_made : {Row : Type 0} (P : Port → Type 0) (test : Row → Bool) (make : ℕ → Row → Port) (k : ℕ) (rows : List Row) → ((place : ℕ) (row : Row) → k ≤ place → P (make place row))
    → All P (made_ports test make k rows)
all_made P test make k [] each = λ j d within. absurd (omega (arith, within))
all_made P test make k (row ∷ rows) each =
    let later : All P (made_ports test make (k + 1) rows) = all_made P test make (k + 1) rows (λ place r from. each place r (omega (arith, from))) in
    cond_both (test row) (make k row ∷ made_ports test make (k + 1) rows) (made_ports test make (k + 1) rows) (All P)
    (λ _. All-cons P (make k row) (made_ports test make (k + 1) rows) (each k row (omega arith)) later)
    (λ _. later)

made_in_order : {Row : Type 0} (test : Row → Bool) (make : ℕ → Row → Port) → ((i j : ℕ) (r s : Row) → i < j → Precedes (make i r) (make j s)) → (k : ℕ) (rows : List Row)
    → ArePortsInOrder (made_ports test make k rows)
made_in_order test make rise k [] = λ i j d below within. absurd (omega (arith, within))
made_in_order test make rise k (row ∷ rows) =
    let rest : List Port = made_ports test make (k + 1) rows in
    let later : ArePortsInOrder rest = made_in_order test make rise (k + 1) rows in
    cond_both (test row) (make k row ∷ rest) rest ArePortsInOrder
    (λ _. AllPairs-cons Precedes (make k row) rest (all_made (Precedes (make k row)) test make (k + 1) rows (λ place r from. rise k place row r (omega (arith, from)))) later)
    (λ _. later)

wires_rise : (i j : ℕ) (r s : WirePlan) → i < j → Precedes (wire_port i r) (wire_port j s)
wires_rise i j r s below = by (is_mesh_class r.class) (is_mesh_class s.class)
  where
    by : (a b : Bool) → Precedes (cond a (port.Mesh (record { 0 = i })) (port.Spoke (record { 0 = i }))) (cond b (port.Mesh (record { 0 = j })) (port.Spoke (record { 0 = j })))
    by true true = lt-ltb i j below
    by true false = lt-ltb i j below
    by false true = lt-ltb i j below
    by false false = lt-ltb i j below

-- each circuit comes before each wire
circuit_first : (circuit : CircuitId) (place : ℕ) (row : WirePlan) → Precedes (port.Circuit circuit) (wire_port place row)
circuit_first circuit place row = by (is_mesh_class row.class)
  where
    by : (mesh : Bool) → Precedes (port.Circuit circuit) (cond mesh (port.Mesh (record { 0 = place })) (port.Spoke (record { 0 = place })))
    by true = refl
    by false = refl

circuits_first : (plan : Plan) (service : ServiceId) (edge : EdgeId) → All (λ x. All (Precedes x) (wire_ports 0 plan.wires service edge)) (circuit_ports 0 plan.circuits service edge)
circuits_first plan service edge =
    rw (circuits_made 0 plan.circuits service edge, wires_made 0 plan.wires service edge)
    (all_made (λ x. All (Precedes x) (made_ports (wire_ends_at service edge.0) wire_port 0 plan.wires)) (is_circuit_at service edge.0) circuit_made 0 plan.circuits
    (λ place row from. all_made (Precedes (circuit_made place row)) (wire_ends_at service edge.0) wire_port 0 plan.wires (λ at wire later. circuit_first (record { 0 = place }) at wire)))

pub ports_in_order : (plan : Plan) (service : ServiceId) (edge : EdgeId) → ArePortsInOrder (ports_of plan service edge)
ports_in_order plan service edge =
    pairs_append Precedes (circuit_ports 0 plan.circuits service edge) (wire_ports 0 plan.wires service edge)
    (subst ArePortsInOrder (sym (circuits_made 0 plan.circuits service edge)) (made_in_order (is_circuit_at service edge.0) circuit_made (λ i j r s below. lt-ltb i j below) 0 plan.circuits))
    (subst ArePortsInOrder (sym (wires_made 0 plan.wires service edge)) (made_in_order (wire_ends_at service edge.0) wire_port wires_rise 0 plan.wires))
    (circuits_first plan service edge)

-- ---- the search of a port

before_named : (named : PortName) (x y : Port) → Precedes x y → precedes named y ≡ true → precedes named x ≡ true
before_named (name.Circuit circuit) (port.Circuit a) (port.Circuit b) first under = grind (arith, nat_tests, first, under)
before_named (name.Circuit circuit) (port.Mesh wire) (port.Circuit b) first under = absurd (cc (first))
before_named (name.Circuit circuit) (port.Spoke wire) (port.Circuit b) first under = absurd (cc (first))
before_named (name.Circuit circuit) x (port.Mesh wire) first under = absurd (cc (under))
before_named (name.Circuit circuit) x (port.Spoke wire) first under = absurd (cc (under))
before_named (name.Wire wire) (port.Circuit a) y first under = refl
before_named (name.Wire wire) (port.Mesh a) (port.Circuit b) first under = absurd (cc (first))
before_named (name.Wire wire) (port.Mesh a) (port.Mesh b) first under = grind (arith, nat_tests, first, under)
before_named (name.Wire wire) (port.Mesh a) (port.Spoke b) first under = grind (arith, nat_tests, first, under)
before_named (name.Wire wire) (port.Spoke a) (port.Circuit b) first under = absurd (cc (first))
before_named (name.Wire wire) (port.Spoke a) (port.Mesh b) first under = grind (arith, nat_tests, first, under)
before_named (name.Wire wire) (port.Spoke a) (port.Spoke b) first under = grind (arith, nat_tests, first, under)

not_before_named : (named : PortName) (x : Port) → is_named_port named x ≡ true → precedes named x ≡ false
not_before_named (name.Circuit circuit) (port.Circuit at) named = grind (arith, nat_tests, named)
not_before_named (name.Circuit circuit) (port.Mesh at) named = refl
not_before_named (name.Circuit circuit) (port.Spoke at) named = refl
not_before_named (name.Wire wire) (port.Circuit at) named = absurd (cc (named))
not_before_named (name.Wire wire) (port.Mesh at) named = grind (arith, nat_tests, named)
not_before_named (name.Wire wire) (port.Spoke at) named = grind (arith, nat_tests, named)

-- what comes before the port of this name comes before the name
one_named : (named : PortName) (x y : Port) → Precedes x y → is_named_port named y ≡ true → precedes named x ≡ true
one_named (name.Circuit circuit) x (port.Circuit at) first named = subst (λ (n : ℕ). precedes (name.Circuit (record { 0 = n })) x ≡ true) (eqb-true at.0 circuit.0 named) first
one_named (name.Circuit circuit) x (port.Mesh at) first named = absurd (cc (named))
one_named (name.Circuit circuit) x (port.Spoke at) first named = absurd (cc (named))
one_named (name.Wire wire) x (port.Circuit at) first named = absurd (cc (named))
one_named (name.Wire wire) x (port.Mesh at) first named = subst (λ (n : ℕ). precedes (name.Wire (record { 0 = n })) x ≡ true) (eqb-true at.0 wire.0 named) first
one_named (name.Wire wire) x (port.Spoke at) first named = subst (λ (n : ℕ). precedes (name.Wire (record { 0 = n })) x ≡ true) (eqb-true at.0 wire.0 named) first

-- where the ports end that come before that of a name, that one stands, if there is one
pub named_behind : (named : PortName) (ports : List Port) (k : ℕ) → ArePortsInOrder ports → k ≤ length ports
    → (IsPartitionedBy (precedes named) ports → IsPartitionPoint (λ x. precedes named x ≡ true) (λ x. precedes named x ≡ false) ports k)
    → position (is_named_port named) ports ≡ place_if (is_named_port named) k (slice_get ports k)
named_behind named ports k ordered bound ends =
    (first_behind Precedes (precedes named) (is_named_port named) ports k ordered (before_named named) (not_before_named named)
    (λ x y first here behind. absurd (true≢false (sym (one_named named x y first here) ∙ behind)))
    bound ends).place
