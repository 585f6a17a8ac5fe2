-- Which ports of a service are open, and what turns one of them.
use Rattle.std.proofs.Common.{◌≡◌, ◌<◌, ◌&&◌, ◌∙◌, ℕ, Bool, true, false, not, is_some, List, Option, Some, None, cond, length, slice_get, position, nat_eq, refl, ap, sym, subst}
use Rattle.std.proofs.lemmas.Bool.{eq-eqb, eqb-true, ne_eqb}
use Rattle.std.proofs.lemmas.Option.{slice_get_within}
use Rattle.net_values.proofs.BoolLemmas.{first_holds, and_false, and_true}
use Rattle.net_values.proofs.OptionLemmas.{same_number_held}
use Rattle.net_base.specs.declared.plan.Plan.{Plan}
use Rattle.net_base.specs.declared.plan.circuit_plan.CircuitPlan.{CircuitPlan}
use Rattle.net_base.specs.declared.plan.wire_plan.WirePlan.{WirePlan}
use Rattle.net_base.specs.declared.plan.places.CircuitId.{CircuitId}
use Rattle.net_base.specs.declared.plan.places.EdgeId.{EdgeId}
use Rattle.net_base.specs.declared.plan.places.ServiceId.{ServiceId}
use Rattle.net_base.specs.declared.plan.places.WireId.{WireId}
use Rattle.net_base.specs.declared.trace.down.Down.{Down}
use Rattle.net_base.specs.plan.Places.{circuit_row, wire_row}
use Rattle.hvpls_spokes.specs.declared.port.Port.{Port}
use Rattle.hvpls_spokes.specs.declared.port.Port.TheVariants as port
use Rattle.hvpls_spokes.specs.Port.{is_circuit_port, is_wire_port, ports_of, is_wire}
use Rattle.hvpls_spokes.proofs.PortsLemmas.{LeadsTo, IsServed, finds_port, found_port, same_circuit_port, served_at}
use Rattle.hvpls_spokes.proofs.RowPortLemmas.{wire_behind}
use Rattle.hvpls_spokes.proofs.WirePortLemmas.{LeadsToWire, finds_wire_port, found_wire_port, leads_by_mesh, leads_by_spoke, same_wire_port, wired_at}
use Rattle.edge_model.specs.Ends.{is_up}
use Rattle.edge_model.specs.State.{put_at}
use Rattle.edge_forwarding.specs.Domain.{is_found, nothing_told, opens, port_opens}

-- only ports are open
pub opens_within : (on : ℕ → Bool) (told : ℕ → Option Down) (ports : List Port) (p : ℕ) → port_opens on told ports p ≡ true → p < length ports
opens_within on told ports p open_at = within (slice_get ports p) refl open_at where
  within : (x : Option Port) → slice_get ports p ≡ x → opens on told x ≡ true → p < length ports
  within None is open_at = absurd (cc (open_at))
  within (Some x) is open_at = slice_get_within ports p x is

-- ---- circuits

-- a circuit's port after it was turned, and every other port
pub turned_port : (on : ℕ → Bool) (told : ℕ → Option Down) (ports : List Port) (circuit : CircuitId) (turned : Bool) (p q : ℕ) → LeadsTo ports q circuit.0
    → ((c : ℕ) → LeadsTo ports p c → nat_eq p q ≡ nat_eq c circuit.0)
    → cond (nat_eq p q) turned (port_opens on told ports p) ≡ port_opens (put_at on circuit.0 turned) told ports p
turned_port on told ports circuit turned p q leads same = turns (slice_get ports p) refl where
  apart : (x : Option Port) → slice_get ports p ≡ x → ((c : CircuitId) → x ≡ Some (port.Circuit c) → ⊥) → nat_eq p q ≡ false
  apart x is none = ne_eqb p q (λ e. none (record { 0 = circuit.0 }) (sym is ∙ (ap (slice_get ports) e ∙ leads.is)))

  turns : (x : Option Port) → slice_get ports p ≡ x → cond (nat_eq p q) turned (opens on told x) ≡ opens (put_at on circuit.0 turned) told x
  turns None is = ap (λ (b : Bool). cond b turned false) (apart None is (λ c e. absurd (cc (e))))
  turns (Some (port.Circuit c)) is = ap (λ (b : Bool). cond b turned (on c.0)) (same c.0 (record { is = is }))
  turns (Some (port.Mesh wire)) is = ap (λ (b : Bool). cond b turned (is_up (told wire.0))) (apart (Some (port.Mesh wire)) is (λ c e. absurd (cc (e))))
  turns (Some (port.Spoke wire)) is = ap (λ (b : Bool). cond b turned (is_up (told wire.0))) (apart (Some (port.Spoke wire)) is (λ c e. absurd (cc (e))))

-- a port is open as it was where it leads to another circuit, or to none
turned_apart : (on : ℕ → Bool) (told : ℕ → Option Down) (ports : List Port) (circuit : CircuitId) (turned : Bool) (p : ℕ) → (LeadsTo ports p circuit.0 → ⊥)
    → port_opens on told ports p ≡ port_opens (put_at on circuit.0 turned) told ports p
turned_apart on told ports circuit turned p none = by (slice_get ports p) refl where
  by : (x : Option Port) → slice_get ports p ≡ x → opens on told x ≡ opens (put_at on circuit.0 turned) told x
  by None at = refl
  by (Some (port.Circuit c)) at =
      ap (λ (b : Bool). cond b turned (on c.0)) (sym (ne_eqb c.0 circuit.0 (λ e. none (record { is = at ∙ ap (λ (n : ℕ). Some (port.Circuit (record { 0 = n }))) e }))))
  by (Some (port.Mesh w)) at = refl
  by (Some (port.Spoke w)) at = refl

-- the ports of a service at an edge after a circuit was turned, by the port that was found for the circuit
pub turned_ports : (plan : Plan) (service : ServiceId) (me : EdgeId) (on : ℕ → Bool) (told : ℕ → Option Down) (circuit : CircuitId) (turned : Bool) (found : Option ℕ) (p : ℕ)
    → found ≡ position (is_circuit_port circuit) (ports_of plan service me)
    → cond (is_found found p) turned (port_opens on told (ports_of plan service me) p) ≡ port_opens (put_at on circuit.0 turned) told (ports_of plan service me) p
turned_ports plan service me on told circuit turned None p is = turned_apart on told (ports_of plan service me) circuit turned p (λ leads.
    let (q, found) = finds_port circuit (ports_of plan service me) (record { p = p; leads = leads }) in
    absurd (cc (is, found)))
turned_ports plan service me on told circuit turned (Some q) p is =
    let leads : LeadsTo (ports_of plan service me) q circuit.0 = found_port circuit (ports_of plan service me) q (sym is) in
    turned_port on told (ports_of plan service me) circuit turned p q leads (λ c to. same_circuit_port plan service me p q c circuit.0 to leads)

-- a port of another service is open as it was
pub turned_elsewhere : (plan : Plan) (on : ℕ → Bool) (told : ℕ → Option Down) (circuit : CircuitId) (row : CircuitPlan) (other : ServiceId) (me : EdgeId) (turned : Bool) (p : ℕ)
    → circuit_row plan circuit ≡ Some row → nat_eq other.0 row.service.0 ≡ false
    → port_opens on told (ports_of plan other me) p ≡ port_opens (put_at on circuit.0 turned) told (ports_of plan other me) p
turned_elsewhere plan on told circuit row other me turned p is apart = turns (slice_get (ports_of plan other me) p) refl where
  differs : (c : CircuitId) → slice_get (ports_of plan other me) p ≡ Some (port.Circuit c) → nat_eq c.0 circuit.0 ≡ false
  differs c at = ne_eqb c.0 circuit.0 (λ e.
      let served : IsServed plan.circuits other me c.0 = served_at plan other me p (port.Circuit c) at in
      let rows : Some served.row ≡ Some row = sym served.is ∙ (ap (slice_get plan.circuits) e ∙ is) in
      let same : served.row ≡ row = cc (rows) in
      let service : served.row.service.0 ≡ other.0 = eqb-true served.row.service.0 other.0 (first_holds (nat_eq served.row.service.0 other.0) (nat_eq served.row.edge.0 me.0) served.serve) in
      let equal : other.0 ≡ row.service.0 = sym service ∙ ap (λ (r : CircuitPlan). r.service.0) same in
      absurd (cc (sym apart ∙ eq-eqb other.0 row.service.0 equal)))

  turns : (x : Option Port) → slice_get (ports_of plan other me) p ≡ x → opens on told x ≡ opens (put_at on circuit.0 turned) told x
  turns None at = refl
  turns (Some (port.Circuit c)) at = ap (λ (b : Bool). cond b turned (on c.0)) (sym (differs c at))
  turns (Some (port.Mesh wire)) at = refl
  turns (Some (port.Spoke wire)) at = refl

-- the port that is found for a circuit is open where the circuit is on
pub found_opens : (on : ℕ → Bool) (told : ℕ → Option Down) (circuit : CircuitId) (ports : List Port) (p : ℕ) → position (is_circuit_port circuit) ports ≡ Some p
    → port_opens on told ports p ≡ on circuit.0
found_opens on told circuit ports p found = ap (opens on told) ((found_port circuit ports p found).is)

-- ---- wires

-- a port is open as it was where it leads to another wire, or to none
pub told_apart : (on : ℕ → Bool) (told : ℕ → Option Down) (ports : List Port) (wire : WireId) (down : Option Down) (p : ℕ) → (LeadsToWire ports p wire.0 → ⊥)
    → port_opens on told ports p ≡ port_opens on (put_at told wire.0 down) ports p
told_apart on told ports wire down p none = by (slice_get ports p) refl where
  other : (at : WireId) → LeadsToWire ports p at.0 → nat_eq at.0 wire.0 ≡ false
  other at leads = ne_eqb at.0 wire.0 (λ e. none (subst (LeadsToWire ports p) e leads))

  by : (x : Option Port) → slice_get ports p ≡ x → opens on told x ≡ opens on (put_at told wire.0 down) x
  by None at = refl
  by (Some (port.Circuit c)) at = refl
  by (Some (port.Mesh w)) at = ap (λ (b : Bool). is_up (cond b down (told w.0))) (sym (other w (leads_by_mesh ports p w at)))
  by (Some (port.Spoke w)) at = ap (λ (b : Bool). is_up (cond b down (told w.0))) (sym (other w (leads_by_spoke ports p w at)))

-- the port of a wire after something was told of its end
pub told_at : (on : ℕ → Bool) (told : ℕ → Option Down) (ports : List Port) (wire : WireId) (down : Option Down) (p : ℕ) → LeadsToWire ports p wire.0
    → is_up down ≡ port_opens on (put_at told wire.0 down) ports p
told_at on told ports wire down p leads = by (slice_get ports p) refl where
  same : (at : WireId) → LeadsToWire ports p at.0 → nat_eq at.0 wire.0 ≡ true
  same at to = eq-eqb at.0 wire.0 (same_number_held at.0 wire.0 (sym to.is ∙ leads.is))

  by : (x : Option Port) → slice_get ports p ≡ x → is_up down ≡ opens on (put_at told wire.0 down) x
  by None at = absurd (cc (sym (ap wire_behind at) ∙ leads.is))
  by (Some (port.Circuit c)) at = absurd (cc (sym (ap wire_behind at) ∙ leads.is))
  by (Some (port.Mesh w)) at = ap (λ (b : Bool). is_up (cond b down (told w.0))) (sym (same w (leads_by_mesh ports p w at)))
  by (Some (port.Spoke w)) at = ap (λ (b : Bool). is_up (cond b down (told w.0))) (sym (same w (leads_by_spoke ports p w at)))

-- the ports of a service at an edge after something was told of a wire, by the port that was found for the wire
pub told_ports : (plan : Plan) (service : ServiceId) (me : EdgeId) (on : ℕ → Bool) (told : ℕ → Option Down) (wire : WireId) (down : Option Down) (found : Option ℕ) (p : ℕ)
    → found ≡ position (is_wire_port wire) (ports_of plan service me)
    → cond (is_found found p) (is_up down) (port_opens on told (ports_of plan service me) p) ≡ port_opens on (put_at told wire.0 down) (ports_of plan service me) p
told_ports plan service me on told wire down None p is = told_apart on told (ports_of plan service me) wire down p (λ leads.
    let (q, found) = finds_wire_port wire (ports_of plan service me) (record { p = p; leads = leads }) in
    absurd (cc (is, found)))
told_ports plan service me on told wire down (Some q) p is = by (nat_eq p q) refl where
  leads : LeadsToWire (ports_of plan service me) q wire.0
  leads = found_wire_port wire (ports_of plan service me) q (sym is)

  by : (same : Bool) → nat_eq p q ≡ same → cond same (is_up down) (port_opens on told (ports_of plan service me) p) ≡ port_opens on (put_at told wire.0 down) (ports_of plan service me) p
  by true same = told_at on told (ports_of plan service me) wire down p (subst (λ (n : ℕ). LeadsToWire (ports_of plan service me) n wire.0) (sym (eqb-true p q same)) leads)
  by false apart = told_apart on told (ports_of plan service me) wire down p (λ to.
      let one : nat_eq p q ≡ nat_eq wire.0 wire.0 = same_wire_port plan service me p q wire.0 wire.0 to leads in
      absurd (cc (sym apart ∙ (one ∙ eq-eqb wire.0 wire.0 refl))))

-- those of another service
pub told_elsewhere : (plan : Plan) (on : ℕ → Bool) (told : ℕ → Option Down) (wire : WireId) (row : WirePlan) (other : ServiceId) (me : EdgeId) (down : Option Down) (p : ℕ)
    → wire_row plan wire ≡ Some row → nat_eq other.0 row.service.0 ≡ false
    → port_opens on told (ports_of plan other me) p ≡ port_opens on (put_at told wire.0 down) (ports_of plan other me) p
told_elsewhere plan on told wire row other me down p is apart = told_apart on told (ports_of plan other me) wire down p (λ leads.
    let (mesh, wired) = wired_at plan other me p wire.0 leads in
    let rows : Some wired.row ≡ Some row = sym wired.is ∙ is in
    let same : wired.row ≡ row = cc (rows) in
    let service : wired.row.service.0 ≡ other.0 = eqb-true wired.row.service.0 other.0 (first_holds (nat_eq wired.row.service.0 other.0) _ wired.ends) in
    let equal : other.0 ≡ row.service.0 = sym service ∙ ap (λ (r : WirePlan). r.service.0) same in
    absurd (cc (sym apart ∙ eq-eqb other.0 row.service.0 equal)))

-- nothing keeps the end from forwarding where there is no cause
pub no_cause : (down : Option Down) (none : Bool) → is_some down ≡ not none → none ≡ is_up down
no_cause None true is = refl
no_cause None false is = absurd (cc (is))
no_cause (Some why) true is = absurd (cc (is))
no_cause (Some why) false is = refl

-- ---- the wires' ports are closed

pub closed_port : (on : ℕ → Bool) (told : ℕ → Option Down) (ports : List Port) (p : ℕ) → (port_opens on told ports p && not (is_wire (slice_get ports p))) ≡ port_opens on nothing_told ports p
closed_port on told ports p = by (slice_get ports p) where
  by : (x : Option Port) → (opens on told x && not (is_wire x)) ≡ opens on nothing_told x
  by None = refl
  by (Some (port.Circuit c)) = and_true (on c.0)
  by (Some (port.Mesh w)) = and_false (is_up (told w.0))
  by (Some (port.Spoke w)) = and_false (is_up (told w.0))

pub same_tests : (f g : ℕ → Bool) → ((p : ℕ) → f p ≡ g p) → f ≡ g
same_tests f g same = λ i p. same p i
