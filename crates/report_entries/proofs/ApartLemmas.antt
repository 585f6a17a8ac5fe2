-- No circuit of a checked plan has the name of a wire, and neither is a dash.
use Rattle.std.proofs.Common.{◌≡◌, ◌<◌, ◌+◌, ◌++◌, ◌∙◌, ℕ, codes, false, List, [], length, map, get_or, refl, sym, ap, subst, arith, length-append}
use Rattle.std.proofs.lemmas.List.{get_or-append-add, get_or_append_left, length-map}
use Rattle.std.specs.Str.{bytes_eq}
use Rattle.net_base.specs.declared.plan.Plan.{Plan}
use Rattle.net_base.specs.declared.plan.circuit_plan.CircuitPlan.{CircuitPlan}
use Rattle.net_base.specs.declared.plan.wire_plan.WirePlan.{WirePlan}
use Rattle.net_base.specs.declared.plan.places.CircuitId.{CircuitId}
use Rattle.net_base.specs.declared.plan.places.WireId.{WireId}
use Rattle.net_base.specs.plan.Accepted.{IsChecked, NonePair}
use Rattle.net_base.specs.plan.NameFaults.{circuit_names, edge_names, service_names, wire_names}
use Rattle.net_values.specs.Name.{IsName}
use Rattle.net_values.proofs.BoolLemmas.{clash}
use Rattle.net_values.proofs.RowLemmas.{octets_unlike}
use Rattle.line_shapes.specs.Words.{circuit_name, wire_name}
use Rattle.plan_names.specs.Planned.{HasNames}
use Rattle.line_shapes.proofs.NameLemmas.{row_name}
use Rattle.report_text.specs.Named.{HasNamesApart}
use Rattle.event_rows.specs.Rows.{IsCircuit, IsWire}

-- of two lists one behind the other
across : (a b : List (List ℕ)) (i j : ℕ) → NonePair bytes_eq (a ++ b) → i < length a → j < length b → bytes_eq (get_or a i []) (get_or b j []) ≡ false
across a b i j none lt under =
    ap (λ (w : List ℕ). bytes_eq w (get_or b j [])) (sym (get_or_append_left a b [] i lt))
    ∙ (ap (λ (w : List ℕ). bytes_eq (get_or (a ++ b) i []) w) (sym (get_or-append-add a b j []))
    ∙ none i (length a + j) [] (omega (arith, lt)) (omega (arith, under, length-append a b)))

no_dash : (name : List ℕ) → IsName name → name ≡ codes "-" → ⊥
no_dash name is same = clash (subst IsName same is)

pub names_apart : (plan : Plan) → IsChecked plan → HasNames plan → HasNamesApart plan
names_apart plan checked names = record {
  apart = λ circuit wire here there same. octets_unlike (circuit_name plan circuit) (wire_name plan wire) (
      ap (λ (w : List ℕ). bytes_eq w (wire_name plan wire)) (circuit_is circuit here)
      ∙ (ap (λ (w : List ℕ). bytes_eq (get_or (circuit_names plan.circuits) circuit.0 []) w) (wire_is wire there)
      ∙ (ap (λ (w : List ℕ). bytes_eq w (get_or (wire_names plan.wires) wire.0 [])) (sym (get_or-append-add front (circuit_names plan.circuits) circuit.0 []))
      ∙ across (front ++ circuit_names plan.circuits) (wire_names plan.wires) (length front + circuit.0) wire.0 checked.names
      (omega (arith, length-append front (circuit_names plan.circuits), named (λ (row : CircuitPlan). row.name) plan.circuits, here)) (rw length-map there)))) same;
  circuits = λ circuit here same. no_dash (circuit_name plan circuit) (subst IsName (sym (circuit_is circuit here)) (names.circuits.each circuit.0 [] (rw length-map here))) same;
  wires = λ wire there same. no_dash (wire_name plan wire) (subst IsName (sym (wire_is wire there)) (names.wires.each wire.0 [] (rw length-map there))) same;
} where
  front : List (List ℕ)
  front = edge_names plan.edges ++ service_names plan.services

  named : {Y : Type 0} (f : Y → List ℕ) (rows : List Y) → length (map f rows) ≡ length rows
  named f rows = rw length-map refl

  circuit_is : (circuit : CircuitId) → IsCircuit plan circuit → circuit_name plan circuit ≡ get_or (circuit_names plan.circuits) circuit.0 []
  circuit_is circuit here = row_name (λ (row : CircuitPlan). row.name) plan.circuits circuit.0 here

  wire_is : (wire : WireId) → IsWire plan wire → wire_name plan wire ≡ get_or (wire_names plan.wires) wire.0 []
  wire_is wire there = row_name (λ (row : WirePlan). row.name) plan.wires wire.0 there
