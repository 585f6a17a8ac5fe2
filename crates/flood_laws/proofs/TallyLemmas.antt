-- Counts over the ports of a service at an edge: the one of a circuit counts once, and the ones of wires count as their rows do.
use Rattle.std.proofs.Common.{◌≡◌, ◌<◌, ◌+◌, ◌++◌, ◌∙◌, ℕ, zero, suc, Bool, true, false, List, [], ◌∷◌, Option, Some, None, cond, slice_get, nat_eq, refl, ap, sym, arith}
use Rattle.std.proofs.lemmas.Bool.{ne_eqb}
use Rattle.net_values.proofs.NumberLemmas.{add_zero, step_into, from_none_back}
use Rattle.net_base.specs.declared.plan.circuit_plan.CircuitPlan.{CircuitPlan}
use Rattle.net_base.specs.declared.plan.wire_plan.WirePlan.{WirePlan}
use Rattle.net_base.specs.declared.plan.places.EdgeId.{EdgeId}
use Rattle.net_base.specs.declared.plan.places.ServiceId.{ServiceId}
use Rattle.net_base.specs.plan.Roles.{is_circuit_at, wire_ends_at}
use Rattle.hvpls_spokes.specs.declared.port.Port.{Port}
use Rattle.hvpls_spokes.specs.declared.port.Port.TheVariants as port
use Rattle.hvpls_spokes.specs.Port.{circuit_ports, wire_port, wire_ports}
use Rattle.flood_laws.specs.Due.{sum_wires}

-- a sum over ports
abbrev pub tally : (Port → ℕ) → List Port → ℕ
tally count [] = 0
tally count (x ∷ xs) = count x + tally count xs

-- over two lists of ports one after the other
pub tally-append : (count : Port → ℕ) (xs ys : List Port) → tally count (xs ++ ys) ≡ tally count xs + tally count ys
tally-append count [] ys = omega arith
tally-append count (x ∷ xs) ys = omega (arith, tally-append count xs ys)

tally_if : (count : Port → ℕ) (passes : Bool) (x : Port) (rest : List Port) → tally count (cond passes (x ∷ rest) rest) ≡ cond passes (count x) 0 + tally count rest
tally_if count true x rest = refl
tally_if count false x rest = omega arith

none_if : (passes : Bool) (n : ℕ) → n ≡ 0 → cond passes n 0 ≡ 0
none_if true n none = none
none_if false n none = refl

-- ---- circuits

-- the row is of a circuit of the service at the edge
abbrev pub serves_row : ServiceId → EdgeId → Option CircuitPlan → Bool
serves_row service edge None = false
serves_row service edge (Some row) = is_circuit_at service edge.0 row

-- ports that lead to other circuits than one count nothing
module _ (count : Port → ℕ) (c : ℕ) (others : (k : ℕ) → nat_eq k c ≡ false → count (port.Circuit (record { 0 = k })) ≡ 0) where
  -- no port of circuits from place k on leads to an earlier one
  tally_earlier : (k : ℕ) (rows : List CircuitPlan) (service : ServiceId) (edge : EdgeId) → c < k → tally count (circuit_ports k rows service edge) ≡ 0
  tally_earlier k [] service edge earlier = refl
  tally_earlier k (row ∷ rows) service edge earlier =
      let apart : nat_eq k c ≡ false = ne_eqb k c (λ same. absurd (omega arith)) in
      let rest = tally_earlier (k + 1) rows service edge (omega arith) in
      let here = tally_if count (is_circuit_at service edge.0 row) (port.Circuit (record { 0 = k })) (circuit_ports (k + 1) rows service edge) in
      let none = none_if (is_circuit_at service edge.0 row) (count (port.Circuit (record { 0 = k }))) (others k apart) in
      omega (arith, rest, here, none)

  -- the port of that circuit counts, where it has one
  pub tally_circuits : (k j : ℕ) (rows : List CircuitPlan) (service : ServiceId) (edge : EdgeId) → c ≡ k + j
      → tally count (circuit_ports k rows service edge) ≡ cond (serves_row service edge (slice_get rows j)) (count (port.Circuit (record { 0 = c }))) 0
  tally_circuits k j [] service edge place = refl
  tally_circuits k zero (row ∷ rows) service edge place =
      let same : k ≡ c = omega arith in
      let rest = tally_earlier (k + 1) rows service edge (omega arith) in
      let here = tally_if count (is_circuit_at service edge.0 row) (port.Circuit (record { 0 = k })) (circuit_ports (k + 1) rows service edge) in
      let met : cond (is_circuit_at service edge.0 row) (count (port.Circuit (record { 0 = k }))) 0 ≡ cond (is_circuit_at service edge.0 row) (count (port.Circuit (record { 0 = c }))) 0 =
      ap (λ (n : ℕ). cond (is_circuit_at service edge.0 row) (count (port.Circuit (record { 0 = n }))) 0) same in
      omega (arith, rest, here, met)
  tally_circuits k (suc j) (row ∷ rows) service edge place =
      let apart : nat_eq k c ≡ false = ne_eqb k c (λ same. absurd (omega arith)) in
      let rest = tally_circuits (k + 1) j rows service edge (omega arith) in
      let here = tally_if count (is_circuit_at service edge.0 row) (port.Circuit (record { 0 = k })) (circuit_ports (k + 1) rows service edge) in
      let none = none_if (is_circuit_at service edge.0 row) (count (port.Circuit (record { 0 = k }))) (others k apart) in
      omega (arith, rest, here, none)

-- ---- wires

-- a sum over the ports of wires is one over their rows
pub tally_wires : (count : Port → ℕ) (k : ℕ) (rows : List WirePlan) (service : ServiceId) (edge : EdgeId)
    → tally count (wire_ports k rows service edge) ≡ sum_wires (λ place row. cond (wire_ends_at service edge.0 row) (count (wire_port place row)) 0) k rows
tally_wires count k [] service edge = refl
tally_wires count k (row ∷ rows) service edge =
    omega (arith, tally_if count (wire_ends_at service edge.0 row) (wire_port k row) (wire_ports (k + 1) rows service edge), tally_wires count (k + 1) rows service edge)

-- each row of a list counts the same in two ways
module _ (f g : ℕ → WirePlan → ℕ) (all : List WirePlan) (each : (place : ℕ) (row : WirePlan) → slice_get all place ≡ Some row → f place row ≡ g place row) where
  same_from : (k : ℕ) (rows : List WirePlan) → ((j : ℕ) → slice_get rows j ≡ slice_get all (k + j)) → sum_wires f k rows ≡ sum_wires g k rows
  same_from k [] same = refl
  same_from k (row ∷ rows) same =
      let here : f k row ≡ g k row = each k row (ap (slice_get all) (add_zero k) ∙ sym (same 0)) in
      let later : sum_wires f (k + 1) rows ≡ sum_wires g (k + 1) rows = same_from (k + 1) rows (λ j. same (suc j) ∙ ap (slice_get all) (step_into k j)) in
      omega (arith, here, later)

  -- the two sums over the rows are one
  pub same_sums : sum_wires f 0 all ≡ sum_wires g 0 all
  same_sums = same_from 0 all (λ j. ap (slice_get all) (from_none_back j))
