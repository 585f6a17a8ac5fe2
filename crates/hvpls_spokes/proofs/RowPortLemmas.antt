-- Ports that are made of the rows of a list in order, each of its place and its row: what they lead to.
use Rattle.std.proofs.Common.{◌≡◌, ◌<◌, ◌≤◌, ◌+◌, ◌++◌, ◌∙◌, ℕ, zero, suc, Bool, true, false, List, [], ◌∷◌, Option, Some, None, length, slice_get, nat_eq, cond, count_by, refl, ap, sym, arith, inl, inr}
use Rattle.std.proofs.lemmas.Bool.{cases_order, cases_Bool, eq-eqb, ne_eqb}
use Rattle.std.proofs.lemmas.List.Sums.{sum_by-cons}
use Rattle.std.specs.List.{position_or_len}
use Rattle.net_base.specs.declared.plan.circuit_plan.CircuitPlan.{CircuitPlan}
use Rattle.net_base.specs.declared.plan.wire_plan.WirePlan.{WirePlan}
use Rattle.net_base.specs.declared.plan.places.EdgeId.{EdgeId}
use Rattle.net_base.specs.declared.plan.places.ServiceId.{ServiceId}
use Rattle.net_base.specs.plan.Places.{is_mesh_class}
use Rattle.net_base.specs.plan.Roles.{is_circuit_at, wire_ends_at}
use Rattle.hvpls_spokes.specs.declared.port.Port.{Port}
use Rattle.hvpls_spokes.specs.declared.port.Port.TheVariants as port
use Rattle.hvpls_spokes.specs.Port.{circuit_ports, wire_port, wire_ports}

-- a port for each row that passes the test, of the rows from a place on
abbrev pub made_ports : {Row : Type 0} → (Row → Bool) → (ℕ → Row → Port) → ℕ → List Row → List Port
made_ports test make k [] = []
made_ports test make k (row ∷ rows) = cond (test row) (make k row ∷ made_ports test make (k + 1) rows) (made_ports test make (k + 1) rows)

-- there are as many as rows that pass
made_length_if : (passes : Bool) (x : Port) (rest : List Port) → length (cond passes (x ∷ rest) rest) ≡ cond passes 1 0 + length rest
made_length_if true x rest = omega arith
made_length_if false x rest = omega arith

pub made_length : {Row : Type 0} (test : Row → Bool) (make : ℕ → Row → Port) (k : ℕ) (rows : List Row) → length (made_ports test make k rows) ≡ count_by test rows
made_length test make k [] = refl
made_length test make k (row ∷ rows) =
    let here = made_length_if (test row) (make k row) (made_ports test make (k + 1) rows) in
    let later = made_length test make (k + 1) rows in
    let counted = sum_by-cons (λ r. cond (test r) 1 0) row rows in
    omega (arith, here, later, counted)

-- each is made of a row that passes
pub record IsMade {Row : Type 0} (test : Row → Bool) (make : ℕ → Row → Port) (k : ℕ) (rows : List Row) (x : Port) : Type 0 where
  pub place : ℕ
  pub row : Row
  pub is : slice_get rows place ≡ Some row
  pub passes : test row ≡ true
  pub made : x ≡ make (k + place) row

one_later : {Row : Type 0} {test : Row → Bool} {make : ℕ → Row → Port} {k : ℕ} {rows : List Row} {x : Port} (first : Row) → IsMade test make (k + 1) rows x → IsMade test make k (first ∷ rows) x
one_later {make} {k} first is = record {
  place = suc is.place;
  row = is.row;
  is = is.is;
  passes = is.passes;
  made = is.made ∙ ap (λ (n : ℕ). make n is.row) (omega arith);
}

made_at_if : {Row : Type 0} (test : Row → Bool) (make : ℕ → Row → Port) (k : ℕ) (row : Row) (rows : List Row) (passes : Bool) (rest : List Port) (p : ℕ) (x : Port) → test row ≡ passes
    → ((q : ℕ) → slice_get rest q ≡ Some x → IsMade test make (k + 1) rows x) → slice_get (cond passes (make k row ∷ rest) rest) p ≡ Some x → IsMade test make k (row ∷ rows) x
made_at_if test make k row rows true rest zero x here later at =
    let same : make k row ≡ x = cc (at) in
    record { place = 0; row = row; is = refl; passes = here; made = sym same ∙ ap (λ (n : ℕ). make n row) (omega arith) }
made_at_if test make k row rows true rest (suc p) x here later at = one_later row (later p at)
made_at_if test make k row rows false rest p x here later at = one_later row (later p at)

pub made_at : {Row : Type 0} (test : Row → Bool) (make : ℕ → Row → Port) (k : ℕ) (rows : List Row) (p : ℕ) (x : Port) → slice_get (made_ports test make k rows) p ≡ Some x → IsMade test make k rows x
made_at test make k [] p x at = absurd (cc (at))
made_at test make k (row ∷ rows) p x at = made_at_if test make k row rows (test row) (made_ports test make (k + 1) rows) p x refl (λ q later. made_at test make (k + 1) rows q x later) at

-- and one is made of each row that passes
pub record HasMade (ports : List Port) (x : Port) : Type 0 where
  pub p : ℕ
  pub at : slice_get ports p ≡ Some x

made_more : (passes : Bool) (first : Port) (rest : List Port) (x : Port) → HasMade rest x → HasMade (cond passes (first ∷ rest) rest) x
made_more true first rest x has = record { p = suc has.p; at = has.at }
made_more false first rest x has = has

pub has_made : {Row : Type 0} (test : Row → Bool) (make : ℕ → Row → Port) (k j : ℕ) (rows : List Row) (row : Row) → slice_get rows j ≡ Some row → test row ≡ true
    → HasMade (made_ports test make k rows) (make (k + j) row)
has_made test make k j [] row is passes = absurd (cc (is))
has_made test make k zero (first ∷ rows) row is passes =
    let same : first ≡ row = cc (is) in
    let here : test first ≡ true = ap test same ∙ passes in
    let made : make k first ≡ make (k + 0) row = ap (make k) same ∙ ap (λ (n : ℕ). make n row) (omega arith) in
    rw here (record { p = 0; at = ap Some made })
has_made test make k (suc j) (first ∷ rows) row is passes =
    let has = has_made test make (k + 1) j rows row is passes in
    let same : make ((k + 1) + j) row ≡ make (k + suc j) row = ap (λ (n : ℕ). make n row) (omega arith) in
    made_more (test first) (make k first) (made_ports test make (k + 1) rows) (make (k + suc j) row) (record { p = has.p; at = has.at ∙ ap Some same })

-- what the port with number p leads to: none where there is no port
module _ (to : Option Port → Option ℕ) (nothing : to None ≡ None) where
  -- the ports lead to places from k on
  places_from_if : (k : ℕ) (passes : Bool) (x : Port) (rest : List Port) (p c : ℕ) → to (Some x) ≡ Some k → ((q : ℕ) → to (slice_get rest q) ≡ Some c → k + 1 ≤ c)
      → to (slice_get (cond passes (x ∷ rest) rest) p) ≡ Some c → k ≤ c
  places_from_if k true x rest zero c leads later at =
      let same : k ≡ c = cc (sym leads ∙ at) in
      omega arith
  places_from_if k true x rest (suc p) c leads later at = omega (arith, later p at)
  places_from_if k false x rest p c leads later at = omega (arith, later p at)

  -- a later port leads to a later place
  rising_if : (k : ℕ) (passes : Bool) (x : Port) (rest : List Port) (p q c d : ℕ) → to (Some x) ≡ Some k → ((i : ℕ) → to (slice_get rest i) ≡ Some d → k + 1 ≤ d)
      → ((i j : ℕ) → i < j → to (slice_get rest i) ≡ Some c → to (slice_get rest j) ≡ Some d → c < d)
      → p < q → to (slice_get (cond passes (x ∷ rest) rest) p) ≡ Some c → to (slice_get (cond passes (x ∷ rest) rest) q) ≡ Some d → c < d
  rising_if k true x rest p zero c d leads later rises below at_p at_q = absurd (omega arith)
  rising_if k true x rest zero (suc q) c d leads later rises below at_p at_q =
      let same : k ≡ c = cc (sym leads ∙ at_p) in
      omega (arith, later q at_q)
  rising_if k true x rest (suc p) (suc q) c d leads later rises below at_p at_q = rises p q (omega arith) at_p at_q
  rising_if k false x rest p q c d leads later rises below at_p at_q = rises p q below at_p at_q

  -- ports that lead nowhere
  none_if : (passes : Bool) (x : Port) (rest : List Port) (p c : ℕ) → to (Some x) ≡ None → ((q : ℕ) → to (slice_get rest q) ≡ Some c → ⊥) → to (slice_get (cond passes (x ∷ rest) rest) p) ≡ Some c → ⊥
  none_if true x rest zero c leads later at = absurd (cc (sym leads ∙ at))
  none_if true x rest (suc p) c leads later at = later p at
  none_if false x rest p c leads later at = later p at

  pub made_none : {Row : Type 0} (test : Row → Bool) (make : ℕ → Row → Port) → ((k : ℕ) (row : Row) → to (Some (make k row)) ≡ None) → (k : ℕ) (rows : List Row) (p c : ℕ)
      → to (slice_get (made_ports test make k rows) p) ≡ Some c → ⊥
  made_none test make leads k [] p c at = absurd (cc (sym nothing ∙ at))
  made_none test make leads k (row ∷ rows) p c at =
      none_if (test row) (make k row) (made_ports test make (k + 1) rows) p c (leads k row) (λ q later. made_none test make leads (k + 1) rows q c later) at

  module _ {Row : Type 0} (test : Row → Bool) (make : ℕ → Row → Port) (leads : (k : ℕ) (row : Row) → to (Some (make k row)) ≡ Some k) where
    pub made_from : (k : ℕ) (rows : List Row) (p c : ℕ) → to (slice_get (made_ports test make k rows) p) ≡ Some c → k ≤ c
    made_from k [] p c at = absurd (cc (sym nothing ∙ at))
    made_from k (row ∷ rows) p c at = places_from_if k (test row) (make k row) (made_ports test make (k + 1) rows) p c (leads k row) (λ q later. made_from (k + 1) rows q c later) at

    pub made_rising : (k : ℕ) (rows : List Row) (p q c d : ℕ) → p < q → to (slice_get (made_ports test make k rows) p) ≡ Some c → to (slice_get (made_ports test make k rows) q) ≡ Some d → c < d
    made_rising k [] p q c d below at_p at_q = absurd (cc (sym nothing ∙ at_p))
    made_rising k (row ∷ rows) p q c d below at_p at_q =
        rising_if k (test row) (make k row) (made_ports test make (k + 1) rows) p q c d (leads k row)
        (λ i later. made_from (k + 1) rows i d later)
        (λ i j under at_i at_j. made_rising (k + 1) rows i j c d under at_i at_j)
        below at_p at_q

  -- where a later port leads to a later place, two ports are one exactly where their places are one
  pub same_if_rising : (ports : List Port) → ((p q c d : ℕ) → p < q → to (slice_get ports p) ≡ Some c → to (slice_get ports q) ≡ Some d → c < d)
      → (p q c d : ℕ) → to (slice_get ports p) ≡ Some c → to (slice_get ports q) ≡ Some d → nat_eq p q ≡ nat_eq c d
  same_if_rising ports rises p q c d at_p at_q = elim (cases_order p q) [
    | inl same ↦
        let places : Some c ≡ Some d = sym at_p ∙ (ap (λ (i : ℕ). to (slice_get ports i)) same ∙ at_q) in
        let equal : c ≡ d = cc (places) in
        rw (eq-eqb p q same, eq-eqb c d equal) refl
    | inr rest ↦ elim rest [
      | inl below ↦
          let under : c < d = rises p q c d below at_p at_q in
          rw (ne_eqb p q (λ e. absurd (omega arith)), ne_eqb c d (λ e. absurd (omega arith))) refl
      | inr above ↦
          let over : d < c = rises q p d c above at_q at_p in
          rw (ne_eqb p q (λ e. absurd (omega arith)), ne_eqb c d (λ e. absurd (omega arith))) refl
    ]
  ]

  -- of two lists of ports one after the other, the first leads nowhere
  pub leads_behind : (front back : List Port) (p c : ℕ) → ((q d : ℕ) → to (slice_get front q) ≡ Some d → ⊥) → to (slice_get (front ++ back) p) ≡ Some c → (q : ℕ)
      × (p ≡ length front + q) × (to (slice_get back q) ≡ Some c)
  leads_behind [] back p c none at = (p, omega arith, at)
  leads_behind (x ∷ front) back zero c none at = absurd (none 0 c at)
  leads_behind (x ∷ front) back (suc p) c none at =
      let (q, place, later) = leads_behind front back p c (λ i d there. none (suc i) d there) at in
      (q, omega (arith, place), later)

  -- or the second
  pub leads_before : (front back : List Port) (p c : ℕ) → ((q d : ℕ) → to (slice_get back q) ≡ Some d → ⊥) → to (slice_get (front ++ back) p) ≡ Some c → to (slice_get front p) ≡ Some c
  leads_before [] back p c none at = absurd (none p c at)
  leads_before (x ∷ front) back zero c none at = at
  leads_before (x ∷ front) back (suc p) c none at = leads_before front back p c none at

-- a port of the first of two lists, and of the second
pub in_front : (front back : List Port) (p : ℕ) (x : Port) → slice_get front p ≡ Some x → slice_get (front ++ back) p ≡ Some x
in_front [] back p x at = absurd (cc (at))
in_front (y ∷ front) back zero x at = at
in_front (y ∷ front) back (suc p) x at = in_front front back p x at

pub in_back : (front back : List Port) (p n : ℕ) (x : Port) → n ≡ length front + p → slice_get back p ≡ Some x → slice_get (front ++ back) n ≡ Some x
in_back [] back p n x place at =
    let same : n ≡ p = omega (arith, place) in
    ap (slice_get back) same ∙ at
in_back (y ∷ front) back p zero x place at = absurd (omega (arith, place))
in_back (y ∷ front) back p (suc n) x place at = in_back front back p n x (omega (arith, place)) at

-- each port is in one of the two
pub in_either : {P : Type 0} (front back : List Port) (p : ℕ) (x : Port) → slice_get (front ++ back) p ≡ Some x → ((q : ℕ) → slice_get front q ≡ Some x → P)
    → ((q : ℕ) → slice_get back q ≡ Some x → P) → P
in_either [] back p x at f g = g p at
in_either (y ∷ front) back zero x at f g = f 0 at
in_either (y ∷ front) back (suc p) x at f g = in_either front back p x at (λ q there. f (suc q) there) g

-- one is found that passes where there is one
pub found_below : (test : Port → Bool) (ports : List Port) (p : ℕ) (x : Port) → slice_get ports p ≡ Some x → test x ≡ true → position_or_len test ports < length ports
found_below test [] p x is passes = absurd (cc (is))
found_below test (y ∷ ys) zero x is passes =
    let same : y ≡ x = cc (is) in
    let here : test y ≡ true = ap test same ∙ passes in
    rw here (omega arith)
found_below test (y ∷ ys) (suc p) x is passes = elim (cases_Bool (test y)) [
  | inl here ↦ rw here (omega arith)
  | inr away ↦ rw away (omega (arith, found_below test ys p x is passes))
]

-- the circuits and the wires of a service at an edge are such ports
abbrev pub circuit_made : ℕ → CircuitPlan → Port
circuit_made place row = port.Circuit (record { 0 = place })

pub circuits_made : (k : ℕ) (rows : List CircuitPlan) (service : ServiceId) (edge : EdgeId) → circuit_ports k rows service edge ≡ made_ports (is_circuit_at service edge.0) circuit_made k rows
circuits_made k [] service edge = refl
circuits_made k (row ∷ rows) service edge = ap (λ (rest : List Port). cond (is_circuit_at service edge.0 row) (circuit_made k row ∷ rest) rest) (circuits_made (k + 1) rows service edge)

pub wires_made : (k : ℕ) (rows : List WirePlan) (service : ServiceId) (edge : EdgeId) → wire_ports k rows service edge ≡ made_ports (wire_ends_at service edge.0) wire_port k rows
wires_made k [] service edge = refl
wires_made k (row ∷ rows) service edge = ap (λ (rest : List Port). cond (wire_ends_at service edge.0 row) (wire_port k row ∷ rest) rest) (wires_made (k + 1) rows service edge)

-- the circuit, and the wire, that a port leads to
abbrev pub circuit_behind : Option Port → Option ℕ
circuit_behind None = None
circuit_behind (Some (port.Circuit circuit)) = Some circuit.0
circuit_behind (Some (port.Mesh wire)) = None
circuit_behind (Some (port.Spoke wire)) = None

abbrev pub wire_behind : Option Port → Option ℕ
wire_behind None = None
wire_behind (Some (port.Circuit circuit)) = None
wire_behind (Some (port.Mesh wire)) = Some wire.0
wire_behind (Some (port.Spoke wire)) = Some wire.0

pub wire_leads : (place : ℕ) (row : WirePlan) → wire_behind (Some (wire_port place row)) ≡ Some place
wire_leads place row = by_class (is_mesh_class row.class) where
  by_class : (mesh : Bool) → wire_behind (Some (cond mesh (port.Mesh (record { 0 = place })) (port.Spoke (record { 0 = place })))) ≡ Some place
  by_class true = refl
  by_class false = refl

wire_is_none : (place : ℕ) (row : WirePlan) → circuit_behind (Some (wire_port place row)) ≡ None
wire_is_none place row = by_class (is_mesh_class row.class) where
  by_class : (mesh : Bool) → circuit_behind (Some (cond mesh (port.Mesh (record { 0 = place })) (port.Spoke (record { 0 = place })))) ≡ None
  by_class true = refl
  by_class false = refl

-- no circuit's port leads to a wire, and no wire's port to a circuit
pub no_wire : (k : ℕ) (rows : List CircuitPlan) (service : ServiceId) (edge : EdgeId) (p wire : ℕ) → wire_behind (slice_get (circuit_ports k rows service edge) p) ≡ Some wire → ⊥
no_wire k rows service edge p wire at =
    made_none wire_behind refl (is_circuit_at service edge.0) circuit_made (λ place row. refl) k rows p wire
    (ap (λ (ports : List Port). wire_behind (slice_get ports p)) (sym (circuits_made k rows service edge)) ∙ at)

pub no_circuit : (k : ℕ) (rows : List WirePlan) (service : ServiceId) (edge : EdgeId) (p circuit : ℕ) → circuit_behind (slice_get (wire_ports k rows service edge) p) ≡ Some circuit → ⊥
no_circuit k rows service edge p circuit at =
    made_none circuit_behind refl (wire_ends_at service edge.0) wire_port wire_is_none k rows p circuit
    (ap (λ (ports : List Port). circuit_behind (slice_get ports p)) (sym (wires_made k rows service edge)) ∙ at)
