-- What an edge is to a service, by the slots of its spokes.
use Rattle.std.proofs.Common.{◌≡◌, ◌<◌, ◌≤◌, ◌+◌, ◌++◌, ◌∙◌, ◌&&◌, ◌||◌, ℕ, suc, Bool, true, false, cond, not, nat_eq, List, [], ◌∷◌, Some, length, slice_get, refl, ap, sym, inl, inr, arith}
use Rattle.std.proofs.lemmas.Bool.{and_parts, cases_Bool, or_parts}
use Rattle.std.proofs.lemmas.Bool.Decides.{nat_tests}
use Rattle.std.proofs.lemmas.List.Folds.{list_any-append}
use Rattle.std.specs.List.{list_any}
use Rattle.net_values.proofs.RowLemmas.{row_holds}
use Rattle.net_base.specs.declared.plan.Plan.{Plan}
use Rattle.net_base.specs.declared.plan.circuit_plan.CircuitPlan.{CircuitPlan}
use Rattle.net_base.specs.declared.plan.places.EdgeId.{EdgeId}
use Rattle.net_base.specs.declared.plan.places.ServiceId.{ServiceId}
use Rattle.net_base.specs.declared.plan.places.WireId.{WireId}
use Rattle.net_base.specs.declared.plan.wire_plan.WirePlan.{WirePlan}
use Rattle.net_base.specs.plan.Accepted.{IsChecked, IsWireOf}
use Rattle.net_base.specs.plan.Paths.{is_first}
use Rattle.net_base.specs.plan.Places.{is_mesh_class, wire_row}
use Rattle.net_base.specs.plan.Roles.{has_port, is_circuit_at, is_spoke_edge, is_spoke_from, is_wire_of, wire_ends_at}
use Rattle.hvpls_spokes.specs.declared.edge_role.Role.TheVariants as role
use Rattle.hvpls_spokes.specs.declared.port.Port.{Port}
use Rattle.hvpls_spokes.specs.Port.{circuit_ports, is_wire, ports_of, wire_ports}
use Rattle.hvpls_spokes.specs.Role.{role_of}
use Rattle.mac_withdraw.specs.Passing.{is_wire_at}
use Rattle.edge_model.specs.declared.end_place.EndPlace.{EndPlace}
use Rattle.edge_model.specs.EndPlaces.{end_place_at, end_places, places_along, places_at, places_from}
use Rattle.edge_model.specs.Spokes.{is_spoke_row}
use Rattle.provider_edge.specs.Invariant.{IsEdge}
use Rattle.provider_edge.specs.Lists.{EdgeLists}
use Rattle.provider_edge.specs.Spokes.{slots_in, slots_where, starts_spoke}

one_or_more : (n : ℕ) → nat_eq (suc n) 0 ≡ false
one_or_more n = grind (arith, nat_tests)

-- there is no slot exactly where no place passes the test
slots_none_pass : (test : EndPlace → Bool) (p : ℕ) (places : List EndPlace) → nat_eq (length (slots_where test p places)) 0 ≡ not (list_any test places)
slots_none_pass test p [] = refl
slots_none_pass test p (x ∷ places) = by (test x) (slots_none_pass test (p + 1) places) where
  by : (b : Bool) → nat_eq (length (slots_where test (p + 1) places)) 0 ≡ not (list_any test places)
      → nat_eq (length (cond b (p ∷ slots_where test (p + 1) places) (slots_where test (p + 1) places))) 0 ≡ not (b || list_any test places)
  by true rest = one_or_more (length (slots_where test (p + 1) places))
  by false rest = rest

-- where no end of a wire passes a test, none along its path does
along_none : (test : EndPlace → Bool) (wire : WireId) (row : WirePlan) (me : EdgeId) (segment : ℕ) (path : List EdgeId)
    → ((at side : ℕ) (peer : EdgeId) → test (end_place_at wire row me at side peer) ≡ false) → list_any test (places_along wire row me segment path) ≡ false
along_none test wire row me segment [] none = refl
along_none test wire row me segment (last ∷ []) none = refl
along_none test wire row me segment (first ∷ next ∷ rest) none =
    list_any-append test (places_at wire row me segment first next) (places_along wire row me (segment + 1) (next ∷ rest))
    ∙ (ap (λ (b : Bool). b || list_any test (places_along wire row me (segment + 1) (next ∷ rest))) (here (nat_eq me.0 first.0) (nat_eq me.0 next.0))
    ∙ along_none test wire row me (segment + 1) (next ∷ rest) none)
  where
    here : (a b : Bool) → list_any test (cond a (end_place_at wire row me segment 0 next ∷ []) (cond b (end_place_at wire row me segment 1 first ∷ []) [])) ≡ false
    here true b = ap (λ (x : Bool). x || false) (none segment 0 next)
    here false true = ap (λ (x : Bool). x || false) (none segment 1 first)
    here false false = refl

-- where each does, so does that at the first edge of the path
along_first : (test : EndPlace → Bool) (wire : WireId) (row : WirePlan) (me : EdgeId) (path : List EdgeId) → 2 ≤ length path → is_first me.0 path ≡ true
    → ((at side : ℕ) (peer : EdgeId) → test (end_place_at wire row me at side peer) ≡ true) → list_any test (places_along wire row me 0 path) ≡ true
along_first test wire row me [] long first each = absurd (omega (arith, long))
along_first test wire row me (last ∷ []) long first each = absurd (omega (arith, long))
along_first test wire row me (one ∷ next ∷ rest) long first each =
    rw first (ap (λ (b : Bool). b || list_any test (places_along wire row me 1 (next ∷ rest))) (each 0 0 next))

-- the ends of a wire start a spoke where the wire is one
of_row : (plan : Plan) (me : EdgeId) (service : ServiceId) (wire : ℕ) (row : WirePlan) → wire_row plan (record { 0 = wire }) ≡ Some row → 2 ≤ length row.path
    → list_any (starts_spoke plan me service) (places_along (record { 0 = wire }) row me 0 row.path) ≡ is_spoke_from service me.0 row
of_row plan me service wire row found long = elim (cases_Bool (is_spoke_from service me.0 row)) [
  | inl starts ↦
      along_first (starts_spoke plan me service) (record { 0 = wire }) row me row.path long (and_parts (is_wire_of service row && not (is_mesh_class row.class)) (is_first me.0 row.path) starts).1
      (λ at side peer. ap (is_spoke_row service me) found ∙ starts)
      ∙ sym starts
  | inr other ↦ along_none (starts_spoke plan me service) (record { 0 = wire }) row me 0 row.path (λ at side peer. ap (is_spoke_row service me) found ∙ other) ∙ sym other
]

of_rows : (plan : Plan) (me : EdgeId) (service : ServiceId) (n : ℕ) (rows : List WirePlan) → ((k : ℕ) → slice_get plan.wires (n + k) ≡ slice_get rows k)
    → ((k : ℕ) (row : WirePlan) → slice_get rows k ≡ Some row → 2 ≤ length row.path)
    → list_any (starts_spoke plan me service) (places_from me n rows) ≡ list_any (is_spoke_from service me.0) rows
of_rows plan me service n [] same long = refl
of_rows plan me service n (row ∷ rows) same long =
    list_any-append (starts_spoke plan me service) (places_along (record { 0 = n }) row me 0 row.path) (places_from me (n + 1) rows)
    ∙ (ap (λ (b : Bool). b || list_any (starts_spoke plan me service) (places_from me (n + 1) rows)) (of_row plan me service n row found (long 0 row refl))
    ∙ ap (λ (b : Bool). is_spoke_from service me.0 row || b) (of_rows plan me service (n + 1) rows later (λ k r is. long (suc k) r is)))
  where
    found : slice_get plan.wires n ≡ Some row
    found = let place : n + 0 ≡ n = omega arith in ap (λ (m : ℕ). slice_get plan.wires m) (sym place) ∙ same 0

    later : (k : ℕ) → slice_get plan.wires (n + 1 + k) ≡ slice_get rows k
    later k = let place : n + 1 + k ≡ n + suc k = omega arith in ap (λ (m : ℕ). slice_get plan.wires m) place ∙ same (suc k)

-- the edge starts a spoke of the service exactly where one of its ends does
spoke_by_ends : (plan : Plan) (me : EdgeId) (service : ServiceId) → IsChecked plan → list_any (starts_spoke plan me service) (end_places plan me) ≡ is_spoke_edge plan service me.0
spoke_by_ends plan me service checked =
    of_rows plan me service 0 plan.wires (λ k. let place : 0 + k ≡ k = omega arith in ap (λ (m : ℕ). slice_get plan.wires m) place)
    (λ k row is. (row_holds (IsWireOf plan) plan.wires k row is checked.wires).least)

-- an edge without a slot of the service starts no spoke of it, and one that has some does
spoke_by_slots : (c : EdgeLists) (service : ServiceId) → IsEdge c → service.0 < length c.plan.services → not (is_spoke_edge c.plan service c.me.0) ≡ nat_eq (length (slots_in c.spokes service.0)) 0
spoke_by_slots c service edge within =
    ap not (sym (spoke_by_ends c.plan c.me service edge.checked))
    ∙ (sym (slots_none_pass (starts_spoke c.plan c.me service) 0 (end_places c.plan c.me))
    ∙ ap (λ (l : List ℕ). nat_eq (length l) 0) (sym (edge.spokes.slots.each service.0 within)))

-- ---- a port of a service

no_circuits : (n : ℕ) (rows : List CircuitPlan) (service : ServiceId) (edge : EdgeId) → list_any (is_circuit_at service edge.0) rows ≡ false → circuit_ports n rows service edge ≡ []
no_circuits n [] service edge none = refl
no_circuits n (row ∷ rows) service edge none =
    let both = or_parts (is_circuit_at service edge.0 row) (list_any (is_circuit_at service edge.0) rows) none in
    rw (both.0) (no_circuits (n + 1) rows service edge both.1)

no_wires : (n : ℕ) (rows : List WirePlan) (service : ServiceId) (edge : EdgeId) → list_any (wire_ends_at service edge.0) rows ≡ false → wire_ports n rows service edge ≡ []
no_wires n [] service edge none = refl
no_wires n (row ∷ rows) service edge none =
    let both = or_parts (wire_ends_at service edge.0 row) (list_any (wire_ends_at service edge.0) rows) none in
    rw (both.0) (no_wires (n + 1) rows service edge both.1)

-- an edge at which a wire has a port of the service has one
wire_has_port : (plan : Plan) (service : ServiceId) (edge : EdgeId) (port : ℕ) → is_wire_at (ports_of plan service edge) port ≡ true → has_port plan service edge.0 ≡ true
wire_has_port plan service edge port wire = by (has_port plan service edge.0) refl where
  by : (has : Bool) → has_port plan service edge.0 ≡ has → has_port plan service edge.0 ≡ true
  by true some = some
  by false none =
      let both = or_parts (list_any (is_circuit_at service edge.0) plan.circuits) (list_any (wire_ends_at service edge.0) plan.wires) none in
      let empty : ports_of plan service edge ≡ [] =
      ap (λ (l : List Port). l ++ wire_ports 0 plan.wires service edge) (no_circuits 0 plan.circuits service edge both.0) ∙ no_wires 0 plan.wires service edge both.1 in
      let wrong : false ≡ true = sym (ap (λ (l : List Port). is_wire (slice_get l port)) empty) ∙ wire in
      absurd (cc (wrong))

-- ---- the role

pub core_by_slots : (c : EdgeLists) (service : ServiceId) (port : ℕ) → IsEdge c → service.0 < length c.plan.services → is_wire_at (ports_of c.plan service c.me) port ≡ true
    → nat_eq (length (slots_in c.spokes service.0)) 0 ≡ true → role_of c.plan service c.me ≡ Some role.Core
core_by_slots c service port edge within wire none = elim (cases_Bool (is_spoke_edge c.plan service c.me.0)) [
  | inl starts ↦ (let wrong : false ≡ true = sym (ap not starts) ∙ (spoke_by_slots c service edge within ∙ none) in absurd (cc (wrong)))
  | inr other ↦ rw (other, wire_has_port c.plan service c.me port wire) refl
]

pub spoke_edge_by_slots : (c : EdgeLists) (service : ServiceId) → IsEdge c → service.0 < length c.plan.services → nat_eq (length (slots_in c.spokes service.0)) 0 ≡ false
    → role_of c.plan service c.me ≡ Some role.SpokeEdge
spoke_edge_by_slots c service edge within some = elim (cases_Bool (is_spoke_edge c.plan service c.me.0)) [
  | inl starts ↦ rw starts refl
  | inr other ↦ (let wrong : true ≡ false = sym (ap not other) ∙ (spoke_by_slots c service edge within ∙ some) in absurd (cc (wrong)))
]
