-- The rows of a plan are read from its tables.
use Rattle.std.proofs.Common.{◌≡◌, ◌≤◌, ◌+◌, ◌++◌, ℕ, suc, true, List, [], ◌∷◌, length, map, Ok, length-append, refl, arith}
use Rattle.std.proofs.lemmas.Bool.{and_parts}
use Rattle.std.proofs.lemmas.Bool.Decides.{Decides-ltb}
use Rattle.std.proofs.lemmas.List.{get_or_append_left, get_or-append-add}
use Rattle.std.specs.List.{All, list_all}
use Rattle.std.specs.Str.{bytes_eq}
use Rattle.toml.specs.Data.{table}
use Rattle.toml.specs.View.{items_of}
use Rattle.net_values.specs.Name.{IsName}
use Rattle.net_base.specs.declared.plan.Plan.{Plan}
use Rattle.net_base.specs.declared.plan.edge_plan.EdgePlan.{EdgePlan}
use Rattle.net_base.specs.declared.plan.service_plan.ServicePlan.{ServicePlan}
use Rattle.net_base.specs.declared.plan.circuit_plan.CircuitPlan.{CircuitPlan}
use Rattle.net_base.specs.declared.plan.wire_plan.WirePlan.{WirePlan}
use Rattle.net_base.specs.declared.plan.places.EdgeId.{EdgeId}
use Rattle.net_base.specs.declared.plan.table.Table.TheVariants as kind
use Rattle.net_base.specs.plan.Accepted.{IsEdgePlan, IsService, IsCircuitOf, IsWireOf, NonePair}
use Rattle.net_base.specs.plan.NameFaults.{edge_names, service_names, circuit_names, wire_names}
use Rattle.net_base.specs.plan.RowFaults.{is_edge_of}
use Rattle.command_text.specs.declared.row_place.RowPlace.{RowPlace}
use Rattle.scenario_text.specs.declared.document_version.DocumentVersion.TheVariants.{Two}
use Rattle.scenario_text.specs.Rows.{edge_in, service_in, group_row_in, circuit_row_in, wire_row_in, rows_in}
use Rattle.scenario_text.specs.References.{circuit_in, circuit_plans, path_in, wire_in, wires_in, placed_rows, plan_of, mtu_at}
use Rattle.migration.specs.Groups.{used_groups}
use Rattle.migration.specs.Rows.{edge_table, service_table, group_table, circuit_table, wire_table}
use Rattle.migration.specs.ReadPlan.{IsQuad, IsSaid, IsReadPlan}
use Rattle.migration.proofs.GroupNameLemmas.{group_named}
use Rattle.migration.proofs.RowLemmas.{edge_read, service_read, group_of, group_read}
use Rattle.migration.proofs.OfferLemmas.{offer_back}
use Rattle.migration.proofs.WireLemmas.{AreNamed, circuit_of, circuit_read, path_names, wire_of, wire_read}
use Rattle.migration.proofs.NamedLemmas.{AreNumbers, row_found, row_named, group_found, groups_once}
use Rattle.migration.proofs.UseLemmas.{AreUsed, AreSmall, is_used, all_used, groups_are}

pub edges_read : (index : ℕ) (edges : List EdgePlan) → All IsName (edge_names edges) → All IsEdgePlan edges → All (λ (edge : EdgePlan). IsQuad edge.address.0) edges
    → rows_in kind.Edge (edge_in Two) index (items_of (map (λ edge. table (edge_table edge)) edges)) ≡ Ok edges
edges_read index [] names rows quads = refl
edges_read index (edge ∷ edges) names rows quads =
    rw (
      edge_read edge (record { table = kind.Edge; index = index }) (names 0 [] (omega arith)) (rows 0 edge (omega arith)) (quads 0 edge (omega arith)),
      edges_read (index + 1) edges (λ i d lt. names (suc i) d (omega (arith, lt))) (λ i d lt. rows (suc i) d (omega (arith, lt))) (λ i d lt. quads (suc i) d (omega (arith, lt))),
    ) refl

pub services_read : (index : ℕ) (services : List ServicePlan) → All IsName (service_names services) → All IsService services
    → rows_in kind.Service (service_in Two) index (items_of (map (λ service. table (service_table service)) services)) ≡ Ok services
services_read index [] names rows = refl
services_read index (service ∷ services) names rows =
    rw (
      service_read service (record { table = kind.Service; index = index }) (names 0 [] (omega arith)) (rows 0 service (omega arith)),
      services_read (index + 1) services (λ i d lt. names (suc i) d (omega (arith, lt))) (λ i d lt. rows (suc i) d (omega (arith, lt))),
    ) refl

pub groups_read : (index : ℕ) (groups : List ℕ) → AreNumbers groups
    → rows_in kind.Group (group_row_in Two) index (items_of (map (λ group. table (group_table group)) groups)) ≡ Ok (map group_of groups)
groups_read index [] are = refl
groups_read index (group ∷ groups) are =
    rw (
      group_read group (record { table = kind.Group; index = index }) (group_named group are.0.1) are.0.0 (omega (arith, are.0.1)),
      groups_read (index + 1) groups are.1,
    ) refl

path_named : (plan : Plan) (path : List EdgeId) → All IsName (edge_names plan.edges) → list_all (is_edge_of plan) path ≡ true → AreNamed plan path
path_named plan [] names all = tt
path_named plan (edge ∷ path) names all =
    let both = and_parts (is_edge_of plan edge) (list_all (is_edge_of plan) path) all in
    (row_named (λ row. row.name) plan.edges edge.0 names ((Decides-ltb edge.0 (length plan.edges)).0 both.0), path_named plan path names both.1)

pub circuits_read : (plan : Plan) (index : ℕ) (circuits : List CircuitPlan) → All IsName (edge_names plan.edges) → All IsName (service_names plan.services)
    → All IsName (circuit_names circuits) → All (IsCircuitOf plan) circuits
    → rows_in kind.Circuit (circuit_row_in Two) index (items_of (map (λ circuit. table (circuit_table plan circuit)) circuits)) ≡ Ok (map (circuit_of plan) circuits)
circuits_read plan index [] edges services names rows = refl
circuits_read plan index (circuit ∷ circuits) edges services names rows =
    let is = rows 0 circuit (omega arith) in
    rw (
      circuit_read plan circuit (record { table = kind.Circuit; index = index }) (names 0 [] (omega arith)) (row_named (λ row. row.name) plan.edges circuit.edge.0 edges is.edge)
          (row_named (λ row. row.name) plan.services circuit.service.0 services is.service) is.tag,
      circuits_read plan (index + 1) circuits edges services (λ i d lt. names (suc i) d (omega (arith, lt))) (λ i d lt. rows (suc i) d (omega (arith, lt))),
    ) refl

pub wires_read : (plan : Plan) (index : ℕ) (wires : List WirePlan) → All IsName (edge_names plan.edges) → All IsName (service_names plan.services) → All IsName (wire_names wires)
    → All (IsWireOf plan) wires
    → All (λ (wire : WirePlan). wire.priority ≤ 255) wires → All (λ (wire : WirePlan). IsSaid wire.near) wires → All (λ (wire : WirePlan). IsSaid wire.far) wires
    → rows_in kind.Wire (wire_row_in Two) index (items_of (map (λ wire. table (wire_table plan wire)) wires)) ≡ Ok (map (wire_of plan) wires)
wires_read plan index [] edges services names rows priorities near far = refl
wires_read plan index (wire ∷ wires) edges services names rows priorities near far =
    let is = rows 0 wire (omega arith) in
    rw (
      wire_read plan wire (record { table = kind.Wire; index = index }) (names 0 [] (omega arith)) (row_named (λ row. row.name) plan.services wire.service.0 services is.service)
          (path_named plan wire.path edges is.edges) is (priorities 0 wire (omega arith)) (near 0 wire (omega arith)) (far 0 wire (omega arith)),
      wires_read plan (index + 1) wires edges services (λ i d lt. names (suc i) d (omega (arith, lt))) (λ i d lt. rows (suc i) d (omega (arith, lt)))
          (λ i d lt. priorities (suc i) d (omega (arith, lt))) (λ i d lt. near (suc i) d (omega (arith, lt))) (λ i d lt. far (suc i) d (omega (arith, lt))),
    ) refl

-- names of one list among those of several
pub pair_left : (xs ys : List (List ℕ)) → NonePair bytes_eq (xs ++ ys) → NonePair bytes_eq xs
pair_left xs ys pairs i j d under lt =
    rw (get_or_append_left xs ys d i (omega (arith, under, lt)), get_or_append_left xs ys d j lt) at (pairs i j d under (omega (arith, length-append xs ys, lt)))

pub pair_right : (xs ys : List (List ℕ)) → NonePair bytes_eq (xs ++ ys) → NonePair bytes_eq ys
pair_right xs ys pairs i j d under lt =
    rw (get_or-append-add xs ys i d, get_or-append-add xs ys j d) at (pairs (length xs + i) (length xs + j) d (omega (arith, under)) (omega (arith, length-append xs ys, lt)))

module _ (plan : Plan) (edges_once : NonePair bytes_eq (edge_names plan.edges)) (services_once : NonePair bytes_eq (service_names plan.services)) where
  circuit_placed : (row : RowPlace) (circuit : CircuitPlan) → IsCircuitOf plan circuit → circuit_in (edge_names plan.edges) (service_names plan.services) row (circuit_of plan circuit) ≡ Ok circuit
  unfolding circuit_in
  circuit_placed row circuit is =
      rw (row_found (λ r. r.name) plan.edges circuit.edge.0 edges_once is.edge, row_found (λ r. r.name) plan.services circuit.service.0 services_once is.service) refl

  circuits_placed : (index : ℕ) (circuits : List CircuitPlan) → All (IsCircuitOf plan) circuits
      → circuit_plans (edge_names plan.edges) (service_names plan.services) index (map (circuit_of plan) circuits) ≡ Ok circuits
  circuits_placed index [] rows = refl
  circuits_placed index (circuit ∷ circuits) rows =
      rw (
        circuit_placed (record { table = kind.Circuit; index = index }) circuit (rows 0 circuit (omega arith)),
        circuits_placed (index + 1) circuits (λ i d lt. rows (suc i) d (omega (arith, lt))),
      ) refl

  path_placed : (row : RowPlace) (path : List EdgeId) → list_all (is_edge_of plan) path ≡ true → path_in (edge_names plan.edges) row (path_names plan path) ≡ Ok path
  path_placed row [] all = refl
  path_placed row (edge ∷ path) all =
      let both = and_parts (is_edge_of plan edge) (list_all (is_edge_of plan) path) all in
      rw (row_found (λ r. r.name) plan.edges edge.0 edges_once ((Decides-ltb edge.0 (length plan.edges)).0 both.0), path_placed row path both.1) refl

  wire_placed : (used : List ℕ) (row : RowPlace) (wire : WirePlan) → IsWireOf plan wire → AreNumbers used → IsSaid wire.near → IsSaid wire.far → is_used used wire.near.group ≡ true
      → is_used used wire.far.group ≡ true
      → wire_in (edge_names plan.edges) plan.services (map group_of used) row (wire_of plan wire) ≡ Ok wire
  unfolding wire_in
  wire_placed used row wire is are near far near_used far_used =
      rw (
        row_found (λ r. r.name) plan.services wire.service.0 services_once is.service,
        path_placed row wire.path is.edges,
        group_found wire.near.group near.group used (record { table = kind.Near; index = row.index }) are near_used,
        group_found wire.far.group far.group used (record { table = kind.Far; index = row.index }) are far_used,
        offer_back wire.near (mtu_at plan.services wire.service.0) near,
        offer_back wire.far (mtu_at plan.services wire.service.0) far,
      ) refl

  wires_placed : (used : List ℕ) (index : ℕ) (wires : List WirePlan) → All (IsWireOf plan) wires → AreNumbers used → All (λ (wire : WirePlan). IsSaid wire.near) wires
      → All (λ (wire : WirePlan). IsSaid wire.far) wires → AreUsed used wires
      → wires_in (edge_names plan.edges) plan.services (map group_of used) index (map (wire_of plan) wires) ≡ Ok wires
  wires_placed used index [] rows are near far in_use = refl
  wires_placed used index (wire ∷ wires) rows are near far in_use =
      rw (
        wire_placed used (record { table = kind.Wire; index = index }) wire (rows 0 wire (omega arith)) are (near 0 wire (omega arith)) (far 0 wire (omega arith)) in_use.0.0 in_use.0.1,
        wires_placed used (index + 1) wires (λ i d lt. rows (suc i) d (omega (arith, lt))) are (λ i d lt. near (suc i) d (omega (arith, lt))) (λ i d lt. far (suc i) d (omega (arith, lt))) in_use.1,
      ) refl

pub are_small : (wires : List WirePlan) → All (λ (wire : WirePlan). IsSaid wire.near) wires → All (λ (wire : WirePlan). IsSaid wire.far) wires → AreSmall wires
are_small [] near far = tt
are_small (wire ∷ wires) near far =
    (((near 0 wire (omega arith)).group, (far 0 wire (omega arith)).group), are_small wires (λ i d lt. near (suc i) d (omega (arith, lt))) (λ i d lt. far (suc i) d (omega (arith, lt))))

-- the plan of the rows
pub plan_placed : (plan : Plan) → IsReadPlan plan → plan_of plan.edges plan.services (map group_of (used_groups plan.wires)) (map (circuit_of plan) plan.circuits)
    (map (wire_of plan) plan.wires) ≡ Ok plan
unfolding plan_of placed_rows
plan_placed plan is =
    let names = is.checked.names in
    let three = pair_left ((edge_names plan.edges ++ service_names plan.services) ++ circuit_names plan.circuits) (wire_names plan.wires) names in
    let two = pair_left (edge_names plan.edges ++ service_names plan.services) (circuit_names plan.circuits) three in
    let edges_once = pair_left (edge_names plan.edges) (service_names plan.services) two in
    let services_once = pair_right (edge_names plan.edges) (service_names plan.services) two in
    let groups = groups_are plan.wires (are_small plan.wires is.near is.far) in
    rw (
      circuits_placed plan edges_once services_once 1 plan.circuits is.checked.circuits,
      wires_placed plan edges_once services_once (used_groups plan.wires) 1 plan.wires is.checked.wires groups.numbers is.near is.far (all_used [] plan.wires),
      groups_once (used_groups plan.wires) groups.numbers groups.once,
      is.sound,
    ) refl
