-- A calm service has one mesh wire between two core edges, and each of its mesh wires carries frames.
use Rattle.std.proofs.Common.{◌≡◌, ◌<◌, ◌+◌, ◌==◌, ◌&&◌, ◌||◌, ◌∙◌, not, ℕ, Bool, true, false, Option, Some, None, cond, length, slice_get, nat_eq, refl, ap, sym, subst, zero-add, arith, inl, inr}
use Rattle.std.proofs.lemmas.Bool.{cases_Bool, eq-eqb, eqb-true, or_right}
use Rattle.std.proofs.lemmas.Bool.Decides.{nat_tests}
use Rattle.std.proofs.lemmas.Map.Keys.{any_passes_from_place}
use Rattle.std.specs.List.{list_any}
use Rattle.net_values.proofs.BoolLemmas.{first_holds, second_holds}
use Rattle.net_base.specs.declared.plan.Plan.{Plan}
use Rattle.net_base.specs.declared.plan.wire_plan.WirePlan.{WirePlan}
use Rattle.net_base.specs.declared.plan.places.ServiceId.{ServiceId}
use Rattle.net_base.specs.plan.Accepted.{IsChecked}
use Rattle.net_base.specs.plan.Places.{is_mesh_class}
use Rattle.net_base.specs.plan.Roles.{all_below, any_wire, has_port, is_circuit_at, is_core_edge, is_mesh_of, is_spoke_edge, is_wire_of, wire_ends_at}
use Rattle.network_model.specs.Calm.{carries, has_live_spokes, is_calm, is_full, is_quiet, meshes}
use Rattle.network_model.specs.State.{NetworkState}
use Rattle.network_model.proofs.CalmLemmas.{below_holds}
use Rattle.flood_laws.specs.Due.{sum_wires}
use Rattle.flood_laws.proofs.LinkLemmas.{IsLink, is_between, link_at, one_between, starts_none}
use Rattle.flood_laws.proofs.SumLemmas.{FoundWire, none_of_any, sum-at, sum-none, sum-same, wire_found}

-- an edge with a port of the service that starts no spoke is a core edge
pub core_edge : (plan : Plan) (service : ServiceId) (e : ℕ) → has_port plan service e ≡ true → is_spoke_edge plan service e ≡ false → is_core_edge plan service e ≡ true
core_edge plan service e port none = rw (port, none) refl

-- a terminal edge of a wire of the service has a port of it
pub port_at : (plan : Plan) (service : ServiceId) (e k : ℕ) (row : WirePlan) → slice_get plan.wires k ≡ Some row → wire_ends_at service e row ≡ true → has_port plan service e ≡ true
port_at plan service e k row is ends = or_right (list_any (is_circuit_at service e) plan.circuits) (list_any (wire_ends_at service e) plan.wires)
    (any_passes_from_place (wire_ends_at service e) plan.wires k row is ends)

-- a mesh wire between two edges that carries frames
pub record MeshWire (plan : Plan) (calm : NetworkState) (service : ServiceId) (a b : ℕ) : Type 0 where
  pub k : ℕ
  pub row : WirePlan
  pub is : slice_get plan.wires k ≡ Some row
  pub between : is_between service a b row ≡ true
  pub live : carries plan calm k row ≡ true

pub mesh_wire : (plan : Plan) (calm : NetworkState) (service : ServiceId) (a b : ℕ) → is_calm plan calm service ≡ true → a < length plan.edges → b < length plan.edges
    → is_core_edge plan service a ≡ true → is_core_edge plan service b ≡ true → nat_eq a b ≡ false → MeshWire plan calm service a b
mesh_wire plan calm service a b calmed within within_too core core_too apart =
    let full = second_holds (is_quiet plan calm service) (is_full plan calm service)
    (first_holds (is_quiet plan calm service && is_full plan calm service) (has_live_spokes plan calm service) calmed) in
    let met : (c : ℕ) → (d : ℕ) → Bool = λ c d. not (is_core_edge plan service c && is_core_edge plan service d) || (c == d || any_wire (meshes plan calm service c d) 0 plan.wires) in
    let first = below_holds (length plan.edges) a (λ c. all_below (length plan.edges) (met c)) full within in
    let both = below_holds (length plan.edges) b (met a) first within_too in
    let some = meets (is_core_edge plan service a) (is_core_edge plan service b) (nat_eq a b) core core_too apart both in
    found (wire_found (meshes plan calm service a b) 0 plan.wires some)
  where
    meets : (x y equal : Bool) {mesh : Bool} → x ≡ true → y ≡ true → equal ≡ false → not (x && y) || (equal || mesh) ≡ true → mesh ≡ true
    meets true true false one other apart holds = holds
    meets true true true one other apart holds = absurd (cc (apart))
    meets true false equal one other apart holds = absurd (cc (other))
    meets false y equal one other apart holds = absurd (cc (one))

    found : FoundWire (meshes plan calm service a b) 0 plan.wires → MeshWire plan calm service a b
    found wire =
        let passes : meshes plan calm service a b wire.k wire.row ≡ true = subst (λ n. meshes plan calm service a b n wire.row ≡ true) (zero-add wire.k) wire.passes in
        record {
          k = wire.k;
          row = wire.row;
          is = wire.is;
          between = first_holds (is_between service a b wire.row) (carries plan calm wire.k wire.row) passes;
          live = second_holds (is_between service a b wire.row) (carries plan calm wire.k wire.row) passes;
        }

-- the terminal edges of a mesh wire of the service are core edges
pub mesh_near : (plan : Plan) (service : ServiceId) (k : ℕ) (row : WirePlan) (link : IsLink plan row) → IsChecked plan → slice_get plan.wires k ≡ Some row
    → is_mesh_of service row ≡ true → is_spoke_edge plan service link.near.0 ≡ false
mesh_near plan service k row link checked is mesh =
    starts_none plan service k row link link.near.0 checked is (first_holds (is_wire_of service row) (is_mesh_class row.class) mesh)
    (starts (is_mesh_class row.class) link.near.0 link.far.0 (second_holds (is_wire_of service row) (is_mesh_class row.class) mesh))
  where
    starts : (m : Bool) (a b : ℕ) → m ≡ true → nat_eq a b || (m && nat_eq a a) ≡ true
    starts m a b is = rw (is, eq-eqb a a refl) (or_right (nat_eq a b) true refl)

-- the last edge of a wire of the service is a core edge
pub far_core : (plan : Plan) (service : ServiceId) (k : ℕ) (row : WirePlan) (link : IsLink plan row) → IsChecked plan → slice_get plan.wires k ≡ Some row
    → is_wire_of service row ≡ true → is_spoke_edge plan service link.far.0 ≡ false
far_core plan service k row link checked is ours = starts_none plan service k row link link.far.0 checked is ours (rw (eq-eqb link.far.0 link.far.0 refl) refl)

-- the first edge of a wire of the service has a port of it
pub near_port : (plan : Plan) (service : ServiceId) (k : ℕ) (row : WirePlan) (link : IsLink plan row) → slice_get plan.wires k ≡ Some row
    → is_wire_of service row ≡ true → has_port plan service link.near.0 ≡ true
near_port plan service k row link is ours = port_at plan service link.near.0 k row is (rw (ours, link.path, eq-eqb link.near.0 link.near.0 refl) refl)

-- and so has its last edge
pub far_port : (plan : Plan) (service : ServiceId) (k : ℕ) (row : WirePlan) (link : IsLink plan row) → slice_get plan.wires k ≡ Some row
    → is_wire_of service row ≡ true → has_port plan service link.far.0 ≡ true
far_port plan service k row link is ours = port_at plan service link.far.0 k row is
    (rw (ours, link.path, link.last link.far.0, eq-eqb link.far.0 link.far.0 refl) (or_right (nat_eq link.far.0 link.near.0) true refl))

-- each mesh wire of a calm service carries frames
pub mesh_carries : (plan : Plan) (calm : NetworkState) (service : ServiceId) (k : ℕ) (row : WirePlan) → IsChecked plan → is_calm plan calm service ≡ true
    → slice_get plan.wires k ≡ Some row → is_mesh_of service row ≡ true → carries plan calm k row ≡ true
mesh_carries plan calm service k row checked calmed is mesh =
    let ours = first_holds (is_wire_of service row) (is_mesh_class row.class) mesh in
    let near = core_edge plan service link.near.0 (near_port plan service k row link is ours) (mesh_near plan service k row link checked is mesh) in
    let far = core_edge plan service link.far.0 (far_port plan service k row link is ours) (far_core plan service k row link checked is ours) in
    same (mesh_wire plan calm service link.near.0 link.far.0 calmed link.near_within link.far_within near far link.apart)
  where
    link : IsLink plan row
    link = link_at plan k row checked is

    between : (l : IsLink plan row) → is_between service l.near.0 l.far.0 row ≡ true
    between l = rw (mesh, l.path, l.last l.far.0, eq-eqb l.near.0 l.near.0 refl, eq-eqb l.far.0 l.far.0 refl) refl

    same : MeshWire plan calm service link.near.0 link.far.0 → carries plan calm k row ≡ true
    same wire =
        let place : wire.k ≡ k = eqb-true wire.k k (one_between plan service wire.k k link.near.0 link.far.0 wire.row row checked wire.is wire.between is (between link)) in
        let rows : Some wire.row ≡ Some row = sym wire.is ∙ (ap (slice_get plan.wires) place ∙ is) in
        let row_is : wire.row ≡ row = cc (rows) in
        ap (λ w. carries plan calm k w) (sym row_is) ∙ (ap (λ n. carries plan calm n wire.row) (sym place) ∙ wire.live)

-- some mesh wire between the two edges carries frames
abbrev pub some_mesh : Plan → NetworkState → ServiceId → ℕ → Option ℕ → Bool
some_mesh plan calm service a None = false
some_mesh plan calm service a (Some b) = any_wire (meshes plan calm service a b) 0 plan.wires

-- one where the wire is such a one
abbrev pub by_mesh : Plan → NetworkState → ServiceId → ℕ → Option ℕ → ℕ → WirePlan → ℕ
by_mesh plan calm service a None k row = 0
by_mesh plan calm service a (Some b) k row = cond (meshes plan calm service a b k row) 1 0

-- no wire leads from an edge to itself
pub mesh_none : (plan : Plan) (calm : NetworkState) (service : ServiceId) (a b : ℕ) → IsChecked plan → nat_eq a b ≡ true → any_wire (meshes plan calm service a b) 0 plan.wires ≡ false
mesh_none plan calm service a b checked equal = elim (cases_Bool (any_wire (meshes plan calm service a b) 0 plan.wires)) [
  | inl some ↦
      (let wire = wire_found (meshes plan calm service a b) 0 plan.wires some in
      let between : is_between service a b wire.row ≡ true = first_holds (is_between service a b wire.row) (carries plan calm (0 + wire.k) wire.row) wire.passes in
      let wrong : true ≡ false = sym between ∙ none wire.k wire.row wire.is (eqb-true a b equal) in
      absurd (cc (wrong)))
  | inr away ↦ away
]
  where
    twice : (mesh : Bool) (a e f : ℕ) → nat_eq e f ≡ false → mesh && ((nat_eq a e && nat_eq a f) || (nat_eq a e && nat_eq a f)) ≡ false
    twice mesh a e f apart = grind (arith, nat_tests)

    none : (k : ℕ) (row : WirePlan) → slice_get plan.wires k ≡ Some row → a ≡ b → is_between service a b row ≡ false
    none k row is same =
        let link = link_at plan k row checked is in
        subst (λ n. is_between service a n row ≡ false) same (rw (link.path, link.last a) (twice (is_mesh_of service row) a link.near.0 link.far.0 link.apart))

-- of such wires there is one at most
pub mesh_sum : (plan : Plan) (calm : NetworkState) (service : ServiceId) (a : ℕ) (other : Option ℕ) → IsChecked plan
    → sum_wires (by_mesh plan calm service a other) 0 plan.wires ≡ cond (some_mesh plan calm service a other) 1 0
mesh_sum plan calm service a None checked = sum-none (by_mesh plan calm service a None) plan.wires (λ k row is. refl)
mesh_sum plan calm service a (Some b) checked = elim (cases_Bool (any_wire (meshes plan calm service a b) 0 plan.wires)) [
  | inl some ↦ one (wire_found (meshes plan calm service a b) 0 plan.wires some) ∙ ap (λ (t : Bool). cond {A = ℕ} t 1 0) (sym some)
  | inr away ↦
      sum-none (by_mesh plan calm service a (Some b)) plan.wires (λ k row is. ap (λ (t : Bool). cond {A = ℕ} t 1 0) (none_of_any (meshes plan calm service a b) plan.wires k row away is))
      ∙ ap (λ (t : Bool). cond {A = ℕ} t 1 0) (sym away)
]
  where
    one : FoundWire (meshes plan calm service a b) 0 plan.wires → sum_wires (by_mesh plan calm service a (Some b)) 0 plan.wires ≡ 1
    one wire =
        sum-same (by_mesh plan calm service a (Some b)) (λ k row. cond (nat_eq k wire.k) (by_mesh plan calm service a (Some b) k row) 0) plan.wires
        (λ k row is. only k row is (meshes plan calm service a b k row) refl)
        ∙ (sum-at (by_mesh plan calm service a (Some b)) wire.k wire.row plan.wires wire.is ∙ ap (λ (t : Bool). cond {A = ℕ} t 1 0) passes)
      where
        passes : meshes plan calm service a b wire.k wire.row ≡ true
        passes = subst (λ n. meshes plan calm service a b n wire.row ≡ true) (zero-add wire.k) wire.passes

        between : is_between service a b wire.row ≡ true
        between = first_holds (is_between service a b wire.row) (carries plan calm wire.k wire.row) passes

        empty : (t : Bool) → 0 ≡ cond {A = ℕ} t 0 0
        empty true = refl
        empty false = refl

        only : (k : ℕ) (row : WirePlan) → slice_get plan.wires k ≡ Some row → (t : Bool) → meshes plan calm service a b k row ≡ t
            → cond {A = ℕ} (meshes plan calm service a b k row) 1 0 ≡ cond (nat_eq k wire.k) (cond (meshes plan calm service a b k row) 1 0) 0
        only k row is true there =
            let equal : nat_eq k wire.k ≡ true = one_between plan service k wire.k a b row wire.row checked is (first_holds (is_between service a b row) (carries plan calm k row) there) wire.is between in
            sym (ap (λ (t : Bool). cond {A = ℕ} t (cond (meshes plan calm service a b k row) 1 0) 0) equal)
        only k row is false there = ap (λ (t : Bool). cond {A = ℕ} t 1 0) there
            ∙ (empty (nat_eq k wire.k) ∙ ap (λ (t : Bool). cond {A = ℕ} (nat_eq k wire.k) (cond {A = ℕ} t 1 0) 0) (sym there))
