-- Wires of a checked plan: their terminal edges, which edges start no spoke, and which wires are one.
use Rattle.std.proofs.Common.{◌≡◌, ◌≤◌, ◌<◌, ◌&&◌, ◌||◌, ◌∙◌, not, ℕ, zero, suc, Bool, true, false, List, [], ◌∷◌, Some, length, slice_get, get_or, nat_eq, refl, ap, sym, subst, arith, inl, inr}
use Rattle.std.proofs.lemmas.Bool.{cases_Bool, eqb-true, or_parts, ltb-true}
use Rattle.std.proofs.lemmas.Bool.Decides.{nat_tests}
use Rattle.std.proofs.lemmas.Option.{get_or_from_slice_get, slice_get_within}
use Rattle.std.specs.List.{list_all, list_any}
use Rattle.net_values.proofs.BoolLemmas.{first_holds, second_holds, or_later}
use Rattle.net_values.proofs.NumberLemmas.{same_number, equal_over, one_before}
use Rattle.net_values.proofs.RowLemmas.{row_holds}
use Rattle.net_base.specs.declared.plan.Plan.{Plan}
use Rattle.net_base.specs.declared.plan.wire_plan.WirePlan.{WirePlan}
use Rattle.net_base.specs.declared.plan.places.EdgeId.{EdgeId}
use Rattle.net_base.specs.declared.plan.places.ServiceId.{ServiceId}
use Rattle.net_base.specs.plan.Accepted.{IsChecked, IsWireOf, NonePair}
use Rattle.net_base.specs.plan.Paths.{has_repeat, is_first, is_last, last_edge}
use Rattle.network_model.specs.Goal.{last_or}
use Rattle.network_model.proofs.WayLemmas.{not_there}
use Rattle.network_model.proofs.GoalLemmas.{one_last}
use Rattle.net_base.specs.plan.Places.{is_mesh_class}
use Rattle.net_base.specs.plan.Roles.{is_mesh_of, is_spoke_edge, is_spoke_from, is_wire_of}
use Rattle.net_base.specs.plan.RowFaults.{is_edge_of}
use Rattle.net_base.specs.plan.WireFaults.{are_two_mesh_wires, is_spoke_in_mesh, starts_in_mesh}

-- the path of a wire goes from its near terminal edge to its far one, between which there are switching points or none
pub record IsLink (plan : Plan) (row : WirePlan) : Type 0 where
  pub near : EdgeId
  pub rest : List EdgeId
  pub far : EdgeId
  pub path : row.path ≡ near ∷ rest
  pub last : (e : ℕ) → is_last e (near ∷ rest) ≡ nat_eq e far.0
  pub ends : last_edge (near ∷ rest) ≡ Some far
  pub apart : nat_eq near.0 far.0 ≡ false
  pub near_within : near.0 < length plan.edges
  pub far_within : far.0 < length plan.edges

last_is : (d : EdgeId) (path : List EdgeId) (e : ℕ) → is_last e (d ∷ path) ≡ nat_eq e (last_or d (d ∷ path)).0
last_is d [] e = refl
last_is d (a ∷ []) e = refl
last_is d (a ∷ b ∷ rest) e = more a b rest (last_is a (b ∷ rest) e) where
  more : (a b : EdgeId) (rest : List EdgeId) → is_last e (a ∷ b ∷ rest) ≡ nat_eq e (last_or a (a ∷ b ∷ rest)).0 → is_last e (b ∷ rest) ≡ nat_eq e (last_or d (b ∷ rest)).0
  more a b rest h = h ∙ ap (λ (x : EdgeId). nat_eq e x.0) (one_last a d b rest)

pub last_ends : (d : EdgeId) (first : EdgeId) (rest : List EdgeId) → last_edge (first ∷ rest) ≡ Some (last_or d (first ∷ rest))
last_ends d first [] = refl
last_ends d first (next ∷ rest) = last_ends d next rest

-- the last edge stands behind the first one
last_behind : (d : EdgeId) (first : EdgeId) (rest : List EdgeId) → list_any (λ (e : EdgeId). nat_eq e.0 (last_or d (first ∷ rest)).0) (first ∷ rest) ≡ true
last_behind d first [] = rw (same_number first.0) refl
last_behind d first (next ∷ rest) = or_later (nat_eq first.0 (last_or d (next ∷ rest)).0) (last_behind d next rest)

last_within : (plan : Plan) (d first : EdgeId) (rest : List EdgeId) → list_all (is_edge_of plan) (first ∷ rest) ≡ true → (last_or d (first ∷ rest)).0 < length plan.edges
last_within plan d first [] all = ltb-true first.0 (length plan.edges) (first_holds (is_edge_of plan first) true all)
last_within plan d first (next ∷ rest) all = last_within plan d next rest (second_holds (is_edge_of plan first) (list_all (is_edge_of plan) (next ∷ rest)) all)

link_of : (plan : Plan) (row : WirePlan) → IsWireOf plan row → IsLink plan row
link_of plan row wire = by row.path refl wire.edges wire.once wire.least where
  by : (path : List EdgeId) → row.path ≡ path → list_all (is_edge_of plan) path ≡ true → has_repeat path ≡ false → 2 ≤ length path → IsLink plan row
  by [] is edges once two = absurd (omega (arith, two))
  by (a ∷ []) is edges once two = absurd (omega (arith, two))
  by (a ∷ b ∷ rest) is edges once two = record {
    near = a;
    rest = b ∷ rest;
    far = last_or a (b ∷ rest);
    path = is;
    last = λ e. last_is a (b ∷ rest) e;
    ends = last_ends a b rest;
    apart = not_there (b ∷ rest) a.0 (last_or a (b ∷ rest)).0 (or_parts (list_any (λ (edge : EdgeId). nat_eq edge.0 a.0) (b ∷ rest)) (has_repeat (b ∷ rest)) once).0 (last_behind a b rest);
    near_within = ltb-true a.0 (length plan.edges) (first_holds (is_edge_of plan a) (list_all (is_edge_of plan) (b ∷ rest)) edges);
    far_within = last_within plan a b rest (second_holds (is_edge_of plan a) (list_all (is_edge_of plan) (b ∷ rest)) edges);
  }

-- a test that holds of all rows holds of the row at a place
all_at : {A : Type 0} (test : A → Bool) (rows : List A) (k : ℕ) (row : A) → list_all test rows ≡ true → slice_get rows k ≡ Some row → test row ≡ true
all_at test [] k row all is = absurd (cc (is))
all_at test (x ∷ xs) zero row all is =
    let same : x ≡ row = cc (is) in
    ap test (sym same) ∙ first_holds (test x) (list_all test xs) all
all_at test (x ∷ xs) (suc k) row all is = all_at test xs k row (second_holds (test x) (list_all test xs) all) is

-- a test that holds of no row fails at the row at a place
pub none_at : {A : Type 0} (test : A → Bool) (rows : List A) (k : ℕ) (row : A) → list_any test rows ≡ false → slice_get rows k ≡ Some row → test row ≡ false
none_at test [] k row none is = absurd (cc (is))
none_at test (x ∷ xs) zero row none is =
    let same : x ≡ row = cc (is) in
    ap test (sym same) ∙ (or_parts (test x) (list_any test xs) none).0
none_at test (x ∷ xs) (suc k) row none is = none_at test xs k row ((or_parts (test x) (list_any test xs) none).1) is

-- each wire of a checked plan is such a link
pub link_at : (plan : Plan) (k : ℕ) (row : WirePlan) → IsChecked plan → slice_get plan.wires k ≡ Some row → IsLink plan row
link_at plan k row checked is = link_of plan row (row_holds (IsWireOf plan) plan.wires k row is checked.wires)

-- some row that passes a test
record FoundRow (test : WirePlan → Bool) (rows : List WirePlan) : Type 0 where
  k : ℕ
  row : WirePlan
  is : slice_get rows k ≡ Some row
  passes : test row ≡ true

row_found : (test : WirePlan → Bool) (rows : List WirePlan) → list_any test rows ≡ true → FoundRow test rows
row_found test [] some = absurd (cc (some))
row_found test (x ∷ xs) some = elim (cases_Bool (test x)) [
  | inl here ↦ record { k = 0; row = x; is = refl; passes = here }
  | inr away ↦
      (let found = row_found test xs (rw away at some) in
      record { k = suc found.k; row = found.row; is = found.is; passes = found.passes })
]

-- two rows at different places do not clash
pair_apart : {A : Type 0} (test : A → A → Bool) (xs : List A) (i j : ℕ) (x y : A) → NonePair test xs → slice_get xs i ≡ Some x → slice_get xs j ≡ Some y → i < j → test x y ≡ false
pair_apart test xs i j x y none first second before =
    subst (λ a. test a y ≡ false) (get_or_from_slice_get xs i x x first)
    (subst (λ b. test (get_or xs i x) b ≡ false) (get_or_from_slice_get xs j y x second) (none i j x before (slice_get_within xs j y second)))

starts_apart : (plan : Plan) (service : ServiceId) (i j : ℕ) (spoke other : WirePlan) → IsChecked plan → slice_get plan.wires i ≡ Some spoke → slice_get plan.wires j ≡ Some other
    → nat_eq i j ≡ false → is_wire_of service spoke ≡ true → is_wire_of service other ≡ true → starts_in_mesh spoke other ≡ false
starts_apart plan service i j spoke other checked first second apart ours also = elim (one_before i j apart) [
  | inl before ↦
      (or_parts (starts_in_mesh spoke other) (starts_in_mesh other spoke)
      (of_one (nat_eq spoke.service.0 other.service.0) (equal_over spoke.service.0 other.service.0 service.0 ours also)
      (pair_apart is_spoke_in_mesh plan.wires i j spoke other checked.spokes first second before))).0
  | inr behind ↦
      (or_parts (starts_in_mesh other spoke) (starts_in_mesh spoke other)
      (of_one (nat_eq other.service.0 spoke.service.0) (equal_over other.service.0 spoke.service.0 service.0 also ours)
      (pair_apart is_spoke_in_mesh plan.wires j i other spoke checked.spokes second first behind))).1
]
  where
    of_one : (same : Bool) {clash : Bool} → same ≡ true → same && clash ≡ false → clash ≡ false
    of_one true is none = none
    of_one false is none = absurd (cc (is))

ends_apart : (ours mesh : Bool) (e a b : ℕ) → nat_eq a b ≡ false → (ours && not mesh) && nat_eq e a ≡ true → nat_eq e b || (mesh && nat_eq e a) ≡ false
ends_apart ours mesh e a b apart spoke = grind (arith, nat_tests)

starts_away : (ours mesh other : Bool) (e a b c : ℕ) → not other && (nat_eq c b || (mesh && nat_eq c a)) ≡ false → (ours && not other) && nat_eq e c ≡ true → nat_eq e b || (mesh && nat_eq e a) ≡ false
starts_away ours mesh other e a b c none spoke = grind (arith, nat_tests)

-- an edge where a wire of the service ends, or a mesh wire of the service starts, starts no spoke
pub starts_none : (plan : Plan) (service : ServiceId) (k : ℕ) (row : WirePlan) (link : IsLink plan row) (e : ℕ) → IsChecked plan
    → slice_get plan.wires k ≡ Some row
    → is_wire_of service row ≡ true → nat_eq e link.far.0 || (is_mesh_class row.class && nat_eq e link.near.0) ≡ true → is_spoke_edge plan service e ≡ false
starts_none plan service k row link e checked is ours ends = elim (cases_Bool (is_spoke_edge plan service e)) [
  | inl some ↦ found (row_found (is_spoke_from service e) plan.wires some)
  | inr none ↦ none
]
  where
    found : FoundRow (is_spoke_from service e) plan.wires → is_spoke_edge plan service e ≡ false
    found spoke = elim (cases_Bool (nat_eq spoke.k k)) [
      | inl same ↦
          (let row_is : Some spoke.row ≡ Some row = sym spoke.is ∙ (ap (slice_get plan.wires) (eqb-true spoke.k k same) ∙ is) in
          let one : spoke.row ≡ row = cc (row_is) in
          let passes : is_spoke_from service e row ≡ true = subst (λ w. is_spoke_from service e w ≡ true) one spoke.passes in
          let none = ends_apart (is_wire_of service row) (is_mesh_class row.class) e link.near.0 link.far.0 link.apart (rw link.path at passes) in
          let wrong : true ≡ false = sym ends ∙ none in
          absurd (cc (wrong)))
      | inr apart ↦
          (let other = link_at plan spoke.k spoke.row checked spoke.is in
          let its : is_wire_of service spoke.row ≡ true =
          first_holds (is_wire_of service spoke.row) (not (is_mesh_class spoke.row.class))
          (first_holds (is_wire_of service spoke.row && not (is_mesh_class spoke.row.class)) (is_first e spoke.row.path) spoke.passes) in
          let away = starts_apart plan service spoke.k k spoke.row row checked spoke.is is apart its ours in
          let none =
          starts_away (is_wire_of service spoke.row) (is_mesh_class row.class) (is_mesh_class spoke.row.class) e link.near.0 link.far.0 other.near.0
          (rw (other.path, link.path, link.ends) at away) (rw other.path at spoke.passes) in
          let wrong : true ≡ false = sym ends ∙ none in
          absurd (cc (wrong)))
    ]

-- a mesh wire of the service with these terminal edges, in either direction
abbrev pub is_between : ServiceId → ℕ → ℕ → WirePlan → Bool
is_between service a b row = is_mesh_of service row && ((is_first a row.path && is_last b row.path) || (is_first b row.path && is_last a row.path))

same_ends : (a b c d e f : ℕ) → (nat_eq a c && nat_eq b d) || (nat_eq b c && nat_eq a d) ≡ true
    → (nat_eq a e && nat_eq b f) || (nat_eq b e && nat_eq a f) ≡ true → (nat_eq c e && nat_eq d f) || (nat_eq c f && nat_eq d e) ≡ true
same_ends a b c d e f first second = grind (arith, nat_tests)

-- there is one at most
pub one_between : (plan : Plan) (service : ServiceId) (i j a b : ℕ) (w v : WirePlan) → IsChecked plan
    → slice_get plan.wires i ≡ Some w → is_between service a b w ≡ true → slice_get plan.wires j ≡ Some v → is_between service a b v ≡ true → nat_eq i j ≡ true
one_between plan service i j a b w v checked first here second there = elim (cases_Bool (nat_eq i j)) [
  | inl same ↦ same
  | inr apart ↦
      (let wrong : true ≡ false = elim (one_before i j apart) [
        | inl before ↦ sym (two w v here there (link_at plan i w checked first) (link_at plan j v checked second))
            ∙ pair_apart are_two_mesh_wires plan.wires i j w v checked.mesh_wires first second before
        | inr behind ↦ sym (two v w there here (link_at plan j v checked second) (link_at plan i w checked first))
            ∙ pair_apart are_two_mesh_wires plan.wires j i v w checked.mesh_wires second first behind
      ] in
      absurd (cc (wrong)))
]
  where
    all_of : (p q r s : Bool) → p ≡ true → q ≡ true → r ≡ true → s ≡ true → (p && (q && r)) && s ≡ true
    all_of p q r s one two three four = rw (one, two, three, four) refl

    two : (x y : WirePlan) → is_between service a b x ≡ true → is_between service a b y ≡ true → IsLink plan x → IsLink plan y → are_two_mesh_wires x y ≡ true
    two x y one other link also =
        let p = rw (link.path, link.last a, link.last b) at one in
        let q = rw (also.path, also.last a, also.last b) at other in
        let ends = same_ends a b link.near.0 link.far.0 also.near.0 also.far.0 (second_holds (is_mesh_of service x) _ p) (second_holds (is_mesh_of service y) _ q) in
        let mesh = first_holds (is_mesh_of service x) _ one in
        let mesh_too = first_holds (is_mesh_of service y) _ other in
        let service_same = equal_over x.service.0 y.service.0 service.0 (first_holds (is_wire_of service x) (is_mesh_class x.class) mesh)
        (first_holds (is_wire_of service y) (is_mesh_class y.class) mesh_too) in
        all_of _ _ _ _ service_same (second_holds (is_wire_of service x) (is_mesh_class x.class) mesh) (second_holds (is_wire_of service y) (is_mesh_class y.class) mesh_too)
        (rw (link.path, also.path, link.ends, also.ends) ends)
