-- Core edges, and which of them meet.
use Rattle.std.proofs.Common.{◌≡◌, ◌<◌, ◌+◌, ◌&&◌, ◌||◌, ◌∙◌, ℕ, suc, Bool, true, false, List, [], ◌∷◌, Option, Some, None, IfSome, length}
use Rattle.std.proofs.Common.{nat_eq, nat_lt, refl, ap, arith, slice_get, slice_index_or, subst, sym}
use Rattle.std.specs.List.{list_all}
use Rattle.std.proofs.lemmas.Bool.{and_from, and_parts, eqb-true, ltb-true}
use Rattle.std.proofs.lemmas.Option.{slice_get_within}
use Rattle.net_values.proofs.NumberLemmas.{add_zero, apart_back, equal_back, from_none, step_over}
use Rattle.net_values.proofs.RowLemmas.{row_holds}
use Rattle.net_base.specs.declared.plan.Plan.{Plan}
use Rattle.net_base.specs.declared.plan.places.EdgeId.{EdgeId}
use Rattle.net_base.specs.declared.plan.places.ServiceId.{ServiceId}
use Rattle.net_base.specs.declared.plan.wire_plan.WirePlan.{WirePlan}
use Rattle.net_base.specs.plan.Accepted.{IsChecked, IsWireOf}
use Rattle.net_base.specs.plan.Paths.{last_edge}
use Rattle.net_base.specs.plan.Roles.{any_wire}
use Rattle.net_base.specs.plan.RowFaults.{is_edge_of}
use Rattle.network_model.specs.State.{NetworkState}
use Rattle.survey_laws.specs.declared.fault.Fault.{Fault}
use Rattle.survey_laws.specs.Would.{would_core, would_meet, would_mesh, would_reach, would_sound_row}
use Rattle.survey_reach.specs.Met.{core_at, meet, meets, meets_by}
use Rattle.survey_reach.specs.Reach.{AreCores, AreMeshes, mesh_row, place_of, reaches, sound_mesh, would_be_sound}
use Rattle.survey_reach.specs.Rows.{IsFilled}
use Rattle.survey_reach.specs.Words.{has_pair}

-- ---- the last edge of a wire is one of 64

path_few : (plan : Plan) (path : List EdgeId) → length plan.edges < 65 → list_all (is_edge_of plan) path ≡ true → IfSome (last_edge path) (λ edge. edge.0 < 64)
path_few plan [] few all = tt
path_few plan (last ∷ []) few all = omega (arith, few, ltb-true last.0 (length plan.edges) (and_parts (is_edge_of plan last) true all).0)
path_few plan (first ∷ next ∷ rest) few all = path_few plan (next ∷ rest) few (and_parts (is_edge_of plan first) (list_all (is_edge_of plan) (next ∷ rest)) all).1

pub last_few : (plan : Plan) (wire : ℕ) (row : WirePlan) (last : Option EdgeId) → IsChecked plan → slice_get plan.wires wire ≡ Some row → last ≡ last_edge row.path → IfSome last (λ edge. edge.0 < 64)
last_few plan wire row last checked got is =
    subst (λ (e : Option EdgeId). IfSome e (λ edge. edge.0 < 64)) (sym is)
    (path_few plan row.path (omega (arith, checked.limits.edges)) (row_holds (IsWireOf plan) plan.wires wire row got checked.wires).edges)

-- ---- mesh wires by the places of the plan

any_same : (p q : ℕ → WirePlan → Bool) (all rows : List WirePlan) (place : ℕ) → ((i : ℕ) → slice_get all (place + i) ≡ slice_get rows i)
    → ((wire : ℕ) (row : WirePlan) → slice_get all wire ≡ Some row → p wire row ≡ q wire row) → any_wire p place rows ≡ any_wire q place rows
any_same p q all [] place at same = refl
any_same p q all (row ∷ rows) place at same = both (any_same p q all rows (place + 1) (λ i. ap (slice_get all) (step_over place i) ∙ at (suc i)) same) where
  here : p place row ≡ q place row
  here = same place row (ap (slice_get all) (add_zero place) ∙ at 0)

  both : any_wire p (place + 1) rows ≡ any_wire q (place + 1) rows → p place row || any_wire p (place + 1) rows ≡ q place row || any_wire q (place + 1) rows
  both later = λ i. here i || later i

same_wires : (plan : Plan) (before : NetworkState) (faults : List Fault) (service : ServiceId) (sound : List Bool) → IsFilled (would_be_sound plan before faults) false (length plan.wires) sound
    → (a b : ℕ)
    → any_wire (sound_mesh (λ wire. slice_index_or sound wire false) service a b) 0 plan.wires ≡ any_wire (would_mesh before faults service a b) 0 plan.wires
same_wires plan before faults service sound is a b =
    any_same (sound_mesh (λ wire. slice_index_or sound wire false) service a b) (would_mesh before faults service a b) plan.wires plan.wires 0 (λ i. ap (slice_get plan.wires) (from_none i))
    (λ wire row got. ap (λ (t : Bool). mesh_row service a b row && t) (is.each wire (slice_get_within plan.wires wire row got) ∙ ap (would_sound_row before faults wire) got))

-- ---- whom each edge reaches

-- two core edges meet as they would
met_is : (plan : Plan) (before : NetworkState) (faults : List Fault) (service : ServiceId) (sound : List Bool) (meshes : List ℕ)
    → IsFilled (would_be_sound plan before faults) false (length plan.wires) sound
    → AreMeshes plan (λ wire. slice_index_or sound wire false) service meshes
    → (x y : Option EdgeId) → IfSome x (λ edge. edge.0 < 64) → IfSome y (λ edge. edge.0 < 64) → meet meshes (place_of x) (place_of y) ≡ would_meet plan before faults service (place_of x) (place_of y)
met_is plan before faults service sound meshes filled is None y few least = refl
met_is plan before faults service sound meshes filled is (Some a) None few least = refl
met_is plan before faults service sound meshes filled is (Some a) (Some b) few least =
    ap (λ (t : Bool). nat_eq a.0 b.0 || t) (is.each a.0 b.0 few least ∙ same_wires plan before faults service sound filled a.0 b.0)

meets_none : (meshes : List ℕ) (cores : List (Option EdgeId)) (core : Option ℕ) (edge : ℕ) → nat_lt edge (length cores) ≡ false → meets meshes cores core edge ≡ false
meets_none meshes cores None edge past = refl
meets_none meshes cores (Some core) edge past = ap (λ (t : Bool). t && meet meshes (Some core) (core_at cores edge)) past

meets_some : (meshes : List ℕ) (cores : List (Option EdgeId)) (core : Option ℕ) (edge : ℕ) → nat_lt edge (length cores) ≡ true → meets meshes cores core edge ≡ meet meshes core (core_at cores edge)
meets_some meshes cores None edge below = refl
meets_some meshes cores (Some core) edge below = ap (λ (t : Bool). t && meet meshes (Some core) (core_at cores edge)) below

pub reached : (plan : Plan) (before : NetworkState) (faults : List Fault) (service : ServiceId) (sound : List Bool) (cores : List (Option EdgeId)) (meshes pairs : List ℕ)
    → IsFilled (would_be_sound plan before faults) false (length plan.wires) sound → AreCores plan before faults service (length plan.edges) cores
    → AreMeshes plan (λ wire. slice_index_or sound wire false) service meshes
    → ((a b : ℕ) → has_pair pairs a b ≡ nat_lt a (length cores) && meets_by meshes cores a b) → (a b : ℕ) → has_pair pairs a b ≡ reaches plan before faults service a b
reached plan before faults service sound cores meshes pairs filled home meshed made a b =
    (made a b ∙ by_first (nat_lt a (length cores)) refl) ∙ ap (λ (count : ℕ). (nat_lt a count && nat_lt b count) && would_reach plan before faults service a b) home.all
  where
    core : (edge : ℕ) → nat_lt edge (length cores) ≡ true → core_at cores edge ≡ would_core plan before faults service edge
    core edge below = home.each edge (omega (arith, ltb-true edge (length cores) below, home.all))

    apart : nat_lt a (length cores) ≡ true → (t : Bool) → nat_lt b (length cores) ≡ t
        → meets meshes cores (core_at cores a) b ≡ t && would_meet plan before faults service (would_core plan before faults service a) (would_core plan before faults service b)
    apart first false past = meets_none meshes cores (core_at cores a) b past
    apart first true below =
        meets_some meshes cores (core_at cores a) b below
        ∙ (met_is plan before faults service sound meshes filled meshed (slice_index_or cores a None) (slice_index_or cores b None) (home.few.each a) (home.few.each b)
        ∙ (ap (λ (x : Option ℕ). would_meet plan before faults service x (core_at cores b)) (core a first)
        ∙ ap (would_meet plan before faults service (would_core plan before faults service a)) (core b below)))

    by_same : nat_lt a (length cores) ≡ true → (t : Bool) → nat_eq b a ≡ t → t || meets meshes cores (core_at cores a) b ≡ nat_lt b (length cores) && would_reach plan before faults service a b
    by_same first true same = sym (and_from (nat_lt b (length cores)) (would_reach plan before faults service a b) (ap (λ (n : ℕ). nat_lt n (length cores)) (eqb-true b a same) ∙ first)
        (ap (λ (t : Bool). t || would_meet plan before faults service (would_core plan before faults service a) (would_core plan before faults service b)) (equal_back b a same)))
    by_same first false other = apart first (nat_lt b (length cores)) refl
        ∙ sym (ap (λ (t : Bool). nat_lt b (length cores) && (t || would_meet plan before faults service (would_core plan before faults service a) (would_core plan before faults service b)))
        (apart_back b a other))

    by_first : (t : Bool) → nat_lt a (length cores) ≡ t → t && meets_by meshes cores a b ≡ (t && nat_lt b (length cores)) && would_reach plan before faults service a b
    by_first false past = refl
    by_first true first = by_same first (nat_eq b a) refl
