-- What is read of a wire along its path.
use Rattle.std.proofs.Common.{◌≡◌, ◌≤◌, ◌<◌, ◌&&◌, ◌∙◌, ℕ, Bool, true, List, [], ◌∷◌, Option, Some, IfSome, length, nat_lt, slice_get, refl, ap, arith, subst, sym}
use Rattle.std.proofs.lemmas.Bool.Decides.{nat_tests}
use Rattle.std.specs.List.{list_all}
use Rattle.net_values.proofs.BoolLemmas.{first_holds, second_holds}
use Rattle.net_values.proofs.RowLemmas.{row_holds}
use Rattle.net_base.specs.declared.plan.Plan.{Plan}
use Rattle.net_base.specs.declared.plan.circuit_plan.CircuitPlan.{CircuitPlan}
use Rattle.net_base.specs.declared.plan.places.EdgeId.{EdgeId}
use Rattle.net_base.specs.declared.plan.wire_plan.WirePlan.{WirePlan}
use Rattle.net_base.specs.plan.Accepted.{IsChecked, IsCircuitOf, IsWireOf}
use Rattle.net_base.specs.plan.Paths.{first_edge, last_edge}
use Rattle.net_base.specs.plan.RowFaults.{is_edge_of}
use Rattle.network_model.specs.State.{NetworkState}
use Rattle.settle_laws.specs.Sound.{are_connected, first_is_clear, is_connected, last_is_clear}
use Rattle.survey_reach.specs.Ground.{are_peers, number_at}
use Rattle.survey_net.specs.Along.{are_pairs, is_clear_at, is_one, meets_next, number_there}

-- ---- the edges of a path are those of the plan

pub all_first : (test : EdgeId → Bool) (first : EdgeId) (rest : List EdgeId) → list_all test (first ∷ rest) ≡ true → test first ≡ true
all_first test first rest all = first_holds (test first) (list_all test rest) all

pub all_rest : (test : EdgeId → Bool) (first : EdgeId) (rest : List EdgeId) → list_all test (first ∷ rest) ≡ true → list_all test rest ≡ true
all_rest test first rest all = second_holds (test first) (list_all test rest) all

pub ruleset path_steps = (all_first, all_rest)

pub one_below : (edge : EdgeId) → is_one edge ≡ true → edge.0 < 64
one_below edge one = grind (arith, nat_tests, one)

pub ruleset one_steps = (all_first, all_rest, one_below)

pub pairs_step : (pair : ℕ → ℕ → Bool) (first : EdgeId) (rest : List EdgeId) → are_pairs pair (first ∷ rest) ≡ meets_next pair first rest && are_pairs pair rest
pairs_step pair first [] = refl
pairs_step pair first (next ∷ rest) = refl

few : (plan : Plan) (edge : EdgeId) → length plan.edges ≤ 64 → is_edge_of plan edge ≡ true → is_one edge ≡ true
few plan edge most is = grind (arith, nat_tests, most, is)

-- and so they are of at most 64
pub all_few : (plan : Plan) (path : List EdgeId) → length plan.edges ≤ 64 → list_all (is_edge_of plan) path ≡ true → list_all is_one path ≡ true
all_few plan [] most all = refl
all_few plan (first ∷ rest) most all =
    ap (λ (b : Bool). b && list_all is_one rest) (few plan first most (all_first (is_edge_of plan) first rest all)) ∙ all_few plan rest most (all_rest (is_edge_of plan) first rest all)

first_among : (plan : Plan) (path : List EdgeId) → list_all (is_edge_of plan) path ≡ true → IfSome (first_edge path) (λ edge. is_edge_of plan edge ≡ true)
first_among plan [] all = tt
first_among plan (first ∷ rest) all = all_first (is_edge_of plan) first rest all

last_among : (plan : Plan) (path : List EdgeId) → list_all (is_edge_of plan) path ≡ true → IfSome (last_edge path) (λ edge. is_edge_of plan edge ≡ true)
last_among plan [] all = tt
last_among plan (last ∷ []) all = all_first (is_edge_of plan) last [] all
last_among plan (first ∷ next ∷ rest) all = last_among plan (next ∷ rest) (all_rest (is_edge_of plan) first (next ∷ rest) all)

pub first_within : (plan : Plan) (path : List EdgeId) (first : Option EdgeId) → first ≡ first_edge path → list_all (is_edge_of plan) path ≡ true → IfSome first (λ edge. is_edge_of plan edge ≡ true)
first_within plan path first is all = subst (λ (edge : Option EdgeId). IfSome edge (λ e. is_edge_of plan e ≡ true)) (sym is) (first_among plan path all)

pub last_within : (plan : Plan) (path : List EdgeId) (last : Option EdgeId) → last ≡ last_edge path → list_all (is_edge_of plan) path ≡ true → IfSome last (λ edge. is_edge_of plan edge ≡ true)
last_within plan path last is all = subst (λ (edge : Option EdgeId). IfSome edge (λ e. is_edge_of plan e ≡ true)) (sym is) (last_among plan path all)

-- ---- what is asked of a wire is what its soundness asks

pub first_clear : (network : NetworkState) (wire : ℕ) (path : List EdgeId) → is_clear_at network wire (first_edge path) ≡ first_is_clear network wire path
first_clear network wire [] = refl
first_clear network wire (first ∷ rest) = refl

pub last_clear : (network : NetworkState) (wire : ℕ) (path : List EdgeId) → is_clear_at network wire (last_edge path) ≡ last_is_clear network wire path
last_clear network wire [] = refl
last_clear network wire (last ∷ []) = refl
last_clear network wire (first ∷ next ∷ rest) = last_clear network wire (next ∷ rest)

-- two edges of the plan are peers where they are connected
peers_are : (plan : Plan) (network : NetworkState) (a b : EdgeId) → is_edge_of plan a ≡ true → is_edge_of plan b ≡ true → are_peers plan network a.0 b.0 ≡ are_connected network a.0 b.0
peers_are plan network a b one other =
    ap (λ (p : Bool). (p && nat_lt b.0 (length plan.edges)) && are_connected network a.0 b.0) one ∙ ap (λ (p : Bool). p && are_connected network a.0 b.0) other

pub pairs_connected : (plan : Plan) (network : NetworkState) (pair : ℕ → ℕ → Bool) (path : List EdgeId) → ((a b : ℕ) → pair a b ≡ are_peers plan network a b)
    → list_all (is_edge_of plan) path ≡ true
    → are_pairs pair path ≡ is_connected network path
pairs_connected plan network pair [] are all = refl
pairs_connected plan network pair (last ∷ []) are all = refl
pairs_connected plan network pair (first ∷ next ∷ rest) are all =
    let later : list_all (is_edge_of plan) (next ∷ rest) ≡ true = all_rest (is_edge_of plan) first (next ∷ rest) all in
    ap (λ (p : Bool). p && are_pairs pair (next ∷ rest))
    (are first.0 next.0 ∙ peers_are plan network first next (all_first (is_edge_of plan) first (next ∷ rest) all) (all_first (is_edge_of plan) next rest later))
    ∙ ap (λ (p : Bool). are_connected network first.0 next.0 && p) (pairs_connected plan network pair (next ∷ rest) are later)

pub ruleset end_steps = (first_within, first_clear, last_within, last_clear)

pub ruleset sound_steps = (all_few, pairs_connected)

-- ---- of the row at a place

pub edges_of : (plan : Plan) (wire : ℕ) (row : WirePlan) → IsChecked plan → slice_get plan.wires wire ≡ Some row → list_all (is_edge_of plan) row.path ≡ true
edges_of plan wire row checked is = (row_holds (IsWireOf plan) plan.wires wire row is checked.wires).edges

pub ruleset row_steps = (edges_of)

pub first_number : (network : NetworkState) (wire : ℕ) (path : List EdgeId) → number_there network wire (first_edge path) ≡ number_at network wire path
first_number network wire [] = refl
first_number network wire (first ∷ rest) = refl

pub ruleset number_steps = (edges_of, first_within, first_number)

pub circuit_edge : (plan : Plan) (circuit : ℕ) (row : CircuitPlan) → IsChecked plan → slice_get plan.circuits circuit ≡ Some row → row.edge.0 < length plan.edges
circuit_edge plan circuit row checked is = (row_holds (IsCircuitOf plan) plan.circuits circuit row is checked.circuits).edge

pub ruleset circuit_steps = (circuit_edge)
