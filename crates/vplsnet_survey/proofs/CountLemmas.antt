-- A network has few faults.
use Rattle.std.proofs.Common.{◌≡◌, ◌≤◌, ◌<◌, ◌+◌, ◌*◌, ◌^◌, ◌++◌, ℕ, Bool, List, [], ◌∷◌, Option, Some, None, length, ap, arith}
use Rattle.std.proofs.lemmas.List.{length-append}
use Rattle.net_base.specs.declared.plan.Plan.{Plan}
use Rattle.net_base.specs.declared.plan.edge_plan.EdgePlan.{EdgePlan}
use Rattle.net_base.specs.declared.plan.wire_plan.WirePlan.{WirePlan}
use Rattle.net_base.specs.plan.Accepted.{IsChecked}
use Rattle.network_model.specs.State.{NetworkState}
use Rattle.survey_laws.specs.declared.fault.Fault.{Fault}
use Rattle.survey_laws.specs.declared.fault.Fault.TheVariants as fault
use Rattle.survey_laws.specs.Faults.{where_so, with_fault}
use Rattle.survey_reach.specs.FaultList.{all_faults, edges_from, has_peer, least_rival, priorities_from, renumbered, sessions_from, sessions_with, wires_from}
use Rattle.survey_reach.specs.Ground.{are_peers, number_of, sound_at}

one_more : (one : Option Fault) (faults : List Fault) → length (with_fault one faults) ≤ length faults + 1
one_more None faults = omega arith
one_more (Some one) faults = omega arith

few_sessions_with : (connected : ℕ → ℕ → Bool) (a b : ℕ) (rows : List EdgePlan) → length (sessions_with connected a b rows) ≤ length rows
few_sessions_with connected a b [] = omega arith
few_sessions_with connected a b (row ∷ rows) =
    omega (
      arith,
      few_sessions_with connected a (b + 1) rows,
      one_more (where_so (connected a b) (fault.Session (record { 0 = a }) (record { 0 = b }))) (sessions_with connected a (b + 1) rows),
    )

few_sessions : (connected : ℕ → ℕ → Bool) (a : ℕ) (rows : List EdgePlan) → length rows ≤ 64 → length (sessions_from connected a rows) ≤ 64 * length rows
few_sessions connected a [] few = omega arith
few_sessions connected a (row ∷ rows) few =
    omega (
      arith,
      few,
      few_sessions connected (a + 1) rows (omega (arith, few)),
      few_sessions_with connected a (a + 1) rows,
      length-append (sessions_with connected a (a + 1) rows) (sessions_from connected (a + 1) rows),
    )

few_wires : (sound : ℕ → Bool) (wire : ℕ) (rows : List WirePlan) → length (wires_from sound wire rows) ≤ length rows
few_wires sound wire [] = omega arith
few_wires sound wire (row ∷ rows) =
    omega (arith, few_wires sound (wire + 1) rows, one_more (where_so (sound wire) (fault.Wire (record { 0 = wire }))) (wires_from sound (wire + 1) rows))

few_edges : (connected : ℕ → ℕ → Bool) (all : List EdgePlan) (edge : ℕ) (rows : List EdgePlan) → length (edges_from connected all edge rows) ≤ length rows
few_edges connected all edge [] = omega arith
few_edges connected all edge (row ∷ rows) =
    omega (
      arith,
      few_edges connected all (edge + 1) rows,
      one_more (where_so (has_peer connected edge 0 all) (fault.Edge (record { 0 = edge }))) (edges_from connected all (edge + 1) rows),
    )

few_priorities : (plan : Plan) (number : ℕ → ℕ) (wire : ℕ) (rows : List WirePlan) → length (priorities_from plan number wire rows) ≤ length rows
few_priorities plan number wire [] = omega arith
few_priorities plan number wire (row ∷ rows) =
    omega (
      arith,
      few_priorities plan number (wire + 1) rows,
      one_more (renumbered wire (number wire) (least_rival number wire row None 0 plan.wires)) (priorities_from plan number (wire + 1) rows),
    )

-- the faults of four lists
four : (a b c d : List Fault) (n m : ℕ) → length a ≤ 64 * n → length b ≤ m → length c ≤ n → length d ≤ m → n ≤ 64 → m ≤ 1024 → length (a ++ (b ++ (c ++ d))) < 2 ^ 32
four a b c d n m one two three last edges wires =
    omega (arith, one, two, three, last, edges, wires, length-append a (b ++ (c ++ d)), length-append b (c ++ d), length-append c d)

pub few_faults : (plan : Plan) (before : NetworkState) → IsChecked plan → length (all_faults plan before) < 2 ^ 32
few_faults plan before checked =
    four (sessions_from (are_peers plan before) 0 plan.edges) (wires_from (sound_at plan before) 0 plan.wires) (edges_from (are_peers plan before) plan.edges 0 plan.edges)
    (priorities_from plan (number_of plan before) 0 plan.wires) (length plan.edges) (length plan.wires)
    (few_sessions (are_peers plan before) 0 plan.edges checked.limits.edges) (few_wires (sound_at plan before) 0 plan.wires)
    (few_edges (are_peers plan before) plan.edges 0 plan.edges) (few_priorities plan (number_of plan before) 0 plan.wires) checked.limits.edges checked.limits.wires

pub few_listed : (plan : Plan) (before : NetworkState) (faults : List Fault) → IsChecked plan → faults ≡ all_faults plan before → length faults < 2 ^ 32
few_listed plan before faults checked is = omega (arith, ap length is, few_faults plan before checked)
