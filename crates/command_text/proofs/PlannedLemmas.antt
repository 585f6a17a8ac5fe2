-- What is read speaks of rows of the plan.
use Rattle.std.proofs.Common.{◌≡◌, ◌<◌, ◌∙◌, ℕ, length, ap, subst}
use Rattle.std.proofs.lemmas.List.{length-map}
use Rattle.net_base.specs.declared.plan.Plan.{Plan}
use Rattle.plan_names.specs.Planned.{names_of}
use Rattle.plan_names.specs.declared.plan_names.PlanNames.{PlanNames}

-- a circuit by its name
pub circuit_planned : (plan : Plan) (names : PlanNames) (place : ℕ) → names ≡ names_of plan → place < length names.circuits → place < length plan.circuits
circuit_planned plan names place named lt =
    subst (λ (n : ℕ). place < n) (ap (λ (n : PlanNames). length n.circuits) named ∙ length-map plan.circuits (λ row. row.name)) lt
