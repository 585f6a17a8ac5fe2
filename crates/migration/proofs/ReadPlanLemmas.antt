-- A plan that was read is one that a document can say.
use Rattle.std.proofs.Common.{◌≤◌, ℕ, zero, suc, List, [], ◌∷◌, map, arith}
use Rattle.std.specs.List.{All, AllByRecursion}
use Rattle.net_values.specs.Name.{IsName}
use Rattle.net_base.specs.declared.plan.Plan.{Plan}
use Rattle.net_base.specs.declared.plan.edge_plan.EdgePlan.{EdgePlan}
use Rattle.net_base.specs.declared.plan.wire_plan.WirePlan.{WirePlan}
use Rattle.net_base.specs.plan.Accepted.{IsChecked}
use Rattle.migration.specs.ReadPlan.{IsQuad, IsSaid, IsReadPlan}
use Rattle.migration.proofs.SaidLemmas.{IsSaidPlan}

each_all : {A : Type 0} (Q P : A → Type 0) → ((x : A) → Q x → P x) → (xs : List A) → AllByRecursion Q xs → All P xs
each_all Q P give [] each k d lt = absurd (omega (arith, lt))
each_all Q P give (x ∷ xs) each zero d lt = give x each.0
each_all Q P give (x ∷ xs) each (suc k) d lt = each_all Q P give xs each.1 k d (omega (arith, lt))

each_name : {A : Type 0} (f : A → List ℕ) (Q : A → Type 0) → ((x : A) → Q x → IsName (f x)) → (xs : List A) → AllByRecursion Q xs → All IsName (map f xs)
each_name f Q give [] each k d lt = absurd (omega (arith, lt))
each_name f Q give (x ∷ xs) each zero d lt = give x each.0
each_name f Q give (x ∷ xs) each (suc k) d lt = each_name f Q give xs each.1 k d (omega (arith, lt))

pub read_plan : (plan : Plan) → IsChecked plan → IsSaidPlan plan → IsReadPlan plan
read_plan plan checked said = record {
  checked = checked;
  sound = said.sound;
  edges = each_name (λ row. row.name) _ (λ edge is. is.name) plan.edges said.edges;
  services = each_name (λ row. row.name) _ (λ service is. is.name) plan.services said.services;
  circuits = each_name (λ row. row.name) _ (λ circuit is. is) plan.circuits said.circuits;
  wires = each_name (λ row. row.name) _ (λ wire is. is.name) plan.wires said.wires;
  addresses = each_all _ (λ (edge : EdgePlan). IsQuad edge.address.0) (λ edge is. is.address) plan.edges said.edges;
  priorities = each_all _ (λ (wire : WirePlan). wire.priority ≤ 255) (λ wire is. is.priority) plan.wires said.wires;
  near = each_all _ (λ (wire : WirePlan). IsSaid wire.near) (λ wire is. is.near) plan.wires said.wires;
  far = each_all _ (λ (wire : WirePlan). IsSaid wire.far) (λ wire is. is.far) plan.wires said.wires;
}
