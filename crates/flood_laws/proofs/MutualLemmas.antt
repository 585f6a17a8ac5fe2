-- Where an edge reaches another one it is reached by it, and so it is of two sites.
use Rattle.std.proofs.Common.{◌≡◌, ◌+◌, ◌&&◌, ◌||◌, ◌∙◌, ℕ, Bool, true, false, List, [], ◌∷◌, Option, Some, None, nat_eq, not, refl, ap, sym}
use Rattle.net_values.proofs.NumberLemmas.{equal_turned}
use Rattle.net_base.specs.declared.plan.Plan.{Plan}
use Rattle.net_base.specs.declared.plan.circuit_plan.CircuitPlan.{CircuitPlan}
use Rattle.net_base.specs.declared.plan.wire_plan.WirePlan.{WirePlan}
use Rattle.net_base.specs.declared.plan.places.CircuitId.{CircuitId}
use Rattle.net_base.specs.declared.plan.places.ServiceId.{ServiceId}
use Rattle.net_base.specs.plan.Paths.{is_first, is_last}
use Rattle.net_base.specs.plan.Places.{circuit_row}
use Rattle.net_base.specs.plan.Roles.{any_wire, is_mesh_of}
use Rattle.network_model.specs.Calm.{carries, meshes}
use Rattle.network_model.specs.Reach.{is_site}
use Rattle.network_model.specs.State.{NetworkState}
use Rattle.flood_laws.specs.Laws.{ReachesBack}
use Rattle.flood_laws.specs.Reached.{are_meshed, core_of, have_mesh, is_reached, reaches, sender_reaches}

or_turned : (a b : Bool) → a || b ≡ b || a
or_turned true true = refl
or_turned true false = refl
or_turned false true = refl
or_turned false false = refl

any_same : (f g : ℕ → WirePlan → Bool) (place : ℕ) (rows : List WirePlan) → ((k : ℕ) (row : WirePlan) → f k row ≡ g k row) → any_wire f place rows ≡ any_wire g place rows
any_same f g place [] same = refl
any_same f g place (row ∷ rows) same = rw (same place row, any_same f g (place + 1) rows same) refl

module _ (plan : Plan) (network : NetworkState) (service : ServiceId) where
  meshes_turned : (a b k : ℕ) (row : WirePlan) → meshes plan network service a b k row ≡ meshes plan network service b a k row
  meshes_turned a b k row = ap (λ (t : Bool). (is_mesh_of service row && t) && carries plan network k row)
      (or_turned (is_first a row.path && is_last b row.path) (is_first b row.path && is_last a row.path))

  meshed_turned : (a b : ℕ) → are_meshed plan network service a b ≡ are_meshed plan network service b a
  meshed_turned a b =
      ap (λ (t : Bool). t || any_wire (meshes plan network service a b) 0 plan.wires) (equal_turned a b)
      ∙ ap (λ (t : Bool). nat_eq b a || t) (any_same (meshes plan network service a b) (meshes plan network service b a) 0 plan.wires (meshes_turned a b))

  mesh_turned : (a b : Option ℕ) → have_mesh plan network service a b ≡ have_mesh plan network service b a
  mesh_turned None None = refl
  mesh_turned None (Some b) = refl
  mesh_turned (Some a) None = refl
  mesh_turned (Some a) (Some b) = meshed_turned a b

  reaches_turned : (a b : ℕ) → reaches plan network service a b ≡ reaches plan network service b a
  reaches_turned a b =
      ap (λ (t : Bool). t || have_mesh plan network service (core_of plan network service a) (core_of plan network service b)) (equal_turned a b)
      ∙ ap (λ (t : Bool). nat_eq b a || t) (mesh_turned (core_of plan network service a) (core_of plan network service b))

  rows_turned : (a b : Option CircuitPlan) → sender_reaches plan network service a b ≡ sender_reaches plan network service b a
  rows_turned None None = refl
  rows_turned None (Some b) = refl
  rows_turned (Some a) None = refl
  rows_turned (Some a) (Some b) = reaches_turned a.edge.0 b.edge.0

  reached_turned : (a b : CircuitId) → is_site plan network service a ≡ true → is_site plan network service b ≡ true
      → is_reached plan network service a b ≡ is_reached plan network service b a
  reached_turned a b here there =
      ap (λ (t : Bool). (t && sender_reaches plan network service (circuit_row plan a) (circuit_row plan b)) && not (nat_eq b.0 a.0)) there
      ∙ (ap (λ (t : Bool). t && not (nat_eq b.0 a.0)) (rows_turned (circuit_row plan a) (circuit_row plan b))
      ∙ (ap (λ (t : Bool). sender_reaches plan network service (circuit_row plan b) (circuit_row plan a) && not t) (equal_turned b.0 a.0)
      ∙ sym (ap (λ (t : Bool). (t && sender_reaches plan network service (circuit_row plan b) (circuit_row plan a)) && not (nat_eq a.0 b.0)) here)))

-- ---- the law

pub reaches_back : ReachesBack
reaches_back plan network service a b here there = reached_turned plan network service a b here there
