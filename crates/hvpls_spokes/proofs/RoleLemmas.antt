-- What edges are to services by the plan, and that no port of a spoke edge is a mesh wire.
use Rattle.std.proofs.Common.{◌≡◌, ◌∙◌, ◌&&◌, ◌||◌, not, ℕ, Bool, true, false, List, [], ◌∷◌, Option, Some, None, slice_get, get_or, refl, sym, ap, subst, arith, inl, inr}
use Rattle.std.proofs.lemmas.Bool.{and_from, and_parts, cases_Bool, cases_order, or_left, or_right}
use Rattle.std.proofs.lemmas.Bool.Decides.{nat_tests}
use Rattle.std.proofs.lemmas.List.Folds.{Any-from_list_any, list_any-from_Any}
use Rattle.std.proofs.lemmas.Option.{get_or_from_slice_get, slice_get-get_or, slice_get_within}
use Rattle.std.specs.List.{list_any}
use Rattle.net_base.specs.declared.plan.Plan.{Plan}
use Rattle.net_base.specs.declared.plan.wire_plan.WirePlan.{WirePlan}
use Rattle.net_base.specs.declared.plan.places.EdgeId.{EdgeId}
use Rattle.net_base.specs.declared.plan.places.ServiceId.{ServiceId}
use Rattle.net_base.specs.plan.Accepted.{IsChecked}
use Rattle.net_base.specs.plan.Paths.{first_edge, last_edge, is_first, is_last, is_same_edge}
use Rattle.net_base.specs.plan.Places.{is_mesh_class}
use Rattle.net_base.specs.plan.Roles.{has_port, is_circuit_at, is_spoke_edge, is_spoke_from, is_wire_of, wire_ends_at}
use Rattle.net_base.specs.plan.WireFaults.{have_same_service, is_spoke_in_mesh, starts_in_mesh}
use Rattle.net_base.proofs.PathLemmas.{is_last_edge, is_the_edge}
use Rattle.hvpls_spokes.specs.declared.port.Port.{Port}
use Rattle.hvpls_spokes.specs.declared.port.Port.TheVariants as port
use Rattle.hvpls_spokes.specs.Laws.{SpokeEdgesHaveNoMeshPort}
use Rattle.hvpls_spokes.specs.Port.{is_mesh, ports_of}
use Rattle.hvpls_spokes.proofs.PortsLemmas.{IsWired, served_at}

-- ---- roles

-- a spoke edge has an end of its spoke
spoke_ends : (service : ServiceId) (edge : ℕ) (row : WirePlan) → is_spoke_from service edge row ≡ true → wire_ends_at service edge row ≡ true
spoke_ends service edge row spoke = by (is_wire_of service row) (not (is_mesh_class row.class)) (is_first edge row.path) (is_last edge row.path) spoke where
  by : (of_service of_class first last : Bool) → (of_service && of_class) && first ≡ true → of_service && (first || last) ≡ true
  by true true true last h = refl
  by true true false last h = absurd (cc (h))
  by true false first last h = absurd (cc (h))
  by false of_class first last h = absurd (cc (h))

-- and so a port of the service
pub spoke_edge_has_port : (plan : Plan) (service : ServiceId) (edge : ℕ) → is_spoke_edge plan service edge ≡ true → has_port plan service edge ≡ true
spoke_edge_has_port plan service edge spoke =
    let any = Any-from_list_any (is_spoke_from service edge) plan.wires spoke in
    let ends = list_any-from_Any (wire_ends_at service edge) plan.wires (any.0, any.1, any.2, any.3, spoke_ends service edge any.1 any.4) in
    or_right (list_any (is_circuit_at service edge) plan.circuits) (list_any (wire_ends_at service edge) plan.wires) ends

-- ---- no spoke of a service starts where a mesh wire of it ends

is_first_edge : (edge : ℕ) (path : List EdgeId) → is_first edge path ≡ is_the_edge edge (first_edge path)
is_first_edge edge [] = refl
is_first_edge edge (first ∷ rest) = refl

same_edge : (edge : ℕ) (a b : Option EdgeId) → is_the_edge edge a ≡ true → is_the_edge edge b ≡ true → is_same_edge a b ≡ true
same_edge edge None b at_a at_b = absurd (cc (at_a))
same_edge edge (Some a) None at_a at_b = absurd (cc (at_b))
same_edge edge (Some a) (Some b) at_a at_b = grind (arith, nat_tests, at_a, at_b)

-- a mesh wire and a spoke of the service, where the edge ends the one and starts the other
pub record Meets (service : ServiceId) (edge : ℕ) (mesh spoke : WirePlan) : Type 0 where
  pub class : is_mesh_class mesh.class ≡ true
  pub ends : wire_ends_at service edge mesh ≡ true
  pub starts : is_spoke_from service edge spoke ≡ true

starts_there : (service : ServiceId) (edge : ℕ) (mesh spoke : WirePlan) → Meets service edge mesh spoke → starts_in_mesh spoke mesh ≡ true
starts_there service edge mesh spoke meets =
    let of_spoke = and_parts (is_wire_of service spoke && not (is_mesh_class spoke.class)) (is_first edge spoke.path) meets.starts in
    let spoke_class : not (is_mesh_class spoke.class) ≡ true = (and_parts (is_wire_of service spoke) (not (is_mesh_class spoke.class)) of_spoke.0).1 in
    let ends : (is_first edge mesh.path || is_last edge mesh.path) ≡ true = (and_parts (is_wire_of service mesh) (is_first edge mesh.path || is_last edge mesh.path) meets.ends).1 in
    let starts : is_the_edge edge (first_edge spoke.path) ≡ true = sym (is_first_edge edge spoke.path) ∙ of_spoke.1 in
    let at_last : Bool = is_same_edge (first_edge spoke.path) (last_edge mesh.path) in
    let at_first : Bool = is_mesh_class mesh.class && is_same_edge (first_edge spoke.path) (first_edge mesh.path) in
    let meet : (at_last || at_first) ≡ true = elim (cases_Bool (is_first edge mesh.path)) [
      | inl first ↦ or_right at_last at_first (and_from (is_mesh_class mesh.class) (is_same_edge (first_edge spoke.path) (first_edge mesh.path)) meets.class
          (same_edge edge (first_edge spoke.path) (first_edge mesh.path) starts (sym (is_first_edge edge mesh.path) ∙ first)))
      | inr other ↦
          let last : is_last edge mesh.path ≡ true = sym (ap (λ b. b || is_last edge mesh.path) other) ∙ ends in
          or_left at_last at_first (same_edge edge (first_edge spoke.path) (last_edge mesh.path) starts (sym (is_last_edge edge mesh.path) ∙ last))
    ] in
    and_from (not (is_mesh_class spoke.class)) (at_last || at_first) spoke_class meet

of_one_service : (service : ServiceId) (edge : ℕ) (mesh spoke : WirePlan) → Meets service edge mesh spoke → mesh.service.0 ≡ spoke.service.0
of_one_service service edge mesh spoke meets =
    let of_mesh : is_wire_of service mesh ≡ true = (and_parts (is_wire_of service mesh) (is_first edge mesh.path || is_last edge mesh.path) meets.ends).0 in
    let of_spoke : is_wire_of service spoke ≡ true =
    (and_parts (is_wire_of service spoke) (not (is_mesh_class spoke.class)) (and_parts (is_wire_of service spoke && not (is_mesh_class spoke.class)) (is_first edge spoke.path) meets.starts).0).0 in
    grind (arith, nat_tests, of_mesh, of_spoke)

-- whichever of the two comes first in the plan
clash_before : (service : ServiceId) (edge : ℕ) (mesh spoke : WirePlan) → Meets service edge mesh spoke → is_spoke_in_mesh mesh spoke ≡ true
clash_before service edge mesh spoke meets =
    let same : have_same_service mesh spoke ≡ true = grind (arith, nat_tests, of_one_service service edge mesh spoke meets) in
    and_from (have_same_service mesh spoke) (starts_in_mesh mesh spoke || starts_in_mesh spoke mesh) same
    (or_right (starts_in_mesh mesh spoke) (starts_in_mesh spoke mesh) (starts_there service edge mesh spoke meets))

clash_behind : (service : ServiceId) (edge : ℕ) (mesh spoke : WirePlan) → Meets service edge mesh spoke → is_spoke_in_mesh spoke mesh ≡ true
clash_behind service edge mesh spoke meets =
    let same : have_same_service spoke mesh ≡ true = grind (arith, nat_tests, of_one_service service edge mesh spoke meets) in
    and_from (have_same_service spoke mesh) (starts_in_mesh spoke mesh || starts_in_mesh mesh spoke) same
    (or_left (starts_in_mesh spoke mesh) (starts_in_mesh mesh spoke) (starts_there service edge mesh spoke meets))

-- no wire is a mesh wire and a spoke
not_both : (service : ServiceId) (edge : ℕ) (row : WirePlan) → Meets service edge row row → ⊥
not_both service edge row meets =
    let spoke = (and_parts (is_wire_of service row) (not (is_mesh_class row.class)) (and_parts (is_wire_of service row && not (is_mesh_class row.class)) (is_first edge row.path) meets.starts).0).1 in
    by (is_mesh_class row.class) meets.class spoke where
      by : (mesh : Bool) → mesh ≡ true → not mesh ≡ true → ⊥
      by true class spoke = absurd (cc (spoke))
      by false class spoke = absurd (cc (class))

-- no two wires of a checked plan meet so
apart : (plan : Plan) (service : ServiceId) (edge i j : ℕ) (mesh spoke : WirePlan) → IsChecked plan → slice_get plan.wires i ≡ Some mesh → slice_get plan.wires j ≡ Some spoke
    → Meets service edge mesh spoke → ⊥
apart plan service edge i j mesh spoke checked is_mesh_row is_spoke_row meets =
    let at_i : get_or plan.wires i mesh ≡ mesh = get_or_from_slice_get plan.wires i mesh mesh is_mesh_row in
    let at_j : get_or plan.wires j mesh ≡ spoke = get_or_from_slice_get plan.wires j spoke mesh is_spoke_row in
    elim (cases_order i j) [
      | inl same ↦
          let one : mesh ≡ spoke = sym at_i ∙ ap (λ n. get_or plan.wires n mesh) same ∙ at_j in
          not_both service edge mesh (subst (λ (row : WirePlan). Meets service edge mesh row) (sym one) meets)
      | inr rest ↦ elim rest [
        | inl before ↦
            let none : is_spoke_in_mesh (get_or plan.wires i mesh) (get_or plan.wires j mesh) ≡ false = checked.spokes i j mesh before (slice_get_within plan.wires j spoke is_spoke_row) in
            absurd (cc (none, at_i, at_j, clash_before service edge mesh spoke meets))
        | inr behind ↦
            let none : is_spoke_in_mesh (get_or plan.wires j mesh) (get_or plan.wires i mesh) ≡ false = checked.spokes j i mesh behind (slice_get_within plan.wires i mesh is_mesh_row) in
            absurd (cc (none, at_i, at_j, clash_behind service edge mesh spoke meets))
      ]
    ]

no_mesh_wire : (plan : Plan) (service : ServiceId) (edge : EdgeId) (wire : ℕ) → IsChecked plan → is_spoke_edge plan service edge.0 ≡ true → IsWired plan.wires service edge true wire → ⊥
no_mesh_wire plan service edge wire checked spoke wired =
    let any = Any-from_list_any (is_spoke_from service edge.0) plan.wires spoke in
    apart plan service edge.0 wire any.0 wired.row any.1 checked wired.is (slice_get-get_or plan.wires any.0 any.1 any.2 ∙ ap Some any.3)
    (record { class = wired.class; ends = wired.ends; starts = any.4 })

-- no port of a spoke edge of the service is a mesh wire
pub no_mesh_port : SpokeEdgesHaveNoMeshPort
no_mesh_port plan service edge p checked spoke = by (slice_get (ports_of plan service edge) p) refl where
  by : (x : Option Port) → slice_get (ports_of plan service edge) p ≡ x → is_mesh x ≡ false
  by None at = refl
  by (Some (port.Circuit circuit)) at = refl
  by (Some (port.Mesh wire)) at = absurd (no_mesh_wire plan service edge wire.0 checked spoke (served_at plan service edge p (port.Mesh wire) at))
  by (Some (port.Spoke wire)) at = refl
