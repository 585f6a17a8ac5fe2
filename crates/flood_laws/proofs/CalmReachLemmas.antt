-- In a calm service each site is reached but the sender, and what a copy has still to serve is Ahead.
use Rattle.std.proofs.Common.{◌≡◌, ◌<◌, ◌⊎◌, ◌&&◌, ◌∙◌, not, ℕ, Bool, true, false, List, ◌∷◌, Option, Some, None, cond, length, nat_eq, option_map, refl, ap, sym, inl, inr}
use Rattle.std.proofs.lemmas.Bool.{eq-eqb, or_right}
use Rattle.net_values.proofs.BoolLemmas.{first_holds}
use Rattle.net_base.specs.declared.plan.Plan.{Plan}
use Rattle.net_base.specs.declared.plan.circuit_plan.CircuitPlan.{CircuitPlan}
use Rattle.net_base.specs.declared.plan.wire_plan.WirePlan.{WirePlan}
use Rattle.net_base.specs.declared.plan.places.CircuitId.{CircuitId}
use Rattle.net_base.specs.declared.plan.places.EdgeId.{EdgeId}
use Rattle.net_base.specs.declared.plan.places.ServiceId.{ServiceId}
use Rattle.net_base.specs.declared.plan.places.WireId.{WireId}
use Rattle.net_base.specs.plan.Accepted.{IsChecked}
use Rattle.net_base.specs.plan.Places.{circuit_row, is_mesh_class, is_mesh_wire, service_of, wire_row}
use Rattle.net_base.specs.plan.Roles.{has_port, is_wire_of}
use Rattle.network_model.specs.Calm.{is_calm}
use Rattle.network_model.specs.Reach.{ahead_spoke, ahead_wire, at_edge_of, circuit_is_at, elsewhere_of, is_beside, is_circuit_of, is_live, is_row_of, is_site}
use Rattle.network_model.specs.State.{NetworkState}
use Rattle.flood_laws.specs.Due.{awaits}
use Rattle.flood_laws.specs.Laws.{ReachesAllWhereCalm}
use Rattle.flood_laws.specs.Reached.{core_of, have_mesh, is_reached, left_spoke, left_wire, reaches_row, sender_reaches}
use Rattle.flood_laws.proofs.LawLemmas.{calm_meshed, circuit_port, circuit_within}
use Rattle.flood_laws.proofs.LinkLemmas.{IsLink}
use Rattle.flood_laws.proofs.MeshLemmas.{far_port, mesh_carries}

module _ (plan : Plan) (calm : NetworkState) (service : ServiceId) (checked : IsChecked plan) (calmed : is_calm plan calm service ≡ true) where
  -- an edge with a port of the service reaches each circuit of it
  row_reached : (circuit : CircuitId) (to : ℕ) → to < length plan.edges → has_port plan service to ≡ true
      → (found : Option CircuitPlan) → circuit_row plan circuit ≡ found → is_row_of service found ≡ true → reaches_row plan calm service to found ≡ true
  row_reached circuit to within port None is ours = absurd (cc (ours))
  row_reached circuit to within port (Some row) is ours =
      or_right (nat_eq to row.edge.0) (have_mesh plan calm service (core_of plan calm service to) (core_of plan calm service row.edge.0))
      (calm_meshed plan calm service to row.edge.0 checked calmed within port (circuit_within plan circuit row checked is) (circuit_port plan service circuit row is ours))

  -- ---- each site but the sender

  all_from : (circuit at : CircuitId) (found : Option CircuitPlan) → circuit_row plan at ≡ found → is_row_of service found ≡ true → is_circuit_of plan service circuit ≡ true
      → sender_reaches plan calm service found (circuit_row plan circuit) ≡ true
  all_from circuit at None is ours there = absurd (cc (ours))
  all_from circuit at (Some row) is ours there =
      row_reached circuit row.edge.0 (circuit_within plan at row checked is) (circuit_port plan service at row is ours) (circuit_row plan circuit) refl there

  of_service : (found : Option CircuitPlan) → option_map (λ (row : CircuitPlan). row.service) found ≡ Some service → is_row_of service found ≡ true
  of_service None is = absurd (cc (is))
  of_service (Some row) is =
      let same : row.service ≡ service = cc (is) in
      eq-eqb row.service.0 service.0 (ap (λ (s : ServiceId). s.0) same)

  pub all_reached : (at circuit : CircuitId) → service_of plan at ≡ Some service → is_reached plan calm service at circuit ≡ is_site plan calm service circuit && not (nat_eq circuit.0 at.0)
  all_reached at circuit sender =
      ap (λ (b : Bool). b && not (nat_eq circuit.0 at.0)) (kept (is_site plan calm service circuit) (sender_reaches plan calm service (circuit_row plan at) (circuit_row plan circuit))
      (λ site. all_from circuit at (circuit_row plan at) refl (of_service (circuit_row plan at) sender)
      (first_holds (is_circuit_of plan service circuit) _ site)))
    where
      kept : (b c : Bool) → (b ≡ true → c ≡ true) → b && c ≡ b
      kept true c then = then refl
      kept false c then = refl

  -- ---- what a copy has still to serve

  module _ (circuit : CircuitId) (wire : WireId) (w : WirePlan) (link : IsLink plan w) (is : wire_row plan wire ≡ Some w) (ours : is_wire_of service w ≡ true) where
    kept : (b c : Bool) → (b ≡ true → c ≡ true) → b && c ≡ b
    kept true c then = then refl
    kept false c then = refl

    -- at its core edge all that is elsewhere is reached
    spoke_path : (to : EdgeId) → (to ≡ link.near) ⊎ (to ≡ link.far) → left_spoke plan calm service to.0 (link.near ∷ link.rest) circuit ≡ ahead_spoke plan service to.0 (link.near ∷ link.rest) circuit
    spoke_path to (inl near) =
        ap (λ (b : Bool). cond b (at_edge_of plan service to.0 circuit) (elsewhere_of plan service link.near.0 circuit && reaches_row plan calm service to.0 (circuit_row plan circuit))) here
        ∙ sym (ap (λ (b : Bool). cond b (at_edge_of plan service to.0 circuit) (elsewhere_of plan service link.near.0 circuit)) here)
      where
        here : nat_eq to.0 link.near.0 ≡ true
        here = eq-eqb to.0 link.near.0 (ap (λ (e : EdgeId). e.0) near)
    spoke_path to (inr far) =
        ap (λ (b : Bool). cond (nat_eq to.0 link.near.0) (at_edge_of plan service to.0 circuit) b)
        (kept (elsewhere_of plan service link.near.0 circuit) (reaches_row plan calm service to.0 (circuit_row plan circuit)) (λ away.
        ap (λ (e : EdgeId). reaches_row plan calm service e.0 (circuit_row plan circuit)) far
        ∙ row_reached circuit link.far.0 link.far_within (far_port plan service wire.0 w link is ours) (circuit_row plan circuit) refl
        (first_holds (is_circuit_of plan service circuit) (not (circuit_is_at plan link.near.0 circuit)) away)))

    spoke_same : (to : EdgeId) → (to ≡ link.near) ⊎ (to ≡ link.far) → left_spoke plan calm service to.0 w.path circuit ≡ ahead_spoke plan service to.0 w.path circuit
    spoke_same to side =
        ap (λ (path : List EdgeId). left_spoke plan calm service to.0 path circuit) link.path
        ∙ (spoke_path to side ∙ sym (ap (λ (path : List EdgeId). ahead_spoke plan service to.0 path circuit) link.path))

    wire_same : (to : EdgeId) → (to ≡ link.near) ⊎ (to ≡ link.far) → (mesh : Bool) → is_mesh_class w.class ≡ mesh
        → left_wire plan calm service to.0 wire.0 mesh (Some w) circuit ≡ ahead_wire plan calm service to.0 wire.0 mesh (Some w) circuit
    wire_same to side true mesh =
        ap (λ (b : Bool). b && is_beside plan calm service to.0 circuit) (mesh_carries plan calm service wire.0 w checked calmed is (rw (ours, mesh) refl))
    wire_same to side false mesh = ap (λ (b : Bool). is_live plan calm service wire.0 w && b) (spoke_same to side)

    pub calm_awaits : (to : EdgeId) → (to ≡ link.near) ⊎ (to ≡ link.far) → awaits plan calm service circuit to wire
        ≡ ahead_wire plan calm service to.0 wire.0 (is_mesh_wire plan wire) (wire_row plan wire) circuit
    calm_awaits to side = rw is (wire_same to side (is_mesh_class w.class) refl)

-- ---- the law

pub reaches_all_where_calm : ReachesAllWhereCalm
reaches_all_where_calm plan network checked service sender circuit calmed of_service = all_reached plan network service checked calmed sender circuit of_service
