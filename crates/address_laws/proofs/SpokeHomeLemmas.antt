-- A spoke that carries frames leads to the home of its spoke edge; and what is behind a port, by where a circuit is.
use Rattle.std.proofs.Common.{◌≡◌, ◌+◌, ◌&&◌, ◌||◌, ◌∙◌, not, ℕ, zero, suc, true, false, List, [], ◌∷◌, Option, Some, None, option_map, slice_get, nat_eq, refl, ap, sym, subst, zero-add, add-zero, inl, inr}
use Rattle.std.proofs.lemmas.Bool.{cases_Bool, eq-eqb}
use Rattle.net_values.proofs.BoolLemmas.{first_holds, second_holds}
use Rattle.net_values.proofs.NumberLemmas.{next_place}
use Rattle.net_base.specs.declared.plan.Plan.{Plan}
use Rattle.net_base.specs.declared.plan.circuit_plan.CircuitPlan.{CircuitPlan}
use Rattle.net_base.specs.declared.plan.wire_plan.WirePlan.{WirePlan}
use Rattle.net_base.specs.declared.plan.places.CircuitId.{CircuitId}
use Rattle.net_base.specs.declared.plan.places.EdgeId.{EdgeId}
use Rattle.net_base.specs.declared.plan.places.ServiceId.{ServiceId}
use Rattle.net_base.specs.plan.Accepted.{IsChecked}
use Rattle.net_base.specs.plan.Places.{circuit_row, is_mesh_class, service_of}
use Rattle.net_base.specs.plan.Roles.{is_spoke_edge, is_spoke_from}
use Rattle.hvpls_spokes.specs.Port.{wire_port}
use Rattle.network_model.specs.Calm.{carries, is_calm, is_live_spoke}
use Rattle.network_model.specs.Reach.{far_of, home_among, home_of, is_home, last_place, reach}
use Rattle.network_model.specs.State.{NetworkState}
use Rattle.flood_laws.proofs.LawLemmas.{one_live_spoke}
use Rattle.flood_laws.proofs.LinkLemmas.{IsLink}
use Rattle.flood_laws.proofs.WireEdgeLemmas.{far_apart}

-- ---- the home of a spoke edge

-- the first spoke of an edge that carries frames
record LeadsHome (plan : Plan) (calm : NetworkState) (service : ServiceId) (edge place : ℕ) (rows : List WirePlan) : Type 0 where
  k : ℕ
  row : WirePlan
  is : slice_get rows k ≡ Some row
  live : is_live_spoke plan calm service edge (place + k) row ≡ true
  home : home_among plan calm service edge place rows ≡ last_place row.path

module _ (plan : Plan) (calm : NetworkState) (service : ServiceId) (edge : ℕ) where
  leads_here : (place : ℕ) (row : WirePlan) (rows : List WirePlan) → is_live_spoke plan calm service edge place row ≡ true
      → LeadsHome plan calm service edge place (row ∷ rows)
  leads_here place row rows here = record {
    k = 0;
    row = row;
    is = refl;
    live = subst (λ n. is_live_spoke plan calm service edge n row ≡ true) (sym (add-zero place)) here;
    home = rw here refl;
  }

  leads_home : (place k : ℕ) (row : WirePlan) (rows : List WirePlan) → slice_get rows k ≡ Some row → is_live_spoke plan calm service edge (place + k) row ≡ true
      → LeadsHome plan calm service edge place rows
  leads_home place k row [] is live = absurd (cc (is))
  leads_home place zero row (first ∷ rows) is live =
      let same : row ≡ first = cc (is) in
      leads_here place first rows
      (subst (λ w. is_live_spoke plan calm service edge place w ≡ true) same (subst (λ n. is_live_spoke plan calm service edge n row ≡ true) (add-zero place) live))
  leads_home place (suc j) row (first ∷ rows) is live = elim (cases_Bool (is_live_spoke plan calm service edge place first)) [
    | inl here ↦ leads_here place first rows here
    | inr away ↦
        (let found = leads_home (place + 1) j row rows is (subst (λ n. is_live_spoke plan calm service edge n row ≡ true) (sym (next_place place j)) live) in
        record {
          k = suc found.k;
          row = found.row;
          is = found.is;
          live = subst (λ n. is_live_spoke plan calm service edge n found.row ≡ true) (next_place place found.k) found.live;
          home = rw away found.home;
        })
  ]

-- two spokes of an edge of a calm service that carry frames are one
pub live_once : (plan : Plan) (calm : NetworkState) (service : ServiceId) (edge k j : ℕ) (w v : WirePlan) → IsChecked plan → is_calm plan calm service ≡ true
    → slice_get plan.wires k ≡ Some w → is_live_spoke plan calm service edge k w ≡ true → slice_get plan.wires j ≡ Some v
    → is_live_spoke plan calm service edge j v ≡ true → k ≡ j
live_once plan calm service edge k j w v checked calmed is live other other_live =
    one_live_spoke plan calm service edge (record { 0 = k }) (record { 0 = j }) w v checked calmed
    is (first_holds (is_spoke_from service edge w) (carries plan calm k w) live) (second_holds (is_spoke_from service edge w) (carries plan calm k w) live)
    other (first_holds (is_spoke_from service edge v) (carries plan calm j v) other_live) (second_holds (is_spoke_from service edge v) (carries plan calm j v) other_live)

-- the home of a spoke edge is the other edge of its spoke that carries frames
pub home_is : (plan : Plan) (calm : NetworkState) (service : ServiceId) (edge k : ℕ) (w : WirePlan) (link : IsLink plan w) → IsChecked plan
    → is_calm plan calm service ≡ true
    → slice_get plan.wires k ≡ Some w → is_live_spoke plan calm service edge k w ≡ true → home_of plan calm service edge ≡ Some link.far.0
home_is plan calm service edge k w link checked calmed is live =
    found.home ∙ (ap (λ (r : WirePlan). last_place r.path) same ∙ (ap last_place link.path ∙ ap (option_map (λ (edge : EdgeId). edge.0)) link.ends))
  where
    found : LeadsHome plan calm service edge 0 plan.wires
    found = leads_home plan calm service edge 0 k w plan.wires is (subst (λ n. is_live_spoke plan calm service edge n w ≡ true) (sym (zero-add k)) live)

    found_live : is_live_spoke plan calm service edge found.k found.row ≡ true
    found_live = subst (λ n. is_live_spoke plan calm service edge n found.row ≡ true) (zero-add found.k) found.live

    place : found.k ≡ k
    place = live_once plan calm service edge found.k k found.row w checked calmed found.is found_live is live

    rows : Some found.row ≡ Some w
    rows = sym found.is ∙ (ap (slice_get plan.wires) place ∙ is)

    same : found.row ≡ w
    same = cc (rows)

-- ---- the circuits behind a port

-- the row of a circuit of a service
pub record IsOfService (plan : Plan) (service : ServiceId) (circuit : CircuitId) : Type 0 where
  pub row : CircuitPlan
  pub is : circuit_row plan circuit ≡ Some row
  pub same : nat_eq row.service.0 service.0 ≡ true

pub of_service : (plan : Plan) (service : ServiceId) (circuit : CircuitId) → service_of plan circuit ≡ Some service → IsOfService plan service circuit
of_service plan service circuit is = by (circuit_row plan circuit) refl is where
  by : (row : Option CircuitPlan) → circuit_row plan circuit ≡ row → option_map (λ (c : CircuitPlan). c.service) row ≡ Some service
      → IsOfService plan service circuit
  by None found is = absurd (cc (is))
  by (Some row) found is =
      let same : row.service ≡ service = cc (is) in
      record { row = row; is = found; same = eq-eqb row.service.0 service.0 (ap (λ (s : ServiceId). s.0) same) }

module _ (plan : Plan) (calm : NetworkState) (service : ServiceId) (circuit : CircuitId) (site : IsOfService plan service circuit) where
  -- by a mesh wire: what is beside its other edge
  pub reach_mesh : (e k d : ℕ) (w : WirePlan) → slice_get plan.wires k ≡ Some w → is_mesh_class w.class ≡ true → far_of e w.path ≡ Some d
      → reach plan calm service e (wire_port k w) circuit
      ≡ nat_eq site.row.edge.0 d || (is_spoke_edge plan service site.row.edge.0 && is_home d (home_of plan calm service site.row.edge.0))
  reach_mesh e k d w is mesh far = rw mesh (rw (is, far, site.is, site.same) refl)

  -- by a spoke, at its spoke edge: what is not there
  pub reach_near : (k : ℕ) (w : WirePlan) (link : IsLink plan w) → slice_get plan.wires k ≡ Some w → is_mesh_class w.class ≡ false
      → reach plan calm service link.near.0 (wire_port k w) circuit ≡ is_live_spoke plan calm service link.near.0 k w && not (nat_eq site.row.edge.0 link.near.0)
  reach_near k w link is spoke = rw spoke (rw (is, link.path, eq-eqb link.near.0 link.near.0 refl, site.is, site.same) (rw spoke refl))

  -- and at its core edge: what is at its spoke edge
  pub reach_far : (k : ℕ) (w : WirePlan) (link : IsLink plan w) → slice_get plan.wires k ≡ Some w → is_mesh_class w.class ≡ false
      → reach plan calm service link.far.0 (wire_port k w) circuit ≡ is_live_spoke plan calm service link.near.0 k w && nat_eq site.row.edge.0 link.near.0
  reach_far k w link is spoke = rw spoke (rw (is, link.path, far_apart plan w link, eq-eqb link.near.0 link.near.0 refl, site.is, site.same) (rw spoke refl))
