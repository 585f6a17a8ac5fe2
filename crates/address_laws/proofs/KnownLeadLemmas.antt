-- The port that a bridge knows for a station leads to its site; and a copy by a port that leads to a site serves it.
use Rattle.std.proofs.Common.{◌≡◌, ◌&&◌, ◌∙◌, ◌⊎◌, ℕ, Bool, true, false, List, [], ◌∷◌, Option, Some, None, cond, nat_eq, option_map, refl, ap, sym, slice_get, inl, inr}
use Rattle.std.proofs.lemmas.Bool.{cases_Bool, eq-eqb, eqb-true}
use Rattle.std.specs.List.{AllByRecursion}
use Rattle.net_base.specs.declared.plan.Plan.{Plan}
use Rattle.net_base.specs.declared.plan.circuit_plan.CircuitPlan.{CircuitPlan}
use Rattle.net_base.specs.declared.plan.wire_plan.WirePlan.{WirePlan}
use Rattle.net_base.specs.declared.plan.places.CircuitId.{CircuitId}
use Rattle.net_base.specs.declared.plan.places.EdgeId.{EdgeId}
use Rattle.net_base.specs.declared.plan.places.ServiceId.{ServiceId}
use Rattle.net_base.specs.declared.plan.places.WireId.{WireId}
use Rattle.net_base.specs.declared.trace.arrival.Arrival.{Arrival}
use Rattle.net_values.specs.declared.mac.Mac.{Mac}
use Rattle.net_base.specs.plan.Accepted.{IsChecked}
use Rattle.net_base.specs.plan.Places.{is_mesh_row, wire_row}
use Rattle.net_base.specs.plan.Roles.{is_wire_of}
use Rattle.net_values.specs.Mac.{is_group_address}
use Rattle.net_values.proofs.BoolLemmas.{first_holds, second_holds, holds_with_true}
use Rattle.net_values.proofs.NumberLemmas.{apart_back}
use Rattle.hvpls_spokes.specs.declared.port.Port.{Port}
use Rattle.hvpls_spokes.specs.declared.port.Port.TheVariants as port
use Rattle.hvpls_spokes.specs.Port.{ports_of}
use Rattle.hvpls_spokes.proofs.PortsLemmas.{IsServed, IsServedBy, IsWired, served_at}
use Rattle.mac_table.specs.Addresses.{is_of, mac_entry_of, port_of}
use Rattle.mac_table.specs.declared.mac_entry.MacEntry.{MacEntry}
use Rattle.mac_table.proofs.AddressLemmas.{address_of}
use Rattle.vsi_bridge.specs.Targets.{known_port}
use Rattle.edge_model.specs.Ends.{end_forwards}
use Rattle.edge_model.specs.State.{EdgeState}
use Rattle.network_model.specs.Calm.{carries, is_calm}
use Rattle.network_model.specs.Reach.{ahead_spoke, ahead_wire, at_edge_of, behind_spoke, behind_wire, beside_far, elsewhere_of, far_of, is_circuit_of, is_live, reach}
use Rattle.network_model.specs.State.{NetworkState}
use Rattle.flood_laws.specs.Copy.{IsStillEdge}
use Rattle.flood_laws.specs.Due.{due_towards}
use Rattle.flood_laws.proofs.BridgeLemmas.{goes_by, port_serves}
use Rattle.flood_laws.proofs.CalmReachLemmas.{calm_awaits}
use Rattle.flood_laws.proofs.CopyLemmas.{still_forwards}
use Rattle.flood_laws.proofs.DueLemmas.{carries_by, forwards, stitches}
use Rattle.flood_laws.proofs.LinkLemmas.{IsLink, link_at}
use Rattle.flood_laws.proofs.MeshLemmas.{mesh_carries}
use Rattle.flood_laws.proofs.SiteLemmas.{IsSiteOf, still_on}
use Rattle.flood_laws.proofs.WirePeerLemmas.{end_is_due}
use Rattle.address_laws.specs.Points.{PointsToSite}
use Rattle.address_laws.specs.Sites.{Sites}

-- the port with this place at an edge leads to the circuit
pub record LeadsToSite (plan : Plan) (network : NetworkState) (service : ServiceId) (circuit : CircuitId) (edge : EdgeId) (place : ℕ) : Type 0 where
  pub port : Port
  pub at : slice_get (ports_of plan service edge) place ≡ Some port
  pub reaches : reach plan network service edge.0 port circuit ≡ true

-- ---- what a bridge knows

module _ (plan : Plan) (network : NetworkState) (service : ServiceId) (site : Sites) (edge : EdgeId) where
  entry_leads : (entries : List MacEntry) (station : Mac) (place : ℕ) → AllByRecursion (PointsToSite plan network service site edge.0) entries
      → option_map (λ (e : MacEntry). e.port) (mac_entry_of entries station) ≡ Some place → LeadsToSite plan network service (site station.0) edge place
  entry_leads [] station place all known = absurd (cc (known))
  entry_leads (e ∷ es) station place all known = by (is_of station e) refl known (entry_leads es station place all.1) where
    by : (b : Bool) → is_of station e ≡ b → option_map (λ (e : MacEntry). e.port) (cond b (Some e) (mac_entry_of es station)) ≡ Some place
        → (option_map (λ (e : MacEntry). e.port) (mac_entry_of es station) ≡ Some place → LeadsToSite plan network service (site station.0) edge place)
        → LeadsToSite plan network service (site station.0) edge place
    by true here known later =
        let same : e.port ≡ place = cc (known) in
        record {
          port = all.0.port;
          at = ap (slice_get (ports_of plan service edge)) (sym same) ∙ all.0.at;
          reaches = ap (λ (a : Mac). reach plan network service edge.0 all.0.port (site a.0)) (sym (address_of station e here)) ∙ all.0.reaches;
        }
    by false away known later = later known

  -- the port that is known for a station, where each entry points to its site
  pub known_leads : (entries : List MacEntry) (station : Mac) (place : ℕ) → AllByRecursion (PointsToSite plan network service site edge.0) entries
      → known_port entries station ≡ Some place → LeadsToSite plan network service (site station.0) edge place
  known_leads entries station place all known = by (is_group_address station.0) known where
    by : (group : Bool) → cond group None (port_of entries station) ≡ Some place → LeadsToSite plan network service (site station.0) edge place
    by true known = absurd (cc (known))
    by false known = entry_leads entries station place all known

-- ---- what a copy by a port serves

-- the port goes out, and a copy by it serves the circuit
pub record ServesBy (plan : Plan) (came : Arrival) (calm : NetworkState) (service : ServiceId) (circuit : CircuitId) (frame : List ℕ) (edge : EdgeState) (x : Port) : Type 0 where
  pub goes : goes_by plan edge (λ c. true) None x ≡ true
  pub serves : port_serves plan came calm service circuit frame edge x ≡ 1

-- the other terminal edge of a wire
far_link : (plan : Plan) (row : WirePlan) (link : IsLink plan row) (edge : ℕ) → far_of edge row.path ≡ cond (nat_eq edge link.near.0) (Some link.far.0) (Some link.near.0)
far_link plan row link edge = rw (link.path, link.ends) refl

-- there is another end
far_some : (b : Bool) (m n : ℕ) → (far : ℕ) × (cond b (Some m) (Some n) ≡ Some far)
far_some true m n = (m, refl)
far_some false m n = (n, refl)

-- what is behind a spoke at one end is ahead of what arrives at the other one
behind_ahead : (plan : Plan) (service : ServiceId) (circuit : CircuitId) (edge : ℕ) (near last : EdgeId) (rest : List EdgeId) (far : ℕ) → nat_eq near.0 last.0 ≡ false
    → cond (nat_eq edge near.0) (Some last.0) (Some near.0) ≡ Some far
    → behind_spoke plan service edge (near ∷ rest) circuit ≡ ahead_spoke plan service far (near ∷ rest) circuit
behind_ahead plan service circuit edge near last rest far apart is = by (nat_eq edge near.0) refl is where
  by : (b : Bool) → nat_eq edge near.0 ≡ b → cond b (Some last.0) (Some near.0) ≡ Some far
      → cond b (elsewhere_of plan service edge circuit) (at_edge_of plan service near.0 circuit)
      ≡ cond (nat_eq far near.0) (at_edge_of plan service far circuit) (elsewhere_of plan service near.0 circuit)
  by true here is =
      let same : last.0 ≡ far = cc (is) in
      let away : nat_eq far near.0 ≡ false = ap (λ (n : ℕ). nat_eq n near.0) (sym same) ∙ apart_back near.0 last.0 apart in
      rw away (ap (λ (n : ℕ). elsewhere_of plan service n circuit) (eqb-true edge near.0 here))
  by false there is =
      let same : near.0 ≡ far = cc (is) in
      rw (eq-eqb far near.0 (sym same)) (ap (λ (n : ℕ). at_edge_of plan service n circuit) same)

module _ (plan : Plan) (came : Arrival) (calm : NetworkState) (service : ServiceId) (circuit : CircuitId) (frame : List ℕ) (edge : EdgeState)
    (checked : IsChecked plan) (calmed : is_calm plan calm service ≡ true)
    (site : IsSiteOf plan calm service circuit) (still : IsStillEdge (calm.edges edge.me.0) edge) where
  abbrev Serves : Port → Type 0
  Serves x = ServesBy plan came calm service circuit frame edge x

  -- the port of the site itself
  circuit_serves : (at : CircuitId) → IsServed plan.circuits service edge.me at.0 → is_circuit_of plan service circuit && nat_eq circuit.0 at.0 ≡ true → Serves (port.Circuit at)
  circuit_serves at served reached =
      let same : circuit.0 ≡ at.0 = eqb-true circuit.0 at.0 (second_holds (is_circuit_of plan service circuit) (nat_eq circuit.0 at.0) reached) in
      let rows : Some site.row ≡ Some served.row = sym site.is ∙ (ap (slice_get plan.circuits) same ∙ served.is) in
      let row : site.row ≡ served.row = cc (rows) in
      let here : served.row.edge.0 ≡ edge.me.0 = eqb-true served.row.edge.0 edge.me.0 (second_holds (nat_eq served.row.service.0 service.0) (nat_eq served.row.edge.0 edge.me.0) served.serve) in
      let place : site.row.edge.0 ≡ edge.me.0 = ap (λ (r : CircuitPlan). r.edge.0) row ∙ here in
      let on : edge.circuit_on at.0 ≡ true =
      ap (λ (f : ℕ → Bool). f at.0) (still_on (calm.edges edge.me.0) edge still)
      ∙ (ap (λ (n : ℕ). (calm.edges n).circuit_on at.0) (sym place) ∙ (ap (λ (n : ℕ). (calm.edges site.row.edge.0).circuit_on n) (sym same) ∙ site.on)) in
      record { goes = holds_with_true (edge.circuit_on at.0) on; serves = ap (λ (b : Bool). cond {A = ℕ} b 1 0) (eq-eqb at.0 circuit.0 (sym same)) }

  -- ---- wires

  module _ (wire : WireId) (mesh : Bool) (wired : IsWired plan.wires service edge.me mesh wire.0) where
    link : IsLink plan wired.row
    link = link_at plan wire.0 wired.row checked wired.is

    ours : is_wire_of service wired.row ≡ true
    ours = first_holds (is_wire_of service wired.row) _ wired.ends

    -- a wire that carries frames forwards at both ends
    here_forwards : carries plan calm wire.0 wired.row ≡ true → end_forwards plan edge wire ≡ true
    here_forwards live = still_forwards plan (calm.edges edge.me.0) edge wire still ∙ by (cases_Bool (nat_eq edge.me.0 link.near.0)) where
      ends_forward : forwards plan calm link.near.0 wire.0 && forwards plan calm link.far.0 wire.0 ≡ true
      ends_forward = first_holds (forwards plan calm link.near.0 wire.0 && forwards plan calm link.far.0 wire.0) (stitches calm wire.0 link) (sym (carries_by plan calm wire.0 wired.row link) ∙ live)

      by : (nat_eq edge.me.0 link.near.0 ≡ true) ⊎ (nat_eq edge.me.0 link.near.0 ≡ false) → end_forwards plan (calm.edges edge.me.0) wire ≡ true
      by (inl near) =
          ap (λ (n : ℕ). end_forwards plan (calm.edges n) wire) (eqb-true edge.me.0 link.near.0 near)
          ∙ first_holds (forwards plan calm link.near.0 wire.0) (forwards plan calm link.far.0 wire.0) ends_forward
      by (inr away) =
          let last : nat_eq edge.me.0 link.far.0 ≡ true = second_holds (is_wire_of service wired.row) (nat_eq edge.me.0 link.far.0) (rw (link.path, away, link.last edge.me.0) at wired.ends) in
          ap (λ (n : ℕ). end_forwards plan (calm.edges n) wire) (eqb-true edge.me.0 link.far.0 last)
          ∙ second_holds (forwards plan calm link.near.0 wire.0) (forwards plan calm link.far.0 wire.0) ends_forward

    -- what is due towards the other end
    abbrev due_there : ℕ
    due_there = due_towards plan calm service circuit wire.0 (far_of edge.me.0 wired.row.path)

    far : (far : ℕ) × (far_of edge.me.0 wired.row.path ≡ Some far)
    far =
        let (n, is) = far_some (nat_eq edge.me.0 link.near.0) link.far.0 link.near.0 in
        (n, far_link plan wired.row link edge.me.0 ∙ is)

    -- it is one of the two terminal edges
    side : (n : ℕ) → far_of edge.me.0 wired.row.path ≡ Some n → (record { 0 = n } ≡ link.near) ⊎ (record { 0 = n } ≡ link.far)
    side n there = by (nat_eq edge.me.0 link.near.0) (sym (far_link plan wired.row link edge.me.0) ∙ there) where
      by : (b : Bool) → cond b (Some link.far.0) (Some link.near.0) ≡ Some n → (record { 0 = n } ≡ link.near) ⊎ (record { 0 = n } ≡ link.far)
      by true is =
          let same : n ≡ link.far.0 = cc (is) in
          inr (ap (λ (m : ℕ). record { 0 = m }) same)
      by false is =
          let same : n ≡ link.near.0 = cc (is) in
          inl (ap (λ (m : ℕ). record { 0 = m }) same)

    awaits_there : (behind : Bool) → behind ≡ true → ((n : ℕ) → far_of edge.me.0 wired.row.path ≡ Some n → ahead_wire plan calm service n wire.0 mesh (Some wired.row) circuit ≡ behind) → due_there ≡ 1
    awaits_there behind is met =
        let (n, there) = far in
        ap (due_towards plan calm service circuit wire.0) there
        ∙ ap (λ (b : Bool). cond {A = ℕ} b 1 0)
        (calm_awaits plan calm service checked calmed circuit wire wired.row link wired.is ours (record { 0 = n }) (side n there)
        ∙ (ap (λ (r : Option WirePlan). ahead_wire plan calm service n wire.0 (is_mesh_row r) r circuit) wired.is
        ∙ (ap (λ (m : Bool). ahead_wire plan calm service n wire.0 m (Some wired.row) circuit) wired.class ∙ (met n there ∙ is))))

  mesh_serves : (wire : WireId) → IsWired plan.wires service edge.me true wire.0 → behind_wire plan calm service edge.me.0 wire.0 true (wire_row plan wire) circuit ≡ true → Serves (port.Mesh wire)
  mesh_serves wire wired reached =
      let live = mesh_carries plan calm service wire.0 wired.row checked calmed wired.is (rw (ours wire true wired, wired.class) refl) in
      let up : end_forwards plan edge wire ≡ true = here_forwards wire true wired live in
      let behind : beside_far plan calm service (far_of edge.me.0 wired.row.path) circuit ≡ true =
      ap (λ (r : Option WirePlan). behind_wire plan calm service edge.me.0 wire.0 true r circuit) (sym wired.is) ∙ reached in
      record {
        goes = holds_with_true (end_forwards plan edge wire) up;
        serves = end_is_due plan calm service circuit edge wire wired.row checked wired.is up
            ∙ awaits_there wire true wired (beside_far plan calm service (far_of edge.me.0 wired.row.path) circuit) behind
            (λ n there. ap (λ (o : Option ℕ). beside_far plan calm service o circuit) (sym there));
      }

  spoke_serves : (wire : WireId) → IsWired plan.wires service edge.me false wire.0 → behind_wire plan calm service edge.me.0 wire.0 false (wire_row plan wire) circuit ≡ true → Serves (port.Spoke wire)
  spoke_serves wire wired reached =
      let here : is_live plan calm service wire.0 wired.row && behind_spoke plan service edge.me.0 wired.row.path circuit ≡ true =
      ap (λ (r : Option WirePlan). behind_wire plan calm service edge.me.0 wire.0 false r circuit) (sym wired.is) ∙ reached in
      let live : carries plan calm wire.0 wired.row ≡ true =
      second_holds _ (carries plan calm wire.0 wired.row) (first_holds (is_live plan calm service wire.0 wired.row) (behind_spoke plan service edge.me.0 wired.row.path circuit) here) in
      let up : end_forwards plan edge wire ≡ true = here_forwards wire false wired live in
      let l : IsLink plan wired.row = link wire false wired in
      record {
        goes = holds_with_true (end_forwards plan edge wire) up;
        serves = end_is_due plan calm service circuit edge wire wired.row checked wired.is up
            ∙ awaits_there wire false wired (is_live plan calm service wire.0 wired.row && behind_spoke plan service edge.me.0 wired.row.path circuit) here
            (λ n there. ap (λ (b : Bool). is_live plan calm service wire.0 wired.row && b)
            (ap (λ (path : List EdgeId). ahead_spoke plan service n path circuit) l.path
            ∙ (sym (behind_ahead plan service circuit edge.me.0 l.near l.far l.rest n l.apart (sym (far_link plan wired.row l edge.me.0) ∙ there))
            ∙ ap (λ (path : List EdgeId). behind_spoke plan service edge.me.0 path circuit) (sym l.path))));
      }

  -- a port that leads to the site
  pub leading_serves : (place : ℕ) (leads : LeadsToSite plan calm service circuit edge.me place) → Serves leads.port
  leading_serves place leads = by leads.port (served_at plan service edge.me place leads.port leads.at) leads.reaches where
    by : (x : Port) → IsServedBy plan service edge.me x → reach plan calm service edge.me.0 x circuit ≡ true → Serves x
    by (port.Circuit at) served reached = circuit_serves at served reached
    by (port.Mesh wire) wired reached = mesh_serves wire wired reached
    by (port.Spoke wire) wired reached = spoke_serves wire wired reached
