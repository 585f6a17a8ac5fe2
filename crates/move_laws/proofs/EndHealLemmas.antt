-- In a calm state each address that has healed points to its site.
use Rattle.network_model.proofs.WayLemmas.{joins_is}
use Rattle.move_laws.proofs.PendingLemmas.{spoke_ours}
use Rattle.move_laws.proofs.DeadLemmas.{dead_carries_not}
use Rattle.address_laws.specs.Points.{Points, PointsToSite}
use Rattle.address_laws.specs.Sites.{Sites}
use Rattle.edge_model.specs.Ends.{end_forwards}
use Rattle.flight_laws.proofs.RunLemmas.{none_said}
use Rattle.flight_laws.specs.Ends.{IsOrdered, ends_at}
use Rattle.flood_laws.proofs.FarLemmas.{are_settled}
use Rattle.flood_laws.proofs.LawLemmas.{circuit_within}
use Rattle.hvpls_spokes.proofs.PortsLemmas.{IsWired, served_at}
use Rattle.hvpls_spokes.specs.Port.{ports_of}
use Rattle.hvpls_spokes.specs.declared.port.Port.TheVariants as port
use Rattle.hvpls_spokes.specs.declared.port.Port.{Port}
use Rattle.mac_table.specs.declared.mac_entry.MacEntry.{MacEntry}
use Rattle.flood_laws.proofs.ChoiceLemmas.{all_by_place, all_get}
use Rattle.flood_laws.proofs.LinkLemmas.{IsLink, link_at}
use Rattle.move_laws.proofs.LiveSpokeLemmas.{IsLiveAt, live_at, live_same, quiet_way, spoke_at_link}
use Rattle.move_laws.proofs.WireLemmas.{HasFar, IsSpokeOf, mesh_far, spoke_of}
use Rattle.move_laws.specs.Clearing.{is_cleared_by, takes_clearing}
use Rattle.move_laws.specs.Healing.{ByMesh, BySpoke, EntryHeals, Heals, HealsLive, IsAtLive, IsLost, IsRight, IsSpokeTo, IsWithdrawalPending, LeadsHome, WillBeRight, chosen_in, learned_in, ways_of}
use Rattle.net_base.specs.declared.plan.Plan.{Plan}
use Rattle.net_base.specs.declared.plan.circuit_plan.CircuitPlan.{CircuitPlan}
use Rattle.net_base.specs.declared.plan.places.CircuitId.{CircuitId}
use Rattle.net_base.specs.declared.plan.places.ServiceId.{ServiceId}
use Rattle.net_base.specs.declared.plan.places.WireId.{WireId}
use Rattle.net_base.specs.declared.plan.wire_plan.WirePlan.{WirePlan}
use Rattle.net_base.specs.plan.Accepted.{IsChecked}
use Rattle.net_base.specs.plan.Paths.{is_first, is_last, joins, follows}
use Rattle.net_base.specs.plan.Places.{circuit_row, is_mesh_class, wire_row}
use Rattle.net_base.specs.plan.Roles.{is_core_edge, is_mesh_of, is_spoke_edge, is_spoke_from, is_wire_of}
use Rattle.network_model.specs.Calm.{carries, has_live_spokes, is_calm, is_full, is_live_spoke, is_quiet}
use Rattle.network_model.specs.Reach.{at_edge_of, behind_wire, beside_far, circuit_is_at, elsewhere_of, far_of, home_of, is_beside, is_circuit_of, is_home, is_row_at, is_row_beside, reach}
use Rattle.network_model.specs.State.{NetworkState}
use Rattle.std.proofs.Common.{Bool, None, Option, Some, [], ap, cond, false, length, refl, slice_get, subst, sym, true, ℕ, ◌&&◌, ◌<◌, ◌==◌, ◌||◌, ◌∙◌, ◌≡◌}
use Rattle.std.proofs.lemmas.Bool.{eqb-true, and_from, or_left}
use Rattle.net_values.proofs.BoolLemmas.{first_holds, clash, second_holds}
use Rattle.net_values.proofs.NumberLemmas.{same_number}
use Rattle.net_values.proofs.OptionLemmas.{some_same}

-- ---- a circuit, by its edge

-- the row of a circuit that is beside a core edge
pub record IsBeside (plan : Plan) (service : ServiceId) (network : NetworkState) (core : ℕ) (circuit : CircuitId) : Type 0 where
  pub row : CircuitPlan
  pub is : circuit_row plan circuit ≡ Some row
  pub of_service : is_circuit_of plan service circuit ≡ true
  pub where_is : row.edge.0 == core || (is_spoke_edge plan service row.edge.0 && is_home core (home_of plan network service row.edge.0)) ≡ true

pub beside_is : (plan : Plan) (service : ServiceId) (network : NetworkState) (core : ℕ) (circuit : CircuitId) → is_beside plan network service core circuit ≡ true
    → IsBeside plan service network core circuit
beside_is plan service network core circuit beside = by (circuit_row plan circuit) refl (second_holds (is_circuit_of plan service circuit)
    (is_row_beside plan network service core (circuit_row plan circuit)) beside) where
      by : (o : Option CircuitPlan) → circuit_row plan circuit ≡ o → is_row_beside plan network service core o ≡ true → IsBeside plan service network core circuit
      by None is there = clash there
      by (Some row) is there = record {
        row = row;
        is = is;
        of_service = first_holds (is_circuit_of plan service circuit) (is_row_beside plan network service core (circuit_row plan circuit)) beside;
        where_is = there;
      }

pub is_beside_by : (plan : Plan) (service : ServiceId) (network : NetworkState) (core : ℕ) (circuit : CircuitId) (row : CircuitPlan) → circuit_row plan circuit ≡ Some row
    → is_circuit_of plan service circuit ≡ true
    → row.edge.0 == core || (is_spoke_edge plan service row.edge.0 && is_home core (home_of plan network service row.edge.0)) ≡ true → is_beside plan network service core circuit ≡ true
is_beside_by plan service network core circuit row is ours there =
    and_from (is_circuit_of plan service circuit) (is_row_beside plan network service core (circuit_row plan circuit)) ours (ap (is_row_beside plan network service core) is ∙ there)

-- it is at its edge
pub at_own_edge : (plan : Plan) (service : ServiceId) (circuit : CircuitId) (row : CircuitPlan) → circuit_row plan circuit ≡ Some row → is_circuit_of plan service circuit ≡ true
    → at_edge_of plan service row.edge.0 circuit ≡ true
at_own_edge plan service circuit row is ours = and_from (is_circuit_of plan service circuit) (circuit_is_at plan row.edge.0 circuit) ours (ap (is_row_at row.edge.0) is ∙ same_number row.edge.0)

-- ---- spokes and mesh wires behind ports

-- a spoke that carries frames, and what is behind it
pub record IsBehindSpoke (plan : Plan) (service : ServiceId) (network : NetworkState) (edge : ℕ) (wire : WireId) (row : WirePlan) (link : IsLink plan row) (circuit : CircuitId) : Type 0 where
  pub from : is_spoke_from service link.near.0 row ≡ true
  pub live : carries plan network wire.0 row ≡ true
  pub behind : cond (edge == link.near.0) (elsewhere_of plan service edge circuit) (at_edge_of plan service link.near.0 circuit) ≡ true

pub spoke_reach : (plan : Plan) (service : ServiceId) (network : NetworkState) (edge : ℕ) (wire : WireId) (row : WirePlan) (link : IsLink plan row) (circuit : CircuitId)
    → wire_row plan wire ≡ Some row
    → reach plan network service edge (port.Spoke wire) circuit
    ≡ (is_live_spoke plan network service link.near.0 wire.0 row && cond (edge == link.near.0) (elsewhere_of plan service edge circuit) (at_edge_of plan service link.near.0 circuit))
spoke_reach plan service network edge wire row link circuit is = rw (is, link.path) refl

pub behind_is : (plan : Plan) (service : ServiceId) (network : NetworkState) (edge : ℕ) (wire : WireId) (row : WirePlan) (link : IsLink plan row) (circuit : CircuitId)
    → wire_row plan wire ≡ Some row → reach plan network service edge (port.Spoke wire) circuit ≡ true
    → IsBehindSpoke plan service network edge wire row link circuit
behind_is plan service network edge wire row link circuit is reached =
    let both = sym (spoke_reach plan service network edge wire row link circuit is) ∙ reached in
    let live : is_live_spoke plan network service link.near.0 wire.0 row ≡ true = first_holds (is_live_spoke plan network service link.near.0 wire.0 row) _ both in
    record {
      from = first_holds (is_spoke_from service link.near.0 row) (carries plan network wire.0 row) live;
      live = second_holds (is_spoke_from service link.near.0 row) (carries plan network wire.0 row) live;
      behind = second_holds (is_live_spoke plan network service link.near.0 wire.0 row) _ both;
    }

pub reach_spoke : (plan : Plan) (service : ServiceId) (network : NetworkState) (edge : ℕ) (wire : WireId) (row : WirePlan) (link : IsLink plan row) (circuit : CircuitId)
    → wire_row plan wire ≡ Some row → IsBehindSpoke plan service network edge wire row link circuit
    → reach plan network service edge (port.Spoke wire) circuit ≡ true
reach_spoke plan service network edge wire row link circuit is behind = spoke_reach plan service network edge wire row link circuit is
    ∙ and_from (is_live_spoke plan network service link.near.0 wire.0 row) _ (and_from (is_spoke_from service link.near.0 row) (carries plan network wire.0 row) behind.from behind.live) behind.behind

pub mesh_reach : (plan : Plan) (service : ServiceId) (network : NetworkState) (edge peer : ℕ) (wire : WireId) (row : WirePlan) (circuit : CircuitId) → wire_row plan wire ≡ Some row
    → far_of edge row.path ≡ Some peer
    → reach plan network service edge (port.Mesh wire) circuit ≡ is_beside plan network service peer circuit
mesh_reach plan service network edge peer wire row circuit is far =
    ap (λ (o : Option WirePlan). behind_wire plan network service edge wire.0 true o circuit) is ∙ ap (λ (o : Option ℕ). beside_far plan network service o circuit) far

-- ---- what is behind a port

-- a wire port of the service at an edge
pub record IsPortWire (plan : Plan) (service : ServiceId) (edge : ℕ) (mesh : Bool) (wire : WireId) : Type 0 where
  pub row : WirePlan
  pub is : wire_row plan wire ≡ Some row
  pub ends : Rattle.net_base.specs.plan.Roles.wire_ends_at service edge row ≡ true
  pub class : is_mesh_class row.class ≡ mesh
  pub link : IsLink plan row

port_wire : (plan : Plan) (service : ServiceId) (edge : ℕ) (mesh : Bool) (wire : WireId) → IsChecked plan
    → IsWired plan.wires service (record { 0 = edge }) mesh wire.0 → IsPortWire plan service edge mesh wire
port_wire plan service edge mesh wire checked wired = record { row = wired.row; is = wired.is; ends = wired.ends; class = wired.class; link = link_at plan wire.0 wired.row checked wired.is }

pub mesh_port : (plan : Plan) (service : ServiceId) (edge p : ℕ) (wire : WireId) → IsChecked plan
    → slice_get (ports_of plan service (record { 0 = edge })) p ≡ Some (port.Mesh wire) → IsPortWire plan service edge true wire
mesh_port plan service edge p wire checked at = port_wire plan service edge true wire checked (served_at plan service (record { 0 = edge }) p (port.Mesh wire) at)

pub spoke_port : (plan : Plan) (service : ServiceId) (edge p : ℕ) (wire : WireId) → IsChecked plan
    → slice_get (ports_of plan service (record { 0 = edge })) p ≡ Some (port.Spoke wire) → IsPortWire plan service edge false wire
spoke_port plan service edge p wire checked at = port_wire plan service edge false wire checked (served_at plan service (record { 0 = edge }) p (port.Spoke wire) at)

pub of_mesh : (plan : Plan) (service : ServiceId) (edge : ℕ) (wire : WireId) (at : IsPortWire plan service edge true wire) → is_mesh_of service at.row ≡ true
of_mesh plan service edge wire at = and_from (is_wire_of service at.row) (is_mesh_class at.row.class)
    (first_holds (is_wire_of service at.row) (is_first edge at.row.path || is_last edge at.row.path) at.ends) at.class

-- of two ends the other one
pub at_far : (plan : Plan) (service : ServiceId) (edge : ℕ) (row : WirePlan) (link : IsLink plan row) → Rattle.net_base.specs.plan.Roles.wire_ends_at service edge row ≡ true
    → (edge == link.near.0) ≡ false → edge ≡ link.far.0
at_far plan service edge row link ends away =
    let there : (edge == link.near.0) || (edge == link.far.0) ≡ true = second_holds (is_wire_of service row) ((edge == link.near.0) || (edge == link.far.0)) (rw (link.path, link.last edge) at ends) in
    eqb-true edge link.far.0 (rw away at there)

-- ---- a calm state

module _ (plan : Plan) (service : ServiceId) (site : Sites) (calm network : NetworkState) (checked : IsChecked plan) (ordered : IsOrdered plan network)
    (is_calm_now : is_calm plan network service ≡ true)
    (healing : HealsLive plan service site calm network) where
  heals : Heals plan service site calm network
  heals = healing.heals

  quiet : is_quiet plan network service ≡ true
  quiet = first_holds (is_quiet plan network service) (is_full plan network service)
      (first_holds (is_quiet plan network service && is_full plan network service) (has_live_spokes plan network service) is_calm_now)

  -- nothing is on its way
  none_pending : {P : Type 0} (a b : ℕ) (wire : WireId) (row : WirePlan) → wire_row plan wire ≡ Some row → is_wire_of service row ≡ true → joins a b row.path ≡ true
      → IsWithdrawalPending plan service network a b wire row → P
  none_pending a b wire row is ours joined pending =
      let way = quiet_way network a b (are_settled plan network service a b wire row checked is ours joined quiet) pending.there in
      let none : pending.cleared.messages ≡ [] = none_said (ends_at plan a b).me pending.cleared.messages (sym way.out ∙ pending.cleared.is) in
      clash (ap (is_cleared_by row.pw_id (takes_clearing (network.edges b) row wire.0 a b)) (sym none) ∙ pending.cleared.among)

  lives : (x : ℕ) → x < length plan.edges → is_spoke_edge plan service x ≡ true → IsLiveAt plan service network x
  lives x within starts = live_at plan service network x checked ordered is_calm_now within starts

  -- so each entry of a core edge is right
  right_now : (core k : ℕ) (entry : MacEntry) → is_core_edge plan service core ≡ true → slice_get (learned_in service network core) k ≡ Some entry
      → (x : ℕ) (live : IsLiveAt plan service network x) → at_edge_of plan service x (site entry.address.0) ≡ true
      → LeadsHome plan core live.home live.wire (slice_get (ports_of plan service (record { 0 = core })) entry.port)
  right_now core k entry is at x live there = by (all_get (EntryHeals plan service site (chosen_in service network) (ways_of plan service network) core) (learned_in service network core) k entry
      (heals.right core is) at x live.wire live.home live.spoke live.chosen there) where
        by : WillBeRight plan service (ways_of plan service network) x live.wire live.spoke.row live.home core entry.port
            → LeadsHome plan core live.home live.wire (slice_get (ports_of plan service (record { 0 = core })) entry.port)
        by (IsRight leads) = leads
        by (BySpoke a b way whole pending) = none_pending a.0 b.0 live.wire live.spoke.row live.spoke.is (spoke_ours service x live.spoke.row live.spoke.from)
            (joins_is live.spoke.row.path a.0 b.0 ∙ or_left (follows live.spoke.row.path a.0 b.0) (follows live.spoke.row.path b.0 a.0) way) pending
        by (ByMesh mesh its a b at_mesh of_mesh far joined goal_is pending) = none_pending a.0 b.0 mesh its at_mesh (first_holds (is_wire_of service its) (is_mesh_class its.class) of_mesh) joined pending
        by (IsLost dead) = dead_carries_not plan network live.wire live.spoke.row checked ordered.placed live.spoke.is dead live.live

  module _ (e k : ℕ) (entry : MacEntry) (at : slice_get (learned_in service network e) k ≡ Some entry) where
    abbrev circuit : CircuitId
    circuit = site entry.address.0

    abbrev AtPort : Option Port
    AtPort = slice_get (ports_of plan service (record { 0 = e })) entry.port

    by_mesh : (wire : WireId) → AtPort ≡ Some (port.Mesh wire) → reach plan calm service e (port.Mesh wire) circuit ≡ true → reach plan network service e (port.Mesh wire) circuit ≡ true
    by_mesh wire leads reached = mesh_reach plan service network e far.other wire wired.row circuit wired.is far.far
        ∙ is_beside_by plan service network far.other circuit beside.row beside.is beside.of_service there where
          wired : IsPortWire plan service e true wire
          wired = mesh_port plan service e entry.port wire checked leads

          far : HasFar plan service wired.row e
          far = mesh_far plan service e wire wired.row checked wired.is (of_mesh plan service e wire wired) wired.ends

          beside : IsBeside plan service calm far.other circuit
          beside = beside_is plan service calm far.other circuit (sym (mesh_reach plan service calm e far.other wire wired.row circuit wired.is far.far) ∙ reached)

          x : ℕ
          x = beside.row.edge.0

          -- the home of its spoke edge is the one to which the mesh wire leads
          home_now : is_spoke_edge plan service x ≡ true → is_home far.other (home_of plan network service x) ≡ true
          home_now starts =
              let live = lives x (circuit_within plan circuit beside.row checked beside.is) starts in
              let right : LeadsHome plan e live.home live.wire (Some (port.Mesh wire)) =
              subst (LeadsHome plan e live.home live.wire) leads (right_now e k entry far.core at x live (at_own_edge plan service circuit beside.row beside.is beside.of_service)) in
              let rows : right.row ≡ wired.row = some_same (sym right.is ∙ wired.is) in
              let homes : live.home ≡ far.other = some_same (sym right.far ∙ (ap (λ (r : WirePlan). far_of e r.path) rows ∙ far.far)) in
              ap (is_home far.other) live.home_is ∙ (ap (λ (n : ℕ). n == far.other) homes ∙ same_number far.other)

          by_case : (here starts home : Bool) → (starts ≡ true → is_home far.other (home_of plan network service x) ≡ true) → here || (starts && home) ≡ true
              → here || (starts && is_home far.other (home_of plan network service x)) ≡ true
          by_case true starts home now was = refl
          by_case false true home now was = now refl
          by_case false false home now was = clash was

          there : x == far.other || (is_spoke_edge plan service x && is_home far.other (home_of plan network service x)) ≡ true
          there = by_case (x == far.other) (is_spoke_edge plan service x) (is_home far.other (home_of plan calm service x)) home_now beside.where_is

    by_spoke : (wire : WireId) → AtPort ≡ Some (port.Spoke wire) → reach plan calm service e (port.Spoke wire) circuit ≡ true → reach plan network service e (port.Spoke wire) circuit ≡ true
    by_spoke wire leads reached = reach_spoke plan service network e wire wired.row wired.link circuit wired.is (record { from = was.from; live = live_now; behind = was.behind }) where
      wired : IsPortWire plan service e false wire
      wired = spoke_port plan service e entry.port wire checked leads

      was : IsBehindSpoke plan service calm e wire wired.row wired.link circuit
      was = behind_is plan service calm e wire wired.row wired.link circuit wired.is reached

      spoke : IsSpokeTo plan service wired.link.near.0 wire wired.link.far.0
      spoke = spoke_at_link plan service wired.link.near.0 wire.0 wired.row wired.link wired.is was.from

      spoke_is : IsSpokeOf plan service wired.link.near.0 wired.link.far.0 spoke.row
      spoke_is = spoke_of plan service wired.link.near.0 wire wired.link.far.0 checked spoke

      live : IsLiveAt plan service network wired.link.near.0
      live = lives wired.link.near.0 wired.link.near_within spoke_is.starts

      carried : wire ≡ live.wire → carries plan network wire.0 wired.row ≡ true
      carried same =
          let rows : wired.row ≡ live.spoke.row = some_same (sym wired.is ∙ (ap (wire_row plan) same ∙ live.spoke.is)) in
          ap (λ (r : WirePlan). carries plan network wire.0 r) rows ∙ (ap (λ (w : WireId). carries plan network w.0 live.spoke.row) same ∙ live.live)

      by_side : (b : Bool) → (e == wired.link.near.0) ≡ b → cond b (elsewhere_of plan service e circuit) (at_edge_of plan service wired.link.near.0 circuit) ≡ true
          → carries plan network wire.0 wired.row ≡ true
      by_side true here behind =
          let same : e ≡ wired.link.near.0 = eqb-true e wired.link.near.0 here in
          let up : end_forwards plan (network.edges e) wire ≡ true = all_get (IsAtLive plan service e (network.edges e)) (learned_in service network e) k entry (healing.live e) at wire leads in
          carried (live_same plan service network wired.link.near.0 wire wired.link.far.0 checked ordered live spoke (subst (λ (n : ℕ). end_forwards plan (network.edges n) wire ≡ true) same up))
      by_side false away behind =
          let far : e ≡ wired.link.far.0 = at_far plan service e wired.row wired.link wired.ends away in
          let core : is_core_edge plan service e ≡ true = subst (λ (n : ℕ). is_core_edge plan service n ≡ true) (sym far) spoke_is.core in
          let right : LeadsHome plan e live.home live.wire (Some (port.Spoke wire)) = subst (LeadsHome plan e live.home live.wire) leads (right_now e k entry core at wired.link.near.0 live behind) in
          carried right.1

      live_now : carries plan network wire.0 wired.row ≡ true
      live_now = by_side (e == wired.link.near.0) refl was.behind

    by_port : (x : Port) → AtPort ≡ Some x → reach plan calm service e x circuit ≡ true → reach plan network service e x circuit ≡ true
    by_port (port.Circuit own) leads reached = reached
    by_port (port.Mesh wire) leads reached = by_mesh wire leads reached
    by_port (port.Spoke wire) leads reached = by_spoke wire leads reached

    points_now : PointsToSite plan calm service site e entry → PointsToSite plan network service site e entry
    points_now was = record { port = was.port; at = was.at; reaches = by_port was.port was.at was.reaches }

  pub end_points : Points plan network service site
  end_points e = all_by_place (PointsToSite plan network service site e) (learned_in service network e)
      (λ k entry at. points_now e k entry at (all_get (PointsToSite plan calm service site e) (learned_in service network e) k entry (heals.table e) at))
