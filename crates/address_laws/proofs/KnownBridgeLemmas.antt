-- What the copies of a bridge serve that may know the station: of its site as much as the flood's would, and of any circuit no more.
use Rattle.std.proofs.Common.{◌≡◌, ◌<◌, ◌≤◌, ◌&&◌, ◌+◌, ◌∙◌, ℕ, Bool, true, false, List, [], Option, Some, None, cond, length, nat_eq, not, position, refl, ap, sym, subst, slice_get, zero-add, arith}
use Rattle.std.proofs.lemmas.Bool.{eq-eqb}
use Rattle.net_values.proofs.BoolLemmas.{holds_with_true}
use Rattle.net_values.proofs.NumberLemmas.{equal_at_most}
use Rattle.net_base.specs.declared.plan.Plan.{Plan}
use Rattle.net_base.specs.declared.plan.circuit_plan.CircuitPlan.{CircuitPlan}
use Rattle.net_base.specs.declared.plan.wire_plan.WirePlan.{WirePlan}
use Rattle.net_base.specs.declared.plan.places.CircuitId.{CircuitId}
use Rattle.net_base.specs.declared.plan.places.EdgeId.{EdgeId}
use Rattle.net_base.specs.declared.plan.places.ServiceId.{ServiceId}
use Rattle.net_base.specs.declared.plan.places.WireId.{WireId}
use Rattle.net_base.specs.declared.trace.arrival.Arrival.{Arrival}
use Rattle.net_base.specs.plan.Accepted.{IsChecked}
use Rattle.net_base.specs.plan.Places.{circuit_row, wire_row}
use Rattle.net_base.specs.plan.Roles.{has_port, is_circuit_at, wire_ends_at}
use Rattle.hvpls_spokes.specs.declared.port.Port.{Port}
use Rattle.hvpls_spokes.specs.declared.port.Port.TheVariants as port
use Rattle.hvpls_spokes.specs.Port.{circuit_ports, is_wire_port, ports_of, wire_ports}
use Rattle.hvpls_spokes.proofs.PortsLemmas.{LeadsTo, finds_port, found_port, has_circuit_port}
use Rattle.hvpls_spokes.proofs.WirePortLemmas.{LeadsToWire, finds_wire_port, found_wire_port, has_wire_port}
use Rattle.vsi_bridge.specs.Targets.{is_target, known_port}
use Rattle.edge_model.specs.Frame.{destination, forwarded, forwards, hearing, port_at, port_forwards, targets_of}
use Rattle.edge_model.specs.State.{EdgeState, addresses_of, with_addresses}
use Rattle.edge_model.specs.Work.{Work, beginning, changes}
use Rattle.network_model.specs.Absorb.{taken_all}
use Rattle.network_model.specs.Calm.{is_calm}
use Rattle.network_model.specs.State.{NetworkState}
use Rattle.flood_laws.specs.Copy.{IsStillEdge}
use Rattle.flood_laws.specs.Due.{serves_here, wires_due}
use Rattle.flood_laws.proofs.BridgeLemmas.{circuit_targets, circuits_serve, copies_serve, goes_by, goes_forward, port_serves, wire_targets, wires_serve}
use Rattle.flood_laws.proofs.CountLemmas.{meets}
use Rattle.flood_laws.proofs.LawLemmas.{entry_at}
use Rattle.flood_laws.proofs.SiteLemmas.{IsSiteOf, site_serves}
use Rattle.flood_laws.proofs.TallyLemmas.{tally, tally-append}
use Rattle.address_laws.proofs.KnownLeadLemmas.{LeadsToSite, ServesBy, leading_serves}
use Rattle.address_laws.proofs.KnownPortLemmas.{is_same_port, same_place}
use Rattle.address_laws.proofs.KnownStillLemmas.{heard_still}
use Rattle.address_laws.proofs.KnownTallyLemmas.{named_alone, tally_at, tally_fewer, where_passes}

-- the copies serve one circuit as much as a flood would, and any circuit no more
pub record ServesAsFlood (target : CircuitId) (flood meet : CircuitId → ℕ) : Type 0 where
  pub same : meet target ≡ flood target
  pub most : (circuit : CircuitId) → meet circuit ≤ flood circuit

-- a flood goes by no port that does not forward
goes_part : (plan : Plan) (edge : EdgeState) (others : ℕ → Bool) (from : Option ℕ) (x : Port) → goes_by plan edge others from x ≡ true → goes_by plan edge (λ c. true) None x ≡ true
goes_part plan edge others from x goes = by x (goes_forward plan edge others from x goes) where
  by : (x : Port) → forwards plan edge (Some x) ≡ true → goes_by plan edge (λ c. true) None x ≡ true
  by (port.Circuit at) up = holds_with_true _ up
  by (port.Mesh wire) up = holds_with_true _ up
  by (port.Spoke wire) up = holds_with_true _ up

one_at_place : (b : Bool) (n : ℕ) → b ≡ true → n ≡ 1 → cond b n 0 ≡ 1
one_at_place b n is one = rw (is, one) refl

-- a bridge has heard a frame by a port, and its flood would go by those ports that pass a test
module _ (plan : Plan) (came : Arrival) (calm : NetworkState) (service : ServiceId) (frame : List ℕ) (edge : EdgeState) (arrival : ℕ) (others : ℕ → Bool) (from : Option ℕ)
    (checked : IsChecked plan) (calmed : is_calm plan calm service ≡ true) (still : IsStillEdge (calm.edges edge.me.0) edge)
    (floods : (p : ℕ) (x : Port) → slice_get (ports_of plan service edge.me) p ≡ Some x
    → is_target (ports_of plan service edge.me) (port_forwards plan (hearing service frame arrival edge) (ports_of plan service edge.me)) arrival None p ≡ goes_by plan (hearing service frame arrival edge) others from x) where
  abbrev ports : List Port
  ports = ports_of plan service edge.me

  abbrev after : EdgeState
  after = hearing service frame arrival edge

  abbrev known : Option ℕ
  known = known_port (addresses_of after service) (destination frame)

  -- what its copies serve
  abbrev meet : CircuitId → ℕ
  meet circuit = meets plan calm service circuit edge.me (forwarded plan taken_all came service frame (Some arrival) (beginning edge [])).effects

  -- and what those of a flood would
  abbrev flood : CircuitId → ℕ
  flood circuit = cond (serves_here plan service edge circuit && others circuit.0) 1 0 + wires_due plan calm service circuit edge.me.0 from

  abbrev count : CircuitId → Port → ℕ
  count circuit = port_serves plan came calm service circuit frame after

  abbrev passes : Port → Bool
  passes x = goes_by plan after others from x

  abbrev forward : Port → Bool
  forward x = goes_by plan after (λ c. true) None x

  flood_is : (circuit : CircuitId) → tally (where_passes passes (count circuit)) ports ≡ flood circuit
  flood_is circuit =
      let all = where_passes passes (count circuit) in
      omega (
        arith,
        tally-append all (circuit_ports 0 plan.circuits service edge.me) (wire_ports 0 plan.wires service edge.me),
        circuits_serve plan came calm service circuit frame edge arrival others from,
        wires_serve plan came calm service circuit frame edge arrival others from checked still,
      )

  -- all ports together serve a site once
  forward_is : (circuit : CircuitId) → IsSiteOf plan calm service circuit → edge.me.0 < length plan.edges → has_port plan service edge.me.0 ≡ true
      → tally (where_passes forward (count circuit)) ports ≡ 1
  forward_is circuit site within port =
      let all = where_passes forward (count circuit) in
      let here : cond {A = ℕ} (serves_here plan service edge circuit && true) 1 0 ≡ cond (nat_eq site.row.edge.0 edge.me.0) 1 0 =
      ap (λ (b : Bool). cond {A = ℕ} (b && true) 1 0) (site_serves plan calm service circuit edge edge.me.0 site refl still) ∙ alone (nat_eq site.row.edge.0 edge.me.0) in
      omega (
        arith,
        tally-append all (circuit_ports 0 plan.circuits service edge.me) (wire_ports 0 plan.wires service edge.me),
        circuits_serve plan came calm service circuit frame edge arrival (λ c. true) None,
        wires_serve plan came calm service circuit frame edge arrival (λ c. true) None checked still,
        here,
        entry_at plan calm service circuit site.row edge.me.0 checked calmed site.is site.of_service within port,
        once (nat_eq site.row.edge.0 edge.me.0),
      )
    where
      alone : (b : Bool) → cond {A = ℕ} (b && true) 1 0 ≡ cond b 1 0
      alone true = refl
      alone false = refl

      once : (b : Bool) → cond {A = ℕ} b 1 0 + cond {A = ℕ} b 0 1 ≡ 1
      once true = refl
      once false = refl

  -- the copies that go by the ports that pass a test
  meet_by : (circuit : CircuitId) (test : Port → Bool) → ((x : Port) → test x ≡ true → passes x ≡ true)
      → ((p : ℕ) (x : Port) → slice_get ports p ≡ Some x → targets_of plan after service ports frame arrival p ≡ test x) → meet circuit ≡ tally (where_passes test (count circuit)) ports
  unfolding changes with_addresses
  meet_by circuit test part are =
      let heard : Work = changes (hearing service frame arrival) (beginning edge []) in
      let served = copies_serve plan came calm service circuit frame after (targets_of plan after service ports frame arrival) test
      (λ x is. goes_forward plan after others from x (part x is)) 0 ports heard refl
      (λ q x at. ap (targets_of plan after service ports frame arrival) (zero-add q) ∙ are q x at) in
      omega (arith, served.meet)

  target_is : (k : Option ℕ) → known ≡ k → (p : ℕ) → targets_of plan after service ports frame arrival p ≡ is_target ports (port_forwards plan after ports) arrival k p
  target_is k is p = ap (λ (o : Option ℕ). is_target ports (port_forwards plan after ports) arrival o p) is

  -- that of a bridge that knows no port
  unknown_meets : known ≡ None → (circuit : CircuitId) → meet circuit ≡ flood circuit
  unknown_meets is circuit = meet_by circuit passes (λ x goes. goes) (λ p x at. target_is None is p ∙ floods p x at) ∙ flood_is circuit

  -- and of one that knows a port
  module _ (q : ℕ) (is : known ≡ Some q) (y : Port) (there : slice_get ports q ≡ Some y) where
    abbrev named : Port → Bool
    named x = passes x && is_same_port y x

    named_meets : (circuit : CircuitId) → meet circuit ≡ tally (where_passes named (count circuit)) ports
    named_meets circuit = meet_by circuit named (λ x both. left (passes x) (is_same_port y x) both) (λ p x at.
        target_is (Some q) is p
        ∙ (ap (λ (b : Bool). b && nat_eq p q) (floods p x at) ∙ ap (λ (b : Bool). passes x && b) (same_place plan service edge.me p q x y at there)))
      where
        left : (a b : Bool) → a && b ≡ true → a ≡ true
        left true b is = refl
        left false b is = absurd (cc (is))

    named_most : (circuit : CircuitId) → meet circuit ≤ flood circuit
    named_most circuit = omega (arith, named_meets circuit, flood_is circuit, tally_fewer (count circuit) named passes ports (λ x both. left (passes x) (is_same_port y x) both)) where
      left : (a b : Bool) → a && b ≡ true → a ≡ true
      left true b is = refl
      left false b is = absurd (cc (is))

    named_same : (target : CircuitId) → IsSiteOf plan calm service target → edge.me.0 < length plan.edges → has_port plan service edge.me.0 ≡ true
        → ServesBy plan came calm service target frame after y → meet target ≡ flood target
    named_same target site within port serves =
        let same : is_same_port y y ≡ true = sym (same_place plan service edge.me q q y y there there) ∙ eq-eqb q q refl in
        let both : forward y && is_same_port y y ≡ true = rw (serves.goes, same) refl in
        let one : cond (forward y && is_same_port y y) (count target y) 0 ≡ 1 = one_at_place (forward y && is_same_port y y) (count target y) both serves.serves in
        let least = tally_at (where_passes (λ x. forward x && is_same_port y x) (count target)) ports q y there in
        named_meets target
        ∙ (named_alone (count target) passes forward (is_same_port y) ports (λ x goes. goes_part plan after others from x goes) (forward_is target site within port) (omega (arith, one, least))
        ∙ flood_is target)

  -- a port that leads to the site serves it
  lead_serves : (target : CircuitId) → IsSiteOf plan calm service target → (q : ℕ) (lead : LeadsToSite plan calm service target edge.me q)
      → ServesBy plan came calm service target frame after lead.port
  unfolding with_addresses
  lead_serves target site q lead = leading_serves plan came calm service target frame after checked calmed site (heard_still service frame arrival (calm.edges edge.me.0) edge still) q lead

  -- that of any bridge of which each known port leads to the site
  pub bridge_serves : (target : CircuitId) → IsSiteOf plan calm service target → edge.me.0 < length plan.edges → has_port plan service edge.me.0 ≡ true
      → ((q : ℕ) → known ≡ Some q → LeadsToSite plan calm service target edge.me q) → ServesAsFlood target flood meet
  bridge_serves target site within port leads = by known refl where
    by : (k : Option ℕ) → known ≡ k → ServesAsFlood target flood meet
    by None is = record { same = unknown_meets is target; most = λ circuit. equal_at_most (meet circuit) (flood circuit) (unknown_meets is circuit) }
    by (Some q) is =
        let lead : LeadsToSite plan calm service target edge.me q = leads q is in
        record { same = named_same q is lead.port lead.at target site within port (lead_serves target site q lead); most = named_most q is lead.port lead.at }

-- ---- the two ways in which a frame comes

-- a frame that came by a circuit
pub frame_serves : (plan : Plan) (came : Arrival) (calm : NetworkState) (edge : EdgeState) (at target : CircuitId) (frame : List ℕ) (row : CircuitPlan)
    → IsChecked plan → is_calm plan calm row.service ≡ true → circuit_row plan at ≡ Some row → edge.me ≡ row.edge → IsStillEdge (calm.edges row.edge.0) edge
    → IsSiteOf plan calm row.service target → row.edge.0 < length plan.edges → has_port plan row.service row.edge.0 ≡ true
    → ((arrival q : ℕ) → port_at plan edge at row ≡ Some arrival → known_port (addresses_of (hearing row.service frame arrival edge) row.service) (destination frame) ≡ Some q
    → LeadsToSite plan calm row.service target row.edge q)
    → ServesAsFlood target (λ circuit. cond (serves_here plan row.service edge circuit && not (nat_eq circuit.0 at.0)) 1 0 + wires_due plan calm row.service circuit row.edge.0 None)
    (λ circuit. meets plan calm row.service circuit edge.me (forwarded plan taken_all came row.service frame (port_at plan edge at row) (beginning edge [])).effects)
frame_serves plan came calm edge at target frame row checked calmed is me still site within port leads =
    let ports : List Port = ports_of plan row.service edge.me in
    let serve : is_circuit_at row.service edge.me.0 row ≡ true = rw (eq-eqb row.service.0 row.service.0 refl, eq-eqb row.edge.0 edge.me.0 (ap (λ (e : EdgeId). e.0) (sym me))) refl in
    let (arrival, found) = finds_port at ports (has_circuit_port plan row.service edge.me at.0 row is serve) in
    let from : LeadsTo ports arrival at.0 = found_port at ports arrival found in
    let after : EdgeState = hearing row.service frame arrival edge in
    let served = bridge_serves plan came calm row.service frame edge arrival (λ c. not (nat_eq c at.0)) None checked calmed (subst (λ (e : EdgeId). IsStillEdge (calm.edges e.0) edge) (sym me) still)
    (λ p x to. circuit_targets plan row.service edge.me after None arrival at.0 p x refl from to) target site
    (subst (λ (e : EdgeId). e.0 < length plan.edges) (sym me) within) (ap (λ (e : EdgeId). has_port plan row.service e.0) me ∙ port)
    (λ q known. subst (λ (e : EdgeId). LeadsToSite plan calm row.service target e q) (sym me) (leads arrival q found known)) in
    subst (λ (e : EdgeId). ServesAsFlood target (λ circuit. cond (serves_here plan row.service edge circuit && not (nat_eq circuit.0 at.0)) 1 0 + wires_due plan calm row.service circuit e.0 None)
    (λ circuit. meets plan calm row.service circuit edge.me (forwarded plan taken_all came row.service frame (port_at plan edge at row) (beginning edge [])).effects)) me
    (subst (λ (o : Option ℕ). ServesAsFlood target
    (λ circuit. cond (serves_here plan row.service edge circuit && not (nat_eq circuit.0 at.0)) 1 0 + wires_due plan calm row.service circuit edge.me.0 None)
    (λ circuit. meets plan calm row.service circuit edge.me (forwarded plan taken_all came row.service frame o (beginning edge [])).effects)) (sym found) served)

-- a frame that came by a wire
pub packet_serves : (plan : Plan) (came : Arrival) (calm : NetworkState) (edge : EdgeState) (service : ServiceId) (wire : WireId) (w : WirePlan) (target : CircuitId) (frame : List ℕ)
    → IsChecked plan → is_calm plan calm service ≡ true → wire_row plan wire ≡ Some w → wire_ends_at service edge.me.0 w ≡ true → IsStillEdge (calm.edges edge.me.0) edge
    → IsSiteOf plan calm service target → edge.me.0 < length plan.edges → has_port plan service edge.me.0 ≡ true
    → ((arrival q : ℕ) → position (is_wire_port wire) (ports_of plan service edge.me) ≡ Some arrival
    → known_port (addresses_of (hearing service frame arrival edge) service) (destination frame) ≡ Some q
    → LeadsToSite plan calm service target edge.me q)
    → ServesAsFlood target (λ circuit. cond (serves_here plan service edge circuit && true) 1 0 + wires_due plan calm service circuit edge.me.0 (Some wire.0))
    (λ circuit. meets plan calm service circuit edge.me (forwarded plan taken_all came service frame (position (is_wire_port wire) (ports_of plan service edge.me)) (beginning edge [])).effects)
packet_serves plan came calm edge service wire w target frame checked calmed is ends still site within port leads =
    let ports : List Port = ports_of plan service edge.me in
    let (arrival, found) = finds_wire_port wire ports (has_wire_port plan service edge.me wire.0 w is ends) in
    let from : LeadsToWire ports arrival wire.0 = found_wire_port wire ports arrival found in
    let after : EdgeState = hearing service frame arrival edge in
    let served = bridge_serves plan came calm service frame edge arrival (λ c. true) (Some wire.0) checked calmed still
    (λ p x to. wire_targets plan service edge.me after None arrival wire w p x refl is from to) target site within port (λ q known. leads arrival q found known) in
    subst (λ (o : Option ℕ). ServesAsFlood target (λ circuit. cond (serves_here plan service edge circuit && true) 1 0 + wires_due plan calm service circuit edge.me.0 (Some wire.0))
    (λ circuit. meets plan calm service circuit edge.me (forwarded plan taken_all came service frame o (beginning edge [])).effects)) (sym found) served
