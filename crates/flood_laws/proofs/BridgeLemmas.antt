-- What the copies of a bridge that floods serve, at once or later.
use Rattle.std.proofs.Common.{◌≡◌, ◌==◌, ◌&&◌, ◌+◌, ◌∙◌, ℕ, suc, Bool, true, false, List, [], ◌∷◌, Option, Some, None, cond, nat_eq, not, position, slice_get, refl, ap, sym, subst, arith, add-zero, zero-add}
use Rattle.std.proofs.lemmas.Bool.{eq-eqb, ne_eqb}
use Rattle.net_values.proofs.BoolLemmas.{first_holds, and_true}
use Rattle.net_values.proofs.NumberLemmas.{next_place}
use Rattle.net_base.specs.declared.plan.Plan.{Plan}
use Rattle.net_base.specs.declared.plan.circuit_plan.CircuitPlan.{CircuitPlan}
use Rattle.net_base.specs.declared.plan.wire_plan.WirePlan.{WirePlan}
use Rattle.net_base.specs.declared.plan.places.CircuitId.{CircuitId}
use Rattle.net_base.specs.declared.plan.places.EdgeId.{EdgeId}
use Rattle.net_base.specs.declared.plan.places.ServiceId.{ServiceId}
use Rattle.net_base.specs.declared.plan.places.WireId.{WireId}
use Rattle.net_base.specs.declared.trace.arrival.Arrival.{Arrival}
use Rattle.net_base.specs.plan.Accepted.{IsChecked}
use Rattle.net_base.specs.plan.Places.{circuit_row, is_mesh_class, is_mesh_row, is_mesh_wire, wire_row}
use Rattle.net_base.specs.plan.Roles.{is_circuit_at, wire_ends_at}
use Rattle.net_base.specs.trace.Frame.{dress}
use Rattle.hvpls_spokes.specs.declared.port.Port.{Port}
use Rattle.hvpls_spokes.specs.declared.port.Port.TheVariants as port
use Rattle.hvpls_spokes.specs.Port.{circuit_ports, is_mesh, is_wire_port, ports_of, wire_port, wire_ports}
use Rattle.hvpls_spokes.proofs.PortsLemmas.{LeadsTo, finds_port, found_port, has_circuit_port, same_circuit_port}
use Rattle.hvpls_spokes.proofs.RowPortLemmas.{wire_behind}
use Rattle.hvpls_spokes.proofs.WirePortLemmas.{LeadsToWire, finds_wire_port, found_wire_port, has_wire_port, no_port_of_both, same_wire_port, wire_port_is}
use Rattle.vsi_bridge.specs.Targets.{is_target, known_port}
use Rattle.edge_model.specs.declared.effect.Effect.{Effect}
use Rattle.edge_model.specs.declared.effect.Effect.TheVariants as effect
use Rattle.edge_model.specs.declared.end_place.EndPlace.{EndPlace}
use Rattle.edge_model.specs.Ends.{end_forwards, forwards_at, wire_end}
use Rattle.edge_model.specs.Frame.{copies, copy_by, destination, forwarded, forwards, hearing, port_at, port_forwards, tag_of, targets_of}
use Rattle.edge_model.specs.State.{EdgeState, addresses_of, with_addresses, with_learned}
use Rattle.edge_model.specs.Work.{Work, beginning, changes, gives}
use Rattle.edge_model.proofs.CopyLemmas.{wire_class}
use Rattle.network_model.specs.Absorb.{taken_all}
use Rattle.network_model.specs.Reach.{far_of, is_row_at, is_row_of}
use Rattle.network_model.specs.State.{NetworkState}
use Rattle.flood_laws.specs.Copy.{IsStillEdge}
use Rattle.flood_laws.specs.Due.{due_by, due_towards, may_flood, serves_here, wires_due}
use Rattle.flood_laws.proofs.CountLemmas.{meets, meets-append}
use Rattle.flood_laws.proofs.TallyLemmas.{same_sums, serves_row, tally, tally-append, tally_circuits, tally_wires}
use Rattle.flood_laws.proofs.WirePeerLemmas.{ServesMore, end_is_due, end_serves, wire_serves}

-- ---- the ports to which a bridge floods

-- a frame that came by an arrival, a wire or else a circuit, may be flooded to a wire of a class
abbrev pub class_may : Plan → Option ℕ → ℕ → Bool → Bool
class_may plan None place mesh = true
class_may plan (Some from) place mesh = not (place == from) && not (is_mesh_wire plan (record { 0 = from }) && mesh)

class_is : (plan : Plan) (from : Option ℕ) (place : ℕ) (row : WirePlan) → class_may plan from place (is_mesh_class row.class) ≡ may_flood plan from place row
class_is plan None place row = refl
class_is plan (Some from) place row = refl

-- a port goes out that forwards, where its circuit passes a test and its wire may be flooded to
abbrev pub goes_by : Plan → EdgeState → (ℕ → Bool) → Option ℕ → Port → Bool
goes_by plan edge others from (port.Circuit at) = edge.circuit_on at.0 && others at.0
goes_by plan edge others from (port.Mesh wire) = end_forwards plan edge wire && class_may plan from wire.0 true
goes_by plan edge others from (port.Spoke wire) = end_forwards plan edge wire && class_may plan from wire.0 false

pub goes_forward : (plan : Plan) (edge : EdgeState) (others : ℕ → Bool) (from : Option ℕ) (x : Port) → goes_by plan edge others from x ≡ true → forwards plan edge (Some x) ≡ true
goes_forward plan edge others from (port.Circuit at) goes = first_holds (edge.circuit_on at.0) (others at.0) goes
goes_forward plan edge others from (port.Mesh wire) goes = first_holds (end_forwards plan edge wire) (class_may plan from wire.0 true) goes
goes_forward plan edge others from (port.Spoke wire) goes = first_holds (end_forwards plan edge wire) (class_may plan from wire.0 false) goes

-- ---- copies by ports

module _ (plan : Plan) (came : Arrival) (calm : NetworkState) (service : ServiceId) (circuit : CircuitId) (frame : List ℕ) (edge : EdgeState) where
  -- one where a copy by the port serves the circuit
  abbrev pub port_serves : Port → ℕ
  port_serves (port.Circuit at) = cond (nat_eq at.0 circuit.0) 1 0
  port_serves (port.Mesh wire) = end_serves plan calm service circuit edge.me (wire_end plan edge.me wire)
  port_serves (port.Spoke wire) = end_serves plan calm service circuit edge.me (wire_end plan edge.me wire)

  by_wire : (wire : WireId) (work : Work) → work.edge ≡ edge → end_forwards plan edge wire ≡ true
      → ServesMore plan calm service circuit edge.me (end_serves plan calm service circuit edge.me (wire_end plan edge.me wire)) work (copy_by plan taken_all came frame (port.Mesh wire) work)
  by_wire wire work same up =
      subst (λ (e : EdgeState). ServesMore plan calm service circuit e.me (end_serves plan calm service circuit e.me (wire_end plan e.me wire)) work
      (copy_by plan taken_all came frame (port.Mesh wire) work)) same
      (wire_serves plan came calm service circuit frame wire work (ap (λ (e : EdgeState). end_forwards plan e wire) same ∙ up))

  copy_serves : (x : Port) (goes : Bool) (work : Work) → work.edge ≡ edge → (goes ≡ true → forwards plan edge (Some x) ≡ true)
      → ServesMore plan calm service circuit edge.me (cond goes (port_serves x) 0) work (cond goes (copy_by plan taken_all came frame x work) work)
  unfolding gives
  copy_serves x false work same up = record { edge = refl; meet = omega arith }
  copy_serves (port.Circuit at) true work same up =
      let left : List Effect = effect.Left at (dress (tag_of plan at) frame) ∷ [] in
      record { edge = refl; meet = omega (arith, meets-append plan calm service circuit edge.me work.effects left) }
  copy_serves (port.Mesh wire) true work same up = by_wire wire work same (up refl)
  copy_serves (port.Spoke wire) true work same up = by_wire wire work same (up refl)

  -- those that are targets
  abbrev pub serves_if : (Port → Bool) → Port → ℕ
  serves_if test x = cond (test x) (port_serves x) 0

  pub copies_serve : (targets : ℕ → Bool) (test : Port → Bool) → ((x : Port) → test x ≡ true → forwards plan edge (Some x) ≡ true)
      → (p : ℕ) (ports : List Port) (work : Work) → work.edge ≡ edge → ((q : ℕ) (x : Port) → slice_get ports q ≡ Some x → targets (p + q) ≡ test x)
      → ServesMore plan calm service circuit edge.me (tally (serves_if test) ports) work (copies targets (copy_by plan taken_all came frame) p ports work)
  copies_serve targets test up p [] work same are = record { edge = refl; meet = omega arith }
  copies_serve targets test up p (x ∷ ports) work same are =
      let first : targets p ≡ test x = ap targets (sym (add-zero p)) ∙ are 0 x refl in
      let next : Work = cond (targets p) (copy_by plan taken_all came frame x work) work in
      let here = copy_serves x (targets p) work same (λ goes. up x (sym first ∙ goes)) in
      let count : cond (targets p) (port_serves x) 0 ≡ serves_if test x = ap (λ (b : Bool). cond b (port_serves x) 0) first in
      let later = copies_serve targets test up (p + 1) ports next (here.edge ∙ same) (λ q y at. ap targets (next_place p q) ∙ are (suc q) y at) in
      record { edge = later.edge ∙ here.edge; meet = omega (arith, here.meet, count, later.meet) }

-- ---- what they serve

-- what a bridge has learned does not tell whether an end forwards
still_forwards : (plan : Plan) (service : ServiceId) (frame : List ℕ) (arrival : ℕ) (calm edge : EdgeState) (wire : WireId) → IsStillEdge calm edge
    → end_forwards plan (hearing service frame arrival edge) wire ≡ end_forwards plan calm wire
unfolding with_addresses with_learned
still_forwards plan service frame arrival calm edge wire still =
    ap (λ (e : EdgeState). end_forwards plan (hearing service frame arrival e) wire) still.is ∙ by (wire_end plan calm.me wire) where
      by : (place : Option EndPlace) → forwards_at plan (hearing service frame arrival (with_learned still.learned calm)) place ≡ forwards_at plan calm place
      by None = refl
      by (Some place) = refl

-- a wire counts where it ends at the edge, forwards there and may be flooded to
wire_counts : (ends up may : Bool) (serves due : ℕ) → (up ≡ true → serves ≡ due) → cond ends (cond (up && may) serves 0) 0 ≡ cond (ends && (up && may)) due 0
wire_counts false up may serves due same = refl
wire_counts true false may serves due same = refl
wire_counts true true false serves due same = refl
wire_counts true true true serves due same = same refl

circuit_counts : (serve on others : Bool) → cond serve (cond {A = ℕ} (on && others) 1 0) 0 ≡ cond ((serve && on) && others) 1 0
circuit_counts false on others = refl
circuit_counts true on others = refl

module _ (plan : Plan) (came : Arrival) (calm : NetworkState) (service : ServiceId) (circuit : CircuitId) (frame : List ℕ) (edge : EdgeState) (arrival : ℕ) (others : ℕ → Bool) (from : Option ℕ) where
  abbrev after : EdgeState
  after = hearing service frame arrival edge

  abbrev count : Port → ℕ
  count x = serves_if plan came calm service circuit frame after (goes_by plan after others from) x

  -- the port of a circuit
  pub circuits_serve : tally count (circuit_ports 0 plan.circuits service edge.me) ≡ cond (serves_here plan service edge circuit && others circuit.0) 1 0
  unfolding with_addresses
  circuits_serve =
      tally_circuits count circuit.0 away 0 circuit.0 plan.circuits service edge.me (sym (zero-add circuit.0)) ∙ here (circuit_row plan circuit)
    where
      away : (k : ℕ) → nat_eq k circuit.0 ≡ false → count (port.Circuit (record { 0 = k })) ≡ 0
      away k apart = rw apart (nothing (edge.circuit_on k && others k)) where
        nothing : (b : Bool) → cond {A = ℕ} b 0 0 ≡ 0
        nothing true = refl
        nothing false = refl

      here : (row : Option CircuitPlan) → cond (serves_row service edge.me row) (count (port.Circuit (record { 0 = circuit.0 }))) 0
          ≡ cond (((is_row_of service row && is_row_at edge.me.0 row) && edge.circuit_on circuit.0) && others circuit.0) 1 0
      here None = refl
      here (Some row) = rw (eq-eqb circuit.0 circuit.0 refl) (circuit_counts (is_circuit_at service edge.me.0 row) (edge.circuit_on circuit.0) (others circuit.0))

  -- the port of a wire
  wire_port_counts : (place : ℕ) (row : WirePlan)
      → count (wire_port place row)
      ≡ cond (end_forwards plan after (record { 0 = place }) && may_flood plan from place row) (end_serves plan calm service circuit after.me (wire_end plan after.me (record { 0 = place }))) 0
  wire_port_counts place row = by (is_mesh_class row.class) ∙ ap (λ (may : Bool). cond (end_forwards plan after wire && may) (end_serves plan calm service circuit after.me (wire_end plan after.me wire)) 0) (class_is plan from place row) where
    wire : WireId
    wire = record { 0 = place }

    by : (mesh : Bool) → count (cond mesh (port.Mesh wire) (port.Spoke wire))
        ≡ cond (end_forwards plan after wire && class_may plan from place mesh) (end_serves plan calm service circuit after.me (wire_end plan after.me wire)) 0
    by true = refl
    by false = refl

  module _ (checked : IsChecked plan) (still : IsStillEdge (calm.edges edge.me.0) edge) where
    pub wires_serve : tally count (wire_ports 0 plan.wires service edge.me) ≡ wires_due plan calm service circuit edge.me.0 from
    unfolding with_addresses
    wires_serve =
        tally_wires count 0 plan.wires service edge.me
        ∙ same_sums (λ place row. cond (wire_ends_at service edge.me.0 row) (count (wire_port place row)) 0) (due_by plan calm service circuit edge.me.0 from) plan.wires each
      where
        each : (place : ℕ) (row : WirePlan) → slice_get plan.wires place ≡ Some row → cond (wire_ends_at service edge.me.0 row) (count (wire_port place row)) 0
            ≡ due_by plan calm service circuit edge.me.0 from place row
        each place row is =
            let wire : WireId = record { 0 = place } in
            let forward : end_forwards plan after wire ≡ end_forwards plan (calm.edges edge.me.0) wire = still_forwards plan service frame arrival (calm.edges edge.me.0) edge wire still in
            let counted = wire_port_counts place row in
            let serves : ℕ = end_serves plan calm service circuit edge.me (wire_end plan edge.me wire) in
            let towards : ℕ = due_towards plan calm service circuit place (far_of edge.me.0 row.path) in
            ap (λ (n : ℕ). cond (wire_ends_at service edge.me.0 row) n 0) (counted ∙ ap (λ (up : Bool). cond (up && may_flood plan from place row) serves 0) forward)
            ∙ wire_counts (wire_ends_at service edge.me.0 row) (end_forwards plan (calm.edges edge.me.0) wire) (may_flood plan from place row) serves towards
            (λ up. end_is_due plan calm service circuit after wire row checked is (forward ∙ up))

    -- the copies of a frame that goes by each port that it should
    flood_serves : ((p : ℕ) (x : Port) → slice_get (ports_of plan service edge.me) p ≡ Some x → targets_of plan after service (ports_of plan service edge.me) frame arrival p
        ≡ goes_by plan after others from x)
        → meets plan calm service circuit edge.me (forwarded plan taken_all came service frame (Some arrival) (beginning edge [])).effects
        ≡ cond (serves_here plan service edge circuit && others circuit.0) 1 0 + wires_due plan calm service circuit edge.me.0 from
    unfolding changes with_addresses
    flood_serves are =
        let circuits : List Port = circuit_ports 0 plan.circuits service edge.me in
        let wires : List Port = wire_ports 0 plan.wires service edge.me in
        let heard : Work = changes (hearing service frame arrival) (beginning edge []) in
        let served = copies_serve plan came calm service circuit frame after (targets_of plan after service (ports_of plan service edge.me) frame arrival) (goes_by plan after others from)
        (λ x goes. goes_forward plan after others from x goes) 0 (ports_of plan service edge.me) heard refl
        (λ q x at. ap (targets_of plan after service (ports_of plan service edge.me) frame arrival) (zero-add q) ∙ are q x at) in
        omega (arith, served.meet, tally-append count circuits wires, circuits_serve, wires_serve)

-- ---- which ports go out

-- of a bridge that knows no port for the destination
unknown_target : (plan : Plan) (edge : EdgeState) (ports : List Port) (arrival p : ℕ) (known : Option ℕ) (a x : Port) (same : Bool) → known ≡ None → slice_get ports arrival ≡ Some a
    → slice_get ports p ≡ Some x → nat_eq p arrival ≡ same
    → is_target ports (port_forwards plan edge ports) arrival known p ≡ (forwards plan edge (Some x) && not same) && not (is_mesh (Some a) && is_mesh (Some x))
unknown_target plan edge ports arrival p known a x same unknown from to is =
    let met : Option Port → Option Port → Bool → Bool = λ y z equal. (forwards plan edge z && not equal) && not (is_mesh y && is_mesh z) in
    ap (λ (k : Option ℕ). is_target ports (port_forwards plan edge ports) arrival k p) unknown
    ∙ (ap (λ (y : Option Port). met y (slice_get ports p) (nat_eq p arrival)) from
    ∙ (ap (λ (z : Option Port). met (Some a) z (nat_eq p arrival)) to
    ∙ ap (met (Some a) (Some x)) is))

goes_all : (b : Bool) → (b && not false) && not false ≡ b && true
goes_all true = refl
goes_all false = refl

goes_other : (b same : Bool) → (b && not same) && not false ≡ b && not same
goes_other true true = refl
goes_other true false = refl
goes_other false same = refl

goes_away : (b mesh : Bool) → (b && not false) && not (mesh && false) ≡ b && true
goes_away true true = refl
goes_away true false = refl
goes_away false mesh = refl

goes_apart : (b same mesh other : Bool) → (b && not same) && not (mesh && other) ≡ b && (not same && not (mesh && other))
goes_apart true true mesh other = refl
goes_apart true false mesh other = refl
goes_apart false same mesh other = refl

apart_from : (ports : List Port) (p q circuit wire : ℕ) → LeadsTo ports p circuit → LeadsToWire ports q wire → nat_eq q p ≡ false
apart_from ports p q circuit wire at_p at_q =
    ne_eqb q p (λ e. no_port_of_both ports p circuit wire at_p (record { is = ap (λ (i : ℕ). wire_behind (slice_get ports i)) (sym e) ∙ at_q.is }))

-- a frame that came by a circuit goes to the others and to all wires
pub circuit_targets : (plan : Plan) (service : ServiceId) (at : EdgeId) (edge : EdgeState) (known : Option ℕ) (arrival sender p : ℕ) (x : Port)
    → known ≡ None → LeadsTo (ports_of plan service at) arrival sender → slice_get (ports_of plan service at) p ≡ Some x
    → is_target (ports_of plan service at) (port_forwards plan edge (ports_of plan service at)) arrival known p ≡ goes_by plan edge (λ c. not (nat_eq c sender)) None x
circuit_targets plan service at edge known arrival sender p (port.Circuit c) unknown from to =
    let ports : List Port = ports_of plan service at in
    let leads : LeadsTo ports p c.0 = record { is = to } in
    unknown_target plan edge ports arrival p known (port.Circuit (record { 0 = sender })) (port.Circuit c) (nat_eq c.0 sender) unknown from.is to
    (same_circuit_port plan service at p arrival c.0 sender leads from)
    ∙ goes_other (edge.circuit_on c.0) (nat_eq c.0 sender)
circuit_targets plan service at edge known arrival sender p (port.Mesh wire) unknown from to =
    let ports : List Port = ports_of plan service at in
    let leads : LeadsToWire ports p wire.0 = record { is = ap wire_behind to } in
    unknown_target plan edge ports arrival p known (port.Circuit (record { 0 = sender })) (port.Mesh wire) false unknown from.is to (apart_from ports arrival p sender wire.0 from leads)
    ∙ goes_all (end_forwards plan edge wire)
circuit_targets plan service at edge known arrival sender p (port.Spoke wire) unknown from to =
    let ports : List Port = ports_of plan service at in
    let leads : LeadsToWire ports p wire.0 = record { is = ap wire_behind to } in
    unknown_target plan edge ports arrival p known (port.Circuit (record { 0 = sender })) (port.Spoke wire) false unknown from.is to (apart_from ports arrival p sender wire.0 from leads)
    ∙ goes_all (end_forwards plan edge wire)

-- one that came by a wire goes to all circuits and to the other wires, but from a mesh wire to no mesh wire
pub wire_targets : (plan : Plan) (service : ServiceId) (at : EdgeId) (edge : EdgeState) (known : Option ℕ) (arrival : ℕ) (wire : WireId) (w : WirePlan) (p : ℕ) (x : Port)
    → known ≡ None → wire_row plan wire ≡ Some w → LeadsToWire (ports_of plan service at) arrival wire.0 → slice_get (ports_of plan service at) p ≡ Some x
    → is_target (ports_of plan service at) (port_forwards plan edge (ports_of plan service at)) arrival known p ≡ goes_by plan edge (λ c. true) (Some wire.0) x
wire_targets plan service at edge known arrival wire w p x unknown is from to = by x to where
  ports : List Port
  ports = ports_of plan service at

  at_arrival : slice_get ports arrival ≡ Some (wire_port wire.0 w)
  at_arrival = wire_port_is plan service at arrival wire.0 w from is

  mesh : is_mesh (Some (wire_port wire.0 w)) ≡ is_mesh_wire plan wire
  mesh = wire_class wire.0 w ∙ ap is_mesh_row (sym is)

  by : (y : Port) → slice_get ports p ≡ Some y → is_target ports (port_forwards plan edge ports) arrival known p ≡ goes_by plan edge (λ c. true) (Some wire.0) y
  by (port.Circuit c) to =
      let leads : LeadsTo ports p c.0 = record { is = to } in
      let apart : nat_eq p arrival ≡ false = ne_eqb p arrival (λ e. no_port_of_both ports p c.0 wire.0 leads (record { is = ap (λ (i : ℕ). wire_behind (slice_get ports i)) e ∙ from.is })) in
      unknown_target plan edge ports arrival p known (wire_port wire.0 w) (port.Circuit c) false unknown at_arrival to apart
      ∙ goes_away (edge.circuit_on c.0) (is_mesh (Some (wire_port wire.0 w)))
  by (port.Mesh v) to =
      let leads : LeadsToWire ports p v.0 = record { is = ap wire_behind to } in
      unknown_target plan edge ports arrival p known (wire_port wire.0 w) (port.Mesh v) (nat_eq v.0 wire.0) unknown at_arrival to (same_wire_port plan service at p arrival v.0 wire.0 leads from)
      ∙ (goes_apart (end_forwards plan edge v) (nat_eq v.0 wire.0) (is_mesh (Some (wire_port wire.0 w))) true
      ∙ ap (λ (b : Bool). end_forwards plan edge v && (not (nat_eq v.0 wire.0) && not (b && true))) mesh)
  by (port.Spoke v) to =
      let leads : LeadsToWire ports p v.0 = record { is = ap wire_behind to } in
      unknown_target plan edge ports arrival p known (wire_port wire.0 w) (port.Spoke v) (nat_eq v.0 wire.0) unknown at_arrival to (same_wire_port plan service at p arrival v.0 wire.0 leads from)
      ∙ (goes_apart (end_forwards plan edge v) (nat_eq v.0 wire.0) (is_mesh (Some (wire_port wire.0 w))) false
      ∙ ap (λ (b : Bool). end_forwards plan edge v && (not (nat_eq v.0 wire.0) && not (b && false))) mesh)

-- ---- the two ways in which a frame comes

-- a frame that came by a circuit
pub frame_meets : (plan : Plan) (came : Arrival) (calm : NetworkState) (edge : EdgeState) (at circuit : CircuitId) (frame : List ℕ) (row : CircuitPlan)
    → IsChecked plan → circuit_row plan at ≡ Some row → edge.me ≡ row.edge → IsStillEdge (calm.edges row.edge.0) edge
    → ((arrival : ℕ) → known_port (addresses_of (hearing row.service frame arrival edge) row.service) (destination frame) ≡ None)
    → meets plan calm row.service circuit edge.me (forwarded plan taken_all came row.service frame (port_at plan edge at row) (beginning edge [])).effects
    ≡ cond (serves_here plan row.service edge circuit && not (nat_eq circuit.0 at.0)) 1 0 + wires_due plan calm row.service circuit row.edge.0 None
frame_meets plan came calm edge at circuit frame row checked is me still unknown =
    let ports : List Port = ports_of plan row.service edge.me in
    let serve : is_circuit_at row.service edge.me.0 row ≡ true = rw (eq-eqb row.service.0 row.service.0 refl, eq-eqb row.edge.0 edge.me.0 (ap (λ (e : EdgeId). e.0) (sym me))) refl in
    let (arrival, found) = finds_port at ports (has_circuit_port plan row.service edge.me at.0 row is serve) in
    let from : LeadsTo ports arrival at.0 = found_port at ports arrival found in
    let after : EdgeState = hearing row.service frame arrival edge in
    let here : IsStillEdge (calm.edges edge.me.0) edge = subst (λ (e : EdgeId). IsStillEdge (calm.edges e.0) edge) (sym me) still in
    ap (λ (o : Option ℕ). meets plan calm row.service circuit edge.me (forwarded plan taken_all came row.service frame o (beginning edge [])).effects) found
    ∙ (flood_serves plan came calm row.service circuit frame edge arrival (λ c. not (nat_eq c at.0)) None checked here
    (λ p x to. circuit_targets plan row.service edge.me after (known_port (addresses_of after row.service) (destination frame)) arrival at.0 p x (unknown arrival) from to)
    ∙ ap (λ (e : EdgeId). cond (serves_here plan row.service edge circuit && not (nat_eq circuit.0 at.0)) 1 0 + wires_due plan calm row.service circuit e.0 None) me)

-- a frame that came by a wire that forwards
pub packet_meets : (plan : Plan) (came : Arrival) (calm : NetworkState) (edge : EdgeState) (service : ServiceId) (wire : WireId) (w : WirePlan) (circuit : CircuitId) (frame : List ℕ)
    → IsChecked plan → wire_row plan wire ≡ Some w → wire_ends_at service edge.me.0 w ≡ true → IsStillEdge (calm.edges edge.me.0) edge
    → ((arrival : ℕ) → known_port (addresses_of (hearing service frame arrival edge) service) (destination frame) ≡ None)
    → meets plan calm service circuit edge.me (forwarded plan taken_all came service frame (position (is_wire_port wire) (ports_of plan service edge.me)) (beginning edge [])).effects
    ≡ cond (serves_here plan service edge circuit) 1 0 + wires_due plan calm service circuit edge.me.0 (Some wire.0)
packet_meets plan came calm edge service wire w circuit frame checked is ends still unknown =
    let ports : List Port = ports_of plan service edge.me in
    let (arrival, found) = finds_wire_port wire ports (has_wire_port plan service edge.me wire.0 w is ends) in
    let from : LeadsToWire ports arrival wire.0 = found_wire_port wire ports arrival found in
    let after : EdgeState = hearing service frame arrival edge in
    ap (λ (o : Option ℕ). meets plan calm service circuit edge.me (forwarded plan taken_all came service frame o (beginning edge [])).effects) found
    ∙ (flood_serves plan came calm service circuit frame edge arrival (λ c. true) (Some wire.0) checked still
    (λ p x to. wire_targets plan service edge.me after (known_port (addresses_of after service) (destination frame)) arrival wire w p x (unknown arrival) is from to)
    ∙ ap (λ (b : Bool). cond b 1 0 + wires_due plan calm service circuit edge.me.0 (Some wire.0)) (and_true (serves_here plan service edge circuit)))
