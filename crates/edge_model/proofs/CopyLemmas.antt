-- What comes of a frame that a service hears by a port: copies of it by other ports of the service, whatever the link answers.
use Rattle.std.proofs.Common.{◌≡◌, ◌&&◌, ◌||◌, ◌+◌, ◌++◌, ◌∙◌, ℕ, suc, Bool, true, false, List, [], ◌∷◌, Option, Some, None, slice_get, option_map, refl, ap, sym, subst, not, nat_eq, arith, zero-add, add-zero, cond, append_assoc, append-nil}
use Rattle.std.proofs.lemmas.Bool.{and_parts, eqb-true}
use Rattle.net_values.proofs.RowLemmas.{found_passes}
use Rattle.net_base.specs.declared.plan.Plan.{Plan}
use Rattle.net_base.specs.declared.plan.circuit_plan.CircuitPlan.{CircuitPlan}
use Rattle.net_base.specs.declared.plan.places.CircuitId.{CircuitId}
use Rattle.net_base.specs.declared.plan.places.EdgeId.{EdgeId}
use Rattle.net_base.specs.declared.plan.places.ServiceId.{ServiceId}
use Rattle.net_base.specs.declared.plan.places.WireId.{WireId}
use Rattle.net_base.specs.declared.plan.wire_plan.WirePlan.{WirePlan}
use Rattle.net_base.specs.declared.plan.wire_plan.Class.{Class}
use Rattle.net_base.specs.declared.plan.wire_plan.Class.TheVariants.{Mesh, Spoke}
use Rattle.net_base.specs.declared.trace.arrival.Arrival.{Arrival}
use Rattle.net_base.specs.declared.trace.down.Down.{Down}
use Rattle.net_base.specs.declared.trace.drop_cause.DropCause.TheVariants as cause
use Rattle.net_base.specs.plan.Paths.{is_first, is_last, offer_of}
use Rattle.net_base.specs.plan.Places.{circuit_row, is_mesh_class, service_of, wire_row}
use Rattle.net_base.specs.plan.Roles.{is_circuit_at, is_wire_of, wire_ends_at}
use Rattle.net_base.specs.trace.Frame.{dress}
use Rattle.pw_messages.specs.LinkAnswers.{Answers}
use Rattle.hvpls_spokes.specs.declared.port.Port.{Port}
use Rattle.hvpls_spokes.specs.declared.port.Port.TheVariants as port
use Rattle.hvpls_spokes.specs.Port.{is_mesh, is_mesh_port, ports_of, wire_port}
use Rattle.hvpls_spokes.proofs.PortsLemmas.{served_at}
use Rattle.hvpls_spokes.proofs.RowPortLemmas.{wire_behind}
use Rattle.hvpls_spokes.proofs.WirePortLemmas.{LeadsToWire, wired_at, wire_port_is}
use Rattle.vsi_bridge.specs.Targets.{is_target}
use Rattle.pw_signalling.specs.declared.binding.Binding.{Binding}
use Rattle.edge_model.specs.Copies.{AllAreCopies, GoesOutBy, LeftCopy, SentCopy}
use Rattle.edge_model.specs.declared.effect.Effect.{Effect}
use Rattle.edge_model.specs.declared.effect.Effect.TheVariants.{Left, Sent, Dropped}
use Rattle.edge_model.specs.declared.end_place.EndPlace.{EndPlace}
use Rattle.edge_model.specs.EndPlaces.{end_places, is_end_of_wire}
use Rattle.edge_model.specs.Ends.{forwards_at, is_up, wire_end}
use Rattle.edge_model.specs.Frame.{copies, copy_by, forwarded, forwards, hearing, port_forwards, tag_of, targets_of}
use Rattle.edge_model.specs.Role.{down_at}
use Rattle.edge_model.specs.Send.{had_posted, packet_of, sends_copy, sends_under}
use Rattle.edge_model.specs.State.{EdgeState, end_at, with_addresses}
use Rattle.edge_model.specs.Work.{Work, changes, gives, next_answer, posts}

-- ---- what is found by a test passes it

-- the end that is found for a wire is a terminal end of it
pub record IsWireEnd (wire : WireId) (place : EndPlace) : Type 0 where
  pub of_wire : place.wire ≡ wire
  pub terminal : place.terminal ≡ true

pub found_end : (plan : Plan) (me : EdgeId) (wire : WireId) (place : EndPlace) → wire_end plan me wire ≡ Some place → IsWireEnd wire place
found_end plan me wire place found =
    let parts = and_parts (nat_eq place.wire.0 wire.0) place.terminal (found_passes (is_end_of_wire wire) (end_places plan me) place found) in
    record { of_wire = ap (λ (n : ℕ). record { 0 = n }) (eqb-true place.wire.0 wire.0 parts.0); terminal = parts.1 }

-- ---- a target is no arrival

-- the circuit of a row that serves a service is one of the service
pub row_service : (plan : Plan) (service : ServiceId) (edge : EdgeId) (circuit : CircuitId) (row : CircuitPlan) → circuit_row plan circuit ≡ Some row → is_circuit_at service edge.0 row
    ≡ true → service_of plan circuit ≡ Some service
row_service plan service edge circuit row is serve =
    let same : row.service.0 ≡ service.0 = eqb-true row.service.0 service.0 (and_parts (nat_eq row.service.0 service.0) (nat_eq row.edge.0 edge.0) serve).0 in
    ap (λ (r : Option CircuitPlan). option_map (λ (row : CircuitPlan). row.service) r) is ∙ ap (λ (n : ℕ). Some (record { 0 = n })) same

-- a wire that ends at an edge of a service is one of the service
pub wire_service : (service : ServiceId) (edge : ℕ) (row : WirePlan) → wire_ends_at service edge row ≡ true → row.service ≡ service
wire_service service edge row ends =
    ap (λ (n : ℕ). record { 0 = n }) (eqb-true row.service.0 service.0 (and_parts (is_wire_of service row) (is_first edge row.path || is_last edge row.path) ends).0)

-- the port of a wire is a mesh port by the class of the wire
pub wire_class : (wire : ℕ) (row : WirePlan) → is_mesh (Some (wire_port wire row)) ≡ is_mesh_class row.class
wire_class wire row = by_class row.class where
  by_class : (class : Class) → is_mesh (Some (cond (is_mesh_class class) (port.Mesh (record { 0 = wire })) (port.Spoke (record { 0 = wire })))) ≡ is_mesh_class class
  by_class Mesh = refl
  by_class Spoke = refl

record IsFlooded (goes same mesh : Bool) : Type 0 where
  forwards : goes ≡ true
  other : same ≡ false
  apart : mesh ≡ false

flooded_by : (goes same mesh : Bool) → (goes && not same) && not mesh ≡ true → IsFlooded goes same mesh
flooded_by true false false e = record { forwards = refl; other = refl; apart = refl }
flooded_by true false true e = absurd (cc)
flooded_by true true mesh e = absurd (cc)
flooded_by false same mesh e = absurd (cc)

target_flooded : (ports : List Port) (forwarding : ℕ → Bool) (arrival : ℕ) (known : Option ℕ) (p : ℕ) → is_target ports forwarding arrival known p ≡ true
    → IsFlooded (forwarding p) (nat_eq p arrival) (is_mesh_port ports arrival && is_mesh_port ports p)
target_flooded ports forwarding arrival None p target = flooded_by (forwarding p) (nat_eq p arrival) (is_mesh_port ports arrival && is_mesh_port ports p) target
target_flooded ports forwarding arrival (Some q) p target =
    flooded_by (forwarding p) (nat_eq p arrival) (is_mesh_port ports arrival && is_mesh_port ports p)
    (and_parts ((forwarding p && not (nat_eq p arrival)) && not (is_mesh_port ports arrival && is_mesh_port ports p)) (nat_eq p q) target).0

-- what a bridge has learned does not tell whether a port forwards
heard_forwards : (plan : Plan) (service : ServiceId) (frame : List ℕ) (arrival : ℕ) (edge : EdgeState) (x : Option Port) → forwards plan (hearing service frame arrival edge) x ≡ forwards plan edge x
unfolding with_addresses
heard_forwards plan service frame arrival edge None = refl
heard_forwards plan service frame arrival edge (Some (port.Circuit circuit)) = refl
heard_forwards plan service frame arrival edge (Some (port.Mesh wire)) = by (wire_end plan edge.me wire) where
  by : (place : Option EndPlace) → forwards_at plan (hearing service frame arrival edge) place ≡ forwards_at plan edge place
  by None = refl
  by (Some place) = refl
heard_forwards plan service frame arrival edge (Some (port.Spoke wire)) = by (wire_end plan edge.me wire) where
  by : (place : Option EndPlace) → forwards_at plan (hearing service frame arrival edge) place ≡ forwards_at plan edge place
  by None = refl
  by (Some place) = refl

-- a port that is a target
pub goes_out : (plan : Plan) (edge : EdgeState) (service : ServiceId) (frame : List ℕ) (arrival p : ℕ) (x : Port) → slice_get (ports_of plan service edge.me) p ≡ Some x
    → targets_of plan (hearing service frame arrival edge) service (ports_of plan service edge.me) frame arrival p ≡ true
    → GoesOutBy plan edge service frame arrival p x
goes_out plan edge service frame arrival p x at target =
    let ports : List Port = ports_of plan service edge.me in
    let flooded = target_flooded ports (port_forwards plan (hearing service frame arrival edge) ports) arrival _ p target in
    record {
      at = at;
      target = target;
      forwards = sym (heard_forwards plan service frame arrival edge (slice_get ports p)) ∙ flooded.forwards;
      other = flooded.other;
      apart = flooded.apart;
    }

pub up_is_none : (down : Option Down) → is_up down ≡ true → down ≡ None
up_is_none None up = refl
up_is_none (Some why) up = absurd (cc (up))

-- ---- copies, one after another

pub copies-append : (plan : Plan) (edge : EdgeState) (came : Arrival) (service : ServiceId) (frame : List ℕ) (arrival : ℕ) (es fs : List Effect)
    → AllAreCopies plan edge came service frame arrival es → AllAreCopies plan edge came service frame arrival fs → AllAreCopies plan edge came service frame arrival (es ++ fs)
copies-append plan edge came service frame arrival [] fs one other = other
copies-append plan edge came service frame arrival (e ∷ es) fs one other = (one.0, copies-append plan edge came service frame arrival es fs one.1 other)

-- an edge at work has given out copies, and is the edge that it was
pub record AddsCopies (plan : Plan) (edge : EdgeState) (came : Arrival) (service : ServiceId) (frame : List ℕ) (arrival : ℕ) (old new : Work) : Type 0 where
  pub same : new.edge ≡ old.edge
  pub idle : new.idle ≡ old.idle
  pub more : List Effect
  pub joined : new.effects ≡ old.effects ++ more
  pub all : AllAreCopies plan edge came service frame arrival more

module _ (plan : Plan) (told : Answers) (edge : EdgeState) (came : Arrival) (service : ServiceId) (frame : List ℕ) (arrival : ℕ) where
  abbrev Adds : Work → Work → Type 0
  Adds old new = AddsCopies plan edge came service frame arrival old new

  adds_not : (work : Work) → Adds work work
  adds_not work = record { same = refl; idle = refl; more = []; joined = sym (append-nil work.effects); all = tt }

  adds_then : (a b c : Work) → Adds a b → Adds b c → Adds a c
  adds_then a b c first next = record {
    same = next.same ∙ first.same;
    idle = next.idle ∙ first.idle;
    more = first.more ++ next.more;
    joined = next.joined ∙ (ap (λ (es : List Effect). es ++ next.more) first.joined ∙ append_assoc a.effects first.more next.more);
    all = copies-append plan edge came service frame arrival first.more next.more first.all next.all;
  }

  abbrev GoesOut : ℕ → Port → Type 0
  GoesOut p x = GoesOutBy plan edge service frame arrival p x

  -- a copy at a circuit
  left_adds : (p : ℕ) (at : CircuitId) (work : Work) → GoesOut p (port.Circuit at) → Adds work (copy_by plan told came frame (port.Circuit at) work)
  unfolding gives
  left_adds p at work out =
      let served = served_at plan service edge.me p (port.Circuit at) out.at in
      let copy : LeftCopy plan edge service frame arrival at (dress (tag_of plan at) frame) =
      record { p = p; by = out; same_service = row_service plan service edge.me at served.row served.is served.serve; dressed = refl } in
      record { same = refl; idle = refl; more = Left at (dress (tag_of plan at) frame) ∷ []; joined = refl; all = (copy, tt) }

  -- a packet that the link takes or not
  posted_adds : (peer : EdgeId) (wire : WireId) (bytes : List ℕ) (taken : Bool) (place : EndPlace) (work : Work) → place.peer ≡ peer → place.wire ≡ wire
      → SentCopy plan edge came service frame arrival place.peer place.wire came bytes → Adds work (had_posted place came bytes taken work)
  unfolding gives posts
  posted_adds peer wire bytes true place work same_peer same_wire copy = record { same = refl; idle = refl; more = Sent place.peer place.wire came bytes ∷ []; joined = refl; all = (copy, tt) }
  posted_adds peer wire bytes false place work same_peer same_wire copy = record { same = refl; idle = refl; more = Dropped cause.LinkFault ∷ []; joined = refl; all = (refl, tt) }

  -- a copy on a wire
  sent_adds : (p : ℕ) (wire : WireId) (x : Port) (work : Work) → work.edge ≡ hearing service frame arrival edge → GoesOut p x → wire_behind (Some x) ≡ Some wire.0
      → forwards plan edge (Some x) ≡ forwards_at plan edge (wire_end plan edge.me wire)
      → Adds work (sends_copy plan told came frame (wire_end plan work.edge.me wire) work)
  unfolding with_addresses
  sent_adds p wire x work heard out leads_is forward = by_end (wire_end plan work.edge.me wire) refl where
    me : work.edge.me ≡ edge.me
    me = ap (λ (e : EdgeState). e.me) heard

    leads : LeadsToWire (ports_of plan service edge.me) p wire.0
    leads = record { is = ap wire_behind out.at ∙ leads_is }

    under : (place : EndPlace) → wire_end plan edge.me wire ≡ Some place → (row : Option WirePlan) (remote : Option Binding) → wire_row plan place.wire ≡ row → (end_at work.edge place).remote ≡ remote
        → Adds work (sends_under told came frame work.edge.me place row remote work)
    under place here None remote is bound = adds_not work
    under place here (Some row) None is bound = adds_not work
    under place here (Some row) (Some binding) is bound =
        let ends = found_end plan edge.me wire place here in
        let wired = (wired_at plan service edge.me p wire.0 leads).1 in
        let row_is : wire_row plan wire ≡ Some row = ap (wire_row plan) (sym ends.of_wire) ∙ is in
        let rows : Some wired.row ≡ Some row = sym wired.is ∙ row_is in
        let same_row : wired.row ≡ row = cc (rows) in
        let forwards : is_up (down_at plan edge place) ≡ true = sym (ap (forwards_at plan edge) here) ∙ (sym forward ∙ (sym (ap (forwards plan edge) out.at) ∙ out.forwards)) in
        let port_is = wire_port_is plan service edge.me p wire.0 row leads row_is in
        let copy : SentCopy plan edge came service frame arrival place.peer place.wire came (packet_of (offer_of row work.edge.me.0) binding frame) =
        record {
          same_arrival = refl;
          place = place;
          here = ap (wire_end plan edge.me) ends.of_wire ∙ here;
          same_wire = refl;
          same_peer = refl;
          terminal = ends.terminal;
          forwards = up_is_none (down_at plan edge place) forwards;
          row = row;
          is = is;
          same_service = wire_service service edge.me.0 row (ap (wire_ends_at service edge.me.0) (sym same_row) ∙ wired.ends);
          binding = binding;
          bound = sym (ap (λ (e : EdgeState). (end_at e place).remote) heard) ∙ bound;
          packed = ap (λ (m : EdgeId). packet_of (offer_of row m.0) binding frame) me;
          p = p;
          by = goes_out plan edge service frame arrival p (wire_port place.wire.0 row) (port_is ∙ ap (λ (w : WireId). Some (wire_port w.0 row)) (sym ends.of_wire)) out.target;
        } in
        posted_adds place.peer place.wire (packet_of (offer_of row work.edge.me.0) binding frame) (next_answer told work) place work refl refl copy

    by_end : (place : Option EndPlace) → wire_end plan work.edge.me wire ≡ place → Adds work (sends_copy plan told came frame place work)
    by_end None is = adds_not work
    by_end (Some place) is = under place (ap (λ (m : EdgeId). wire_end plan m wire) (sym me) ∙ is) (wire_row plan place.wire) (end_at work.edge place).remote refl refl

  -- a copy by a port
  copy_adds : (p : ℕ) (x : Port) (b : Bool) (work : Work) → work.edge ≡ hearing service frame arrival edge → (b ≡ true → GoesOut p x) → Adds work (cond b (copy_by plan told came frame x work) work)
  copy_adds p x false work heard out = adds_not work
  copy_adds p (port.Circuit at) true work heard out = left_adds p at work (out refl)
  copy_adds p (port.Mesh wire) true work heard out = sent_adds p wire (port.Mesh wire) work heard (out refl) refl refl
  copy_adds p (port.Spoke wire) true work heard out = sent_adds p wire (port.Spoke wire) work heard (out refl) refl refl

  -- copies by those ports of the service, from one on, that are targets
  copies_add : (targets : ℕ → Bool) (p : ℕ) (ports : List Port) (work : Work) → work.edge ≡ hearing service frame arrival edge
      → ((q : ℕ) (x : Port) → slice_get ports q ≡ Some x → targets (p + q) ≡ true → GoesOut (p + q) x)
      → Adds work (copies targets (copy_by plan told came frame) p ports work)
  copies_add targets p [] work heard out = adds_not work
  copies_add targets p (x ∷ ports) work heard out =
      let first : Work = cond (targets p) (copy_by plan told came frame x work) work in
      let none : p + 0 ≡ p = add-zero p in
      let here : Adds work first = copy_adds p x (targets p) work heard (λ target. subst (λ (n : ℕ). GoesOut n x) none (out 0 x refl (ap targets none ∙ target))) in
      adds_then work first (copies targets (copy_by plan told came frame) (p + 1) ports first) here (copies_add targets (p + 1) ports first (here.same ∙ heard) later)
    where
      next : (q : ℕ) → p + suc q ≡ (p + 1) + q
      next q = omega arith

      later : (q : ℕ) (y : Port) → slice_get ports q ≡ Some y → targets ((p + 1) + q) ≡ true → GoesOut ((p + 1) + q) y
      later q y at target = subst (λ (n : ℕ). GoesOut n y) (next q) (out (suc q) y at (ap targets (next q) ∙ target))

-- what is forwarded gives out copies; its edge has heard the frame
pub record ForwardsCopies (plan : Plan) (came : Arrival) (service : ServiceId) (frame : List ℕ) (arrival : ℕ) (old new : Work) : Type 0 where
  pub heard : new.edge ≡ hearing service frame arrival old.edge
  pub idle : new.idle ≡ old.idle
  pub more : List Effect
  pub joined : new.effects ≡ old.effects ++ more
  pub all : AllAreCopies plan old.edge came service frame arrival more

pub forwards_copies : (plan : Plan) (told : Answers) (came : Arrival) (service : ServiceId) (frame : List ℕ) (arrival : ℕ) (work : Work)
    → ForwardsCopies plan came service frame arrival work (forwarded plan told came service frame (Some arrival) work)
unfolding changes with_addresses
forwards_copies plan told came service frame arrival work =
    let adds = copies_add plan told work.edge came service frame arrival targets 0 ports (changes (hearing service frame arrival) work) refl from_none in
    record { heard = adds.same; idle = adds.idle; more = adds.more; joined = adds.joined; all = adds.all }
  where
    ports : List Port
    ports = ports_of plan service work.edge.me

    targets : ℕ → Bool
    targets = targets_of plan (hearing service frame arrival work.edge) service ports frame arrival

    from_none : (q : ℕ) (x : Port) → slice_get ports q ≡ Some x → targets (0 + q) ≡ true → GoesOutBy plan work.edge service frame arrival (0 + q) x
    from_none q x at target =
        subst (λ (n : ℕ). GoesOutBy plan work.edge service frame arrival n x) (sym (zero-add q))
        (goes_out plan work.edge service frame arrival q x at (ap targets (sym (zero-add q)) ∙ target))
