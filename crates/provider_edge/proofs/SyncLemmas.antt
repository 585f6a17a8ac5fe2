-- Between two inputs the ports that are open are those that forward.
use Rattle.std.proofs.Common.{◌≡◌, ◌<◌, ◌≤◌, ◌+◌, ◌++◌, ◌||◌, ◌∙◌, inl, inr, ℕ, zero, suc, Bool, true, false, cond, List, [], ◌∷◌, Option, Some, None, is_some, length, position, slice_get, nat_eq, refl, ap, sym, subst, arith}
use Rattle.std.specs.List.{AllByRecursion, list_any}
use Rattle.std.specs.Prelude.{IfSome}
use Rattle.std.proofs.lemmas.Bool.{eq-eqb, and_from, or_right, or_left, or_cases}
use Rattle.std.proofs.lemmas.List.Folds.{list_any-append}
use Rattle.net_values.proofs.BoolLemmas.{second_holds}
use Rattle.net_values.proofs.RowLemmas.{row_holds, holds_at}
use Rattle.net_base.specs.declared.plan.Plan.{Plan}
use Rattle.net_base.specs.declared.plan.wire_plan.WirePlan.{WirePlan}
use Rattle.net_base.specs.declared.plan.places.CircuitId.{CircuitId}
use Rattle.net_base.specs.declared.plan.places.EdgeId.{EdgeId}
use Rattle.net_base.specs.declared.plan.places.ServiceId.{ServiceId}
use Rattle.net_base.specs.declared.plan.places.WireId.{WireId}
use Rattle.net_base.specs.declared.trace.down.Down.{Down}
use Rattle.net_base.specs.plan.Accepted.{IsChecked, IsWireOf}
use Rattle.net_base.specs.plan.Paths.{is_first, is_last}
use Rattle.hvpls_spokes.specs.declared.port.Port.{Port}
use Rattle.hvpls_spokes.specs.declared.port.Port.TheVariants as port
use Rattle.hvpls_spokes.specs.Port.{is_circuit_port, is_wire_port, ports_of}
use Rattle.hvpls_spokes.proofs.PortsLemmas.{IsWired, served_at}
use Rattle.hvpls_spokes.proofs.WirePortLemmas.{LeadsToWire, found_wire_port, mesh_or_spoke}
use Rattle.edge_model.specs.declared.end_place.EndPlace.{EndPlace}
use Rattle.edge_model.specs.EndPlaces.{end_place_at, is_end_of_wire, is_terminal, places_along, places_at, places_from}
use Rattle.edge_model.specs.Ends.{end_forwards, is_up}
use Rattle.edge_model.specs.Frame.{forwards, hearing, port_forwards}
use Rattle.edge_model.specs.Role.{down_at}
use Rattle.edge_model.specs.State.{EdgeState, is_on, with_addresses}
use Rattle.edge_model.specs.Synced.{InSync, IsSynced}
use Rattle.edge_model.proofs.SyncLemmas.{cause_same, forwards_as_told}
use Rattle.edge_model.proofs.CommonLemmas.{up_not}
use Rattle.pw_ends.specs.Ends.{no_place, place_of}
use Rattle.edge_forwarding.specs.Domain.{opens, port_opens}
use Rattle.edge_forwarding.specs.Forwarding.{circuits_in, open_ports, told_in}
use Rattle.edge_forwarding.proofs.OpenLemmas.{found_opens, same_tests}
use Rattle.provider_edge.specs.Invariant.{IsEdge}
use Rattle.provider_edge.specs.Lists.{EdgeLists, seen}

-- ---- an edge has an end of each wire that ends there

-- some end of the wire is terminal
abbrev has_end_in : WireId → List EndPlace → Bool
has_end_in wire places = list_any (is_end_of_wire wire) places

joined_left : (wire : WireId) (xs ys : List EndPlace) → has_end_in wire xs ≡ true → has_end_in wire (xs ++ ys) ≡ true
joined_left wire xs ys here = list_any-append (is_end_of_wire wire) xs ys ∙ or_left (has_end_in wire xs) (has_end_in wire ys) here

joined_right : (wire : WireId) (xs ys : List EndPlace) → has_end_in wire ys ≡ true → has_end_in wire (xs ++ ys) ≡ true
joined_right wire xs ys there = list_any-append (is_end_of_wire wire) xs ys ∙ or_right (has_end_in wire xs) (has_end_in wire ys) there

one_end : (wire : WireId) (place : EndPlace) → place.wire.0 ≡ wire.0 → place.terminal ≡ true → has_end_in wire (place ∷ []) ≡ true
one_end wire place same terminal = or_left (is_end_of_wire wire place) false (and_from (nat_eq place.wire.0 wire.0) place.terminal (eq-eqb place.wire.0 wire.0 same) terminal)

-- an edge at one side of a segment has an end there
at_one : (wire : WireId) (row : WirePlan) (me : EdgeId) (segment : ℕ) (first next : EdgeId) → is_terminal row me ≡ true → (nat_eq me.0 first.0 || nat_eq me.0 next.0) ≡ true
    → has_end_in wire (places_at wire row me segment first next) ≡ true
at_one wire row me segment first next terminal one = by (nat_eq me.0 first.0) (nat_eq me.0 next.0) one where
  by : (a b : Bool) → (a || b) ≡ true → has_end_in wire (cond a (end_place_at wire row me segment 0 next ∷ []) (cond b (end_place_at wire row me segment 1 first ∷ []) [])) ≡ true
  by true b one = one_end wire (end_place_at wire row me segment 0 next) refl terminal
  by false true one = one_end wire (end_place_at wire row me segment 1 first) refl terminal
  by false false one = absurd (cc (one))

-- the last edge of a path has an end at its last segment
at_last : (wire : WireId) (row : WirePlan) (me : EdgeId) (segment : ℕ) (path : List EdgeId) → is_terminal row me ≡ true → 2 ≤ length path → is_last me.0 path ≡ true
    → has_end_in wire (places_along wire row me segment path) ≡ true
at_last wire row me segment [] terminal least last = absurd (omega (arith, least))
at_last wire row me segment (x ∷ []) terminal least last = absurd (omega (arith, least))
at_last wire row me segment (x ∷ y ∷ []) terminal least last =
    joined_left wire (places_at wire row me segment x y) [] (at_one wire row me segment x y terminal (or_right (nat_eq me.0 x.0) (nat_eq me.0 y.0) last))
at_last wire row me segment (x ∷ y ∷ z ∷ rest) terminal least last =
    joined_right wire (places_at wire row me segment x y) (places_along wire row me (segment + 1) (y ∷ z ∷ rest)) (at_last wire row me (segment + 1) (y ∷ z ∷ rest) terminal (omega arith) last)

at_first : (wire : WireId) (row : WirePlan) (me : EdgeId) (segment : ℕ) (path : List EdgeId) → is_terminal row me ≡ true → 2 ≤ length path → is_first me.0 path ≡ true
    → has_end_in wire (places_along wire row me segment path) ≡ true
at_first wire row me segment [] terminal least first = absurd (omega (arith, least))
at_first wire row me segment (x ∷ []) terminal least first = absurd (omega (arith, least))
at_first wire row me segment (x ∷ y ∷ rest) terminal least first =
    joined_left wire (places_at wire row me segment x y) (places_along wire row me (segment + 1) (y ∷ rest))
    (at_one wire row me segment x y terminal (or_left (nat_eq me.0 x.0) (nat_eq me.0 y.0) first))

has_end_along : (wire : WireId) (row : WirePlan) (me : EdgeId) → is_terminal row me ≡ true → 2 ≤ length row.path → has_end_in wire (places_along wire row me 0 row.path) ≡ true
has_end_along wire row me terminal least = elim (or_cases (is_first me.0 row.path) (is_last me.0 row.path) terminal) [
  | inl first ↦ at_first wire row me 0 row.path terminal least first
  | inr last ↦ at_last wire row me 0 row.path terminal least last
]

has_end_from : (me : EdgeId) (k n w : ℕ) (rows : List WirePlan) (row : WirePlan) → w ≡ k + n → slice_get rows n ≡ Some row → is_terminal row me ≡ true → 2 ≤ length row.path
    → has_end_in (record { 0 = w }) (places_from me k rows) ≡ true
has_end_from me k n w [] row place is terminal least = absurd (cc (is))
has_end_from me k zero w (x ∷ rows) row place is terminal least =
    let same : x ≡ row = cc (is) in
    let here : w ≡ k = omega (arith, place) in
    joined_left (record { 0 = w }) (places_along (record { 0 = k }) x me 0 x.path) (places_from me (k + 1) rows)
    (subst (λ (r : WirePlan). has_end_in (record { 0 = w }) (places_along (record { 0 = k }) r me 0 r.path) ≡ true) (sym same)
    (subst (λ (n : ℕ). has_end_in (record { 0 = w }) (places_along (record { 0 = n }) row me 0 row.path) ≡ true) here (has_end_along (record { 0 = w }) row me terminal least)))
has_end_from me k (suc n) w (x ∷ rows) row place is terminal least =
    joined_right (record { 0 = w }) (places_along (record { 0 = k }) x me 0 x.path) (places_from me (k + 1) rows) (has_end_from me (k + 1) n w rows row (omega (arith, place)) is terminal least)

-- ---- what was told of an end is why it does not forward

-- a wire that ends at the edge forwards where nothing was told of a cause
wire_opens : (plan : Plan) (edge : EdgeState) (service : ServiceId) (mesh : Bool) (wire : WireId) → IsChecked plan → InSync plan edge → IsWired plan.wires service edge.me mesh wire.0
    → is_up (edge.told_down wire.0) ≡ end_forwards plan edge wire
wire_opens plan edge service mesh wire checked synced wired =
    let row : IsWireOf plan wired.row = row_holds (IsWireOf plan) plan.wires wire.0 wired.row wired.is checked.wires in
    let terminal : is_terminal wired.row edge.me ≡ true = second_holds _ (is_terminal wired.row edge.me) wired.ends in
    sym (forwards_as_told plan edge wire synced (has_end_from edge.me 0 wire.0 wire.0 plan.wires wired.row (omega arith) wired.is terminal row.least))

-- the ports of a service that are open are those that forward
pub opens_forwards : (plan : Plan) (edge : EdgeState) (service : ServiceId) (p : ℕ) → IsChecked plan → InSync plan edge
    → port_opens edge.circuit_on edge.told_down (ports_of plan service edge.me) p ≡ port_forwards plan edge (ports_of plan service edge.me) p
opens_forwards plan edge service p checked synced = by (slice_get (ports_of plan service edge.me) p) refl where
  by : (x : Option Port) → slice_get (ports_of plan service edge.me) p ≡ x → opens edge.circuit_on edge.told_down x ≡ forwards plan edge x
  by None at = refl
  by (Some (port.Circuit circuit)) at = refl
  by (Some (port.Mesh wire)) at = wire_opens plan edge service true wire checked synced (served_at plan service edge.me p (port.Mesh wire) at)
  by (Some (port.Spoke wire)) at = wire_opens plan edge service false wire checked synced (served_at plan service edge.me p (port.Spoke wire) at)

-- ---- a control between two inputs

open_in : (c : EdgeLists) (service : ServiceId) → IsEdge c → open_ports c.forwarding service ≡ port_opens (circuits_in c.forwarding) (told_in c.forwarding) (ports_of c.plan service c.me)
open_in c service is =
    ap (λ (p : Plan). port_opens (circuits_in c.forwarding) (told_in c.forwarding) (ports_of p service c.forwarding.me)) is.plan
    ∙ ap (λ (m : EdgeId). port_opens (circuits_in c.forwarding) (told_in c.forwarding) (ports_of c.plan service m)) is.me

forwards_in : (c : EdgeLists) (service : ServiceId) (p : ℕ) → IsEdge c → InSync c.plan (seen c)
    → port_opens (circuits_in c.forwarding) (told_in c.forwarding) (ports_of c.plan service c.me) p ≡ port_forwards c.plan (seen c) (ports_of c.plan service c.me) p
unfolding seen
forwards_in c service p is synced = opens_forwards c.plan (seen c) service p is.checked synced

pub open_forwards : (c : EdgeLists) (service : ServiceId) → IsEdge c → InSync c.plan (seen c)
    → open_ports c.forwarding service ≡ port_forwards c.plan (seen c) (ports_of c.plan service c.me)
open_forwards c service is synced =
    open_in c service is
    ∙ same_tests (port_opens (circuits_in c.forwarding) (told_in c.forwarding) (ports_of c.plan service c.me)) (port_forwards c.plan (seen c) (ports_of c.plan service c.me))
    (λ p. forwards_in c service p is synced)

-- a port forwards as it did where an address was learned
pub forwards_hearing : (plan : Plan) (edge : EdgeState) (service : ServiceId) (frame : List ℕ) (arrival : ℕ) (ports : List Port) (p : ℕ)
    → port_forwards plan (hearing service frame arrival edge) ports p ≡ port_forwards plan edge ports p
unfolding with_addresses
forwards_hearing plan edge service frame arrival ports p = by (slice_get ports p) where
  by : (x : Option Port) → forwards plan (hearing service frame arrival edge) x ≡ forwards plan edge x
  by None = refl
  by (Some (port.Circuit circuit)) = refl
  by (Some (port.Mesh wire)) = refl
  by (Some (port.Spoke wire)) = refl

-- ---- the port of a wire whose end forwards

-- a port that leads to a wire is open by what was told of that wire
opens_by_wire : (on : ℕ → Bool) (told : ℕ → Option Down) (ports : List Port) (p wire : ℕ) → LeadsToWire ports p wire → port_opens on told ports p ≡ is_up (told wire)
opens_by_wire on told ports p wire leads = elim (mesh_or_spoke ports p wire leads) [
  | inl mesh ↦ ap (opens on told) mesh
  | inr spoke ↦ ap (opens on told) spoke
]

told_up : (plan : Plan) (edge : EdgeState) (place : EndPlace) → IsSynced plan edge place → place.terminal ≡ true → is_up (edge.told_down place.wire.0) ≡ is_up (down_at plan edge place)
told_up plan edge place synced terminal = ap is_up (cause_same (edge.told_down place.wire.0) (down_at plan edge place) (synced.so terminal))

told_of : (c : EdgeLists) (wire : ℕ) → told_in c.forwarding wire ≡ (seen c).told_down wire
unfolding seen
told_of c wire = refl

synced_at : (c : EdgeLists) (slot : ℕ) → IsEdge c → InSync c.plan (seen c) → slot < length c.ends.places → IsSynced c.plan (seen c) (place_of c.ends slot)
unfolding seen
synced_at c slot is synced within =
    let all : AllByRecursion (IsSynced c.plan (seen c)) c.ends.places = subst (AllByRecursion (IsSynced c.plan (seen c))) (sym is.places) synced.each in
    holds_at (IsSynced c.plan (seen c)) c.ends.places slot no_place all within

-- the port that is found for the wire of a terminal end that forwards is open
pub wire_port_opens : (c : EdgeLists) (slot : ℕ) (service : ServiceId) (p : ℕ) → IsEdge c → InSync c.plan (seen c) → slot < length c.ends.places
    → (place_of c.ends slot).terminal ≡ true → is_up (down_at c.plan (seen c) (place_of c.ends slot)) ≡ true
    → position (is_wire_port (place_of c.ends slot).wire) (ports_of c.plan service c.me) ≡ Some p → open_ports c.forwarding service p ≡ true
wire_port_opens c slot service p is synced within terminal up found =
    let place : EndPlace = place_of c.ends slot in
    ap (λ (t : ℕ → Bool). t p) (open_in c service is)
    ∙ (opens_by_wire (circuits_in c.forwarding) (told_in c.forwarding) (ports_of c.plan service c.me) p place.wire.0 (found_wire_port place.wire (ports_of c.plan service c.me) p found)
    ∙ (ap is_up (told_of c place.wire.0)
    ∙ (told_up c.plan (seen c) place (synced_at c slot is synced within) terminal ∙ up)))

-- and that of one that does not is shut
pub wire_port_shut : (c : EdgeLists) (place : EndPlace) (service : ServiceId) (p : ℕ) → IsEdge c → IsSynced c.plan (seen c) place
    → place.terminal ≡ true → is_some (down_at c.plan (seen c) place) ≡ true
    → position (is_wire_port place.wire) (ports_of c.plan service c.me) ≡ Some p → open_ports c.forwarding service p ≡ false
wire_port_shut c place service p is synced terminal down found =
    ap (λ (t : ℕ → Bool). t p) (open_in c service is)
    ∙ (opens_by_wire (circuits_in c.forwarding) (told_in c.forwarding) (ports_of c.plan service c.me) p place.wire.0 (found_wire_port place.wire (ports_of c.plan service c.me) p found)
    ∙ (ap is_up (told_of c place.wire.0)
    ∙ (told_up c.plan (seen c) place synced terminal ∙ up_not (down_at c.plan (seen c) place) down)))

-- the port that is found for a circuit that is on is open
on_of : (c : EdgeLists) (circuit : ℕ) → circuits_in c.forwarding circuit ≡ (seen c).circuit_on circuit
unfolding seen
on_of c circuit = refl

pub circuit_port_opens : (c : EdgeLists) (circuit : CircuitId) (service : ServiceId) (p : ℕ) → IsEdge c → is_on (seen c) circuit ≡ true
    → position (is_circuit_port circuit) (ports_of c.plan service c.me) ≡ Some p → open_ports c.forwarding service p ≡ true
circuit_port_opens c circuit service p is on found =
    ap (λ (t : ℕ → Bool). t p) (open_in c service is)
    ∙ (found_opens (circuits_in c.forwarding) (told_in c.forwarding) circuit (ports_of c.plan service c.me) p found
    ∙ (on_of c circuit.0 ∙ on))

-- where a port was found
pub if_found : (P : ℕ → Type 0) (found : Option ℕ) → ((p : ℕ) → found ≡ Some p → P p) → IfSome found P
if_found P None holds = tt
if_found P (Some p) holds = holds p refl
