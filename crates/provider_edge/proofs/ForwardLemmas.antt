-- What an edge forwards by is a part of it.
use Rattle.std.proofs.Common.{◌≡◌, ◌∙◌, ℕ, List, refl, ap, sym, position}
use Rattle.net_base.specs.declared.plan.Plan.{Plan}
use Rattle.net_base.specs.declared.plan.places.CircuitId.{CircuitId}
use Rattle.net_base.specs.declared.plan.places.EdgeId.{EdgeId}
use Rattle.net_base.specs.declared.plan.places.ServiceId.{ServiceId}
use Rattle.net_base.specs.declared.plan.places.WireId.{WireId}
use Rattle.net_base.specs.plan.Places.{wire_row}
use Rattle.net_base.specs.declared.trace.down.Down.{Down}
use Rattle.std.proofs.Common.{true, Bool, Bor, Option, Some, None}
use Rattle.std.specs.Prelude.{IfSome}
use Rattle.vsi_bridge.specs.BridgeState.{BridgeState}
use Rattle.hvpls_spokes.specs.declared.port.Port.{Port}
use Rattle.hvpls_spokes.specs.Port.{ports_of}
use Rattle.mac_table.specs.declared.mac_entry.MacEntry.{MacEntry}
use Rattle.edge_model.specs.Mend.{forgetting_wire}
use Rattle.edge_model.specs.State.{EdgeState, addresses_of, is_on, later, with_addresses, with_ticks, without_port}
use Rattle.edge_model.specs.Tick.{forgetting}
use Rattle.edge_forwarding.specs.Forwarding.{ForwardingLists, KeepsForwarding, circuits_in, domain_of, entries_of, told_in, with_forwarding}
use Rattle.provider_edge.specs.declared.end_marks.EndMarks.{EndMarks}
use Rattle.provider_edge.specs.Invariant.{IsEdge}
use Rattle.provider_edge.specs.Lists.{EdgeLists, Keeps, seen}
use Rattle.provider_edge.specs.Tidy.{IsTidy}
use Rattle.provider_edge.proofs.EdgeLemmas.{seen_marks}

pub holds_forwarding : (c : EdgeLists) (f : ForwardingLists) → KeepsForwarding c.forwarding f → c.stopped ≡ true → IsEdge c → IsEdge (record c { forwarding = f; marks = None })
holds_forwarding c f keeps working is = record {
  checked = is.checked;
  peerings = is.peerings;
  held = is.held;
  places = is.places;
  wires = is.wires;
  each_bits = is.each_bits;
  spokes = is.spokes;
  plan = keeps.plan ∙ is.plan;
  me = keeps.me ∙ is.me;
  small = is.small;
  priorities = is.priorities;
  each_ping = is.each_ping;
  synced = λ going. absurd (cc (sym working ∙ going));
  tidy = tt;
}

-- the edge has these marks
pub holds_marked : (c : EdgeLists) (f : ForwardingLists) (marks : Option EndMarks) → KeepsForwarding c.forwarding f → c.stopped ≡ true
    → IfSome marks (IsTidy c.plan (seen (record c { forwarding = f }))) → IsEdge c
    → IsEdge (record c { forwarding = f; marks = marks })
unfolding seen
holds_marked c f marks keeps working tidy is = record {
  checked = is.checked;
  peerings = is.peerings;
  held = is.held;
  places = is.places;
  wires = is.wires;
  each_bits = is.each_bits;
  spokes = is.spokes;
  plan = keeps.plan ∙ is.plan;
  me = keeps.me ∙ is.me;
  small = is.small;
  priorities = is.priorities;
  each_ping = is.each_ping;
  synced = λ going. absurd (cc (sym working ∙ going));
  tidy = tidy;
}

-- the marks are as they were
pub holds_kept : (c : EdgeLists) (f : ForwardingLists) → KeepsForwarding c.forwarding f → c.stopped ≡ true → IfSome c.marks (IsTidy c.plan (seen (record c { forwarding = f })))
    → IsEdge c → IsEdge (record c { forwarding = f })
holds_kept c f keeps working tidy is = holds_marked c f c.marks keeps working tidy is

pub keeps_forwarding : {m : Option EndMarks} (c : EdgeLists) (f : ForwardingLists) → Keeps c (record c { forwarding = f; marks = m })
keeps_forwarding c f = record { plan = refl; me = refl; places = refl; count = refl; stopped = refl }

-- the edge forwards by what it has
pub forwarding_at : (c : EdgeLists) → c.forwarding.me ≡ c.me → with_forwarding c.forwarding (seen c) ≡ seen c
unfolding seen with_forwarding
forwarding_at c here = λ i. record (seen c) { me = here i }

pub forwarding_now : (c : EdgeLists) (f : ForwardingLists) → f.me ≡ c.me → seen (record c { forwarding = f }) ≡ with_forwarding f (seen c)
unfolding seen with_forwarding
forwarding_now c f here = λ i. record (seen (record c { forwarding = f })) { me = sym here i }

-- a change of what the edge forwards by
pub seen_kept : (change : EdgeState → EdgeState) (c : EdgeLists) (f : ForwardingLists) → IsEdge c → KeepsForwarding c.forwarding f
    → ((edge : EdgeState) → with_forwarding f edge ≡ change (with_forwarding c.forwarding edge))
    → seen (record c { forwarding = f }) ≡ change (seen c)
seen_kept change c f is keeps step =
    forwarding_now c f (keeps.me ∙ is.me) ∙ (step (seen c) ∙ ap change (forwarding_at c is.me))

-- a change after which the edge knows no marks
pub seen_forwarding : (change : EdgeState → EdgeState) (c : EdgeLists) (f : ForwardingLists) → IsEdge c → KeepsForwarding c.forwarding f
    → ((edge : EdgeState) → with_forwarding f edge ≡ change (with_forwarding c.forwarding edge))
    → seen (record c { forwarding = f; marks = None }) ≡ change (seen c)
seen_forwarding change c f is keeps step = seen_marks (record c { forwarding = f }) None ∙ seen_kept change c f is keeps step

-- what was learned at the port that is found is forgotten
pub seen_forgot : (test : Port → Bool) (c : EdgeLists) (f : ForwardingLists) (service : ServiceId) → IsEdge c → KeepsForwarding c.forwarding f
    → ((edge : EdgeState) → with_forwarding f edge
    ≡ with_addresses service (without_port (position test (ports_of c.forwarding.plan service c.forwarding.me)) (addresses_of (with_forwarding c.forwarding edge) service))
    (with_forwarding c.forwarding edge))
    → seen (record c { forwarding = f })
    ≡ with_addresses service (without_port (position test (ports_of c.plan service c.me)) (addresses_of (seen c) service)) (seen c)
seen_forgot test c f service is keeps step =
    seen_kept (λ edge. with_addresses service (without_port (position test (ports_of c.forwarding.plan service c.forwarding.me)) (addresses_of edge service)) edge) c f is keeps step
    ∙ (ap (λ (p : Plan). with_addresses service (without_port (position test (ports_of p service c.forwarding.me)) (addresses_of (seen c) service)) (seen c)) is.plan
    ∙ ap (λ (m : EdgeId). with_addresses service (without_port (position test (ports_of c.plan service m)) (addresses_of (seen c) service)) (seen c)) is.me)

pub seen_wire : (c : EdgeLists) (f : ForwardingLists) (wire : WireId) → IsEdge c → KeepsForwarding c.forwarding f
    → ((edge : EdgeState) → with_forwarding f edge ≡ forgetting_wire c.forwarding.plan wire (wire_row c.forwarding.plan wire) (with_forwarding c.forwarding edge))
    → seen (record c { forwarding = f }) ≡ forgetting_wire c.plan wire (wire_row c.plan wire) (seen c)
seen_wire c f wire is keeps step =
    seen_kept (λ edge. forgetting_wire c.forwarding.plan wire (wire_row c.forwarding.plan wire) edge) c f is keeps step
    ∙ ap (λ (p : Plan). forgetting_wire p wire (wire_row p wire) (seen c)) is.plan

pub seen_aged : (c : EdgeLists) (f : ForwardingLists) → IsEdge c → KeepsForwarding c.forwarding f
    → ((edge : EdgeState) → with_forwarding f edge ≡ forgetting c.forwarding.plan (with_forwarding c.forwarding edge))
    → seen (record c { forwarding = f }) ≡ forgetting c.plan (seen c)
seen_aged c f is keeps step =
    seen_kept (forgetting c.forwarding.plan) c f is keeps step ∙ ap (λ (p : Plan). forgetting p (seen c)) is.plan

-- ---- what is read

pub ports_in : (c : EdgeLists) (service : ServiceId) → IsEdge c → ports_of c.forwarding.plan service c.forwarding.me ≡ ports_of c.plan service c.me
ports_in c service is = ap (λ (p : Plan). ports_of p service c.forwarding.me) is.plan ∙ ap (λ (m : EdgeId). ports_of c.plan service m) is.me

pub circuit_read : (c : EdgeLists) (circuit : CircuitId) (on : Bool) → on ≡ circuits_in c.forwarding circuit.0 → on ≡ is_on (seen c) circuit
unfolding seen
circuit_read c circuit on read = read

pub told_read : (c : EdgeLists) (wire : WireId) (down : Option Down) → down ≡ told_in c.forwarding wire.0 → down ≡ (seen c).told_down wire.0
unfolding seen
told_read c wire down read = read

pub ticks_read : (c : EdgeLists) → c.forwarding.ticks ≡ (seen c).ticks
unfolding seen
ticks_read c = refl

pub learned_read : (c : EdgeLists) (service : ServiceId) (entries : List MacEntry) → entries ≡ entries_of (domain_of c.forwarding service.0) → entries ≡ addresses_of (seen c) service
unfolding seen
learned_read c service entries read = read

pub seen_later : (c : EdgeLists) (f : ForwardingLists) → IsEdge c → KeepsForwarding c.forwarding f
    → ((edge : EdgeState) → with_forwarding f edge ≡ with_ticks (later c.forwarding.ticks) (with_forwarding c.forwarding edge))
    → seen (record c { forwarding = f }) ≡ with_ticks (later (seen c).ticks) (seen c)
seen_later c f is keeps step =
    seen_kept (with_ticks (later c.forwarding.ticks)) c f is keeps step ∙ ap (λ (n : ℕ). with_ticks (later n) (seen c)) (ticks_read c)

pub learned_if : (c : EdgeLists) (service : ServiceId) (lent : Option (Bor BridgeState)) → IfSome lent (λ bridge. bridge.now.entries ≡ entries_of (domain_of c.forwarding service.0))
    → IfSome lent (λ bridge. bridge.now.entries ≡ addresses_of (seen c) service)
learned_if c service None read = tt
learned_if c service (Some bridge) read = learned_read c service bridge.now.entries read
