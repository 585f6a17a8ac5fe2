-- The work of an edge on one input, exit by exit.
use Rattle.std.proofs.Common.{◌≡◌, ◌∙◌, ℕ, Bool, true, false, List, [], Option, Some, None, Result, nat_eq, position, refl, ap, sym, subst}
use Rattle.std.proofs.Math.Bool.{beq}
use Rattle.std.specs.Prelude.{OnOk}
use Rattle.net_base.specs.declared.outside.link_call.LinkCall.{LinkCall}
use Rattle.net_base.specs.declared.plan.Plan.{Plan}
use Rattle.net_base.specs.declared.plan.circuit_plan.CircuitPlan.{CircuitPlan}
use Rattle.net_base.specs.declared.plan.places.CircuitId.{CircuitId}
use Rattle.net_base.specs.declared.plan.places.EdgeId.{EdgeId}
use Rattle.net_base.specs.declared.plan.places.ServiceId.{ServiceId}
use Rattle.net_base.specs.declared.trace.arrival.Arrival.TheVariants as arrival
use Rattle.net_base.specs.plan.Places.{circuit_row}
use Rattle.net_base.specs.trace.Isolated.{inner_at}
use Rattle.pw_messages.specs.LinkAnswers.{Agrees, Answers}
use Rattle.hvpls_spokes.specs.Port.{is_circuit_port, ports_of}
use Rattle.edge_model.specs.declared.effects.Effects.{Effects}
use Rattle.edge_model.specs.declared.input.Input.{Input}
use Rattle.edge_model.specs.Circuit.{circuit_input, is_same, turned}
use Rattle.edge_model.specs.Frame.{frame_input, is_own, received}
use Rattle.edge_model.specs.Mend.{mends}
use Rattle.edge_model.specs.State.{EdgeState, addresses_of, is_on, with_addresses, with_circuit, without_port}
use Rattle.edge_model.specs.Step.{edge_step}
use Rattle.edge_model.specs.Work.{Work, beginning, changes, idles}
use Rattle.edge_forwarding.specs.Forwarding.{own_service}
use Rattle.edge_forwarding.proofs.ForwardingLemmas.{OwnRow, own_row, other_row}
use Rattle.provider_edge.specs.Lists.{EdgeLists, Keeps, seen, worked}

abbrev pub no_effects : Bool → Effects
no_effects idle = record { idle = idle; list = [] }

-- ---- circuits

own_seen : (e : EdgeLists) (row : CircuitPlan) → nat_eq row.edge.0 e.me.0 ≡ true → is_own (seen e) row ≡ true
unfolding seen
own_seen e row own = own

other_seen : (e : EdgeLists) (row : CircuitPlan) → own_service e.me (Some row) ≡ None → is_own (seen e) row ≡ false
unfolding seen
other_seen e row none = other_row e.me row none

pub circuit_other : (e : EdgeLists) (told : Answers) (circuit : CircuitId) (on : Bool) (row : Option CircuitPlan) (calls : List LinkCall) → own_service e.me row ≡ None
    → worked e calls (no_effects true) ≡ circuit_input e.plan told circuit on row (beginning (seen e) calls)
unfolding worked idles
circuit_other e told circuit on None calls none = refl
circuit_other e told circuit on (Some row) calls none = rw (other_seen e row none) refl

pub same_already : (on now : Bool) → beq now on ≡ true → is_same on now ≡ true
same_already true true same = refl
same_already true false same = absurd (cc (same))
same_already false true same = absurd (cc (same))
same_already false false same = refl

pub other_before : (on now : Bool) → beq now on ≡ false → is_same on now ≡ false
other_before true true other = absurd (cc (other))
other_before true false other = refl
other_before false true other = refl
other_before false false other = absurd (cc (other))

pub circuit_already : (e : EdgeLists) (told : Answers) (circuit : CircuitId) (on : Bool) (row : Option CircuitPlan) (service : ServiceId) (calls : List LinkCall) → own_service e.me row
    ≡ Some service → beq (is_on (seen e) circuit) on ≡ true
    → worked e calls (no_effects true) ≡ circuit_input e.plan told circuit on row (beginning (seen e) calls)
unfolding worked idles
circuit_already e told circuit on row service calls own same =
    let found = own_row e.me row service own in
    let already : is_same on (is_on (seen e) circuit) ≡ true = same_already on (is_on (seen e) circuit) same in
    rw (found.is, own_seen e found.circuit found.own, already) refl

pub circuit_done : (e : EdgeLists) (told : Answers) (circuit : CircuitId) (on : Bool) (row : Option CircuitPlan) (service : ServiceId) (calls : List LinkCall) (work : Work) (found : OwnRow e.me row service) → beq (is_on (seen e) circuit) on ≡ false
    → work ≡ mends e.plan told (changes (turned e.plan circuit found.circuit on) (beginning (seen e) calls))
    → work ≡ circuit_input e.plan told circuit on row (beginning (seen e) calls)
circuit_done e told circuit on row service calls work found other is =
    let before : is_same on (is_on (seen e) circuit) ≡ false = other_before on (is_on (seen e) circuit) other in
    rw (found.is, own_seen e found.circuit found.own, before) is

-- an edge's own circuit stays its own
pub still_own : (e mid : EdgeLists) (circuit : CircuitId) (service : ServiceId) → own_service e.me (circuit_row e.plan circuit) ≡ Some service → Keeps e mid
    → own_service mid.me (circuit_row mid.plan circuit) ≡ Some service
still_own e mid circuit service own keeps =
    ap (λ (p : Plan). own_service mid.me (circuit_row p circuit)) keeps.plan ∙ (ap (λ (m : EdgeId). own_service m (circuit_row e.plan circuit)) keeps.me ∙ own)

forgets : (e : EdgeLists) (circuit : CircuitId) (row : CircuitPlan) (service : ServiceId) → row.service ≡ service
    → with_addresses service (without_port (position (is_circuit_port circuit) (ports_of e.plan service e.me)) (addresses_of (with_circuit circuit false (seen e)) service))
    (with_circuit circuit false (seen e)) ≡ turned e.plan circuit row false (seen e)
unfolding seen with_circuit
forgets e circuit row service same =
    ap (λ (at : ServiceId). with_addresses at (without_port (position (is_circuit_port circuit) (ports_of e.plan at e.me)) (addresses_of (seen e) at)) (with_circuit circuit false (seen e))) (sym same)

pub turned_off : (e mid now : EdgeLists) (circuit : CircuitId) (on : Bool) (row : CircuitPlan) (service : ServiceId) → own_service e.me (circuit_row e.plan circuit) ≡ Some service
    → circuit_row e.plan circuit ≡ Some row → on ≡ false
    → Keeps e mid → seen mid ≡ with_circuit circuit on (seen e)
    → seen now ≡ with_addresses service (without_port (position (is_circuit_port circuit) (ports_of mid.plan service mid.me)) (addresses_of (seen mid) service)) (seen mid)
    → seen now ≡ turned e.plan circuit row on (seen e)
turned_off e mid now circuit true row service own at here keeps turns is = absurd (cc (here))
turned_off e mid now circuit false row service own at here keeps turns is =
    let found = own_row e.me (circuit_row e.plan circuit) service own in
    let one : found.circuit ≡ row = cc (found.is, at) in
    is
    ∙ (ap (λ (p : Plan). with_addresses service (without_port (position (is_circuit_port circuit) (ports_of p service mid.me)) (addresses_of (seen mid) service)) (seen mid)) keeps.plan
    ∙ (ap (λ (m : EdgeId). with_addresses service (without_port (position (is_circuit_port circuit) (ports_of e.plan service m)) (addresses_of (seen mid) service)) (seen mid)) keeps.me
    ∙ (ap (λ (s : EdgeState). with_addresses service (without_port (position (is_circuit_port circuit) (ports_of e.plan service e.me)) (addresses_of s service)) s) turns
    ∙ forgets e circuit row service (ap (λ (r : CircuitPlan). r.service) (sym one) ∙ found.same))))

-- ---- frames

pub frame_other : (e : EdgeLists) (told : Answers) (circuit : CircuitId) (octets : List ℕ) (row : Option CircuitPlan) (calls : List LinkCall) → own_service e.me row ≡ None
    → worked e calls (no_effects true) ≡ frame_input e.plan told circuit octets row (beginning (seen e) calls)
unfolding worked idles
frame_other e told circuit octets None calls none = refl
frame_other e told circuit octets (Some row) calls none = rw (other_seen e row none) refl

pub frame_off : (e : EdgeLists) (told : Answers) (circuit : CircuitId) (octets : List ℕ) (row : Option CircuitPlan) (service : ServiceId) (calls : List LinkCall) → own_service e.me row
    ≡ Some service → is_on (seen e) circuit ≡ false
    → worked e calls (no_effects true) ≡ frame_input e.plan told circuit octets row (beginning (seen e) calls)
unfolding worked idles
frame_off e told circuit octets row service calls own off =
    let found = own_row e.me row service own in
    rw (found.is, own_seen e found.circuit found.own, off) refl

pub frame_on : (e : EdgeLists) (told : Answers) (circuit : CircuitId) (octets : List ℕ) (row : Option CircuitPlan) (service : ServiceId) (calls : List LinkCall) (work : Work)
    → own_service e.me row ≡ Some service → is_on (seen e) circuit ≡ true
    → work ≡ received e.plan told (arrival.Circuit circuit) service (position (is_circuit_port circuit) (ports_of e.plan service e.me)) (inner_at e.plan circuit octets) (beginning (seen e) calls)
    → work ≡ frame_input e.plan told circuit octets row (beginning (seen e) calls)
unfolding seen
frame_on e told circuit octets row service calls work own on is =
    let found = own_row e.me row service own in
    rw (found.is, found.own, on)
    (is ∙ ap (λ (at : ServiceId). received e.plan told (arrival.Circuit circuit) at (position (is_circuit_port circuit) (ports_of e.plan at e.me)) (inner_at e.plan circuit octets)
    (beginning (seen e) calls)) (sym found.same))

-- ---- one input of many

-- what the edge makes of the input that came
pub input_done : {A E : Type 0} (r : Result A E) (e now : EdgeLists) (calls new : List LinkCall) (effects : Effects) (came input : Input) → came ≡ input
    → OnOk r ((told : Answers) → Agrees told new → worked now new effects ≡ edge_step e.plan told input (beginning (seen e) calls))
    → OnOk r ((told : Answers) → Agrees told new → worked now new effects ≡ edge_step e.plan told came (beginning (seen e) calls))
input_done r e now calls new effects came input is done =
    subst (λ (i : Input). OnOk r ((told : Answers) → Agrees told new → worked now new effects ≡ edge_step e.plan told i (beginning (seen e) calls))) (sym is) done
