-- The network has no fault, and the commands speak of what is in it.
use Rattle.std.proofs.Common.{◌≡◌, ◌<◌, ◌+◌, ◌++◌, ◌==◌, ◌∙◌, ℕ, Bool, zero, suc, true, false, List, [], ◌∷◌, length, Option, Some, None, All, refl, sym, ap, subst, arith, if◌then◌else◌}
use Rattle.std.specs.Fmt.{digits}
use Rattle.std.specs.List.{list_all}
use Rattle.std.specs.Option.{option_or}
use Rattle.std.proofs.lemmas.Bool.Decides.{nat_tests}
use Rattle.std.proofs.lemmas.List.Elements.{All-nil, All-cons, All-append, All-head, All-tail}
use Rattle.std.proofs.lemmas.Bool.{and_parts}
use Rattle.net_base.specs.declared.plan.Plan.{Plan}
use Rattle.net_base.specs.declared.plan.places.EdgeId.{EdgeId}
use Rattle.net_base.specs.declared.plan.plan_fault.PlanFault.{PlanFault}
use Rattle.net_base.specs.declared.plan.wire_plan.WirePlan.{WirePlan}
use Rattle.net_base.specs.plan.Accepted.{IsChecked, IsWireOf, IsWithinLimits}
use Rattle.net_base.specs.plan.NameFaults.{repeat_fault}
use Rattle.net_base.specs.plan.PlanFault.{plan_fault}
use Rattle.net_base.specs.plan.PortFaults.{ports_fault}
use Rattle.net_base.specs.plan.RowFaults.{row_fault, is_edge_of}
use Rattle.net_base.specs.plan.WireFaults.{wires_fault}
use Rattle.net_base.proofs.AcceptedLemmas.{checked}
use Rattle.net_base.specs.declared.trace.event.Event.TheVariants.{Connect, Frame}
use Rattle.command_text.specs.declared.command.Command.{Command}
use Rattle.command_text.specs.declared.command.Command.TheVariants.{One, Settle, Flow}
use Rattle.command_text.specs.Planned.{IsPlanned}
use Rattle.scenario_text.specs.declared.scenario.Scenario.{Scenario}
use Rattle.rehearsal.specs.Commands.{commands, connect, connect_commands, frame, frames_from, probe_payload, station}
use Rattle.rehearsal.specs.Draws.{drawn, next_number}
use Rattle.rehearsal.specs.Rows.{plan, wires}
use Rattle.rehearsal.specs.Scenario.{rehearsal}

edge_count : length plan.edges ≡ 16
unfolding plan
edge_count = refl

service_count : length plan.services ≡ 1
unfolding plan
service_count = refl

circuit_count : length plan.circuits ≡ 16
unfolding plan
circuit_count = refl

wire_count : length plan.wires ≡ 44
unfolding plan wires
wire_count = refl

limits : IsWithinLimits plan
limits = record { edges = omega (arith, edge_count); services = omega (arith, service_count); circuits = omega (arith, circuit_count); wires = omega (arith, wire_count) }

no_row_fault : row_fault plan ≡ None
unfolding plan wires
no_row_fault = refl

no_repeat : repeat_fault plan ≡ None
unfolding plan wires digits
no_repeat = refl

no_wires_fault : wires_fault plan ≡ None
unfolding plan wires
no_wires_fault = refl

no_ports_fault : ports_fault plan ≡ None
unfolding plan wires
no_ports_fault = refl

none_of_two : (first later : Option PlanFault) → first ≡ None → later ≡ None → option_or first later ≡ None
none_of_two None later p q = q
none_of_two (Some fault) later p q = absurd (cc)

no_fault : plan_fault plan ≡ None
no_fault = none_of_two (row_fault plan) _ no_row_fault (none_of_two (repeat_fault plan) _ no_repeat (none_of_two (wires_fault plan) (ports_fault plan) no_wires_fault no_ports_fault))

is_checked : IsChecked plan
is_checked = checked plan limits no_fault

edge_within : (edge : EdgeId) → is_edge_of plan edge ≡ true → edge.0 < length plan.edges
edge_within edge e = grind (arith, nat_tests, e)

connect_planned : (path : List EdgeId) → list_all (is_edge_of plan) path ≡ true → All (IsPlanned plan) (connect path)
connect_planned [] e = All-nil (IsPlanned plan)
connect_planned (from ∷ []) e = All-nil (IsPlanned plan)
connect_planned (from ∷ to ∷ []) e =
    let first = and_parts (is_edge_of plan from) _ e in
    let second = and_parts (is_edge_of plan to) _ first.1 in
    All-cons (IsPlanned plan) (One (Connect from to)) [] (edge_within from first.0, edge_within to second.0) (All-nil (IsPlanned plan))
connect_planned (from ∷ to ∷ more ∷ rest) e = All-nil (IsPlanned plan)

connects_planned : (rows : List WirePlan) → All (IsWireOf plan) rows → All (IsPlanned plan) (connect_commands rows)
connects_planned [] all = All-nil (IsPlanned plan)
connects_planned (row ∷ rows) all =
    All-append (IsPlanned plan) (connect row.path) (connect_commands rows) (connect_planned row.path (All-head (IsWireOf plan) row rows all).edges)
    (connects_planned rows (All-tail (IsWireOf plan) row rows all))

-- a frame is as long, whether it goes to everybody or to a station
either_length : (to_all : Bool) (from to : ℕ) → length (((if to_all then 255 ∷ 255 ∷ 255 ∷ 255 ∷ 255 ∷ 255 ∷ [] else station to) ++ station from) ++ probe_payload) ≡ 60
unfolding probe_payload
either_length true from to = refl
either_length false from to = refl

frame_length : (from to : ℕ) → length (frame from to) ≡ 60
unfolding frame
frame_length from to = either_length (to == 0) from to

drawn_within : (number : ℕ) → drawn 16 number < length plan.circuits
unfolding drawn
drawn_within number = omega (arith, circuit_count)

frames_planned : (count number : ℕ) → All (IsPlanned plan) (frames_from count number)
frames_planned zero number = All-nil (IsPlanned plan)
frames_planned (suc count) number =
    let first = next_number number in
    let second = next_number first in
    let size = frame_length (drawn 16 first + 1) (drawn 17 second) in
    let rest = frames_planned count second in
    let flows : All (IsPlanned plan) (Flow 1000 ∷ frames_from count second) = All-cons (IsPlanned plan) (Flow 1000) (frames_from count second) (omega arith, omega arith) rest in
    All-cons (IsPlanned plan) (One (Frame (record { 0 = drawn 16 first }) (frame (drawn 16 first + 1) (drawn 17 second)))) (Flow 1000 ∷ frames_from count second)
    (drawn_within first, omega (arith, size)) flows

wires_are : All (IsWireOf plan) wires
unfolding plan
wires_are = is_checked.wires

are_planned : (seed : ℕ) → All (IsPlanned plan) (commands wires seed)
unfolding commands
are_planned seed =
    let settled : All (IsPlanned plan) (Settle 10000 ∷ []) = All-cons (IsPlanned plan) (Settle 10000) [] (omega arith, omega arith) (All-nil (IsPlanned plan)) in
    let connected = All-append (IsPlanned plan) (connect_commands wires) (Settle 10000 ∷ []) (connects_planned wires wires_are) settled in
    All-append (IsPlanned plan) (connect_commands wires ++ Settle 10000 ∷ []) (frames_from 2000 seed) connected (frames_planned 2000 seed)

-- the wires of the network
rehearsed_wires : plan.wires ≡ wires
unfolding plan
rehearsed_wires = refl

abbrev scenario_of : Plan → List Command → Scenario
scenario_of network made = record { plan = network; commands = made }

-- the network and its commands are the scenario
pub made_of : (network : Plan) (made : List Command) (seed : ℕ) → network ≡ plan → made ≡ commands network.wires seed → scenario_of network made ≡ rehearsal seed
unfolding rehearsal
made_of network made seed is e =
    let all : made ≡ commands wires seed = e ∙ (ap (λ (p : Plan). commands p.wires seed) is ∙ ap (λ (rows : List WirePlan). commands rows seed) rehearsed_wires) in
    λ i. record { plan = is i; commands = all i }

pub checked_of : (network : Plan) → network ≡ plan → IsChecked network
checked_of network is = subst (λ (p : Plan). IsChecked p) (sym is) is_checked

pub planned_of : (network : Plan) (made : List Command) (seed : ℕ) → network ≡ plan → made ≡ commands network.wires seed → All (IsPlanned network) made
planned_of network made seed is e =
    let all : made ≡ commands wires seed = e ∙ (ap (λ (p : Plan). commands p.wires seed) is ∙ ap (λ (rows : List WirePlan). commands rows seed) rehearsed_wires) in
    rw all (subst (λ (p : Plan). All (IsPlanned p) (commands wires seed)) (sym is) (are_planned seed))
