-- A circuit is turned on or off.
use Rattle.std.specs.Prelude.{◌&&◌, not, Bool, true, false, Option, Some, None, if◌then◌else◌}
use Rattle.net_base.specs.declared.plan.Plan.{Plan}
use Rattle.net_base.specs.declared.plan.circuit_plan.CircuitPlan.{CircuitPlan}
use Rattle.net_base.specs.declared.plan.places.CircuitId.{CircuitId}
use Rattle.pw_messages.specs.LinkAnswers.{Answers}
use Rattle.edge_model.specs.Frame.{is_own, port_at}
use Rattle.edge_model.specs.Mend.{mends}
use Rattle.edge_model.specs.State.{EdgeState, addresses_of, is_on, with_addresses, with_circuit, without_port}
use Rattle.edge_model.specs.Work.{Work, changes, idles}

-- the edge with the circuit on, or with it off and without what was learned at it
abbrev pub turned : Plan → CircuitId → CircuitPlan → Bool → EdgeState → EdgeState
turned plan circuit row true edge = with_circuit circuit true edge
turned plan circuit row false edge =
    with_addresses row.service (without_port (port_at plan edge circuit row) (addresses_of edge row.service)) (with_circuit circuit false edge)

-- both on, or both off
abbrev pub is_same : Bool → Bool → Bool
is_same true now = now
is_same false now = not now

-- the input `Circuit`: it applies at a circuit of the edge that is not so already; then the edge mends its ends
abbrev pub circuit_input : Plan → Answers → CircuitId → Bool → Option CircuitPlan → Work → Work
circuit_input plan told circuit on None work = idles work
circuit_input plan told circuit on (Some row) work =
    if is_own work.edge row && not (is_same on (is_on work.edge circuit))
    then mends plan told (changes (turned plan circuit row on) work)
    else idles work
