-- A wire is put on or off at an edge, and the failure bits of its end there and the priority of a spoke are set.
use Rattle.std.specs.Prelude.{◌==◌, ◌&&◌, not, ℕ, Bool, true, false, Option, Some, None, if◌then◌else◌}
use Rattle.net_base.specs.declared.plan.Plan.{Plan}
use Rattle.net_base.specs.declared.plan.places.EdgeId.{EdgeId}
use Rattle.net_base.specs.declared.plan.places.WireId.{WireId}
use Rattle.net_base.specs.declared.plan.wire_plan.WirePlan.{WirePlan}
use Rattle.net_base.specs.plan.Paths.{is_first}
use Rattle.net_base.specs.plan.Places.{is_mesh_class, wire_row}
use Rattle.pw_messages.specs.LinkAnswers.{Answers}
use Rattle.edge_model.specs.Circuit.{is_same}
use Rattle.edge_model.specs.EndPlaces.{ends_here, passes}
use Rattle.edge_model.specs.Mend.{mends}
use Rattle.edge_model.specs.State.{EdgeState, with_bits, with_priority, with_renewed, with_wire}
use Rattle.edge_model.specs.Work.{Work, changes, idles}

-- the edge with the wire on, whose ends are declined no longer, or with it off
abbrev pub turned_wire : WireId → Bool → EdgeState → EdgeState
turned_wire wire true edge = with_renewed wire (with_wire wire true edge)
turned_wire wire false edge = with_wire wire false edge

-- the input `Wire`: it applies at an edge that the wire passes, where the wire is not so already
abbrev pub wire_input : Plan → Answers → WireId → Bool → Work → Work
wire_input plan told wire on work =
    if passes plan work.edge.me wire && not (is_same on (work.edge.wire_on wire.0))
    then mends plan told (changes (turned_wire wire on) work)
    else idles work

-- the input `Status`: it applies at a terminal edge of the wire that has other bits
abbrev pub status_input : Plan → Answers → WireId → ℕ → Work → Work
status_input plan told wire bits work =
    if ends_here plan work.edge.me wire && not (bits == work.edge.bits wire.0)
    then mends plan told (changes (with_bits wire bits) work)
    else idles work

-- the wire is a spoke that starts at the edge
abbrev pub is_own_spoke : EdgeId → Option WirePlan → Bool
is_own_spoke me None = false
is_own_spoke me (Some row) = not (is_mesh_class row.class) && is_first me.0 row.path

-- the input `Priority`: it applies at the spoke edge of a spoke that has another priority number
abbrev pub priority_input : Plan → Answers → WireId → ℕ → Work → Work
priority_input plan told wire priority work =
    if is_own_spoke work.edge.me (wire_row plan wire) && not (priority == work.edge.priority wire.0)
    then mends plan told (changes (with_priority wire priority) work)
    else idles work
