-- What an edge's end of a wire is to its service, what it tells of its status, and why it does not forward.
use Rattle.std.specs.Prelude.{◌==◌, ℕ, Bool, false, Option, Some, None, if◌then◌else◌}
use Rattle.net_base.specs.declared.plan.Plan.{Plan}
use Rattle.net_base.specs.declared.plan.places.EdgeId.{EdgeId}
use Rattle.net_base.specs.declared.plan.places.WireId.{WireId}
use Rattle.net_base.specs.declared.plan.wire_plan.WirePlan.{WirePlan}
use Rattle.net_base.specs.declared.trace.down.Down.{Down}
use Rattle.net_base.specs.plan.Paths.{is_last}
use Rattle.net_base.specs.plan.Places.{is_mesh_class, wire_row}
use Rattle.pw_tlvs.specs.declared.pw_status.PwStatus.{PwStatus}
use Rattle.pw_status.specs.Status.{combined}
use Rattle.pw_signalling.specs.declared.end_role.EndRole.{EndRole}
use Rattle.pw_signalling.specs.declared.end_role.EndRole.TheVariants as role
use Rattle.pw_signalling.specs.Down.{down}
use Rattle.pw_stitch.specs.Passing.{passed_status}
use Rattle.spoke_redundancy.specs.Telling.{is_not_chosen}
use Rattle.edge_model.specs.Across.{held_beyond}
use Rattle.edge_model.specs.declared.end_place.EndPlace.{EndPlace}
use Rattle.edge_model.specs.State.{EdgeState, end_at}

-- the wire is the one that is chosen
abbrev pub is_chosen_wire : WireId → Option WireId → Bool
is_chosen_wire wire None = false
is_chosen_wire wire (Some chosen) = chosen.0 == wire.0

-- the spoke is the one that is chosen for its service
abbrev pub is_chosen : (ℕ → Option WireId) → WireId → WirePlan → Bool
is_chosen chosen wire row = is_chosen_wire wire (chosen row.service.0)

-- A mesh wire has two equal ends. A spoke ends at its spoke edge, the first of its path, and at its core edge, the last (RFC
-- 4762 section 10.1); a spoke edge forwards by the spoke that it has chosen (RFC 6870)
abbrev pub end_role_of : WirePlan → EdgeId → Bool → EndRole
end_role_of row me chosen =
    if is_mesh_class row.class then role.Mesh
    else if is_last me.0 row.path then role.Core
    else if chosen then role.Chosen
    else role.NotChosen

-- by the row of the wire and the spokes that are chosen
abbrev pub role_in : Option WirePlan → EdgeId → (ℕ → Option WireId) → WireId → EndRole
role_in None me chosen wire = role.Mesh
role_in (Some row) me chosen wire = end_role_of row me (is_chosen chosen wire row)

-- what the edge's end at a place is to its service
abbrev pub role_at : Plan → EdgeState → EndPlace → EndRole
role_at plan edge place = role_in (wire_row plan place.wire) edge.me edge.chosen place.wire

-- the status of a terminal end: its own failure bits, and that it stands by where it was not chosen (RFC 4446 section 3.5, RFC 6870
-- section 5.2)
abbrev pub own_status : Plan → EdgeState → EndPlace → PwStatus
own_status plan edge place = combined (edge.bits place.wire.0) (is_not_chosen (role_at plan edge place))

-- the status that an end tells: a switching point passes on that of its other side (RFC 6073 section 10)
abbrev pub status_to_tell : Plan → EdgeState → EndPlace → PwStatus
status_to_tell plan edge place = if place.terminal then own_status plan edge place else passed_status (held_beyond plan edge place)

-- why an end does not forward
abbrev pub down_at : Plan → EdgeState → EndPlace → Option Down
down_at plan edge place = down (role_at plan edge place) (edge.bits place.wire.0) (end_at edge place)
