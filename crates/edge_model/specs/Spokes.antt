-- A spoke edge chooses among its spokes of a service (RFC 6870, RFC 4762 section 10.2.1).
use Rattle.std.specs.Prelude.{is_some, not, Bool, false, List, Option, Some, None, map, filter, option_and_then, option_map, slice_get}
use Rattle.net_base.specs.declared.plan.Plan.{Plan}
use Rattle.net_base.specs.declared.plan.places.EdgeId.{EdgeId}
use Rattle.net_base.specs.declared.plan.places.ServiceId.{ServiceId}
use Rattle.net_base.specs.declared.plan.places.WireId.{WireId}
use Rattle.net_base.specs.declared.plan.wire_plan.WirePlan.{WirePlan}
use Rattle.net_base.specs.plan.Places.{wire_row}
use Rattle.net_base.specs.plan.Roles.{is_spoke_from}
use Rattle.pw_signalling.specs.declared.end_role.EndRole.TheVariants as role
use Rattle.pw_signalling.specs.Down.{down}
use Rattle.spoke_redundancy.specs.declared.spoke.Spoke.{Spoke}
use Rattle.spoke_redundancy.specs.Choice.{chosen}
use Rattle.edge_model.specs.declared.end_place.EndPlace.{EndPlace}
use Rattle.edge_model.specs.EndPlaces.{end_places}
use Rattle.edge_model.specs.State.{EdgeState, end_at, with_chosen}

-- the end is that of a spoke edge of the service
abbrev pub is_spoke_row : ServiceId → EdgeId → Option WirePlan → Bool
is_spoke_row service me None = false
is_spoke_row service me (Some row) = is_spoke_from service me.0 row

-- the edge's ends of the spokes of a service that start at it, in the order of the wires
abbrev pub spoke_places : Plan → EdgeId → ServiceId → List EndPlace
spoke_places plan me service = filter (λ place. is_spoke_row service me (wire_row plan place.wire)) (end_places plan me)

-- the end would forward if its spoke were the chosen one
abbrev pub is_usable : EdgeState → EndPlace → Bool
is_usable edge place = not (is_some (down role.Chosen (edge.bits place.wire.0) (end_at edge place)))

-- a spoke as the choice sees it
abbrev pub spoke_at : EdgeState → EndPlace → Spoke
spoke_at edge place = record { priority = edge.priority place.wire.0; usable = is_usable edge place }

-- the spokes of a service that start at the edge
abbrev pub spokes_of : Plan → EdgeState → ServiceId → List Spoke
spokes_of plan edge service = map (spoke_at edge) (spoke_places plan edge.me service)

-- the wire of the spoke that the edge chooses for a service: of the usable ones the first with the least priority number
abbrev pub choice : Plan → EdgeState → ServiceId → Option WireId
choice plan edge service =
    option_map (λ place. place.wire) (option_and_then (slice_get (spoke_places plan edge.me service)) (chosen (spokes_of plan edge service)))

-- the edge chooses for each service
abbrev pub choosing : Plan → EdgeState → EdgeState
choosing plan edge = with_chosen (λ service. choice plan edge (record { 0 = service })) edge
