-- The ends of wires at an edge: which one is terminal, and whether it forwards (RFC 4762 section 4, RFC 8077 section 6).
use Rattle.std.specs.Prelude.{◌||◌, not, Bool, true, false, Option, Some, None}
use Rattle.std.specs.List.{find, list_all}
use Rattle.net_base.specs.declared.plan.Plan.{Plan}
use Rattle.net_base.specs.declared.plan.places.EdgeId.{EdgeId}
use Rattle.net_base.specs.declared.plan.places.WireId.{WireId}
use Rattle.net_base.specs.declared.trace.down.Down.{Down}
use Rattle.pw_stitch.specs.Stitch.{is_joined_end}
use Rattle.edge_model.specs.declared.end_place.EndPlace.{EndPlace}
use Rattle.edge_model.specs.EndPlaces.{end_places, is_end_of_wire, is_of_wire}
use Rattle.edge_model.specs.Role.{down_at}
use Rattle.edge_model.specs.State.{EdgeState, end_at}

-- the edge's end of a wire of which it is a terminal edge
abbrev pub wire_end : Plan → EdgeId → WireId → Option EndPlace
wire_end plan me wire = find (is_end_of_wire wire) (end_places plan me)

-- without a cause the end forwards
abbrev pub is_up : Option Down → Bool
is_up None = true
is_up (Some cause) = false

-- the end at this place, where there is one, forwards
abbrev pub forwards_at : Plan → EdgeState → Option EndPlace → Bool
forwards_at plan edge None = false
forwards_at plan edge (Some place) = is_up (down_at plan edge place)

-- the edge's terminal end of a wire forwards
abbrev pub end_forwards : Plan → EdgeState → WireId → Bool
end_forwards plan edge wire = forwards_at plan edge (wire_end plan edge.me wire)

-- an end of the wire advertises its label, and is bound
abbrev pub is_joined_place : EdgeState → WireId → EndPlace → Bool
is_joined_place edge wire place = not (is_of_wire wire place) || is_joined_end (end_at edge place)

-- the edge, a switching point of the wire, has both sides advertised and bound (RFC 6073 section 4)
abbrev pub is_stitched : Plan → EdgeState → WireId → Bool
is_stitched plan edge wire = list_all (is_joined_place edge wire) (end_places plan edge.me)
