-- What a switching point has on the other side of one of its ends: the neighbour there, and what it holds from it (RFC 6073 section
-- 4).
use Rattle.std.specs.Prelude.{ℕ, Option, Some, None}
use Rattle.std.specs.List.{find}
use Rattle.net_base.specs.declared.plan.Plan.{Plan}
use Rattle.net_base.specs.declared.plan.places.EdgeId.{EdgeId}
use Rattle.net_base.specs.declared.plan.places.WireId.{WireId}
use Rattle.net_base.specs.declared.plan.wire_plan.WirePlan.{WirePlan}
use Rattle.net_base.specs.plan.Paths.{mate}
use Rattle.net_base.specs.plan.Places.{wire_row}
use Rattle.pw_signalling.specs.declared.binding.Binding.{Binding}
use Rattle.edge_model.specs.declared.end_place.EndPlace.{EndPlace}
use Rattle.edge_model.specs.EndPlaces.{end_places, is_at}
use Rattle.edge_model.specs.State.{EdgeState}

-- the neighbour on the other side of an end; none at a terminal edge
abbrev pub mate_of : EdgeId → EndPlace → Option WirePlan → Option EdgeId
mate_of me place None = None
mate_of me place (Some row) = mate row me.0 place.peer.0

-- what an edge holds of a wire, by the neighbours
abbrev pub held_of : EdgeState → WireId → ℕ → Option Binding
held_of edge wire peer = (edge.ends wire.0 peer).remote

-- what is held of this neighbour, where there is one
abbrev pub held_from : (ℕ → Option Binding) → Option EdgeId → Option Binding
held_from held None = None
held_from held (Some peer) = held peer.0

-- what the edge holds on the other side of an end
abbrev pub held_beyond : Plan → EdgeState → EndPlace → Option Binding
held_beyond plan edge place = held_from (held_of edge place.wire) (mate_of edge.me place (wire_row plan place.wire))

-- the end of a wire beside a neighbour, where there is one
abbrev pub end_beside : Plan → EdgeId → WireId → Option EdgeId → Option EndPlace
end_beside plan me wire None = None
end_beside plan me wire (Some peer) = find (is_at wire.0 peer.0) (end_places plan me)

-- the end on the other side of an end
abbrev pub end_beyond : Plan → EdgeId → EndPlace → Option EndPlace
end_beyond plan me place = end_beside plan me place.wire (mate_of me place (wire_row plan place.wire))
