-- Where an edge has ends of pseudowires, by the plan: in the order of the wires, and of the segments of each.
use Rattle.std.specs.Prelude.{◌==◌, ◌&&◌, ◌||◌, ◌+◌, ◌++◌, ℕ, Bool, List, [], ◌∷◌, Option, if◌then◌else◌}
use Rattle.std.specs.List.{find, list_any}
use Rattle.net_base.specs.declared.plan.Plan.{Plan}
use Rattle.net_base.specs.declared.plan.places.EdgeId.{EdgeId}
use Rattle.net_base.specs.declared.plan.places.WireId.{WireId}
use Rattle.net_base.specs.declared.plan.wire_plan.WirePlan.{WirePlan}
use Rattle.net_base.specs.plan.Paths.{is_first, is_last}
use Rattle.edge_model.specs.declared.end_place.EndPlace.{EndPlace}

-- the edge is a terminal edge of the wire
abbrev pub is_terminal : WirePlan → EdgeId → Bool
is_terminal row me = is_first me.0 row.path || is_last me.0 row.path

-- the end at one side of a segment, beside the edge at its other side
abbrev pub end_place_at : WireId → WirePlan → EdgeId → ℕ → ℕ → EdgeId → EndPlace
end_place_at wire row me segment side peer = record { wire = wire; peer = peer; pw_id = row.pw_id; segment = segment; side = side; terminal = is_terminal row me }

-- the ends of the edge at a segment between two edges
abbrev pub places_at : WireId → WirePlan → EdgeId → ℕ → EdgeId → EdgeId → List EndPlace
places_at wire row me segment first next =
    if me.0 == first.0 then end_place_at wire row me segment 0 next ∷ []
    else if me.0 == next.0 then end_place_at wire row me segment 1 first ∷ []
    else []

-- those at the segments of the rest of a path, of which the first one has this number
abbrev pub places_along : WireId → WirePlan → EdgeId → ℕ → List EdgeId → List EndPlace
places_along wire row me segment [] = []
places_along wire row me segment (last ∷ []) = []
places_along wire row me segment (first ∷ next ∷ rest) = places_at wire row me segment first next ++ places_along wire row me (segment + 1) (next ∷ rest)

-- those of the wires from a place on
abbrev pub places_from : EdgeId → ℕ → List WirePlan → List EndPlace
places_from me wire [] = []
places_from me wire (row ∷ rows) = places_along (record { 0 = wire }) row me 0 row.path ++ places_from me (wire + 1) rows

-- all ends of the edge
abbrev pub end_places : Plan → EdgeId → List EndPlace
end_places plan me = places_from me 0 plan.wires

-- the end is beside this peer, and of the wire with this PW ID
abbrev pub is_named : EdgeId → ℕ → EndPlace → Bool
is_named peer pw_id place = place.peer.0 == peer.0 && place.pw_id == pw_id

-- an end by the peer and the PW ID (RFC 8077 section 6.1)
abbrev pub end_named : Plan → EdgeId → EdgeId → ℕ → Option EndPlace
end_named plan me peer pw_id = find (is_named peer pw_id) (end_places plan me)

-- the end of a wire beside a neighbour
abbrev pub is_at : ℕ → ℕ → EndPlace → Bool
is_at wire peer place = wire == place.wire.0 && peer == place.peer.0

-- the wire passes the edge
abbrev pub is_of_wire : WireId → EndPlace → Bool
is_of_wire wire place = place.wire.0 == wire.0

abbrev pub passes : Plan → EdgeId → WireId → Bool
passes plan me wire = list_any (is_of_wire wire) (end_places plan me)

-- the edge is a terminal edge of the wire
abbrev pub is_end_of_wire : WireId → EndPlace → Bool
is_end_of_wire wire place = is_of_wire wire place && place.terminal

abbrev pub ends_here : Plan → EdgeId → WireId → Bool
ends_here plan me wire = list_any (is_end_of_wire wire) (end_places plan me)
