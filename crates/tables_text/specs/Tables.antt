-- What every edge of a network holds, as text: a line for each edge, and behind it a line for its session with each neighbour, for
-- each of its ends, and for each address that it has learned.
use Rattle.std.specs.Prelude.{◌+◌, ◌++◌, codes, ℕ, List, [], ◌∷◌, Option, Some, None, option_map, slice_get, if◌then◌else◌}
use Rattle.std.specs.Fmt.{decimal}
use Rattle.net_base.specs.declared.plan.Plan.{Plan}
use Rattle.net_base.specs.declared.plan.edge_plan.EdgePlan.{EdgePlan}
use Rattle.net_base.specs.declared.plan.service_plan.ServicePlan.{ServicePlan}
use Rattle.net_base.specs.declared.plan.places.EdgeId.{EdgeId}
use Rattle.net_base.specs.plan.Paths.{are_joined}
use Rattle.mac_table.specs.declared.mac_entry.MacEntry.{MacEntry}
use Rattle.hvpls_spokes.specs.declared.port.Port.{Port}
use Rattle.hvpls_spokes.specs.declared.port.Port.TheVariants as port
use Rattle.hvpls_spokes.specs.Port.{ports_of}
use Rattle.pw_signalling.specs.declared.binding.Binding.{Binding}
use Rattle.pw_signalling.specs.End.{LocalPart, Idle, Advertised, Withdrawing}
use Rattle.peer_dialogue.specs.Peering.{session_name}
use Rattle.edge_model.specs.declared.end_place.EndPlace.{EndPlace}
use Rattle.edge_model.specs.EndPlaces.{end_places}
use Rattle.edge_model.specs.Ends.{is_stitched}
use Rattle.edge_model.specs.Role.{down_at}
use Rattle.edge_model.specs.State.{EdgeState, addresses_of, end_at}
use Rattle.network_model.specs.State.{NetworkState, edge_at}
use Rattle.line_shapes.specs.Words.{circuit_name, edge_name, name_or_empty, state_name, wire_end_name, wire_name}
use Rattle.tables_text.specs.Addresses.{by_address}
use Rattle.text_lines.specs.Lines.{line_of}
use Rattle.text_pieces.specs.Pieces.{hex}

-- the label that an edge gives next
abbrev pub edge_words : Plan → EdgeId → EdgeState → List (List ℕ)
edge_words plan me edge = edge_name plan me ∷ (codes "next=" ++ decimal edge.next_label) ∷ []

abbrev pub edge_line : Plan → EdgeId → EdgeState → List ℕ
edge_line plan me edge = line_of (codes "edge" ∷ edge_words plan me edge)

-- its session with a peer
abbrev pub session_words : Plan → EdgeState → EdgeId → List (List ℕ)
session_words plan edge peer = edge_name plan peer ∷ state_name (session_name (edge.peering peer.0)) ∷ []

abbrev pub session_line : Plan → EdgeState → EdgeId → List ℕ
session_line plan edge peer = line_of (codes "session" ∷ session_words plan edge peer)

-- those with the peers of the rows from a place on, where a segment joins the two edges
abbrev pub session_lines : Plan → EdgeId → EdgeState → ℕ → List EdgePlan → List ℕ
session_lines plan me edge peer [] = []
session_lines plan me edge peer (row ∷ rows) =
    (if are_joined plan me.0 peer then session_line plan edge (record { 0 = peer }) else []) ++ session_lines plan me edge (peer + 1) rows

-- what an end tells: nothing, a label, or one that it withdraws
abbrev pub local_text : LocalPart → List ℕ
local_text (Idle declined) = codes "-"
local_text (Advertised label told) = decimal label
local_text (Withdrawing label) = decimal label ++ codes "!"

-- what it holds of its peer: nothing, or a label
abbrev pub remote_text : Option Binding → List ℕ
remote_text None = codes "-"
remote_text (Some binding) = decimal binding.label

-- a terminal end forwards, or does not for a cause; a switching point is stitched or not (RFC 6073 section 4)
abbrev pub end_text : Plan → EdgeState → EndPlace → List ℕ
end_text plan edge place =
    if place.terminal then wire_end_name (down_at plan edge place) else if is_stitched plan edge place.wire then codes "stitched" else codes "open"

-- an end: its wire and segment, the edge beside it, both labels, and whether it forwards
abbrev pub end_words : Plan → EdgeState → EndPlace → List (List ℕ)
end_words plan edge place =
    wire_name plan place.wire
    ∷ decimal place.segment
    ∷ edge_name plan place.peer
    ∷ local_text (end_at edge place).local
    ∷ remote_text (end_at edge place).remote
    ∷ end_text plan edge place ∷ []

abbrev pub end_line : Plan → EdgeState → EndPlace → List ℕ
end_line plan edge place = line_of (codes "end" ∷ end_words plan edge place)

abbrev pub end_lines : Plan → EdgeState → List EndPlace → List ℕ
end_lines plan edge [] = []
end_lines plan edge (place ∷ places) = end_line plan edge place ++ end_lines plan edge places

-- a port by the name of its circuit or wire
abbrev pub port_name : Plan → Option Port → List ℕ
port_name plan None = []
port_name plan (Some (port.Circuit circuit)) = circuit_name plan circuit
port_name plan (Some (port.Mesh wire)) = wire_name plan wire
port_name plan (Some (port.Spoke wire)) = wire_name plan wire

-- an address of a service: the port behind which it was learned, and the tick of its last frame
abbrev pub address_words : Plan → List ℕ → List Port → MacEntry → List (List ℕ)
address_words plan service ports entry =
    service ∷ hex entry.address.0 ∷ port_name plan (slice_get ports entry.port) ∷ decimal entry.tick ∷ []

abbrev pub address_line : Plan → List ℕ → List Port → MacEntry → List ℕ
address_line plan service ports entry = line_of (codes "mac" ∷ address_words plan service ports entry)

abbrev pub address_lines : Plan → List ℕ → List Port → List MacEntry → List ℕ
address_lines plan service ports [] = []
address_lines plan service ports (entry ∷ entries) = address_line plan service ports entry ++ address_lines plan service ports entries

-- the addresses of a service; where it has no port, nothing was learned
abbrev pub service_text : Plan → List ℕ → List Port → List MacEntry → List ℕ
service_text plan service [] entries = []
service_text plan service (port ∷ ports) entries = address_lines plan service (port ∷ ports) (by_address entries)

-- the name of the service at a place, or the empty text
abbrev pub service_name : Plan → ℕ → List ℕ
service_name plan service = name_or_empty (option_map (λ row. row.name) (slice_get plan.services service))

-- those of the services of the rows from a place on
abbrev pub service_lines : Plan → EdgeId → EdgeState → ℕ → List ServicePlan → List ℕ
service_lines plan me edge service [] = []
service_lines plan me edge service (row ∷ rows) =
    service_text plan row.name (ports_of plan (record { 0 = service }) me) (addresses_of edge (record { 0 = service })) ++ service_lines plan me edge (service + 1) rows

-- all that is told of one edge
unfoldable pub edge_text : Plan → EdgeId → EdgeState → List ℕ
edge_text plan me edge =
    edge_line plan me edge ++ (session_lines plan me edge 0 plan.edges ++ (end_lines plan edge (end_places plan me) ++ service_lines plan me edge 0 plan.services))

-- the same of the edges of the rows from a place on
abbrev pub edge_texts : Plan → NetworkState → ℕ → List EdgePlan → List ℕ
edge_texts plan network me [] = []
edge_texts plan network me (row ∷ rows) = edge_text plan (record { 0 = me }) (edge_at network (record { 0 = me })) ++ edge_texts plan network (me + 1) rows

-- the whole text, edge by edge
unfoldable pub tables : Plan → NetworkState → List ℕ
tables plan network = edge_texts plan network 0 plan.edges
