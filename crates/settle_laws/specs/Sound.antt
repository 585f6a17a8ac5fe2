-- When a wire and a service are sound: by the plan, by which wires are on, by failure bits, and by which connections stand. Nothing that
-- was signalled is looked at.
use Rattle.std.specs.Prelude.{◌==◌, ◌&&◌, ◌||◌, not, map, ℕ, Bool, true, false, List, [], ◌∷◌, Option, Some, None, length, option_and_then, option_map, slice_get}
use Rattle.net_base.specs.declared.plan.Plan.{Plan}
use Rattle.net_base.specs.declared.plan.offer.Offer.{Offer}
use Rattle.net_base.specs.declared.plan.places.EdgeId.{EdgeId}
use Rattle.net_base.specs.declared.plan.places.ServiceId.{ServiceId}
use Rattle.net_base.specs.declared.plan.places.WireId.{WireId}
use Rattle.net_base.specs.declared.plan.wire_plan.WirePlan.{WirePlan}
use Rattle.net_base.specs.plan.Paths.{is_first, is_last}
use Rattle.net_base.specs.plan.Places.{is_mesh_class, wire_row}
use Rattle.net_base.specs.plan.Roles.{all_below, any_wire, is_core_edge, is_mesh_of, is_spoke_edge, is_spoke_from}
use Rattle.pw_signalling.specs.Down.{differ, mtus_differ}
use Rattle.spoke_redundancy.specs.declared.spoke.Spoke.{Spoke}
use Rattle.spoke_redundancy.specs.Choice.{chosen}
use Rattle.edge_model.specs.declared.end_place.EndPlace.{EndPlace}
use Rattle.edge_model.specs.Role.{is_chosen_wire}
use Rattle.edge_model.specs.Spokes.{spoke_places}
use Rattle.network_model.specs.State.{NetworkState, stands}

-- both ends of the connection between two edges stand
abbrev pub are_connected : NetworkState → ℕ → ℕ → Bool
are_connected network a b = stands network a b && stands network b a

-- each two neighbours on a path are connected so
abbrev pub is_connected : NetworkState → List EdgeId → Bool
is_connected network [] = true
is_connected network (last ∷ []) = true
is_connected network (first ∷ next ∷ rest) = are_connected network first.0 next.0 && is_connected network (next ∷ rest)

-- the wire is on at each edge of a path
abbrev pub is_on_along : NetworkState → ℕ → List EdgeId → Bool
is_on_along network wire [] = true
is_on_along network wire (edge ∷ rest) = (network.edges edge.0).wire_on wire && is_on_along network wire rest

-- the end of a wire at an edge has no failure bits (RFC 4446 section 3.5)
abbrev pub is_clear : NetworkState → ℕ → EdgeId → Bool
is_clear network wire edge = (network.edges edge.0).bits wire == 0

-- so it is at the first edge of a path, and at the last one
abbrev pub first_is_clear : NetworkState → ℕ → List EdgeId → Bool
first_is_clear network wire [] = false
first_is_clear network wire (first ∷ rest) = is_clear network wire first

abbrev pub last_is_clear : NetworkState → ℕ → List EdgeId → Bool
last_is_clear network wire [] = false
last_is_clear network wire (last ∷ []) = is_clear network wire last
last_is_clear network wire (first ∷ next ∷ rest) = last_is_clear network wire (next ∷ rest)

-- two offers agree: both use a control word or neither does, both are in one mode, and both have one MTU where both tell one (RFC 8077
-- sections 6.1, 6.4 and 7)
abbrev pub do_agree : Offer → Offer → Bool
do_agree near far = not (differ near.cword far.cword) && (not (differ near.tagged far.tagged) && not (mtus_differ near.mtu far.mtu))

-- a wire with this row is sound: it is on everywhere, its neighbours are connected, both its ends are clear, and its offers agree
abbrev pub is_sound : NetworkState → ℕ → WirePlan → Bool
is_sound network wire row =
    (is_on_along network wire row.path && is_connected network row.path)
    && ((first_is_clear network wire row.path && last_is_clear network wire row.path) && do_agree row.near row.far)

-- the wire is a sound mesh wire between two edges
abbrev pub is_sound_mesh : NetworkState → ServiceId → ℕ → ℕ → ℕ → WirePlan → Bool
is_sound_mesh network service a b wire row =
    (is_mesh_of service row && ((is_first a row.path && is_last b row.path) || (is_first b row.path && is_last a row.path))) && is_sound network wire row

-- each two core edges have such a wire
abbrev pub has_sound_meshes : Plan → NetworkState → ServiceId → Bool
has_sound_meshes plan network service =
    all_below (length plan.edges) (λ a. all_below (length plan.edges) (λ b.
    not (is_core_edge plan service a && is_core_edge plan service b) || (a == b || any_wire (is_sound_mesh network service a b) 0 plan.wires)))

-- the wire is a sound spoke of a spoke edge
abbrev pub is_sound_spoke : NetworkState → ServiceId → ℕ → ℕ → WirePlan → Bool
is_sound_spoke network service edge wire row = is_spoke_from service edge row && is_sound network wire row

-- each spoke edge has one, or more
abbrev pub has_sound_spokes : Plan → NetworkState → ServiceId → Bool
has_sound_spokes plan network service =
    all_below (length plan.edges) (λ edge. not (is_spoke_edge plan service edge) || any_wire (is_sound_spoke network service edge) 0 plan.wires)

-- a service is sound: its core edges are joined by sound mesh wires, and its spoke edges by sound spokes
abbrev pub is_sound_service : Plan → NetworkState → ServiceId → Bool
is_sound_service plan network service = has_sound_meshes plan network service && has_sound_spokes plan network service

-- ---- which spoke is used

-- a wire is sound, where it has a row
abbrev pub is_sound_row : NetworkState → ℕ → Option WirePlan → Bool
is_sound_row network wire None = false
is_sound_row network wire (Some row) = is_sound network wire row

-- a spoke as its spoke edge would choose by: it can be chosen where it is sound
abbrev pub sound_spoke_at : Plan → NetworkState → ℕ → EndPlace → Spoke
sound_spoke_at plan network edge place = record { priority = (network.edges edge).priority place.wire.0; usable = is_sound_row network place.wire.0 (wire_row plan place.wire) }

-- the wire of the spoke that a spoke edge chooses among its sound ones: the first with the least priority number (RFC 6870)
abbrev pub sound_choice : Plan → NetworkState → ServiceId → ℕ → Option WireId
sound_choice plan network service edge =
    option_map (λ place. place.wire)
    (option_and_then (slice_get (spoke_places plan (record { 0 = edge }) service)) (chosen (map (sound_spoke_at plan network edge) (spoke_places plan (record { 0 = edge }) service))))

-- the first edge of a path chooses the wire among its sound spokes
abbrev pub is_first_choice : Plan → NetworkState → WireId → WirePlan → List EdgeId → Bool
is_first_choice plan network wire row [] = false
is_first_choice plan network wire row (first ∷ rest) = is_chosen_wire wire (sound_choice plan network row.service first.0)

-- a sound wire is used: a mesh wire always, a spoke where its spoke edge chooses it
abbrev pub is_used : Plan → NetworkState → WireId → WirePlan → Bool
is_used plan network wire row = is_mesh_class row.class || is_first_choice plan network wire row row.path
