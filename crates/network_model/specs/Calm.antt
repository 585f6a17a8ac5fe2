-- When a service is quiet, full and calm.
use Rattle.std.specs.Prelude.{◌==◌, ◌&&◌, ◌||◌, not, ℕ, Bool, true, false, List, [], ◌∷◌, length}
use Rattle.net_base.specs.declared.plan.Plan.{Plan}
use Rattle.net_base.specs.declared.plan.wire_plan.WirePlan.{WirePlan}
use Rattle.net_base.specs.declared.plan.places.EdgeId.{EdgeId}
use Rattle.net_base.specs.declared.plan.places.ServiceId.{ServiceId}
use Rattle.edge_model.specs.Ends.{end_forwards, is_stitched}
use Rattle.network_model.specs.State.{NetworkState, held, stands}
use Rattle.net_base.specs.plan.Paths.{is_first, is_last}
use Rattle.net_base.specs.plan.Roles.{all_below, are_joined_by, is_mesh_of, is_spoke_from, any_wire, count_wires, is_core_edge, is_spoke_edge}

-- nothing is on its way from an edge to another one, and the other one holds no rest
abbrev pub is_drained : NetworkState → ℕ → ℕ → Bool
is_drained network from to = length (network.pipes from to) == 0 && length (held network to from) == 0

-- neither end of the connection stands, or both stand and nothing is on its way
abbrev pub is_settled : NetworkState → ℕ → ℕ → Bool
is_settled network a b =
    (not (stands network a b) && not (stands network b a))
    || ((stands network a b && stands network b a) && (is_drained network a b && is_drained network b a))

-- Quiet: nothing is on its way between two edges that the service joins
abbrev pub is_quiet : Plan → NetworkState → ServiceId → Bool
is_quiet plan network service =
    all_below (length plan.edges) (λ a. all_below (length plan.edges) (λ b.
    not (are_joined_by plan service a b) || is_settled network a b))

-- the switching points of a path, those between its ends, have both sides advertised and bound
abbrev pub inner_stitched : Plan → NetworkState → ℕ → List EdgeId → Bool
inner_stitched plan network wire [] = true
inner_stitched plan network wire (last ∷ []) = true
inner_stitched plan network wire (point ∷ next ∷ rest) =
    is_stitched plan (network.edges point.0) (record { 0 = wire }) && inner_stitched plan network wire (next ∷ rest)

-- the switching points of the whole path do
abbrev pub is_joined_up : Plan → NetworkState → ℕ → List EdgeId → Bool
is_joined_up plan network wire [] = false
is_joined_up plan network wire (first ∷ rest) = inner_stitched plan network wire rest

-- the last edge of a path forwards
abbrev pub last_forwards : Plan → NetworkState → ℕ → List EdgeId → Bool
last_forwards plan network wire [] = false
last_forwards plan network wire (last ∷ []) = end_forwards plan (network.edges last.0) (record { 0 = wire })
last_forwards plan network wire (first ∷ next ∷ rest) = last_forwards plan network wire (next ∷ rest)

abbrev pub first_forwards : Plan → NetworkState → ℕ → List EdgeId → Bool
first_forwards plan network wire [] = false
first_forwards plan network wire (first ∷ rest) = end_forwards plan (network.edges first.0) (record { 0 = wire })

-- the wire forwards at both terminal edges, and is stitched between them
abbrev pub carries : Plan → NetworkState → ℕ → WirePlan → Bool
carries plan network wire row = (first_forwards plan network wire row.path && last_forwards plan network wire row.path) && is_joined_up plan network wire row.path

-- a mesh wire between the two edges that carries frames
abbrev pub meshes : Plan → NetworkState → ServiceId → ℕ → ℕ → ℕ → WirePlan → Bool
meshes plan network service a b wire row =
    (is_mesh_of service row && ((is_first a row.path && is_last b row.path) || (is_first b row.path && is_last a row.path))) && carries plan network wire row

-- Full: each two core edges have a mesh wire that carries frames (RFC 4762 section 4.4)
abbrev pub is_full : Plan → NetworkState → ServiceId → Bool
is_full plan network service =
    all_below (length plan.edges) (λ a. all_below (length plan.edges) (λ b.
    not (is_core_edge plan service a && is_core_edge plan service b) || (a == b || any_wire (meshes plan network service a b) 0 plan.wires)))

-- the spoke of the edge that carries frames
abbrev pub is_live_spoke : Plan → NetworkState → ServiceId → ℕ → ℕ → WirePlan → Bool
is_live_spoke plan network service edge wire row = is_spoke_from service edge row && carries plan network wire row

-- each spoke edge has exactly one spoke that carries frames (RFC 4762 section 10.2)
abbrev pub has_live_spokes : Plan → NetworkState → ServiceId → Bool
has_live_spokes plan network service =
    all_below (length plan.edges) (λ edge. not (is_spoke_edge plan service edge) || count_wires (is_live_spoke plan network service edge) 0 plan.wires == 1)

-- Calm: quiet, full, and each spoke edge with exactly one spoke that carries frames
abbrev pub is_calm : Plan → NetworkState → ServiceId → Bool
is_calm plan network service = (is_quiet plan network service && is_full plan network service) && has_live_spokes plan network service
