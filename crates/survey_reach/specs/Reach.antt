-- Whom each edge would reach, worked out service by service: first which wires would be sound, then the core edge of each edge, and the
-- core edges that would be meshed.
use Rattle.std.specs.Prelude.{◌≡◌, ◌<◌, ◌==◌, ◌&&◌, ◌||◌, nat_lt, ℕ, Bool, false, List, [], length, Option, Some, None, IfSome, option_and_then, option_map, slice_get, slice_index_or}
use Rattle.net_base.specs.declared.plan.Plan.{Plan}
use Rattle.net_base.specs.declared.plan.places.EdgeId.{EdgeId}
use Rattle.net_base.specs.declared.plan.places.ServiceId.{ServiceId}
use Rattle.net_base.specs.plan.Roles.{any_wire, is_mesh_of, is_spoke_edge}
use Rattle.net_base.specs.plan.Paths.{is_first, is_last}
use Rattle.net_base.specs.declared.plan.wire_plan.WirePlan.{WirePlan}
use Rattle.net_base.specs.plan.Places.{wire_row}
use Rattle.spoke_redundancy.specs.declared.spoke.Spoke.{Spoke}
use Rattle.spoke_redundancy.specs.Choice.{chosen}
use Rattle.edge_model.specs.declared.end_place.EndPlace.{EndPlace}
use Rattle.edge_model.specs.Spokes.{spoke_places}
use Rattle.network_model.specs.State.{NetworkState}
use Rattle.survey_laws.specs.declared.fault.Fault.{Fault}
use Rattle.survey_laws.specs.Faults.{number_after}
use Rattle.survey_laws.specs.Would.{last_of, would_core, would_reach, would_sound_row}
use Rattle.survey_reach.specs.declared.reach.Reaching.{Reaching}
use Rattle.survey_reach.specs.declared.shape.Shape.{Shape}
use Rattle.survey_reach.specs.Ground.{number_of}
use Rattle.survey_reach.specs.Rows.{IsFilled}
use Rattle.survey_reach.specs.Words.{has_pair}

-- a wire would be sound, by its place
abbrev pub would_be_sound : Plan → NetworkState → List Fault → ℕ → Bool
would_be_sound plan before faults wire = would_sound_row before faults wire (slice_get plan.wires wire)

-- faults have befallen the ground: of each wire it is worked out whether it would be sound
abbrev pub HasBefallen : Plan → NetworkState → List Fault → Reaching → Type 0
HasBefallen plan before faults reaching = IsFilled (would_be_sound plan before faults) false (length plan.wires) reaching.sound.items

-- the spokes of a service that start at an edge
abbrev pub spokes_at : Plan → ServiceId → ℕ → List EndPlace
spokes_at plan service edge = spoke_places plan (record { 0 = edge }) service

-- what the plan says of a service: its spokes by the edges at which they start
pub record IsShapeOf (plan : Plan) (asked : ServiceId) (shape : Shape) : Type 0 where
  pub same : shape.service ≡ asked
  pub starts : IsFilled (is_spoke_edge plan asked) false (length plan.edges) shape.starts
  pub spokes : IsFilled (spokes_at plan asked) [] (length plan.edges) shape.spokes

-- an edge by its place
abbrev pub place_of : Option EdgeId → Option ℕ
place_of core = option_map (λ edge. edge.0) core

-- a spoke by the numbers that the ground has
abbrev pub spoke_by : Plan → NetworkState → List Fault → EndPlace → Spoke
spoke_by plan before faults place = record {
  priority = number_after place.wire.0 faults (number_of plan before place.wire.0);
  usable = would_be_sound plan before faults place.wire.0;
}

-- the last edge of the spoke that is chosen among some
abbrev pub home_among : Plan → List Spoke → List EndPlace → Option ℕ
home_among plan spokes places =
    option_and_then (λ wire. last_of (wire_row plan wire)) (option_map (λ place. place.wire) (option_and_then (slice_get places) (chosen spokes)))

-- each core edge is one of 64
pub record AreFew (cores : List (Option EdgeId)) : Type 0 where
  pub each : (edge : ℕ) → IfSome (slice_index_or cores edge None) (λ core. core.0 < 64)

-- the core edges of so many edges
pub record AreCores (plan : Plan) (before : NetworkState) (faults : List Fault) (service : ServiceId) (count : ℕ) (cores : List (Option EdgeId)) : Type 0 where
  pub all : length cores ≡ count
  pub each : (edge : ℕ) → edge < count → place_of (slice_index_or cores edge None) ≡ would_core plan before faults service edge
  pub few : AreFew cores

-- an edge by its place, where there is one
abbrev pub is_named : ℕ → Option EdgeId → Bool
is_named place None = false
is_named place (Some edge) = place == edge.0

abbrev pub are_named : ℕ → ℕ → Option EdgeId → Option EdgeId → Bool
are_named i j a b = is_named i a && is_named j b

-- a mesh wire of the service between two edges
abbrev pub mesh_row : ServiceId → ℕ → ℕ → WirePlan → Bool
mesh_row service a b row = is_mesh_of service row && ((is_first a row.path && is_last b row.path) || (is_first b row.path && is_last a row.path))

-- one that is sound, by a test of the wires
abbrev pub sound_mesh : (ℕ → Bool) → ServiceId → ℕ → ℕ → ℕ → WirePlan → Bool
sound_mesh sound service a b wire row = mesh_row service a b row && sound wire

-- the pairs of edges that such wires join
pub record AreMeshes (plan : Plan) (sound : ℕ → Bool) (service : ServiceId) (meshes : List ℕ) : Type 0 where
  pub each : (a b : ℕ) → a < 64 → b < 64 → has_pair meshes a b ≡ any_wire (sound_mesh sound service a b) 0 plan.wires

-- an edge of the plan would reach another one
abbrev pub reaches : Plan → NetworkState → List Fault → ServiceId → ℕ → ℕ → Bool
reaches plan before faults service a b = (nat_lt a (length plan.edges) && nat_lt b (length plan.edges)) && would_reach plan before faults service a b
