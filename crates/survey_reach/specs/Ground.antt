-- The ground: what of a network's state decides whom a frame reaches once all has settled.
use Rattle.std.specs.Prelude.{◌≡◌, ◌&&◌, is_some, nat_lt, ℕ, Bool, false, List, [], ◌∷◌, length, Option, Some, None, slice_get}
use Rattle.net_base.specs.declared.plan.Plan.{Plan}
use Rattle.net_base.specs.declared.plan.places.EdgeId.{EdgeId}
use Rattle.net_base.specs.declared.plan.wire_plan.WirePlan.{WirePlan}
use Rattle.edge_model.specs.Labels.{label_to_give}
use Rattle.network_model.specs.Reach.{is_circuit_on}
use Rattle.network_model.specs.State.{NetworkState}
use Rattle.settle_laws.specs.Sound.{are_connected, is_sound_row}
use Rattle.survey_reach.specs.declared.ground.Ground.{Ground}
use Rattle.survey_reach.specs.Rows.{IsFilled}
use Rattle.survey_reach.specs.Words.{has_pair}

-- the priority number of a wire at the first edge of its path
abbrev pub number_at : NetworkState → ℕ → List EdgeId → ℕ
number_at network wire [] = 0
number_at network wire (first ∷ rest) = (network.edges first.0).priority wire

abbrev pub number_of_row : NetworkState → ℕ → Option WirePlan → ℕ
number_of_row network wire None = 0
number_of_row network wire (Some row) = number_at network wire row.path

-- by the places of the plan: which wires are sound, their numbers, which circuits are on, and which edges have a label to give
abbrev pub sound_at : Plan → NetworkState → ℕ → Bool
sound_at plan network wire = is_sound_row network wire (slice_get plan.wires wire)

abbrev pub number_of : Plan → NetworkState → ℕ → ℕ
number_of plan network wire = number_of_row network wire (slice_get plan.wires wire)

abbrev pub on_at : Plan → NetworkState → ℕ → Bool
on_at plan network circuit = is_circuit_on plan network (record { 0 = circuit })

abbrev pub has_label : NetworkState → ℕ → Bool
has_label network edge = is_some (label_to_give (network.edges edge))

-- two edges of the plan are connected
abbrev pub are_peers : Plan → NetworkState → ℕ → ℕ → Bool
are_peers plan network a b = (nat_lt a (length plan.edges) && nat_lt b (length plan.edges)) && are_connected network a b

-- the ground of a network's state
pub record IsGroundOf (plan : Plan) (network : NetworkState) (ground : Ground) : Type 0 where
  pub sound : IsFilled (sound_at plan network) false (length plan.wires) ground.sound.items
  pub numbers : IsFilled (number_of plan network) 0 (length plan.wires) ground.numbers.items
  pub on : IsFilled (on_at plan network) false (length plan.circuits) ground.on.items
  pub labels : IsFilled (has_label network) false (length plan.edges) ground.labels.items
  pub connected : (a b : ℕ) → has_pair ground.connected a b ≡ are_peers plan network a b
