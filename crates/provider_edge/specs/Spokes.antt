-- The spokes of a spoke edge, as contracts see them.
use Rattle.std.specs.Prelude.{◌≡◌, ◌<◌, ◌+◌, ℕ, Bool, List, [], ◌∷◌, Option, Some, None, length, replicate, slice_index_or, if◌then◌else◌}
use Rattle.net_base.specs.declared.plan.Plan.{Plan}
use Rattle.net_base.specs.declared.plan.places.EdgeId.{EdgeId}
use Rattle.net_base.specs.declared.plan.places.ServiceId.{ServiceId}
use Rattle.net_base.specs.declared.plan.places.WireId.{WireId}
use Rattle.net_base.specs.plan.Places.{wire_row}
use Rattle.edge_model.specs.declared.end_place.EndPlace.{EndPlace}
use Rattle.edge_model.specs.EndPlaces.{end_places}
use Rattle.edge_model.specs.Spokes.{is_spoke_row}

-- by services: the slots of the edge's ends of the spokes that start at it, and the wire of the spoke that is chosen
pub record SpokeLists : Type 0 where
  pub slots : List (List ℕ)
  pub chosen : List (Option WireId)

-- the slots of a service
abbrev pub slots_in : SpokeLists → ℕ → List ℕ
slots_in spokes service = slice_index_or spokes.slots service []

-- the slots, counted from one on, of the places that pass a test
abbrev pub slots_where : (EndPlace → Bool) → ℕ → List EndPlace → List ℕ
slots_where test slot [] = []
slots_where test slot (place ∷ places) = if test place then slot ∷ slots_where test (slot + 1) places else slots_where test (slot + 1) places

-- the place, counted from one on, of the first slot that passes a test
abbrev pub place_where : (ℕ → Bool) → ℕ → List ℕ → Option ℕ
place_where test place [] = None
place_where test place (slot ∷ slots) = if test slot then Some place else place_where test (place + 1) slots

-- the end is that of a spoke of the service that starts at the edge
abbrev pub starts_spoke : Plan → EdgeId → ServiceId → EndPlace → Bool
starts_spoke plan me service place = is_spoke_row service me (wire_row plan place.wire)

-- the slots of those of the places that are ends of spokes of a service
abbrev pub slots_for : Plan → EdgeId → List EndPlace → ℕ → List ℕ
slots_for plan me places service = slots_where (starts_spoke plan me (record { 0 = service })) 0 places

-- the slots by services, for so many services
pub record AreSlots (plan : Plan) (me : EdgeId) (places : List EndPlace) (services : ℕ) (slots : List (List ℕ)) : Type 0 where
  pub count : length slots ≡ services
  pub each : (service : ℕ) → service < services → slice_index_or slots service [] ≡ slots_for plan me places service

-- what always holds of them
pub record AreSpokesOf (plan : Plan) (me : EdgeId) (spokes : SpokeLists) : Type 0 where
  pub slots : AreSlots plan me (end_places plan me) (length plan.services) spokes.slots
  pub chosen : length spokes.chosen ≡ length plan.services

-- before the first input
pub record IsNewSpokes (plan : Plan) (me : EdgeId) (spokes : SpokeLists) : Type 0 where
  pub are : AreSpokesOf plan me spokes
  pub none : spokes.chosen ≡ replicate (length plan.services) None

-- no spoke is chosen for a service
abbrev pub unchosen : Option WireId → Option WireId
unchosen chosen = None
