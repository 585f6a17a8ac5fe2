-- The order in which an edge goes over its ends.
use Rattle.std.specs.Prelude.{◌≡◌, ◌<◌, ◌⊎◌, List, [], ◌∷◌}
use Rattle.std.specs.List.{AllByRecursion}
use Rattle.net_base.specs.declared.plan.Plan.{Plan}
use Rattle.net_base.specs.declared.plan.places.EdgeId.{EdgeId}
use Rattle.edge_model.specs.declared.end_place.EndPlace.{EndPlace}
use Rattle.edge_model.specs.EndPlaces.{end_places}

-- an end stands before another one: its wire has a lower number, or it is at a lower segment of the same wire
abbrev pub IsBefore : EndPlace → EndPlace → Type 0
IsBefore one other = (one.wire.0 < other.wire.0) ⊎ ((one.wire.0 ≡ other.wire.0) × (one.segment < other.segment))

-- each end stands before all that follow it
abbrev pub AreRisingPlaces : List EndPlace → Type 0
AreRisingPlaces [] = Unit {0}
AreRisingPlaces (place ∷ places) = AllByRecursion (IsBefore place) places × AreRisingPlaces places

-- Of every plan, whatever its paths.
pub record EndPlacesRise : Type 0 where
  pub rising : (plan : Plan) (me : EdgeId) → AreRisingPlaces (end_places plan me)
