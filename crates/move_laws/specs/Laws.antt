-- What holds of a move to another spoke in every run of a checked plan.
use Rattle.std.specs.Prelude.{◌≡◌, ◌++◌, true, List, ◌∷◌}
use Rattle.std.specs.List.{list_all}
use Rattle.net_base.specs.declared.plan.Plan.{Plan}
use Rattle.net_base.specs.declared.plan.places.ServiceId.{ServiceId}
use Rattle.net_base.specs.declared.trace.event.Event.{Event}
use Rattle.flight_laws.specs.Laws.{IsRun, network_after}
use Rattle.network_model.specs.Calm.{is_calm}
use Rattle.flood_laws.specs.Deliveries.{is_delivery}
use Rattle.address_laws.specs.Points.{Points}
use Rattle.address_laws.specs.Sites.{Sites}
use Rattle.address_laws.specs.Stretch.{StartsRight}
use Rattle.move_laws.specs.Moves.{is_move}

-- After one setting at a spoke edge for one of its spokes, and then deliveries alone, each calm state has each learned address point to its
-- site again.
abbrev pub MovesHeal : Plan → List Event → Type 0
MovesHeal plan events = (before : List Event) (move : Event) (deliveries after : List Event) (service : ServiceId) (site : Sites)
    → events ≡ before ++ move ∷ (deliveries ++ after)
    → StartsRight plan (network_after plan before) service site
    → is_move plan service move ≡ true
    → list_all is_delivery deliveries ≡ true
    → is_calm plan (network_after plan (before ++ move ∷ deliveries)) service ≡ true
    → Points plan (network_after plan (before ++ move ∷ deliveries)) service site

-- in every run
abbrev pub RunsHealMoves : Type 0
RunsHealMoves = (plan : Plan) (events : List Event) → IsRun plan events → MovesHeal plan events
