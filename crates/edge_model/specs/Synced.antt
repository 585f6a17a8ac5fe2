-- What was told of each wire that ends at an edge is why it does not forward there.
use Rattle.std.specs.Prelude.{◌≡◌, true}
use Rattle.std.specs.List.{AllByRecursion}
use Rattle.net_base.specs.declared.plan.Plan.{Plan}
use Rattle.edge_model.specs.declared.end_place.EndPlace.{EndPlace}
use Rattle.edge_model.specs.EndPlaces.{end_places}
use Rattle.edge_model.specs.Mend.{cause_number}
use Rattle.edge_model.specs.Role.{down_at}
use Rattle.edge_model.specs.State.{EdgeState}

-- so it is with an end, where it is terminal
pub record IsSynced (plan : Plan) (edge : EdgeState) (place : EndPlace) : Type 0 where
  pub so : place.terminal ≡ true → cause_number (edge.told_down place.wire.0) ≡ cause_number (down_at plan edge place)

-- and with each end of the edge
pub record InSync (plan : Plan) (edge : EdgeState) : Type 0 where
  pub each : AllByRecursion (IsSynced plan edge) (end_places plan edge.me)
