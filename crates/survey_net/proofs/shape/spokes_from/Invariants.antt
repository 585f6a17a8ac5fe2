use Rattle.std.proofs.Common.{◌≡◌, ◌++◌, drop, filter}
use Rattle.net_base.specs.plan.Places.{wire_row}
use Rattle.edge_model.specs.EndPlaces.{end_places}
use Rattle.edge_model.specs.Spokes.{is_spoke_row, spoke_places}
use Rattle.survey_net.proofs.shape.spokes_from.Given as goal

abbrev pub invariant-loop-place : goal.invariant-loop-place
invariant-loop-place l =
    l.list ++ filter (λ place. is_spoke_row l.service l.edge.me (wire_row l.edge.plan place.wire)) (drop l.place-index (end_places l.edge.plan l.edge.me))
    ≡ spoke_places l.edge.plan l.edge.me l.service
