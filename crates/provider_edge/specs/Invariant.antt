-- What always holds of an edge.
use Rattle.std.specs.Prelude.{◌≡◌, ◌≤◌, All, IfSome, false, length}
use Rattle.net_base.specs.plan.Accepted.{IsChecked}
use Rattle.edge_model.specs.EndPlaces.{end_places}
use Rattle.edge_model.specs.Synced.{InSync}
use Rattle.provider_edge.specs.Bounds.{HoldsFew}
use Rattle.provider_edge.specs.Lists.{EdgeLists, seen}
use Rattle.provider_edge.specs.Spokes.{AreSpokesOf}
use Rattle.provider_edge.specs.Tidy.{IsTidy}

pub record IsEdge (edge : EdgeLists) : Type 0 where
  pub checked : IsChecked edge.plan
  pub peerings : length edge.peerings ≡ length edge.plan.edges
  pub held : All HoldsFew edge.peerings
  pub places : edge.ends.places ≡ end_places edge.plan edge.me
  pub wires : length edge.wires_on ≡ length edge.plan.wires
  pub each_bits : length edge.bits ≡ length edge.plan.wires
  pub small : All (λ bits. bits ≤ 31) edge.bits
  pub priorities : length edge.priorities ≡ length edge.plan.wires
  pub each_ping : length edge.pings ≡ length edge.plan.wires
  pub spokes : AreSpokesOf edge.plan edge.me edge.spokes
  pub plan : edge.forwarding.plan ≡ edge.plan
  pub me : edge.forwarding.me ≡ edge.me
  -- between two inputs what was told last of each wire is why its end does not forward
  pub synced : edge.stopped ≡ false → InSync edge.plan (seen edge)
  -- but for the ends that have a mark there is nothing to mend
  pub tidy : IfSome edge.marks (IsTidy edge.plan (seen edge))
