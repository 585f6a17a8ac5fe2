use Rattle.std.proofs.Common.{◌≡◌}
use Rattle.provider_edge.proofs.SpokeLemmas.{choosing_to}
use Rattle.provider_edge.specs.Lists.{Keeps, seen}
use Rattle.provider_edge.proofs.edge.Edge.choose_spokes.Given as goal

-- it has chosen for the services so far
abbrev pub invariant-loop-service : goal.invariant-loop-service
invariant-loop-service l = record {
  keeps : Keeps l.fn.self l.self;
  step : seen l.self ≡ choosing_to l.service l.fn.self.plan (seen l.fn.self);
}
