use Rattle.std.proofs.Common.{◌≡◌, ◌≤◌, length, subst}
use Rattle.edge_model.specs.Spokes.{choice}
use Rattle.provider_edge.specs.contracts.edge.Edge.{the_view}
use Rattle.provider_edge.proofs.SpokeLemmas.{chosen_past}
use Rattle.provider_edge.specs.Lists.{EdgeLists, seen}
use Rattle.provider_edge.proofs.edge.Edge.count_services.Goals as goal

pub returns-clause-past : goal.returns-clause-past
returns-clause-past c = λ service past.
    subst (λ (n : EdgeLists). length n.plan.services ≤ service → (seen n).chosen service ≡ choice n.plan (seen n) (record { 0 = service })) c.self.view_is
    (chosen_past (the_view c.self.inside) service c.self.invariant) past
