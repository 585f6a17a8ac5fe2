use Rattle.std.proofs.Common.{◌≡◌, ◌∙◌, ap, subst}
use Rattle.edge_model.specs.EndPlaces.{end_places}
use Rattle.provider_edge.proofs.NeighbourLemmas.{beside_joined}
use Rattle.provider_edge.specs.Lists.{EdgeLists}
use Rattle.provider_edge.proofs.edge.Edge.joined.Goals as goal

pub returns : goal.returns
returns c =
    beside_joined c.args.self.now.plan c.args.self.now.me c.args.peer c.places.result.now c.is_beside.result
    (c.places.ensures.places ∙ (ap (λ (n : EdgeLists). n.ends.places) c.self.view_is ∙ subst (λ (n : EdgeLists). n.ends.places ≡ end_places n.plan n.me) c.self.view_is c.self.invariant.places))
    c.is_beside.ensures
