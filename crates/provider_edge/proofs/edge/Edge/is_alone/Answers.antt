use Rattle.std.proofs.Common.{◌≡◌, ◌↔◌, true, false, subst}
use Rattle.net_base.specs.declared.plan.places.EdgeId.{EdgeId}
use Rattle.edge_model.specs.State.{has_end}
use Rattle.provider_edge.specs.contracts.edge.Edge.{the_view}
use Rattle.provider_edge.proofs.TickLemmas.{alone}
use Rattle.provider_edge.specs.Lists.{EdgeLists, seen}
use Rattle.provider_edge.proofs.edge.Edge.is_alone.Goals as goal

pub returns : goal.returns
returns c = record {
  alone =
      subst (λ (n : EdgeLists). (c.is_empty.result ≡ true) ↔ ((peer : EdgeId) → has_end (seen n) peer ≡ false)) c.self.view_is
      (alone (the_view c.self.inside) c.is_empty.result c.is_empty.ensures);
}
