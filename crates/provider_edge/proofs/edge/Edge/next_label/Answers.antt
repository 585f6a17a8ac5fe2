use Rattle.std.proofs.Common.{◌≡◌, ◌∙◌, subst}
use Rattle.provider_edge.specs.contracts.edge.Edge.{the_view}
use Rattle.provider_edge.proofs.ListLemmas.{next_at}
use Rattle.provider_edge.specs.Lists.{EdgeLists, seen}
use Rattle.provider_edge.proofs.edge.Edge.next_label.Goals as goal

pub returns : goal.returns
returns c = subst (λ (n : EdgeLists). c.next_label.result ≡ (seen n).next_label) c.self.view_is (c.next_label.ensures.label ∙ next_at (the_view c.self.inside))
