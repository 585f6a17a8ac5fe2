use Rattle.std.proofs.Common.{◌≡◌, ◌∙◌, subst}
use Rattle.provider_edge.specs.contracts.edge.Edge.{the_view}
use Rattle.provider_edge.proofs.ForwardLemmas.{ticks_read}
use Rattle.provider_edge.specs.Lists.{EdgeLists, seen}
use Rattle.provider_edge.proofs.edge.Edge.ticks.Goals as goal

pub returns : goal.returns
returns c =
    subst (λ (n : EdgeLists). c.ticks.result ≡ (seen n).ticks) c.self.view_is
    (c.ticks.ensures ∙ ticks_read (the_view c.self.inside))
