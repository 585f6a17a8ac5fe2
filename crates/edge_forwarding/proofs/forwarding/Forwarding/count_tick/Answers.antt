use Rattle.std.proofs.Common.{◌≡◌, ◌∙◌, ℕ, ap, subst}
use Rattle.edge_model.specs.State.{later, with_ticks}
use Rattle.edge_forwarding.specs.Forwarding.{ForwardingLists, with_forwarding}
use Rattle.edge_forwarding.specs.contracts.forwarding.Forwarding.{the_view}
use Rattle.edge_forwarding.proofs.ForwardingLemmas.{later_seen}
use Rattle.edge_forwarding.proofs.forwarding.Forwarding.count_tick.Goals as goal

pub returns-clause-step : goal.returns-clause-step
returns-clause-step c = λ edge.
    let v : ForwardingLists = the_view c.self.inside in
    subst (λ (n : ForwardingLists). with_forwarding (record v { ticks = c.next_tick-self-inside.result }) edge ≡ with_ticks (later n.ticks) (with_forwarding n edge)) c.self.view_is
    (later_seen v c.next_tick-self-inside.result edge ∙ ap (λ (k : ℕ). with_ticks k (with_forwarding v edge)) c.next_tick-self-inside.ensures.next)
