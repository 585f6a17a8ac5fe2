-- The ticks are counted as in the definition; that unsettles no end, so the invariant stands.
use Rattle.std.proofs.Common.{◌≡◌, subst, ◌∙◌, ap, sym}
use Rattle.edge_model.specs.State.{EdgeState, later, with_ticks}
use Rattle.provider_edge.specs.contracts.edge.Edge.{the_view}
use Rattle.std.specs.Prelude.{IfSome}
use Rattle.provider_edge.proofs.ForwardLemmas.{holds_kept, seen_later}
use Rattle.provider_edge.proofs.TidyLemmas.{tidy_ticked}
use Rattle.provider_edge.specs.Lists.{EdgeLists, seen}
use Rattle.provider_edge.specs.Tidy.{IsTidy}
use Rattle.provider_edge.proofs.edge.Edge.count_tick.Goals as goal

pub invariant_of-self : goal.invariant_of-self
invariant_of-self c =
    let v : EdgeLists = the_view c.self.inside in
    holds_kept v c.count_tick.new.self c.count_tick.ensures.keeps (ap (λ (e : EdgeLists). e.stopped) c.self.view_is ∙ c.requires.working)
    (subst (λ (e : EdgeState). IfSome v.marks (IsTidy v.plan e)) (sym (seen_later v c.count_tick.new.self c.self.invariant c.count_tick.ensures.keeps c.count_tick.ensures.step))
    (tidy_ticked v.plan (seen v) (later (seen v).ticks) v.marks c.self.invariant.tidy)) c.self.invariant

pub returns-clause-step : goal.returns-clause-step
returns-clause-step c =
    subst (λ (n : EdgeLists). seen (record (the_view c.self.inside) { forwarding = c.count_tick.new.self }) ≡ with_ticks (later (seen n).ticks) (seen n)) c.self.view_is
    (seen_later (the_view c.self.inside) c.count_tick.new.self c.self.invariant c.count_tick.ensures.keeps c.count_tick.ensures.step)
