-- The bridges' addresses have aged, as in the definition; that unsettles no end, so the invariant stands.
use Rattle.std.proofs.Common.{◌≡◌, subst, ◌∙◌, ap, sym}
use Rattle.edge_model.specs.Tick.{forgetting}
use Rattle.edge_model.specs.State.{EdgeState}
use Rattle.provider_edge.specs.contracts.edge.Edge.{the_view}
use Rattle.std.specs.Prelude.{IfSome}
use Rattle.provider_edge.proofs.ForwardLemmas.{holds_kept, seen_aged}
use Rattle.provider_edge.proofs.TidyLemmas.{tidy_aged}
use Rattle.provider_edge.specs.Lists.{EdgeLists, seen}
use Rattle.provider_edge.specs.Tidy.{IsTidy}
use Rattle.provider_edge.proofs.edge.Edge.age.Goals as goal

pub invariant_of-self : goal.invariant_of-self
invariant_of-self c =
    let v : EdgeLists = the_view c.self.inside in
    holds_kept v c.age.new.self c.age.ensures.keeps (ap (λ (e : EdgeLists). e.stopped) c.self.view_is ∙ c.requires.working)
    (subst (λ (e : EdgeState). IfSome v.marks (IsTidy v.plan e)) (sym (seen_aged v c.age.new.self c.self.invariant c.age.ensures.keeps c.age.ensures.step))
    (tidy_aged v.plan (seen v) v.marks c.self.invariant.tidy)) c.self.invariant

pub returns-clause-step : goal.returns-clause-step
returns-clause-step c =
    subst (λ (n : EdgeLists). seen (record (the_view c.self.inside) { forwarding = c.age.new.self }) ≡ forgetting n.plan (seen n)) c.self.view_is
    (seen_aged (the_view c.self.inside) c.age.new.self c.self.invariant c.age.ensures.keeps c.age.ensures.step)
