use Rattle.std.proofs.Common.{◌≡◌, ◌∙◌, ap, subst, sym}
use Rattle.std.specs.Prelude.{IfSome}
use Rattle.provider_edge.specs.contracts.edge.Edge.{the_view}
use Rattle.provider_edge.proofs.EdgeLemmas.{holds_marks, seen_marks}
use Rattle.provider_edge.specs.Lists.{EdgeLists, seen}
use Rattle.provider_edge.specs.Tidy.{IsTidy}
use Rattle.provider_edge.proofs.edge.Edge.keep_marks.Goals as goal

pub invariant_of-self : goal.invariant_of-self
invariant_of-self c =
    holds_marks (the_view c.self.inside) c.args.marks (ap (λ (e : EdgeLists). e.stopped) c.self.view_is ∙ c.requires.working)
    (subst (λ (n : EdgeLists). IfSome c.args.marks (IsTidy n.plan (seen n))) (sym c.self.view_is) c.requires.tidy) c.self.invariant

pub returns-clause-step : goal.returns-clause-step
returns-clause-step c =
    subst (λ (n : EdgeLists). seen (record (the_view c.self.inside) { marks = c.args.marks }) ≡ seen n) c.self.view_is
    (seen_marks (the_view c.self.inside) c.args.marks)
