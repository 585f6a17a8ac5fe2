use Rattle.std.proofs.Common.{Option, subst}
use Rattle.std.specs.Prelude.{IfSome}
use Rattle.provider_edge.specs.contracts.edge.Edge.{the_view}
use Rattle.provider_edge.specs.declared.end_marks.EndMarks.{EndMarks}
use Rattle.provider_edge.proofs.SettledLemmas.{tidy_nothing}
use Rattle.provider_edge.specs.Lists.{EdgeLists, seen}
use Rattle.provider_edge.specs.Tidy.{IsTidy, MendsNothing}
use Rattle.provider_edge.proofs.edge.Edge.is_tidy.Goals as goal

pub returns-in-Some : goal.returns-in-Some
returns-in-Some c = λ empty.
    let v : EdgeLists = the_view c.self.inside in
    subst (λ (n : EdgeLists). MendsNothing n.plan (seen n)) c.self.view_is
    (tidy_nothing v.plan (seen v) c.in-Some.marks (subst (λ (m : Option EndMarks). IfSome m (IsTidy v.plan (seen v))) c.in-Some.is c.self.invariant.tidy) (c.is_empty.ensures empty))
