-- Beside the neighbour nothing is told any more.
use Rattle.std.proofs.Common.{◌∙◌, ap}
use Rattle.pw_ends.specs.contracts.pw_ends.PwEnds.{the_view}
use Rattle.pw_ends.specs.Ends.{EndLists}
use Rattle.pw_ends.specs.Marks.{is_marked}
use Rattle.pw_ends.proofs.MarkLemmas.{untold_left}
use Rattle.pw_ends.proofs.pw_ends.PwEnds.lose.Goals as goal

pub invariant_of-self : goal.invariant_of-self
invariant_of-self c = record {
  kept = c.self.invariant.kept;
  untold = untold_left (is_marked c.self.inside.marks) (is_marked c.without-self-inside.result) c.args.peer c.args.self.now (the_view c.self.inside) c.self.invariant.untold
      (ap (λ (l : EndLists). l.places) c.self.view_is ∙ c.change_each.ensures.places)
      (ap (λ (l : EndLists). l.ends) c.self.view_is ∙ c.change_each.ensures.ends)
      c.without-self-inside.ensures;
}
