-- No spoke of the service has a mark, so that the edge has its choice.
use Rattle.std.proofs.Common.{◌≡◌, ◌∙◌, subst, sym}
use Rattle.provider_edge.specs.contracts.edge.Edge.{the_view}
use Rattle.provider_edge.proofs.MarkLemmas.{all_unmarked, passed_chosen}
use Rattle.provider_edge.specs.Lists.{EdgeLists, seen}
use Rattle.provider_edge.specs.Spokes.{slots_for}
use Rattle.provider_edge.specs.Tidy.{HasChosenFor}
use Rattle.provider_edge.proofs.edge.Edge.passes_by.Goals as goal

pub returns-in-Some : goal.returns-in-Some
returns-in-Some c = λ is.
    subst (λ (n : EdgeLists). HasChosenFor n.plan (seen n) c.args.service) c.self.view_is
    (passed_chosen (the_view c.self.inside) c.in-Some.marks c.args.service c.slots_of.result.now c.in-Some.is c.self.invariant
    (subst (λ (n : EdgeLists). c.slots_of.result.now ≡ slots_for n.plan n.me n.ends.places c.args.service) (sym c.self.view_is) c.slots_of.ensures.slots)
    (all_unmarked c.in-Some.marks c.slots_of.result.now (sym c.passes_by.ensures ∙ is)))
