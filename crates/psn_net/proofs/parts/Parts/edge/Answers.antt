-- An edge that is lent is over the network's plan, and has the place that was asked for.
use Rattle.std.proofs.Common.{◌≡◌, List, length, nat_lt, slice_index_or, subst}
use Rattle.std.specs.Prelude.{IfSome, is_some}
use Rattle.provider_edge.specs.Lists.{EdgeLists}
use Rattle.psn_net.specs.Lists.{NetLists}
use Rattle.psn_net.specs.contracts.parts.Parts.{the_view}
use Rattle.psn_net.proofs.CarryingLemmas.{lent_placed, lent_planned}
use Rattle.psn_net.proofs.parts.Parts.edge.Goals as goal

pub returns-clause-plan : goal.returns-clause-plan
returns-clause-plan c =
    subst (λ (n : NetLists). IfSome c.get.result (λ edge. edge.now.plan ≡ n.plan)) c.self.view_is
    (lent_planned (the_view c.self.inside) c.args.id c.get.result c.self.invariant
    (subst (λ (es : List EdgeLists). is_some c.get.result ≡ nat_lt c.args.id.0 (length es)) c.deref.ensures.value c.get.ensures.lookup.0)
    (subst (λ (es : List EdgeLists). IfSome c.get.result (λ edge. edge.now ≡ slice_index_or es c.args.id.0 edge.now)) c.deref.ensures.value c.get.ensures.lookup.1))

pub returns-clause-place : goal.returns-clause-place
returns-clause-place c =
    subst (λ (n : NetLists). IfSome c.get.result (λ edge. edge.now.me ≡ c.args.id)) c.self.view_is
    (lent_placed (the_view c.self.inside) c.args.id c.get.result c.self.invariant
    (subst (λ (es : List EdgeLists). is_some c.get.result ≡ nat_lt c.args.id.0 (length es)) c.deref.ensures.value c.get.ensures.lookup.0)
    (subst (λ (es : List EdgeLists). IfSome c.get.result (λ edge. edge.now ≡ slice_index_or es c.args.id.0 edge.now)) c.deref.ensures.value c.get.ensures.lookup.1))
