-- The forwarding's ports of a service are the edge's.
use Rattle.std.proofs.Common.{◌≡◌, ◌<◌, ◌∙◌, [], length, sym, subst}
use Rattle.std.specs.Prelude.{IfSome}
use Rattle.net_base.specs.declared.plan.Plan.{Plan}
use Rattle.hvpls_spokes.specs.Port.{ports_of}
use Rattle.provider_edge.specs.contracts.edge.Edge.{the_view}
use Rattle.provider_edge.proofs.ForwardLemmas.{ports_in}
use Rattle.provider_edge.specs.Lists.{EdgeLists}
use Rattle.provider_edge.proofs.edge.Edge.ports.Goals as goal

pub ports-requires : goal.ports-requires
ports-requires c = subst (λ (p : Plan). c.args.service.0 < length p.services) (sym c.self.invariant.plan)
    (subst (λ (n : EdgeLists). c.args.service.0 < length n.plan.services) (sym c.self.view_is) c.requires)

pub returns-clause-some : goal.returns-clause-some
returns-clause-some c =
    subst (λ (n : EdgeLists). IfSome c.ports.result (λ ports. ports.now ≡ ports_of n.plan c.args.service n.me)) c.self.view_is
    (subst (λ l. IfSome c.ports.result (λ ports. ports.now ≡ l)) (ports_in (the_view c.self.inside) c.args.service c.self.invariant) c.ports.ensures.some)

pub returns-clause-none : goal.returns-clause-none
returns-clause-none c = λ none.
    subst (λ (n : EdgeLists). ports_of n.plan c.args.service n.me ≡ []) c.self.view_is
    (sym (ports_in (the_view c.self.inside) c.args.service c.self.invariant) ∙ c.ports.ensures.none none)
