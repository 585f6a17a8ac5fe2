-- The plan and the place of the forwarding are the edge's own, and the addresses of its bridge those that the edge has learned.
use Rattle.std.proofs.Common.{◌≡◌, ◌⊎◌, ◌↔◌, [], None, Some, subst}
use Rattle.std.specs.Prelude.{IfSome, IsNone}
use Rattle.net_base.specs.declared.plan.Plan.{Plan}
use Rattle.net_base.specs.declared.plan.places.EdgeId.{EdgeId}
use Rattle.net_base.specs.plan.Places.{service_row}
use Rattle.hvpls_spokes.specs.Port.{ports_of}
use Rattle.edge_model.specs.State.{addresses_of}
use Rattle.edge_forwarding.specs.Domain.{age_of}
use Rattle.provider_edge.specs.contracts.edge.Edge.{the_view}
use Rattle.provider_edge.proofs.ForwardLemmas.{learned_if}
use Rattle.provider_edge.specs.Lists.{EdgeLists, seen}
use Rattle.provider_edge.proofs.edge.Edge.bridge.Goals as goal

pub returns-clause-none : goal.returns-clause-none
returns-clause-none c =
    subst (λ (n : EdgeLists). IsNone c.bridge.result ↔ ((service_row n.plan c.args.service ≡ None) ⊎ (ports_of n.plan c.args.service n.me ≡ []))) c.self.view_is
    (subst (λ (m : EdgeId). IsNone c.bridge.result
    ↔ ((service_row (the_view c.self.inside).plan c.args.service ≡ None) ⊎ (ports_of (the_view c.self.inside).plan c.args.service m ≡ []))) c.self.invariant.me
    (subst (λ (p : Plan). IsNone c.bridge.result ↔ ((service_row p c.args.service ≡ None)
    ⊎ (ports_of p c.args.service (the_view c.self.inside).forwarding.me ≡ []))) c.self.invariant.plan c.bridge.ensures.none))

pub returns-clause-learned : goal.returns-clause-learned
returns-clause-learned c =
    subst (λ (n : EdgeLists). IfSome c.bridge.result (λ bridge. bridge.now.entries ≡ addresses_of (seen n) c.args.service)) c.self.view_is
    (learned_if (the_view c.self.inside) c.args.service c.bridge.result c.bridge.ensures.learned)

pub returns-clause-ports : goal.returns-clause-ports
returns-clause-ports c =
    subst (λ (n : EdgeLists). IfSome c.bridge.result (λ bridge. bridge.now.ports ≡ ports_of n.plan c.args.service n.me)) c.self.view_is
    (subst (λ (m : EdgeId). IfSome c.bridge.result (λ bridge. bridge.now.ports ≡ ports_of (the_view c.self.inside).plan c.args.service m)) c.self.invariant.me
    (subst (λ (p : Plan). IfSome c.bridge.result (λ bridge. bridge.now.ports ≡ ports_of p c.args.service (the_view c.self.inside).forwarding.me)) c.self.invariant.plan c.bridge.ensures.ports))

pub returns-clause-age : goal.returns-clause-age
returns-clause-age c =
    subst (λ (n : EdgeLists). IfSome c.bridge.result (λ bridge. age_of n.plan c.args.service ≡ Some bridge.now.age)) c.self.view_is
    (subst (λ (p : Plan). IfSome c.bridge.result (λ bridge. age_of p c.args.service ≡ Some bridge.now.age)) c.self.invariant.plan c.bridge.ensures.age)
