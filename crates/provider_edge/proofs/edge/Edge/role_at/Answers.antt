-- The slots of its spokes tell what the edge is to the service.
use Rattle.std.proofs.Common.{◌≡◌, ◌<◌, ◌∙◌, ℕ, Some, true, List, length, nat_eq, ap, subst, sym}
use Rattle.hvpls_spokes.specs.declared.edge_role.Role.TheVariants as role
use Rattle.hvpls_spokes.specs.Port.{ports_of}
use Rattle.hvpls_spokes.specs.Role.{role_of}
use Rattle.mac_withdraw.specs.Passing.{is_wire_at}
use Rattle.provider_edge.specs.contracts.edge.Edge.{the_view}
use Rattle.provider_edge.proofs.RoleLemmas.{core_by_slots, spoke_edge_by_slots}
use Rattle.provider_edge.specs.Lists.{EdgeLists}
use Rattle.provider_edge.proofs.edge.Edge.role_at.Goals as goal

pub returns-then-is_empty : goal.returns-then-is_empty
returns-then-is_empty c =
    subst (λ (n : EdgeLists). role_of n.plan c.args.service n.me ≡ Some role.Core) c.self.view_is
    (core_by_slots (the_view c.self.inside) c.args.service c.args.port c.self.invariant
    (subst (λ (n : EdgeLists). c.args.service.0 < length n.plan.services) (sym c.self.view_is) c.requires.service)
    (subst (λ (n : EdgeLists). is_wire_at (ports_of n.plan c.args.service n.me) c.args.port ≡ true) (sym c.self.view_is) c.requires.wire)
    (ap (λ (l : List ℕ). nat_eq (length l) 0) (sym c.slots.ensures) ∙ (sym c.is_empty.ensures ∙ c.if-is_empty.true)))

pub returns-else-is_empty : goal.returns-else-is_empty
returns-else-is_empty c =
    subst (λ (n : EdgeLists). role_of n.plan c.args.service n.me ≡ Some role.SpokeEdge) c.self.view_is
    (spoke_edge_by_slots (the_view c.self.inside) c.args.service c.self.invariant
    (subst (λ (n : EdgeLists). c.args.service.0 < length n.plan.services) (sym c.self.view_is) c.requires.service)
    (ap (λ (l : List ℕ). nat_eq (length l) 0) (sym c.slots.ensures) ∙ (sym c.is_empty.ensures ∙ c.if-is_empty.false)))
