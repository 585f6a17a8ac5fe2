use Rattle.std.proofs.Common.{◌≡◌, ◌<◌, ◌∙◌, length, position, ap, sym, subst}
use Rattle.net_base.specs.declared.plan.Plan.{Plan}
use Rattle.hvpls_spokes.specs.Port.{is_wire_port, ports_of}
use Rattle.provider_edge.specs.contracts.edge.Edge.{the_view}
use Rattle.provider_edge.proofs.ForwardLemmas.{ports_in}
use Rattle.provider_edge.specs.Lists.{EdgeLists}
use Rattle.provider_edge.proofs.edge.Edge.wire_port.Goals as goal

pub port_of-requires : goal.port_of-requires
port_of-requires c = subst (λ (p : Plan). c.args.service.0 < length p.services) (sym c.self.invariant.plan)
    (subst (λ (n : EdgeLists). c.args.service.0 < length n.plan.services) (sym c.self.view_is) c.requires)

pub returns : goal.returns
returns c =
    subst (λ (n : EdgeLists). c.port_of.result ≡ position (is_wire_port c.args.wire) (ports_of n.plan c.args.service n.me)) c.self.view_is
    (c.port_of.ensures ∙ ap (λ l. position (is_wire_port c.args.wire) l) (ports_in (the_view c.self.inside) c.args.service c.self.invariant))
