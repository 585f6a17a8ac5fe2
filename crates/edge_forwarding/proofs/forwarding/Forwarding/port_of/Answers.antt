-- The ports of a domain are those of its service at the edge; where there is no domain the service has none.
use Rattle.std.proofs.Common.{◌≡◌, ◌<◌, ◌∙◌, List, None, length, position, ap, sym, subst}
use Rattle.hvpls_spokes.specs.declared.port.Port.{Port}
use Rattle.hvpls_spokes.specs.Port.{is_named_port, ports_of}
use Rattle.edge_forwarding.specs.Forwarding.{ForwardingLists}
use Rattle.edge_forwarding.specs.contracts.forwarding.Forwarding.{the_view}
use Rattle.edge_forwarding.proofs.ForwardingLemmas.{WasRead, no_ports, the_ports}
use Rattle.edge_forwarding.proofs.forwarding.Forwarding.port_of.Goals as goal

pub returns-in-Some : goal.returns-in-Some
returns-in-Some c =
    let v : ForwardingLists = the_view c.self.inside in
    let was : WasRead v c.args.service c.index.result.now =
    record { is = c.self.invariant; within = subst (λ (n : ForwardingLists). c.args.service.0 < length n.plan.services) (sym c.self.view_is) c.requires; read = c.index.ensures } in
    subst (λ (n : ForwardingLists). c.find.result ≡ position (is_named_port c.args.port) (ports_of n.plan c.args.service n.me)) c.self.view_is
    (c.find.ensures.port ∙ ap (λ (ports : List Port). position (is_named_port c.args.port) ports) (c.ports.ensures ∙ the_ports v c.args.service c.index.result.now c.in-Some.domain was c.in-Some.is))

pub returns-in-None : goal.returns-in-None
returns-in-None c =
    let v : ForwardingLists = the_view c.self.inside in
    let was : WasRead v c.args.service c.index.result.now =
    record { is = c.self.invariant; within = subst (λ (n : ForwardingLists). c.args.service.0 < length n.plan.services) (sym c.self.view_is) c.requires; read = c.index.ensures } in
    subst (λ (n : ForwardingLists). None ≡ position (is_named_port c.args.port) (ports_of n.plan c.args.service n.me)) c.self.view_is
    (sym (ap (λ (ports : List Port). position (is_named_port c.args.port) ports) (no_ports v c.args.service c.index.result.now was c.in-None.is)))
