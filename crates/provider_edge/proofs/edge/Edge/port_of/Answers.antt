-- The forwarding's ports are the edge's; the port of a circuit that is on is open.
use Rattle.std.proofs.Common.{◌≡◌, ◌∙◌, ◌<◌, true, length, position, ap, sym, subst}
use Rattle.std.specs.Prelude.{IfSome}
use Rattle.net_base.specs.declared.plan.Plan.{Plan}
use Rattle.hvpls_spokes.specs.Port.{is_circuit_port, ports_of}
use Rattle.edge_model.specs.State.{is_on}
use Rattle.edge_forwarding.specs.Forwarding.{open_ports}
use Rattle.provider_edge.specs.contracts.edge.Edge.{the_view}
use Rattle.provider_edge.proofs.ForwardLemmas.{ports_in}
use Rattle.provider_edge.proofs.SyncLemmas.{circuit_port_opens, if_found}
use Rattle.provider_edge.specs.Lists.{EdgeLists, seen}
use Rattle.provider_edge.proofs.edge.Edge.port_of.Goals as goal

pub port_of-requires : goal.port_of-requires
port_of-requires c = subst (λ (p : Plan). c.args.service.0 < length p.services) (sym c.self.invariant.plan)
    (subst (λ (n : EdgeLists). c.args.service.0 < length n.plan.services) (sym c.self.view_is) c.requires)

pub returns-clause-port : goal.returns-clause-port
returns-clause-port c =
    subst (λ (n : EdgeLists). c.port_of.result ≡ position (is_circuit_port c.args.circuit) (ports_of n.plan c.args.service n.me)) c.self.view_is
    (c.port_of.ensures ∙ ap (λ l. position (is_circuit_port c.args.circuit) l) (ports_in (the_view c.self.inside) c.args.service c.self.invariant))

pub returns-clause-on : goal.returns-clause-on
returns-clause-on c = λ on.
    let v : EdgeLists = the_view c.self.inside in
    subst (λ (n : EdgeLists). IfSome c.port_of.result (λ p. open_ports n.forwarding c.args.service p ≡ true)) c.self.view_is
    (if_found (λ p. open_ports v.forwarding c.args.service p ≡ true) c.port_of.result (λ p found.
    circuit_port_opens v c.args.circuit c.args.service p c.self.invariant (subst (λ (n : EdgeLists). is_on (seen n) c.args.circuit ≡ true) (sym c.self.view_is) on)
    (ap (λ l. position (is_circuit_port c.args.circuit) l) (sym (ports_in v c.args.service c.self.invariant)) ∙ (sym c.port_of.ensures ∙ found))))
