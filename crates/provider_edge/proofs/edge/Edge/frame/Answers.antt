-- A circuit of another edge, and one that is off, are idle; by any other the frame is received at the circuit's port. That circuit and its
-- service are in the plan.
use Rattle.std.proofs.Common.{◌≡◌, ◌<◌, ◌++◌, ◌∙◌, Ok, Err, length, position, ap, sym, subst, true}
use Rattle.std.specs.Prelude.{MatchResult}
use Rattle.net_base.specs.declared.plan.Plan.{Plan}
use Rattle.net_base.specs.plan.Accepted.{IsChecked}
use Rattle.net_base.specs.plan.Places.{circuit_row}
use Rattle.net_base.specs.trace.Isolated.{inner_at}
use Rattle.net_base.specs.declared.trace.arrival.Arrival.TheVariants as arrival
use Rattle.eth_encap.specs.Fault.{cause_of}
use Rattle.hvpls_spokes.specs.Port.{is_circuit_port, ports_of}
use Rattle.edge_model.specs.declared.effects.Effects.{Effects}
use Rattle.edge_model.specs.Frame.{frame_input, received}
use Rattle.edge_model.specs.Work.{beginning}
use Rattle.provider_edge.specs.AtWork.{at_work}
use Rattle.peer_dialogue.specs.Peering.{at_edge}
use Rattle.edge_forwarding.proofs.ForwardingLemmas.{own_circuit, own_within}
use Rattle.peer_dialogue.proofs.SettleLemmas.{map_on}
use Rattle.provider_edge.proofs.EdgeLemmas.{begun, given_out}
use Rattle.provider_edge.proofs.WorkLemmas.{frame_off, frame_on, frame_other}
use Rattle.provider_edge.specs.Lists.{EdgeLists, seen, worked}
use Rattle.provider_edge.proofs.edge.Edge.frame.Goals as goal

pub returns-in_default-clause-step : goal.returns-in_default-clause-step
returns-in_default-clause-step g c = λ told agrees.
    subst (λ (e : Effects). worked c.args.self.now (g.L.Link.calls c.args.work.now.link.now) (record e { idle = true })
    ≡ frame_input c.args.self.now.plan told c.args.circuit c.args.octets.now (circuit_row c.args.self.now.plan c.args.circuit)
    (beginning (seen c.args.self.now) (g.L.Link.calls c.args.work.now.link.now))) (sym c.requires.begun.fresh)
    (frame_other c.args.self.now told c.args.circuit c.args.octets.now (circuit_row c.args.self.now.plan c.args.circuit) (g.L.Link.calls c.args.work.now.link.now)
    (sym c.own_service.ensures ∙ c.in_default.is))

pub is_on-requires : goal.is_on-requires
is_on-requires g c = own_circuit c.args.self.now.plan c.args.self.now.me c.args.circuit c.in-Some.service (sym c.own_service.ensures ∙ c.in-Some.is)

pub returns-then-not-is_on-clause-step : goal.returns-then-not-is_on-clause-step
returns-then-not-is_on-clause-step g c = λ told agrees.
    subst (λ (e : Effects). worked c.args.self.now (g.L.Link.calls c.args.work.now.link.now) (record e { idle = true })
    ≡ frame_input c.args.self.now.plan told c.args.circuit c.args.octets.now (circuit_row c.args.self.now.plan c.args.circuit)
    (beginning (seen c.args.self.now) (g.L.Link.calls c.args.work.now.link.now))) (sym c.requires.begun.fresh)
    (frame_off c.args.self.now told c.args.circuit c.args.octets.now (circuit_row c.args.self.now.plan c.args.circuit) c.in-Some.service (g.L.Link.calls c.args.work.now.link.now)
    (sym c.own_service.ensures ∙ c.in-Some.is) (sym c.is_on.ensures ∙ c.if-not-is_on.true))

pub read_inner-read-requires-clause-circuit : goal.read_inner-read-requires-clause-circuit
read_inner-read-requires-clause-circuit g c =
    let plan : c.deref.result.now ≡ c.args.self.now.plan = c.deref.ensures ∙ ap (λ (e : EdgeLists). e.plan) c.self.view_is in
    subst (λ (p : Plan). c.args.circuit.0 < length p.circuits) (sym plan)
    (own_circuit c.args.self.now.plan c.args.self.now.me c.args.circuit c.in-Some.service (sym c.own_service.ensures ∙ c.in-Some.is))

pub port_of-port-requires : goal.port_of-port-requires
port_of-port-requires g c = own_within c.args.self.now.plan c.args.self.now.me c.args.circuit c.in-Some.service
    (subst (λ (n : EdgeLists). IsChecked n.plan) c.self.view_is c.self.invariant.checked) (sym c.own_service.ensures ∙ c.in-Some.is)

pub bridge_frame-requires-clause-service : goal.bridge_frame-requires-clause-service
bridge_frame-requires-clause-service g c = own_within c.args.self.now.plan c.args.self.now.me c.args.circuit c.in-Some.service
    (subst (λ (n : EdgeLists). IsChecked n.plan) c.self.view_is c.self.invariant.checked) (sym c.own_service.ensures ∙ c.in-Some.is)

pub returns-clause-step : goal.returns-clause-step
returns-clause-step g c = map_on _ _ c.bridge_frame.result
    (λ step told agrees.
    let plan : c.deref.result.now ≡ c.args.self.now.plan = c.deref.ensures ∙ ap (λ (e : EdgeLists). e.plan) c.self.view_is in
    frame_on c.args.self.now told c.args.circuit c.args.octets.now (circuit_row c.args.self.now.plan c.args.circuit) c.in-Some.service (g.L.Link.calls c.args.work.now.link.now) _
    (sym c.own_service.ensures ∙ c.in-Some.is) (sym c.is_on.ensures ∙ c.if-not-is_on.false)
    (given_out c.bridge_frame.new.self (g.L.Link.calls c.bridge_frame.new.work.link.now) c.bridge_frame.new.work.effects.now
    (c.bridge_frame.ensures.goes.on.idle ∙ ap (λ (e : Effects). e.idle) c.requires.begun.fresh)
    ∙ (step told (inner_at c.args.self.now.plan c.args.circuit c.args.octets.now) agrees
    (subst (λ (p : Plan). MatchResult c.read_inner-read.result (λ parts. inner_at p c.args.circuit c.args.octets.now ≡ Ok (parts.0.now ++ parts.1.now))
    (λ fault. inner_at p c.args.circuit c.args.octets.now ≡ Err (cause_of fault))) plan c.read_inner-read.ensures.read)
    ∙ (ap (λ port. received c.args.self.now.plan told (arrival.Circuit c.args.circuit) c.in-Some.service port (inner_at c.args.self.now.plan c.args.circuit c.args.octets.now)
    (at_work g.L.Link.calls c.args.self.now c.args.work.now)) c.port_of-port.ensures.port
    ∙ ap (received c.args.self.now.plan told (arrival.Circuit c.args.circuit) c.in-Some.service
    (position (is_circuit_port c.args.circuit) (ports_of c.args.self.now.plan c.in-Some.service c.args.self.now.me)) (inner_at c.args.self.now.plan c.args.circuit c.args.octets.now))
    (ap (λ (e : Effects). at_edge (seen c.args.self.now) (g.L.Link.calls c.args.work.now.link.now) e.list) c.requires.begun.fresh
    ∙ begun (seen c.args.self.now) (g.L.Link.calls c.args.work.now.link.now))))))
    c.bridge_frame.ensures.step
