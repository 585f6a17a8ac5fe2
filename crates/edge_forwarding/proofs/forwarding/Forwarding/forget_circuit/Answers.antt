-- The circuit's service is in the plan, and its domain has forgotten what came by the circuit's port; the invariant stands.
use Rattle.std.proofs.Common.{◌≡◌, Some, position, sym, subst}
use Rattle.net_base.specs.plan.Places.{circuit_row}
use Rattle.hvpls_spokes.specs.Port.{is_circuit_port, ports_of}
use Rattle.edge_model.specs.State.{addresses_of, with_addresses, without_port}
use Rattle.edge_forwarding.specs.Forwarding.{ForwardingLists, own_service, with_forwarding}
use Rattle.edge_forwarding.specs.contracts.forwarding.Forwarding.{the_view}
use Rattle.edge_forwarding.proofs.ForwardingLemmas.{WasRead, forgot_is, forgot_seen, own_within, put_kept}
use Rattle.edge_forwarding.proofs.forwarding.Forwarding.forget_circuit.Goals as goal

pub invariant_of-self : goal.invariant_of-self
invariant_of-self c =
    let v : ForwardingLists = the_view c.self.inside in
    let own : own_service v.me (circuit_row v.plan c.args.circuit) ≡ Some c.args.service =
    subst (λ (n : ForwardingLists). own_service n.me (circuit_row n.plan c.args.circuit) ≡ Some c.args.service) (sym c.self.view_is) c.requires.own in
    let was : WasRead v c.args.service c.index_mut.result.now =
    record { is = c.self.invariant; within = own_within v.plan v.me c.args.circuit c.args.service c.self.invariant.checked own; read = c.index_mut.ensures.value } in
    forgot_is v c.args.service (is_circuit_port c.args.circuit) c.index_mut.result.now c.change_kept.new.kept was c.change_kept.ensures

pub returns-clause-step : goal.returns-clause-step
returns-clause-step c = λ edge.
    let v : ForwardingLists = the_view c.self.inside in
    let own : own_service v.me (circuit_row v.plan c.args.circuit) ≡ Some c.args.service =
    subst (λ (n : ForwardingLists). own_service n.me (circuit_row n.plan c.args.circuit) ≡ Some c.args.service) (sym c.self.view_is) c.requires.own in
    let was : WasRead v c.args.service c.index_mut.result.now =
    record { is = c.self.invariant; within = own_within v.plan v.me c.args.circuit c.args.service c.self.invariant.checked own; read = c.index_mut.ensures.value } in
    subst (λ (n : ForwardingLists). with_forwarding (put_kept v c.args.service c.change_kept.new.kept) edge
    ≡ with_addresses c.args.service (without_port (position (is_circuit_port c.args.circuit) (ports_of n.plan c.args.service n.me))
    (addresses_of (with_forwarding n edge) c.args.service)) (with_forwarding n edge)) c.self.view_is
    (forgot_seen v c.args.service (is_circuit_port c.args.circuit) c.index_mut.result.now c.change_kept.new.kept edge was c.change_kept.ensures)
