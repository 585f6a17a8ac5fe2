-- The circuit's service is in the plan; its port there is turned with the circuit, and the invariant stands.
use Rattle.std.proofs.Common.{◌≡◌, Some, sym, subst}
use Rattle.net_base.specs.plan.Places.{circuit_row}
use Rattle.edge_model.specs.State.{with_circuit}
use Rattle.edge_forwarding.specs.Forwarding.{ForwardingLists, own_service, with_forwarding}
use Rattle.edge_forwarding.specs.contracts.forwarding.Forwarding.{the_view}
use Rattle.edge_forwarding.proofs.ForwardingLemmas.{WasRead, own_row, own_within, turned_forwarding, turned_is, turned_seen}
use Rattle.edge_forwarding.proofs.forwarding.Forwarding.turn.Goals as goal

pub invariant_of-self : goal.invariant_of-self
invariant_of-self c =
    let v : ForwardingLists = the_view c.self.inside in
    let own : own_service v.me (circuit_row v.plan c.args.circuit) ≡ Some c.args.service =
    subst (λ (n : ForwardingLists). own_service n.me (circuit_row n.plan c.args.circuit) ≡ Some c.args.service) (sym c.self.view_is) c.requires.own in
    let was : WasRead v c.args.service c.index_mut.result.now =
    record { is = c.self.invariant; within = own_within v.plan v.me c.args.circuit c.args.service c.self.invariant.checked own; read = c.index_mut.ensures.value } in
    let found = own_row v.me (circuit_row v.plan c.args.circuit) c.args.service own in
    turned_is v c.args.circuit found.circuit c.args.service c.index_mut.result.now c.change_kept.new.kept c.args.on was found.is found.same c.change_kept.ensures

pub returns-clause-step : goal.returns-clause-step
returns-clause-step c = λ edge.
    let v : ForwardingLists = the_view c.self.inside in
    let own : own_service v.me (circuit_row v.plan c.args.circuit) ≡ Some c.args.service =
    subst (λ (n : ForwardingLists). own_service n.me (circuit_row n.plan c.args.circuit) ≡ Some c.args.service) (sym c.self.view_is) c.requires.own in
    let was : WasRead v c.args.service c.index_mut.result.now =
    record { is = c.self.invariant; within = own_within v.plan v.me c.args.circuit c.args.service c.self.invariant.checked own; read = c.index_mut.ensures.value } in
    let found = own_row v.me (circuit_row v.plan c.args.circuit) c.args.service own in
    subst (λ (n : ForwardingLists). with_forwarding (turned_forwarding v c.args.circuit c.args.service c.args.on c.change_kept.new.kept) edge
    ≡ with_circuit c.args.circuit c.args.on (with_forwarding n edge)) c.self.view_is
    (turned_seen v c.args.circuit found.circuit c.args.service c.index_mut.result.now c.change_kept.new.kept c.args.on edge was found.is c.change_kept.ensures)
