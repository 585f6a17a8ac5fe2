-- The wire's service is in the plan, and its domain has forgotten what came by the wire's port; the invariant stands.
use Rattle.std.proofs.Common.{◌≡◌, sym, subst}
use Rattle.net_base.specs.plan.Places.{wire_row}
use Rattle.hvpls_spokes.specs.Port.{is_wire_port}
use Rattle.edge_model.specs.Mend.{forgetting_wire}
use Rattle.edge_forwarding.specs.Forwarding.{ForwardingLists, IsServiceOf, with_forwarding}
use Rattle.edge_forwarding.specs.contracts.forwarding.Forwarding.{the_view}
use Rattle.edge_forwarding.proofs.ForwardingLemmas.{WasRead, forgot_is, forgot_seen, put_kept, wire_forgot}
use Rattle.edge_forwarding.proofs.forwarding.Forwarding.forget_wire.Goals as goal

pub invariant_of-self : goal.invariant_of-self
invariant_of-self c =
    let v : ForwardingLists = the_view c.self.inside in
    let of : IsServiceOf v.plan c.args.wire c.service_of-service.result =
    subst (λ (n : ForwardingLists). IsServiceOf n.plan c.args.wire c.service_of-service.result) (sym c.self.view_is) c.service_of-service.ensures in
    let was : WasRead v c.service_of-service.result c.index_mut.result.now = record { is = c.self.invariant; within = of.within; read = c.index_mut.ensures.value } in
    forgot_is v c.service_of-service.result (is_wire_port c.args.wire) c.index_mut.result.now c.change_kept.new.kept was c.change_kept.ensures

pub returns-clause-step : goal.returns-clause-step
returns-clause-step c = λ edge.
    let v : ForwardingLists = the_view c.self.inside in
    let of : IsServiceOf v.plan c.args.wire c.service_of-service.result =
    subst (λ (n : ForwardingLists). IsServiceOf n.plan c.args.wire c.service_of-service.result) (sym c.self.view_is) c.service_of-service.ensures in
    let was : WasRead v c.service_of-service.result c.index_mut.result.now = record { is = c.self.invariant; within = of.within; read = c.index_mut.ensures.value } in
    subst (λ (n : ForwardingLists). with_forwarding (put_kept v c.service_of-service.result c.change_kept.new.kept) edge
    ≡ forgetting_wire n.plan c.args.wire (wire_row n.plan c.args.wire) (with_forwarding n edge)) c.self.view_is
    (wire_forgot v c.service_of-service.result c.args.wire of.row c.change_kept.new.kept edge of.is of.same
    (forgot_seen v c.service_of-service.result (is_wire_port c.args.wire) c.index_mut.result.now c.change_kept.new.kept edge was c.change_kept.ensures))
