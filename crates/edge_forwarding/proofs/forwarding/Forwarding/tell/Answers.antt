-- The wire's port forwards exactly where there is no cause, and the cause is kept as told; the invariant stands.
use Rattle.std.proofs.Common.{◌≡◌, sym, subst}
use Rattle.edge_model.specs.State.{with_told_down}
use Rattle.edge_forwarding.specs.Forwarding.{ForwardingLists, IsServiceOf, with_forwarding}
use Rattle.edge_forwarding.specs.contracts.forwarding.Forwarding.{the_view}
use Rattle.edge_forwarding.proofs.ForwardingLemmas.{WasRead, told_forwarding, told_is, told_seen}
use Rattle.edge_forwarding.proofs.OpenLemmas.{no_cause}
use Rattle.edge_forwarding.proofs.forwarding.Forwarding.tell.Goals as goal

pub invariant_of-self : goal.invariant_of-self
invariant_of-self c =
    let v : ForwardingLists = the_view c.self.inside in
    let of : IsServiceOf v.plan c.args.wire c.service_of-service.result =
    subst (λ (n : ForwardingLists). IsServiceOf n.plan c.args.wire c.service_of-service.result) (sym c.self.view_is) c.service_of-service.ensures in
    let was : WasRead v c.service_of-service.result c.index_mut.result.now = record { is = c.self.invariant; within = of.within; read = c.index_mut.ensures.value } in
    told_is v c.args.wire of.row c.service_of-service.result c.index_mut.result.now c.change_kept.new.kept c.args.down c.is_none-on.result was of.is of.same
    (no_cause c.args.down c.is_none-on.result c.is_none-on.ensures) c.change_kept.ensures

pub returns-clause-step : goal.returns-clause-step
returns-clause-step c = λ edge.
    let v : ForwardingLists = the_view c.self.inside in
    let of : IsServiceOf v.plan c.args.wire c.service_of-service.result =
    subst (λ (n : ForwardingLists). IsServiceOf n.plan c.args.wire c.service_of-service.result) (sym c.self.view_is) c.service_of-service.ensures in
    let was : WasRead v c.service_of-service.result c.index_mut.result.now = record { is = c.self.invariant; within = of.within; read = c.index_mut.ensures.value } in
    subst (λ (n : ForwardingLists). with_forwarding (told_forwarding v c.args.wire c.service_of-service.result c.args.down c.change_kept.new.kept) edge
    ≡ with_told_down c.args.wire c.args.down (with_forwarding n edge)) c.self.view_is
    (told_seen v c.args.wire of.row c.service_of-service.result c.index_mut.result.now c.change_kept.new.kept c.args.down c.is_none-on.result edge was of.is c.change_kept.ensures)
