-- The domain of the service has forgotten what the withdraw names; the invariant stands.
use Rattle.std.proofs.Common.{◌≡◌, ◌<◌, length, sym, subst}
use Rattle.edge_model.specs.Clear.{withdrawing_at}
use Rattle.edge_forwarding.specs.Forwarding.{ForwardingLists, with_forwarding}
use Rattle.edge_forwarding.specs.contracts.forwarding.Forwarding.{the_view}
use Rattle.edge_forwarding.proofs.ForwardingLemmas.{WasRead, put_kept, withdrew_is, withdrew_seen}
use Rattle.edge_forwarding.proofs.forwarding.Forwarding.withdraw.Goals as goal

pub invariant_of-self : goal.invariant_of-self
invariant_of-self c =
    let v : ForwardingLists = the_view c.self.inside in
    let within : c.args.service.0 < length v.plan.services = subst (λ (n : ForwardingLists). c.args.service.0 < length n.plan.services) (sym c.self.view_is) c.requires in
    let was : WasRead v c.args.service c.index_mut.result.now = record { is = c.self.invariant; within = within; read = c.index_mut.ensures.value } in
    withdrew_is v c.args.service c.args.from c.args.addresses.now c.index_mut.result.now c.change_kept.new.kept was c.change_kept.ensures

pub returns-clause-step : goal.returns-clause-step
returns-clause-step c = λ edge.
    let v : ForwardingLists = the_view c.self.inside in
    let within : c.args.service.0 < length v.plan.services = subst (λ (n : ForwardingLists). c.args.service.0 < length n.plan.services) (sym c.self.view_is) c.requires in
    let was : WasRead v c.args.service c.index_mut.result.now = record { is = c.self.invariant; within = within; read = c.index_mut.ensures.value } in
    subst (λ (n : ForwardingLists). with_forwarding (put_kept v c.args.service c.change_kept.new.kept) edge
    ≡ withdrawing_at c.args.service c.args.addresses.now c.args.from (with_forwarding n edge)) c.self.view_is
    (withdrew_seen v c.args.service c.args.from c.args.addresses.now c.index_mut.result.now c.change_kept.new.kept edge was c.change_kept.ensures)
