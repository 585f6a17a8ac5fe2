use Rattle.std.proofs.Common.{◌≡◌, subst}
use Rattle.edge_forwarding.specs.Forwarding.{ForwardingLists, with_forwarding, without_told}
use Rattle.edge_forwarding.specs.contracts.forwarding.Forwarding.{the_view}
use Rattle.edge_forwarding.proofs.ForwardingLemmas.{closed_is, closed_seen}
use Rattle.edge_forwarding.proofs.forwarding.Forwarding.close_wires.Goals as goal

pub invariant_of-self : goal.invariant_of-self
invariant_of-self c = closed_is (the_view c.self.inside) c.change_all.new.domains.items c.forget_told.new.told_down.items c.self.invariant c.change_all.ensures c.forget_told.ensures

pub returns-clause-step : goal.returns-clause-step
returns-clause-step c = λ edge.
    let v : ForwardingLists = the_view c.self.inside in
    subst (λ (n : ForwardingLists). with_forwarding (record v { domains = c.change_all.new.domains.items; told_down = c.forget_told.new.told_down.items }) edge
    ≡ without_told (with_forwarding n edge)) c.self.view_is
    (closed_seen v c.change_all.new.domains.items c.forget_told.new.told_down.items edge c.change_all.ensures c.forget_told.ensures)

pub change_all-requires : goal.change_all-requires
change_all-requires c = λ place kept within. tt
