-- The ports of a domain are those of its service at the edge; where there is no domain the service has none.
use Rattle.std.proofs.Common.{◌≡◌, ◌<◌, ◌∙◌, [], length, sym, subst}
use Rattle.hvpls_spokes.specs.Port.{ports_of}
use Rattle.edge_forwarding.specs.Forwarding.{ForwardingLists}
use Rattle.edge_forwarding.specs.contracts.forwarding.Forwarding.{the_view}
use Rattle.edge_forwarding.proofs.ForwardingLemmas.{WasRead, no_ports, the_ports}
use Rattle.edge_forwarding.proofs.forwarding.Forwarding.ports.Goals as goal

pub returns-in-Some-clause-some : goal.returns-in-Some-clause-some
returns-in-Some-clause-some c =
    let v : ForwardingLists = the_view c.self.inside in
    let was : WasRead v c.args.service c.index.result.now =
    record { is = c.self.invariant; within = subst (λ (n : ForwardingLists). c.args.service.0 < length n.plan.services) (sym c.self.view_is) c.requires; read = c.index.ensures } in
    subst (λ (n : ForwardingLists). c.ports.result.now ≡ ports_of n.plan c.args.service n.me) c.self.view_is
    (c.ports.ensures ∙ the_ports v c.args.service c.index.result.now c.in-Some.domain was c.in-Some.is)

pub returns-in-None-clause-none : goal.returns-in-None-clause-none
returns-in-None-clause-none c = λ none.
    let v : ForwardingLists = the_view c.self.inside in
    let was : WasRead v c.args.service c.index.result.now =
    record { is = c.self.invariant; within = subst (λ (n : ForwardingLists). c.args.service.0 < length n.plan.services) (sym c.self.view_is) c.requires; read = c.index.ensures } in
    subst (λ (n : ForwardingLists). ports_of n.plan c.args.service n.me ≡ []) c.self.view_is
    (no_ports v c.args.service c.index.result.now was c.in-None.is)
