-- A service with an open port has a domain. Its bridge hears the frame and chooses the targets as the definition does; its addresses stay
-- few, and none is later than the edge's ticks.
use Rattle.std.proofs.Common.{◌≡◌, ◌<◌, Some, true, length, sym, subst}
use Rattle.hvpls_spokes.specs.Port.{ports_of}
use Rattle.hvpls_spokes.specs.PortSet.{holds_port}
use Rattle.vsi_bridge.specs.Targets.{heard, is_target, known_port}
use Rattle.edge_model.specs.Frame.{destination, hearing, source}
use Rattle.edge_forwarding.specs.Forwarding.{ForwardingLists, domain_of, entries_of, open_ports, with_forwarding}
use Rattle.edge_forwarding.specs.contracts.forwarding.Forwarding.{the_view}
use Rattle.edge_forwarding.proofs.FewLemmas.{few_heard}
use Rattle.edge_forwarding.proofs.ForwardingLemmas.{WasRead, few_at, heard_kept, heard_seen, heard_targets, on_at, on_nowhere, put_kept, ticks_at, within_at}
use Rattle.edge_forwarding.proofs.forwarding.Forwarding.hear.Goals as goal

pub returns-in_default-clause-step : goal.returns-in_default-clause-step
returns-in_default-clause-step c = λ edge.
    let v : ForwardingLists = the_view c.self.inside in
    let was : WasRead v c.args.service c.index_mut.result.now =
    record { is = c.self.invariant; within = subst (λ (n : ForwardingLists). c.args.service.0 < length n.plan.services) (sym c.self.view_is) c.requires.service; read = c.index_mut.ensures.value } in
    let on : open_ports v c.args.service c.args.arrival ≡ true = subst (λ (n : ForwardingLists). open_ports n c.args.service c.args.arrival ≡ true) (sym c.self.view_is) c.requires.on in
    absurd (on_nowhere v c.args.service c.index_mut.result.now c.args.arrival was c.in_default.is on)

pub returns-in_default-clause-targets : goal.returns-in_default-clause-targets
returns-in_default-clause-targets c =
    let v : ForwardingLists = the_view c.self.inside in
    let was : WasRead v c.args.service c.index_mut.result.now =
    record { is = c.self.invariant; within = subst (λ (n : ForwardingLists). c.args.service.0 < length n.plan.services) (sym c.self.view_is) c.requires.service; read = c.index_mut.ensures.value } in
    let on : open_ports v c.args.service c.args.arrival ≡ true = subst (λ (n : ForwardingLists). open_ports n c.args.service c.args.arrival ≡ true) (sym c.self.view_is) c.requires.on in
    absurd (on_nowhere v c.args.service c.index_mut.result.now c.args.arrival was c.in_default.is on)

pub hear-requires-clause-ports : goal.hear-requires-clause-ports
hear-requires-clause-ports c =
    let v : ForwardingLists = the_view c.self.inside in
    let was : WasRead v c.args.service c.index_mut.result.now =
    record { is = c.self.invariant; within = subst (λ (n : ForwardingLists). c.args.service.0 < length n.plan.services) (sym c.self.view_is) c.requires.service; read = c.index_mut.ensures.value } in
    within_at v c.args.service c.index_mut.result.now c.in-Some.domain was c.in-Some.is

pub hear-requires-clause-on : goal.hear-requires-clause-on
hear-requires-clause-on c =
    let v : ForwardingLists = the_view c.self.inside in
    let was : WasRead v c.args.service c.index_mut.result.now =
    record { is = c.self.invariant; within = subst (λ (n : ForwardingLists). c.args.service.0 < length n.plan.services) (sym c.self.view_is) c.requires.service; read = c.index_mut.ensures.value } in
    let on : open_ports v c.args.service c.args.arrival ≡ true = subst (λ (n : ForwardingLists). open_ports n c.args.service c.args.arrival ≡ true) (sym c.self.view_is) c.requires.on in
    on_at v c.args.service c.index_mut.result.now c.in-Some.domain c.args.arrival was c.in-Some.is on

pub hear-requires-clause-ticks : goal.hear-requires-clause-ticks
hear-requires-clause-ticks c =
    let v : ForwardingLists = the_view c.self.inside in
    let was : WasRead v c.args.service c.index_mut.result.now =
    record { is = c.self.invariant; within = subst (λ (n : ForwardingLists). c.args.service.0 < length n.plan.services) (sym c.self.view_is) c.requires.service; read = c.index_mut.ensures.value } in
    ticks_at v c.args.service c.index_mut.result.now c.in-Some.domain was c.in-Some.is

pub invariant_of-self-2 : goal.invariant_of-self-2
invariant_of-self-2 c =
    let v : ForwardingLists = the_view c.self.inside in
    let was : WasRead v c.args.service c.index_mut.result.now =
    record { is = c.self.invariant; within = subst (λ (n : ForwardingLists). c.args.service.0 < length n.plan.services) (sym c.self.view_is) c.requires.service; read = c.index_mut.ensures.value } in
    heard_kept v c.args.service c.index_mut.result.now c.in-Some.domain c.hear.new.self
    (heard c.in-Some.domain.bridge.entries (source c.args.frame.now) c.args.arrival v.ticks) was c.in-Some.is c.hear.ensures.learns c.hear.ensures.ticks
    (few_heard c.in-Some.domain.bridge.entries (source c.args.frame.now) c.args.arrival v.ticks (few_at v c.args.service c.index_mut.result.now c.in-Some.domain was c.in-Some.is))

pub returns-clause-step : goal.returns-clause-step
returns-clause-step c = λ edge.
    let v : ForwardingLists = the_view c.self.inside in
    let was : WasRead v c.args.service c.index_mut.result.now =
    record { is = c.self.invariant; within = subst (λ (n : ForwardingLists). c.args.service.0 < length n.plan.services) (sym c.self.view_is) c.requires.service; read = c.index_mut.ensures.value } in
    subst (λ (n : ForwardingLists). with_forwarding (put_kept v c.args.service (Some c.hear.new.self)) edge
    ≡ hearing c.args.service c.args.frame.now c.args.arrival (with_forwarding n edge)) c.self.view_is
    (heard_seen v c.args.service c.index_mut.result.now c.in-Some.domain c.hear.new.self c.args.frame.now c.args.arrival edge was c.in-Some.is c.hear.ensures.learns)

pub returns-clause-targets : goal.returns-clause-targets
returns-clause-targets c =
    let v : ForwardingLists = the_view c.self.inside in
    let was : WasRead v c.args.service c.index_mut.result.now =
    record { is = c.self.invariant; within = subst (λ (n : ForwardingLists). c.args.service.0 < length n.plan.services) (sym c.self.view_is) c.requires.service; read = c.index_mut.ensures.value } in
    subst (λ (n : ForwardingLists). holds_port c.hear.result
    ≡ is_target (ports_of n.plan c.args.service n.me) (open_ports n c.args.service) c.args.arrival
    (known_port (entries_of (domain_of (put_kept v c.args.service (Some c.hear.new.self)) c.args.service.0)) (destination c.args.frame.now))) c.self.view_is
    (heard_targets v c.args.service c.index_mut.result.now c.in-Some.domain c.hear.new.self c.args.frame.now c.args.arrival c.hear.result was c.in-Some.is c.hear.ensures.targets)
