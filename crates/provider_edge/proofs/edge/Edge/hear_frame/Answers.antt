-- The frame is heard and its targets are chosen by the definition. By an open port, in an edge in sync, that unsettles no end.
use Rattle.std.proofs.Common.{◌≡◌, ◌<◌, true, length, sym, subst, ◌∙◌, ap}
use Rattle.net_base.specs.declared.plan.Plan.{Plan}
use Rattle.hvpls_spokes.specs.Port.{ports_of}
use Rattle.hvpls_spokes.specs.PortSet.{holds_port}
use Rattle.edge_model.specs.Frame.{hearing, targets_of}
use Rattle.edge_model.specs.Synced.{InSync}
use Rattle.edge_forwarding.specs.Forwarding.{open_ports}
use Rattle.edge_model.specs.State.{EdgeState}
use Rattle.provider_edge.specs.contracts.edge.Edge.{the_view}
use Rattle.std.specs.Prelude.{IfSome}
use Rattle.provider_edge.proofs.BridgeLemmas.{heard_edge, heard_targets}
use Rattle.provider_edge.proofs.ForwardLemmas.{holds_kept}
use Rattle.provider_edge.proofs.HeardLemmas.{tidy_heard}
use Rattle.provider_edge.specs.Lists.{EdgeLists, seen}
use Rattle.provider_edge.specs.Tidy.{IsTidy}
use Rattle.provider_edge.proofs.edge.Edge.hear_frame.Goals as goal

pub hear-requires-clause-service : goal.hear-requires-clause-service
hear-requires-clause-service c = subst (λ (p : Plan). c.args.service.0 < length p.services) (sym c.self.invariant.plan)
    (subst (λ (n : EdgeLists). c.args.service.0 < length n.plan.services) (sym c.self.view_is) c.requires.service)

pub hear-requires-clause-on : goal.hear-requires-clause-on
hear-requires-clause-on c = subst (λ (n : EdgeLists). open_ports n.forwarding c.args.service c.args.arrival ≡ true) (sym c.self.view_is) c.requires.on

pub invariant_of-self : goal.invariant_of-self
invariant_of-self c =
    let v : EdgeLists = the_view c.self.inside in
    let synced : InSync v.plan (seen v) = subst (λ (n : EdgeLists). InSync n.plan (seen n)) (sym c.self.view_is) c.requires.synced in
    let on : open_ports v.forwarding c.args.service c.args.arrival ≡ true =
    subst (λ (n : EdgeLists). open_ports n.forwarding c.args.service c.args.arrival ≡ true) (sym c.self.view_is) c.requires.on in
    holds_kept v c.hear.new.self c.hear.ensures.keeps (ap (λ (e : EdgeLists). e.stopped) c.self.view_is ∙ c.requires.working)
    (subst (λ (e : EdgeState). IfSome v.marks (IsTidy v.plan e))
    (sym (heard_edge v c.hear.new.self c.args.service c.args.frame.now c.args.arrival c.self.invariant c.hear.ensures.keeps c.hear.ensures.step))
    (tidy_heard v c.args.service c.args.frame.now c.args.arrival v.marks c.self.invariant synced on c.self.invariant.tidy)) c.self.invariant

pub returns-clause-step : goal.returns-clause-step
returns-clause-step c =
    subst (λ (n : EdgeLists). seen (record (the_view c.self.inside) { forwarding = c.hear.new.self }) ≡ hearing c.args.service c.args.frame.now c.args.arrival (seen n)) c.self.view_is
    (heard_edge (the_view c.self.inside) c.hear.new.self c.args.service c.args.frame.now c.args.arrival c.self.invariant c.hear.ensures.keeps c.hear.ensures.step)

pub returns-clause-targets : goal.returns-clause-targets
returns-clause-targets c =
    let v : EdgeLists = the_view c.self.inside in
    let synced : InSync v.plan (seen v) = subst (λ (n : EdgeLists). InSync n.plan (seen n)) (sym c.self.view_is) (c.requires.synced) in
    subst (λ (n : EdgeLists). holds_port c.hear.result ≡ targets_of n.plan (seen (record v { forwarding = c.hear.new.self })) c.args.service
    (ports_of n.plan c.args.service n.me) c.args.frame.now c.args.arrival) c.self.view_is
    (heard_targets v c.hear.new.self c.args.service c.args.frame.now c.args.arrival c.hear.result c.self.invariant synced c.hear.ensures.keeps c.hear.ensures.step c.hear.ensures.targets)
