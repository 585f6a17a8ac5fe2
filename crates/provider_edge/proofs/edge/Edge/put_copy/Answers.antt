-- By a mesh or a spoke port the copy is sent on the wire; by a circuit's port the frame leaves with the circuit's tag.
use Rattle.std.proofs.Common.{◌≡◌, ◌∙◌, ◌++◌, ◌∷◌, [], ℕ, List, ap, rules, sym, slice_get}
use Rattle.net_base.specs.trace.Frame.{dress}
use Rattle.hvpls_spokes.specs.PortSet.{holds_port}
use Rattle.edge_model.specs.declared.effect.Effect.TheVariants.{Left}
use Rattle.edge_model.specs.Frame.{copy_by, tag_of}
use Rattle.peer_dialogue.proofs.SettleLemmas.{map_on}
use Rattle.provider_edge.proofs.BridgeLemmas.{copied_circuit, copied_if, copied_mesh, copied_spoke}
use Rattle.provider_edge.proofs.ClearLemmas.{told_by_some}
use Rattle.provider_edge.specs.AtWork.{at_work}
use Rattle.provider_edge.specs.Lists.{seen}
use Rattle.provider_edge.proofs.edge.Edge.put_copy.Goals as goal

pub returns-in-Mesh-clause-step : goal.returns-in-Mesh-clause-step
returns-in-Mesh-clause-step g c = map_on _ _ c.send_copy.result
    (λ step. λ told agrees.
    copied_if (holds_port c.args.egress.now.targets.now c.args.port) (at_work g.L.Link.calls c.args.self.now c.args.work.now) _ _ (sym c.contains.ensures ∙ c.if-not-contains.false)
    (told_by_some (copy_by c.args.self.now.plan told c.args.egress.now.came c.args.egress.now.frame.now) c.get.result (slice_get c.args.ports.now c.args.port) c.in-Some.port
    (at_work g.L.Link.calls c.args.self.now c.args.work.now) _ c.get.ensures c.in-Some.is
    (copied_mesh c.args.self.now told c.args.egress.now.came c.args.egress.now.frame.now c.in-Some.port c.in-Mesh.wire
    (g.L.Link.calls c.args.work.now.link.now) c.args.work.now.effects.now.list _ c.in-Mesh.is (step told agrees))))
    c.send_copy.ensures.step

pub returns-in-Spoke-clause-step : goal.returns-in-Spoke-clause-step
returns-in-Spoke-clause-step g c = map_on _ _ c.send_copy-in-Spoke.result
    (λ step. λ told agrees.
    copied_if (holds_port c.args.egress.now.targets.now c.args.port) (at_work g.L.Link.calls c.args.self.now c.args.work.now) _ _ (sym c.contains.ensures ∙ c.if-not-contains.false)
    (told_by_some (copy_by c.args.self.now.plan told c.args.egress.now.came c.args.egress.now.frame.now) c.get.result (slice_get c.args.ports.now c.args.port) c.in-Some.port
    (at_work g.L.Link.calls c.args.self.now c.args.work.now) _ c.get.ensures c.in-Some.is
    (copied_spoke c.args.self.now told c.args.egress.now.came c.args.egress.now.frame.now c.in-Some.port c.in-Spoke.wire
    (g.L.Link.calls c.args.work.now.link.now) c.args.work.now.effects.now.list _ c.in-Spoke.is (step told agrees))))
    c.send_copy-in-Spoke.ensures.step

pub returns-clause-step : goal.returns-clause-step
returns-clause-step g c =
    let bytes : c.in_ok-bytes.bytes ≡ dress (tag_of c.args.self.now.plan c.in-Circuit.circuit) c.args.egress.now.frame.now = search rules in
    map_on _ _ c.push.result
    (λ gave. λ told agrees.
    copied_if (holds_port c.args.egress.now.targets.now c.args.port) (at_work g.L.Link.calls c.args.self.now c.args.work.now) _ _ (sym c.contains.ensures ∙ c.if-not-contains.false)
    (told_by_some (copy_by c.args.self.now.plan told c.args.egress.now.came c.args.egress.now.frame.now) c.get.result (slice_get c.args.ports.now c.args.port) c.in-Some.port
    (at_work g.L.Link.calls c.args.self.now c.args.work.now) _ c.get.ensures c.in-Some.is
    (copied_circuit c.args.self.now.plan told c.args.egress.now.came c.args.egress.now.frame.now c.in-Some.port c.in-Circuit.circuit (seen c.args.self.now)
    (g.L.Link.calls c.args.work.now.link.now) c.args.work.now.effects.now.list _ c.in-Circuit.is
    (gave ∙ ap (λ (l : List ℕ). c.args.work.now.effects.now.list ++ Left c.in-Circuit.circuit l ∷ []) bytes))))
    c.push.ensures.ok
