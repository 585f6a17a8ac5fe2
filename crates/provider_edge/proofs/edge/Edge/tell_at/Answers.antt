-- By a mesh port, and by a spoke's, the addresses are told on the port's wire.
use Rattle.std.proofs.Common.{slice_get}
use Rattle.hvpls_spokes.specs.Port.{ports_of}
use Rattle.edge_model.specs.Clear.{tells_at}
use Rattle.peer_dialogue.proofs.SettleLemmas.{map_on}
use Rattle.provider_edge.proofs.ClearLemmas.{told_by_some, told_mesh, told_spoke}
use Rattle.provider_edge.specs.AtWork.{at_work}
use Rattle.provider_edge.proofs.edge.Edge.tell_at.Goals as goal

pub returns-in-Some-Mesh-clause-step : goal.returns-in-Some-Mesh-clause-step
returns-in-Some-Mesh-clause-step g c = map_on _ _ c.tell_wire.result
    (λ step. λ told agrees.
    told_by_some (tells_at c.args.self.now.plan told c.args.addresses.now) c.port.result
    (slice_get (ports_of c.args.self.now.plan c.args.service c.args.self.now.me) c.args.port) c.in-Some-Mesh.field-0 (at_work g.L.Link.calls c.args.self.now c.args.work.now) _
    c.port.ensures c.in-Some-Mesh.is
    (told_mesh c.args.self.now told c.args.addresses.now c.in-Some-Mesh.field-0 c.in-Some-Mesh.wire
    (g.L.Link.calls c.args.work.now.link.now) c.args.work.now.effects.now.list _ c.in-Some-Mesh.field-0-is (step told agrees)))
    c.tell_wire.ensures.step

pub returns-in-Some-Spoke-clause-step : goal.returns-in-Some-Spoke-clause-step
returns-in-Some-Spoke-clause-step g c = map_on _ _ c.tell_wire-in-Some-Spoke.result
    (λ step. λ told agrees.
    told_by_some (tells_at c.args.self.now.plan told c.args.addresses.now) c.port.result
    (slice_get (ports_of c.args.self.now.plan c.args.service c.args.self.now.me) c.args.port) c.in-Some-Spoke.field-0 (at_work g.L.Link.calls c.args.self.now c.args.work.now) _
    c.port.ensures c.in-Some-Spoke.is
    (told_spoke c.args.self.now told c.args.addresses.now c.in-Some-Spoke.field-0 c.in-Some-Spoke.wire
    (g.L.Link.calls c.args.work.now.link.now) c.args.work.now.effects.now.list _ c.in-Some-Spoke.field-0-is (step told agrees)))
    c.tell_wire-in-Some-Spoke.ensures.step
