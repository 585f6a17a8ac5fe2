-- Once the frame is heard, one more port is passed, with a copy where it is a target; at the end all are, and a service without ports has
-- no copies.
use Rattle.std.proofs.Common.{◌<◌, ◌≤◌, ◌∙◌, List, ap, length, sym, arith}
use Rattle.hvpls_spokes.specs.declared.port.Port.{Port}
use Rattle.hvpls_spokes.specs.PortSet.{holds_port}
use Rattle.edge_model.specs.Frame.{copies, copy_by}
use Rattle.peer_dialogue.proofs.SpeakerLemmas.{agrees_before}
use Rattle.peer_dialogue.proofs.AtWorkLemmas.{work_both}
use Rattle.provider_edge.proofs.BridgeLemmas.{forwarded_some}
use Rattle.provider_edge.proofs.CopyLemmas.{copied_next, copies_end}
use Rattle.provider_edge.specs.AtWork.{at_work}
use Rattle.provider_edge.proofs.edge.Edge.bridge_octets.Goals as goal

pub returns-in_default-ports-clause-step : goal.returns-in_default-ports-clause-step
returns-in_default-ports-clause-step g c = λ told agrees.
    forwarded_some c.args.self.now c.hear_frame-targets.new.self told c.args.ingress.came c.args.ingress.service c.args.frame.now c.args.ingress.port c.in-Some.arrival
    (holds_port c.hear_frame-targets.result) (g.L.Link.calls c.args.work.now.link.now) c.args.work.now.effects.now.list _
    c.in-Some.is c.hear_frame-targets.ensures.keeps c.hear_frame-targets.ensures.step c.hear_frame-targets.ensures.targets
    (sym (ap (λ (ports : List Port). copies (holds_port c.hear_frame-targets.result) (copy_by c.hear_frame-targets.new.self.plan told c.args.ingress.came c.args.frame.now) 0 ports
    (at_work g.L.Link.calls c.hear_frame-targets.new.self c.args.work.now))
    (c.ports.ensures.none c.in_default-ports.is)))

pub loop-port-preserved : goal.loop-port-preserved
loop-port-preserved g c = record {
  goes = work_both g.L.Link.calls _ _ _ c.loop-port.invariant.goes c.in_ok-put_copy.ensures.goes;
  step = λ told agrees.
      let within : c.loop-port.port < length c.in-Some-ports.ports.now = omega (arith, c.len-port-end.ensures.len, c.loop-port-test.true) in
      copied_next (holds_port c.hear_frame-targets.result)
      (copy_by c.hear_frame-targets.new.self.plan told c.args.ingress.came c.args.frame.now) c.loop-port.port c.in-Some-ports.ports.now _ _ _ within (c.in_ok-put_copy.ensures.step told agrees)
      (c.loop-port.invariant.step told (agrees_before told _ _ c.in_ok-put_copy.ensures.goes.calls agrees));
}

pub returns-clause-step : goal.returns-clause-step
returns-clause-step g c = λ told agrees.
    let past : length c.in-Some-ports.ports.now ≤ c.loop-port.port = omega (arith, c.len-port-end.ensures.len, c.loop-port-test.false) in
    forwarded_some c.args.self.now c.hear_frame-targets.new.self told c.args.ingress.came c.args.ingress.service c.args.frame.now c.args.ingress.port c.in-Some.arrival
    (holds_port c.hear_frame-targets.result) (g.L.Link.calls c.args.work.now.link.now) c.args.work.now.effects.now.list _
    c.in-Some.is c.hear_frame-targets.ensures.keeps c.hear_frame-targets.ensures.step c.hear_frame-targets.ensures.targets
    (sym (copies_end (holds_port c.hear_frame-targets.result)
    (copy_by c.hear_frame-targets.new.self.plan told c.args.ingress.came c.args.frame.now) c.loop-port.port c.loop-port.port c.in-Some-ports.ports.now
    (at_work g.L.Link.calls c.hear_frame-targets.new.self c.loop-port.work) past)
    ∙ (c.loop-port.invariant.step told agrees
    ∙ ap (λ (ports : List Port). copies (holds_port c.hear_frame-targets.result) (copy_by c.hear_frame-targets.new.self.plan told c.args.ingress.came c.args.frame.now) 0 ports
    (at_work g.L.Link.calls c.hear_frame-targets.new.self c.args.work.now)) c.in-Some-ports.ensures.some))
