use Rattle.std.proofs.Common.{◌≡◌, drop}
use Rattle.pw_messages.specs.LinkAnswers.{Agrees, Answers}
use Rattle.hvpls_spokes.specs.PortSet.{holds_port}
use Rattle.edge_model.specs.Frame.{copies, copy_by}
use Rattle.peer_dialogue.specs.AtWork.{WorkGoes}
use Rattle.provider_edge.specs.AtWork.{at_work}
use Rattle.provider_edge.proofs.edge.Edge.bridge_octets.Given as goal

abbrev pub invariant-loop-port : goal.invariant-loop-port
invariant-loop-port g l = record {
  goes : WorkGoes g.L.Link.calls l.fn.work l.work;
  step : (told : Answers) → Agrees told (g.L.Link.calls l.work.link.now)
      → copies (holds_port l.egress.targets.now) (copy_by l.edge.plan told l.egress.came l.egress.frame.now) l.port (drop l.port l.ports) (at_work g.L.Link.calls l.edge l.work)
      ≡ copies (holds_port l.egress.targets.now) (copy_by l.edge.plan told l.egress.came l.egress.frame.now) 0 l.ports (at_work g.L.Link.calls l.edge l.fn.work);
}
