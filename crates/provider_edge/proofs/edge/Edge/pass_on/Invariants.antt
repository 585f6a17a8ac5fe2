use Rattle.std.proofs.Common.{◌≡◌, drop}
use Rattle.pw_messages.specs.LinkAnswers.{Agrees, Answers}
use Rattle.hvpls_spokes.specs.Port.{ports_of}
use Rattle.hvpls_spokes.specs.PortSet.{holds_port}
use Rattle.edge_model.specs.Clear.{tells_at}
use Rattle.edge_model.specs.Frame.{copies}
use Rattle.provider_edge.specs.AtWork.{Works, at_work}
use Rattle.provider_edge.proofs.edge.Edge.pass_on.Given as goal

abbrev pub invariant-loop-port : goal.invariant-loop-port
invariant-loop-port g l = record {
  goes : Works g.L.Link.calls l.fn.self l.fn.work l.self l.work;
  step : (told : Answers) → Agrees told (g.L.Link.calls l.work.link.now)
      → copies (holds_port l.passed) (tells_at l.fn.self.plan told l.addresses) l.port (drop l.port (ports_of l.fn.self.plan l.service l.fn.self.me)) (at_work g.L.Link.calls l.self l.work)
      ≡ copies (holds_port l.passed) (tells_at l.fn.self.plan told l.addresses) 0 (ports_of l.fn.self.plan l.service l.fn.self.me) (at_work g.L.Link.calls l.fn.self l.fn.work);
}
