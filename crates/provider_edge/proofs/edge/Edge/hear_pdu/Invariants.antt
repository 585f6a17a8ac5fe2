use Rattle.std.proofs.Common.{◌≡◌, drop}
use Rattle.pw_messages.specs.LinkAnswers.{Agrees, Answers}
use Rattle.edge_model.specs.Hear.{hears_messages, hears_pdu}
use Rattle.provider_edge.specs.AtWork.{Works, at_work}
use Rattle.provider_edge.proofs.edge.Edge.hear_pdu.Given as goal

abbrev pub invariant-loop-place : goal.invariant-loop-place
invariant-loop-place g l = record {
  goes : Works g.L.Link.calls l.fn.self l.fn.work l.self l.work;
  step : (told : Answers) → Agrees told (g.L.Link.calls l.work.link.now)
      → hears_pdu l.fn.self.plan told l.peer l.pdu (at_work g.L.Link.calls l.fn.self l.fn.work)
      ≡ hears_messages l.fn.self.plan told l.peer (drop l.place l.messages) (at_work g.L.Link.calls l.self l.work);
}
