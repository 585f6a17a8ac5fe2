use Rattle.std.proofs.Common.{◌++◌, ◌≤◌, ◌-◌, drop, length}
use Rattle.pw_messages.specs.LinkAnswers.{Agrees, Answers}
use Rattle.peer_dialogue.specs.Hearing.{HearsOn}
use Rattle.provider_edge.specs.AtWork.{Works, at_work}
use Rattle.provider_edge.proofs.edge.Edge.hear.Given as goal

abbrev pub invariant-hearing : goal.invariant-hearing
invariant-hearing g l = record {
  within : l.at ≤ length l.octets;
  goes : Works g.L.Link.calls l.fn.self l.fn.work l.self l.work;
  step : (told : Answers) → Agrees told (g.L.Link.calls l.work.link.now)
      → HearsOn l.fn.self.plan told l.peer (l.fn.held ++ l.octets) (l.held ++ drop l.at l.octets) (at_work g.L.Link.calls l.fn.self l.fn.work) (at_work g.L.Link.calls l.self l.work);
}

abbrev pub decreases-hearing : goal.decreases-hearing
decreases-hearing g l = length l.octets - l.at
