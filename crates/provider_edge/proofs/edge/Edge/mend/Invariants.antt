use Rattle.std.proofs.Common.{◌≡◌, ◌-◌}
use Rattle.pw_messages.specs.LinkAnswers.{Agrees, Answers}
use Rattle.edge_model.specs.Mend.{mends_few}
use Rattle.provider_edge.specs.AtWork.{Works, at_work}
use Rattle.provider_edge.proofs.edge.Edge.mend.Given as goal

abbrev pub invariant-loop-round : goal.invariant-loop-round
invariant-loop-round g l = record {
  goes : Works g.L.Link.calls l.fn.self l.fn.work l.self l.work;
  step : (told : Answers) → Agrees told (g.L.Link.calls l.work.link.now)
      → mends_few l.fn.self.plan told l.rounds (at_work g.L.Link.calls l.fn.self l.fn.work)
      ≡ mends_few l.fn.self.plan told (l.rounds - l._round) (at_work g.L.Link.calls l.self l.work);
}
