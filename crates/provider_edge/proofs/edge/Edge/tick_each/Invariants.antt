use Rattle.std.proofs.Common.{◌≡◌, ◌-◌, length}
use Rattle.pw_messages.specs.LinkAnswers.{Agrees, Answers}
use Rattle.edge_model.specs.Tick.{ticks_sessions}
use Rattle.provider_edge.specs.AtWork.{Works, at_work}
use Rattle.provider_edge.proofs.edge.Edge.tick_each.Given as goal

abbrev pub invariant-loop-place : goal.invariant-loop-place
invariant-loop-place g l = record {
  goes : Works g.L.Link.calls l.fn.self l.fn.work l.self l.work;
  step : (told : Answers) → Agrees told (g.L.Link.calls l.work.link.now)
      → ticks_sessions told 0 (length l.fn.self.plan.edges) (at_work g.L.Link.calls l.fn.self l.fn.work)
      ≡ ticks_sessions told l.place (length l.fn.self.plan.edges - l.place) (at_work g.L.Link.calls l.self l.work);
}
